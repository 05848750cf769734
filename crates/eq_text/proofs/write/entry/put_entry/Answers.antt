use Rattle.std.proofs.Common.{◌≡◌, ap, sym, ◌∙◌, slice_index_or, [], ◌++◌, List, ℕ, rules, SFits, refl}
use Rattle.std.proofs.lemmas.Option.{slice_get_read, get_or_from_slice_get}
use Rattle.std.specs.Int.{w128}
use Rattle.std.proofs.lemmas.Int.{to_z-of_z}
use Rattle.std.specs.Fmt.{signed_decimal}
use Rattle.eq_text.specs.Spacing.{spaced}
use Rattle.eq_text.proofs.Spaced.{entry_written}
use Rattle.eq_text.proofs.write.entry.put_entry.Goals as goal

pub returns : goal.returns
returns c =
    let e = c.args.entry.now in
    let fits_amount : SFits w128 e.amount = search rules in
    let amount = simp to_z-of_z at c.in_ok-put_number.ensures in
    let phase : c.bytes.result.now ≡ slice_index_or c.args.phases.now e.phase [] = c.bytes.ensures ∙ sym (get_or_from_slice_get c.args.phases.now e.phase c.index-phases-entry.result [] (slice_get_read _ _ _ _ refl c.requires c.index-phases-entry.is)) in
    entry_written (slice_index_or c.args.phases.now e.phase []) (signed_decimal e.amount) e.site c.args.out.now.items c.extend_from_slice.new.self.items c.put_word.new.out.items c.put_number.new.out.items c.put_site.new.out.items c.push.new.self.items
    c.in_ok-extend_from_slice.ensures.items
    (c.in_ok-put_word.ensures ∙ ap (λ (w : List ℕ). c.extend_from_slice.new.self.items ++ spaced w) phase)
    amount
    c.in_ok-put_site.ensures
    c.in_ok-push.ensures.items
