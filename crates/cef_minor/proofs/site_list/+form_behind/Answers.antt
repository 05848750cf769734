use Rattle.std.proofs.Common.{rules, arith, ◌≡◌, ◌≤◌, ◌+◌, ◌∷◌, length, map, sym, ap, ◌∙◌}
use Rattle.cef_term.proofs.Lists.{place_room}
use Rattle.cef_minor.specs.Kept.{found_form}
use Rattle.cef_minor.proofs.Lists.{found_step}
use Rattle.cef_minor.proofs.site_list.+form_behind.Goals as goal

pub with_list-requires : goal.with_list-requires
with_list-requires t c =
    record {
      room = rw c.as_slice.ensures (place_room c.args.from c.args.sites.now c.in-Some.rows.now c.args.array.now c.in-Some-split_first.lists.now c.in-Some.row.now c.in-Some-split_first.list.now c.in-Some.ensures.cases.0 c.in-Some-split_first.ensures.cases.0 c.requires.sites c.requires.array);
    }

pub returns-else-len-lt2 : goal.returns-else-len-lt2
returns-else-len-lt2 t c =
    found_step c.args.order c.args.weighted c.args.from _ c.args.sites.now c.in-Some.rows.now c.args.array.now c.in-Some-split_first.lists.now c.in-Some.row.now c.in-Some-split_first.list.now c.form_behind-later.result c.with_list.result c.in-Some.ensures.cases.0 c.in-Some-split_first.ensures.cases.0 (omega (arith, c.len.ensures)) (omega (arith, c.if-len-lt2.false, c.len-in-Some-split_first.ensures)) c.form_behind-later.ensures
    (λ others h. c.with_list.ensures others h ∙ ap (λ l. found_form c.args.order c.args.weighted (map (λ p. c.args.from + p) l ∷ others)) c.as_slice.ensures)
