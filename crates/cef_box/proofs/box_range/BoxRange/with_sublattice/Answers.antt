use Rattle.std.proofs.Common.{◌≡◌, ◌+◌, ◌++◌, ◌∷◌, [], length, List, arith, ap, sym, ◌∙◌}
use Rattle.std.specs.Prelude.{replicate}
use Rattle.std.proofs.lemmas.List.{length-append, length-replicate}
use Rattle.cef_box.specs.declared.range.Range.{Range}
use Rattle.cef_core.specs.Shapes.{places}
use Rattle.cef_box.specs.Flat.{rows_of}
use Rattle.cef_box.proofs.Shapes.{places-rows_of}
use Rattle.cef_box.proofs.Grown.{ranges-replicate, flat-append, rows_of-append}
use Rattle.cef_box.proofs.box_range.BoxRange.with_sublattice.Goals as goal

pub overflow_cast-len : goal.overflow_cast-len
overflow_cast-len c =
    let s = c.self.inside in
    let whole = places-rows_of 0 s.ends.items s.low.items s.high.items c.self.invariant in
    omega (arith, c.requires, ap places c.self.view_is, whole, c.len.ensures.value, ap length c.in_ok-low.ensures, length-append s.low.items (replicate c.args.sites c.args.range.low), length-replicate c.args.sites c.args.range.low)

pub invariant_of-result : goal.invariant_of-result
invariant_of-result c =
    let s = c.self.inside in
    let more = length-replicate c.args.sites c.args.range.low in
    let same = more ∙ sym (length-replicate c.args.sites c.args.range.high) in
    let size : c.len.result ≡ 0 + length s.low.items + length (replicate c.args.sites c.args.range.low) = omega (arith, c.len.ensures.value, ap length c.in_ok-low.ensures, length-append s.low.items (replicate c.args.sites c.args.range.low)) in
    rw (c.in_ok-push.ensures.ok, c.in_ok-low.ensures, c.in_ok-high.ensures) (flat-append 0 s.ends.items s.low.items s.high.items _ _ c.len.result c.self.invariant same size)

pub returns : goal.returns
returns c =
    let s = c.self.inside in
    let more = length-replicate c.args.sites c.args.range.low in
    let same = more ∙ sym (length-replicate c.args.sites c.args.range.high) in
    let size : c.len.result ≡ 0 + length s.low.items + length (replicate c.args.sites c.args.range.low) = omega (arith, c.len.ensures.value, ap length c.in_ok-low.ensures, length-append s.low.items (replicate c.args.sites c.args.range.low)) in
    let rows = rows_of-append 0 s.ends.items s.low.items s.high.items (replicate c.args.sites c.args.range.low) (replicate c.args.sites c.args.range.high) c.len.result c.self.invariant same size in
    rw (c.in_ok-push.ensures.ok, c.in_ok-low.ensures, c.in_ok-high.ensures) (rows ∙ (ap (λ (row : List Range). rows_of 0 s.ends.items s.low.items s.high.items ++ row ∷ []) (ranges-replicate c.args.sites c.args.range) ∙ ap (λ (box : List (List Range)). box ++ replicate c.args.sites c.args.range ∷ []) c.self.view_is))
