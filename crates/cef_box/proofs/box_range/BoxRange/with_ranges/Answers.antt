use Rattle.std.proofs.Common.{◌≡◌, ◌+◌, ◌++◌, ◌∷◌, [], length, List, arith, ap, ◌∙◌}
use Rattle.std.proofs.lemmas.List.{length-append}
use Rattle.cef_core.specs.Shapes.{places}
use Rattle.cef_box.specs.declared.range.Range.{Range}
use Rattle.cef_box.specs.Flat.{ranges}
use Rattle.cef_box.proofs.Shapes.{places-rows_of}
use Rattle.cef_box.proofs.Grown.{flat-append, rows_of-append}
use Rattle.cef_box.proofs.box_range.BoxRange.with_ranges.Goals as goal

pub overflow_cast-len : goal.overflow_cast-len
overflow_cast-len c =
    let s = c.self.inside in
    let whole = places-rows_of 0 s.ends.items s.low.items s.high.items c.self.invariant in
    omega (arith, c.requires.few, ap places c.self.view_is, whole, c.len.ensures.value, ap length c.in_ok-extend_from_slice.ensures.ok, length-append s.low.items c.args.lows.now)

pub invariant_of-result : goal.invariant_of-result
invariant_of-result c =
    let s = c.self.inside in
    let size : c.len.result ≡ 0 + length s.low.items + length c.args.lows.now = omega (arith, c.len.ensures.value, ap length c.in_ok-extend_from_slice.ensures.ok, length-append s.low.items c.args.lows.now) in
    rw (c.in_ok-push.ensures.ok, c.in_ok-extend_from_slice.ensures.ok, c.in_ok-extend_from_slice-2.ensures.ok) (flat-append 0 s.ends.items s.low.items s.high.items c.args.lows.now c.args.highs.now c.len.result c.self.invariant c.requires.each size)

pub returns : goal.returns
returns c =
    let s = c.self.inside in
    let size : c.len.result ≡ 0 + length s.low.items + length c.args.lows.now = omega (arith, c.len.ensures.value, ap length c.in_ok-extend_from_slice.ensures.ok, length-append s.low.items c.args.lows.now) in
    let rows = rows_of-append 0 s.ends.items s.low.items s.high.items c.args.lows.now c.args.highs.now c.len.result c.self.invariant c.requires.each size in
    rw (c.in_ok-push.ensures.ok, c.in_ok-extend_from_slice.ensures.ok, c.in_ok-extend_from_slice-2.ensures.ok) (rows ∙ ap (λ (box : List (List Range)). box ++ ranges c.args.lows.now c.args.highs.now ∷ []) c.self.view_is)
