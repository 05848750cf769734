-- What a box that can be cut says of its parts.
use Rattle.std.proofs.Common.{◌≡◌, ℕ, ◌≤◌, ◌<◌, List, sym, subst, ◌∙◌, Some}
use Rattle.cef_core.specs.Shapes.{places}
use Rattle.cef_box.specs.declared.range.Range.{Range}
use Rattle.cef_box.specs.Cuts.{IsCuttable, ArePartsOf, range_at, placed_in, left_range, right_range}
use Rattle.cef_box.specs.Tight.{HasSite, IsTightBox}
use Rattle.cef_box.proofs.Cutting.{parts_from}
use Rattle.cef_box.proofs.Places.{range_at-within}

pub parts_uncut : (n place cut : ℕ) (box : List (List Range)) (r : Range) → range_at box place ≡ Some r → IsCuttable box place cut → HasSite n box → IsTightBox n box →
    (r.low ≤ cut) × (cut < r.high) × ArePartsOf n box (placed_in place (left_range cut r) box) (placed_in place (right_range cut r) box)
parts_uncut n place cut box r e c has tight =
    let same : c.range ≡ r = one_range c.range r (sym c.range_is ∙ e) in
    let low : r.low ≤ cut = subst (λ (s : Range). s.low ≤ cut) same c.low in
    let high : cut < r.high = subst (λ (s : Range). cut < s.high) same c.high in
    (low, high, parts_from n place cut box r e low high has tight)
  where
    one_range : (r s : Range) → Some r ≡ Some s → r ≡ s
    one_range r s e = cc

pub cuttable_within : (box : List (List Range)) (place cut : ℕ) → IsCuttable box place cut → place < places box
cuttable_within box place cut c = range_at-within box place c.range c.range_is

pub ruleset parts = (parts_uncut, cuttable_within)
