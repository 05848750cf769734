-- The two parts of a box that is cut at a place.
use Rattle.std.proofs.Common.{◌≡◌, ℕ, ◌-◌, ◌≤◌, ◌<◌, List, [], ◌∷◌, length, refl, arith, sym, subst, inl, inr, Some, slice_get, ltb, cond, Bool, true, false}
use Rattle.std.specs.Prelude.{◌⊎◌}
use Rattle.cef_box.specs.declared.range.Range.{Range}
use Rattle.cef_box.specs.Boxes.{IsMember}
use Rattle.cef_box.specs.Tight.{HasList, HasSite, IsTightBox, tightened_box}
use Rattle.cef_box.specs.Cuts.{range_at, placed_in, placed, left_range, right_range, IsCut, ArePartsOf}
use Rattle.cef_box.proofs.Rows.{cut_covers, cut_left, cut_right, cut_apart, cut_left_has, cut_right_has}
use Rattle.cef_box.proofs.Tightened.{tightened_box_keeps, tightened_box_drops, tightened_box_tight, tightened_box_has}

-- ---- a cut, before its parts are tightened

parts_here : (n place cut : ℕ) (row : List Range) (box : List (List Range)) (r : Range) → slice_get row place ≡ Some r → r.low ≤ cut → cut < r.high → HasSite n (row ∷ box) → IsTightBox n (row ∷ box) →
    (left right : List (List Range)) → placed place (left_range cut r) row ∷ box ≡ left → placed place (right_range cut r) row ∷ box ≡ right → ArePartsOf n (row ∷ box) left right
parts_here n place cut row box r e low high has tight left right is_left is_right =
    subst (λ (v : List (List Range)). ArePartsOf n (row ∷ box) v right) is_left (subst (λ (v : List (List Range)). ArePartsOf n (row ∷ box) (placed place (left_range cut r) row ∷ box) v) is_right (record {
      covers = covers;
      in_left = in_left;
      in_right = in_right;
      apart = apart;
      left_has = (cut_left_has n place cut row r e tight.0 low (omega arith), has.1);
      right_has = (cut_right_has n place cut row r e tight.0 low high, has.1);
    }))
  where
    covers : (site : List (List ℕ)) → IsMember n (row ∷ box) site → IsMember n (placed place (left_range cut r) row ∷ box) site ⊎ IsMember n (placed place (right_range cut r) row ∷ box) site
    covers [] h = absurd h
    covers (counts ∷ site) h =
        elim (cut_covers n place cut row r counts e h.0) [
          | inl a ↦ inl (a, h.1)
          | inr b ↦ inr (b, h.1)
        ]

    in_left : (site : List (List ℕ)) → IsMember n (placed place (left_range cut r) row ∷ box) site → IsMember n (row ∷ box) site
    in_left [] h = absurd h
    in_left (counts ∷ site) h = (cut_left n place cut row r counts e (omega arith) h.0, h.1)

    in_right : (site : List (List ℕ)) → IsMember n (placed place (right_range cut r) row ∷ box) site → IsMember n (row ∷ box) site
    in_right [] h = absurd h
    in_right (counts ∷ site) h = (cut_right n place cut row r counts e low h.0, h.1)

    apart : (site : List (List ℕ)) → IsMember n (placed place (left_range cut r) row ∷ box) site → IsMember n (placed place (right_range cut r) row ∷ box) site → ⊥
    apart [] h k = absurd h
    apart (counts ∷ site) h k = cut_apart n place cut row r counts e h.0 k.0

parts_after : (n : ℕ) (row : List Range) (box left right : List (List Range)) → HasList n row → ArePartsOf n box left right → ArePartsOf n (row ∷ box) (row ∷ left) (row ∷ right)
parts_after n row box left right has p = record {
  covers = covers;
  in_left = in_left;
  in_right = in_right;
  apart = apart;
  left_has = (has, p.left_has);
  right_has = (has, p.right_has);
}
  where
    covers : (site : List (List ℕ)) → IsMember n (row ∷ box) site → IsMember n (row ∷ left) site ⊎ IsMember n (row ∷ right) site
    covers [] h = absurd h
    covers (counts ∷ site) h =
        elim (p.covers site h.1) [
          | inl a ↦ inl (h.0, a)
          | inr b ↦ inr (h.0, b)
        ]

    in_left : (site : List (List ℕ)) → IsMember n (row ∷ left) site → IsMember n (row ∷ box) site
    in_left [] h = absurd h
    in_left (counts ∷ site) h = (h.0, p.in_left site h.1)

    in_right : (site : List (List ℕ)) → IsMember n (row ∷ right) site → IsMember n (row ∷ box) site
    in_right [] h = absurd h
    in_right (counts ∷ site) h = (h.0, p.in_right site h.1)

    apart : (site : List (List ℕ)) → IsMember n (row ∷ left) site → IsMember n (row ∷ right) site → ⊥
    apart [] h k = absurd h
    apart (counts ∷ site) h k = p.apart site h.1 k.1

parts_choice : (n place cut : ℕ) (row : List Range) (box : List (List Range)) (r : Range) (b : Bool) → cond b (slice_get row place) (range_at box (place - length row)) ≡ Some r → r.low ≤ cut → cut < r.high → HasSite n (row ∷ box) → IsTightBox n (row ∷ box) →
    (range_at box (place - length row) ≡ Some r → ArePartsOf n box (placed_in (place - length row) (left_range cut r) box) (placed_in (place - length row) (right_range cut r) box)) →
    ArePartsOf n (row ∷ box) (cond b (placed place (left_range cut r) row ∷ box) (row ∷ placed_in (place - length row) (left_range cut r) box)) (cond b (placed place (right_range cut r) row ∷ box) (row ∷ placed_in (place - length row) (right_range cut r) box))
parts_choice n place cut row box r true e low high has tight rest = parts_here n place cut row box r e low high has tight _ _ refl refl
parts_choice n place cut row box r false e low high has tight rest = parts_after n row box _ _ has.0 (rest e)

pub parts_from : (n place cut : ℕ) (box : List (List Range)) (r : Range) → range_at box place ≡ Some r → r.low ≤ cut → cut < r.high → HasSite n box → IsTightBox n box →
    ArePartsOf n box (placed_in place (left_range cut r) box) (placed_in place (right_range cut r) box)
parts_from n place cut [] r e low high has tight = absurd cc
parts_from n place cut (row ∷ box) r e low high has tight =
    parts_choice n place cut row box r (ltb place (length row)) e low high has tight (λ e. parts_from n (place - length row) cut box r e low high has.1 tight.1)

-- ---- the tightened parts

pub cut_parts : (n : ℕ) (box : List (List Range)) (place cut : ℕ) (left right : List (List Range)) → HasSite n box → IsTightBox n box → IsCut n box place cut left right → ArePartsOf n box left right × IsTightBox n left × IsTightBox n right
cut_parts n box place cut left right has tight c =
    let p = parts_from n place cut box c.range c.range_is c.low c.high has tight in
    subst (λ (v : List (List Range)). ArePartsOf n box v right × IsTightBox n v × IsTightBox n right) (sym c.left_is)
    (subst (λ (v : List (List Range)). ArePartsOf n box (tightened_box n (placed_in place (left_range cut c.range) box)) v × IsTightBox n (tightened_box n (placed_in place (left_range cut c.range) box)) × IsTightBox n v) (sym c.right_is)
    (tightened_parts n box _ _ p, tightened_box_tight n _ p.left_has, tightened_box_tight n _ p.right_has))
  where
    tightened_parts : (n : ℕ) (box left right : List (List Range)) → ArePartsOf n box left right → ArePartsOf n box (tightened_box n left) (tightened_box n right)
    tightened_parts n box left right p = record {
      covers = λ site h. elim (p.covers site h) [
        | inl a ↦ inl (tightened_box_keeps n left site a)
        | inr b ↦ inr (tightened_box_keeps n right site b)
      ];
      in_left = λ site h. p.in_left site (tightened_box_drops n left site h);
      in_right = λ site h. p.in_right site (tightened_box_drops n right site h);
      apart = λ site h k. p.apart site (tightened_box_drops n left site h) (tightened_box_drops n right site k);
      left_has = tightened_box_has n left p.left_has;
      right_has = tightened_box_has n right p.right_has;
    }
