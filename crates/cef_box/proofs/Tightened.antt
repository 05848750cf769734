-- A box and its tightened box have the same members; a box has a member exactly where each of its rows has a list.
use Rattle.std.proofs.Common.{◌≡◌, ℕ, List, [], ◌∷◌, refl}
use Rattle.cef_box.specs.declared.range.Range.{Range}
use Rattle.cef_box.specs.Boxes.{IsMember}
use Rattle.cef_box.specs.Tight.{HasSite, IsTightBox, IsTightened, tightened, tightened_box}
use Rattle.cef_box.specs.Corners.{corner_site}
use Rattle.cef_box.proofs.Rows.{HasList-from_list, corner_in, tightened_keeps, tightened_drops, tightened_tight, tight_stays}

pub HasSite-from_member : (n : ℕ) (box : List (List Range)) (site : List (List ℕ)) → IsMember n box site → HasSite n box
HasSite-from_member n [] [] h = tt
HasSite-from_member n (row ∷ box) (counts ∷ site) h = (HasList-from_list n row counts h.0, HasSite-from_member n box site h.1)
HasSite-from_member n [] (counts ∷ site) h = absurd h
HasSite-from_member n (row ∷ box) [] h = absurd h

pub corner_member : (n : ℕ) (box : List (List Range)) → HasSite n box → IsMember n box (corner_site n box)
corner_member n [] h = tt
corner_member n (row ∷ box) h = (corner_in n row h.0, corner_member n box h.1)

pub tightened_box_keeps : (n : ℕ) (box : List (List Range)) (site : List (List ℕ)) → IsMember n box site → IsMember n (tightened_box n box) site
tightened_box_keeps n [] [] h = tt
tightened_box_keeps n (row ∷ box) (counts ∷ site) h = (tightened_keeps n row counts h.0, tightened_box_keeps n box site h.1)
tightened_box_keeps n [] (counts ∷ site) h = absurd h
tightened_box_keeps n (row ∷ box) [] h = absurd h

pub tightened_box_drops : (n : ℕ) (box : List (List Range)) (site : List (List ℕ)) → IsMember n (tightened_box n box) site → IsMember n box site
tightened_box_drops n [] [] h = tt
tightened_box_drops n (row ∷ box) (counts ∷ site) h = (tightened_drops n row counts h.0, tightened_box_drops n box site h.1)
tightened_box_drops n [] (counts ∷ site) h = absurd h
tightened_box_drops n (row ∷ box) [] h = absurd h

pub tightened_box_tight : (n : ℕ) (box : List (List Range)) → HasSite n box → IsTightBox n (tightened_box n box)
tightened_box_tight n [] h = tt
tightened_box_tight n (row ∷ box) h = (tightened_tight n row h.0, tightened_box_tight n box h.1)

pub tightened_box_has : (n : ℕ) (box : List (List Range)) → HasSite n box → HasSite n (tightened_box n box)
tightened_box_has n box h = HasSite-from_member n _ (corner_site n box) (tightened_box_keeps n box _ (corner_member n box h))

pub tight_box_stays : (n : ℕ) (box : List (List Range)) → HasSite n box → IsTightBox n box → tightened_box n box ≡ box
tight_box_stays n [] has tight = refl
tight_box_stays n (row ∷ box) has tight =
    let first : tightened n row ≡ row = tight_stays n row has.0 tight.0 in
    let rest : tightened_box n box ≡ box = tight_box_stays n box has.1 tight.1 in
    rw (first, rest) refl

pub is_tightened : (n : ℕ) (box : List (List Range)) → HasSite n box → IsTightened n box (tightened_box n box)
is_tightened n box has = record {
  has_site = tightened_box_has n box has;
  tight = tightened_box_tight n box has;
  keeps = tightened_box_keeps n box;
  adds_none = tightened_box_drops n box;
}

pub is_tightened-as : (n : ℕ) (box cut : List (List Range)) → HasSite n box → cut ≡ tightened_box n box → IsTightened n box cut
is_tightened-as n box cut has e = rw e (is_tightened n box has)

pub no_member : (n : ℕ) (box : List (List Range)) → (HasSite n box → ⊥) → (site : List (List ℕ)) → IsMember n box site → ⊥
no_member n box none site member = none (HasSite-from_member n box site member)

pub corner_is_member : (n : ℕ) (box : List (List Range)) (site : List (List ℕ)) → HasSite n box → site ≡ corner_site n box → IsMember n box site
corner_is_member n box site has e = rw e (corner_member n box has)

pub ruleset members = (corner_member, HasSite-from_member, corner_is_member)

pub ruleset tightening = (is_tightened-as, no_member)
