-- How many lists of a listing are members of a box.
use Rattle.std.proofs.Common.{◌≡◌, ℕ, zero, suc, ◌+◌, ◌≤◌, ◌<◌, List, [], ◌∷◌, length, refl, arith, ap, sym, ◌∙◌, subst, inl, inr, cond, Bool, true, false}
use Rattle.std.specs.Prelude.{◌⊎◌, ◌&&◌, leb, nat_eq, sum}
use Rattle.std.proofs.lemmas.Bool.Decides.{nat_tests}
use Rattle.cef_core.specs.declared.phase.PhaseAt.{PhaseAt}
use Rattle.cef_core.specs.Points.{points_in}
use Rattle.cef_box.specs.declared.range.Range.{Range}
use Rattle.cef_box.specs.Boxes.{AllWithin, IsInRow, IsMember}
use Rattle.cef_box.specs.Corners.{corner_site}
use Rattle.cef_box.specs.Cuts.{IsCut, ArePartsOf}
use Rattle.eq_sweep.specs.Findings.{IsReady}
use Rattle.eq_sweep.proofs.Listing.{Has, all_lists, list_is_listed, length-all_lists}
use Rattle.eq_sweep.proofs.Ready.{Box, parts_are, ready_left, ready_right, corner_is_member, member_is_list}

abbrev pub are_within : List Range → List ℕ → Bool
are_within [] [] = true
are_within (r ∷ row) (k ∷ counts) = leb r.low k && (leb k r.high && are_within row counts)
are_within [] (k ∷ counts) = false
are_within (r ∷ row) [] = false

abbrev pub is_member : ℕ → Box → List (List ℕ) → Bool
is_member n [] [] = true
is_member n (row ∷ rows) (counts ∷ site) = are_within row counts && (nat_eq (sum counts) n && is_member n rows site)
is_member n [] (counts ∷ site) = false
is_member n (row ∷ rows) [] = false

abbrev pub members_among : ℕ → Box → List (List (List ℕ)) → ℕ
members_among n box [] = 0
members_among n box (site ∷ all) = cond (is_member n box site) 1 0 + members_among n box all

leb_is : (a b : ℕ) → leb a b ≡ true → a ≤ b
leb_is a b h = grind (arith, nat_tests)

is_leb : (a b : ℕ) → a ≤ b → leb a b ≡ true
is_leb a b h = grind (arith, nat_tests)

eq_is : (a b : ℕ) → nat_eq a b ≡ true → a ≡ b
eq_is a b h = grind (arith, nat_tests)

is_eq : (a b : ℕ) → a ≡ b → nat_eq a b ≡ true
is_eq a b h = grind (arith, nat_tests)

both : (a b : Bool) → (a && b) ≡ true → (a ≡ true) × (b ≡ true)
both true b h = (refl, h)
both false b h = absurd cc

from_both : (a b : Bool) → a ≡ true → b ≡ true → (a && b) ≡ true
from_both true b h k = k
from_both false b h k = absurd cc

within_from : (row : List Range) (counts : List ℕ) → are_within row counts ≡ true → AllWithin row counts
within_from [] [] h = tt
within_from (r ∷ row) (k ∷ counts) h =
    let a = both (leb r.low k) _ h in
    let b = both (leb k r.high) _ a.1 in
    (leb_is r.low k a.0, leb_is k r.high b.0, within_from row counts b.1)
within_from [] (k ∷ counts) h = absurd cc
within_from (r ∷ row) [] h = absurd cc

within_true : (row : List Range) (counts : List ℕ) → AllWithin row counts → are_within row counts ≡ true
within_true [] [] h = refl
within_true (r ∷ row) (k ∷ counts) h = from_both _ _ (is_leb r.low k h.0) (from_both _ _ (is_leb k r.high h.1) (within_true row counts h.2))
within_true [] (k ∷ counts) h = absurd h
within_true (r ∷ row) [] h = absurd h

member_from : (n : ℕ) (box : Box) (site : List (List ℕ)) → is_member n box site ≡ true → IsMember n box site
member_from n [] [] h = tt
member_from n (row ∷ box) (counts ∷ site) h =
    let a = both (are_within row counts) _ h in
    let b = both (nat_eq (sum counts) n) _ a.1 in
    (record { within = within_from row counts a.0; adds = eq_is (sum counts) n b.0 }, member_from n box site b.1)
member_from n [] (counts ∷ site) h = absurd cc
member_from n (row ∷ box) [] h = absurd cc

member_true : (n : ℕ) (box : Box) (site : List (List ℕ)) → IsMember n box site → is_member n box site ≡ true
member_true n [] [] h = refl
member_true n (row ∷ box) (counts ∷ site) h = from_both _ _ (within_true row counts h.0.within) (from_both _ _ (is_eq (sum counts) n h.0.adds) (member_true n box site h.1))
member_true n [] (counts ∷ site) h = absurd h
member_true n (row ∷ box) [] h = absurd h

parted : (a b c : Bool) → (c ≡ true → (a ≡ true) ⊎ (b ≡ true)) → (a ≡ true → c ≡ true) → (b ≡ true → c ≡ true) → (a ≡ true → b ≡ true → ⊥) → cond a 1 0 + cond b 1 0 ≡ cond c 1 0
parted true true c h k l m = absurd (m refl refl)
parted true false true h k l m = omega arith
parted true false false h k l m = let e : false ≡ true = k refl in absurd cc
parted false true true h k l m = omega arith
parted false true false h k l m = let e : false ≡ true = l refl in absurd cc
parted false false false h k l m = omega arith
parted false false true h k l m =
    elim (h refl) [
      | inl e ↦ absurd cc
      | inr e ↦ absurd cc
    ]

-- the parts have as many members as the box
members_parts : (n : ℕ) (box left right : Box) → ArePartsOf n box left right → (all : List (List (List ℕ))) → members_among n left all + members_among n right all ≡ members_among n box all
members_parts n box left right p [] = omega arith
members_parts n box left right p (site ∷ all) =
    let rest : members_among n left all + members_among n right all ≡ members_among n box all = members_parts n box left right p all in
    let here : cond (is_member n left site) 1 0 + cond (is_member n right site) 1 0 ≡ cond (is_member n box site) 1 0 =
    parted (is_member n left site) (is_member n right site) (is_member n box site)
    (λ e. elim (p.covers site (member_from n box site e)) [
      | inl a ↦ inl (member_true n left site a)
      | inr b ↦ inr (member_true n right site b)
    ])
    (λ e. member_true n box site (p.in_left site (member_from n left site e)))
    (λ e. member_true n box site (p.in_right site (member_from n right site e)))
    (λ d e. p.apart site (member_from n left site d) (member_from n right site e)) in
    omega arith

-- a member that is listed counts
members_some : (n : ℕ) (box : Box) (site : List (List ℕ)) → IsMember n box site → (all : List (List (List ℕ))) → Has all site → 1 ≤ members_among n box all
members_some n box site h [] l = absurd l
members_some n box site h (s ∷ all) (inl e) =
    let here : is_member n box s ≡ true = member_true n box s (subst (λ (v : List (List ℕ)). IsMember n box v) (sym e) h) in
    omega (arith, one_is (is_member n box s) here)
  where
    one_is : (b : Bool) → b ≡ true → 1 ≤ cond {A = ℕ} b 1 0
    one_is true e = omega arith
    one_is false e = absurd cc
members_some n box site h (s ∷ all) (inr l) = omega (arith, members_some n box site h all l)

members_most : (n : ℕ) (box : Box) (all : List (List (List ℕ))) → members_among n box all ≤ length all
members_most n box [] = omega arith
members_most n box (s ∷ all) = omega (arith, most (is_member n box s), members_most n box all)
  where
    most : (b : Bool) → cond b 1 0 ≤ 1
    most true = omega arith
    most false = omega arith

-- ---- of a phase

-- how many lists of the phase are members of the box
unfoldable pub lists_in : PhaseAt → Box → ℕ
lists_in phase box = members_among phase.lattice box (all_lists phase)

pub some_list : (phase : PhaseAt) (box : Box) → IsReady phase box → 1 ≤ lists_in phase box
unfolding lists_in
some_list phase box ready =
    let corner = corner_is_member phase box ready in
    members_some phase.lattice box (corner_site phase.lattice box) corner (all_lists phase) (list_is_listed phase _ (member_is_list phase box _ ready corner))

pub most_lists : (phase : PhaseAt) (box : Box) → lists_in phase box ≤ points_in phase
unfolding lists_in
most_lists phase box = omega (arith, members_most phase.lattice box (all_lists phase), length-all_lists phase)

pub lists_parts : (phase : PhaseAt) (box left right : Box) (place cut : ℕ) → IsReady phase box → IsCut phase.lattice box place cut left right → lists_in phase left + lists_in phase right ≡ lists_in phase box
unfolding lists_in
lists_parts phase box left right place cut ready c = members_parts phase.lattice box left right (parts_are phase box left right place cut ready c) (all_lists phase)
