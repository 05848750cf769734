-- The sites of an array in one list, and the form of its factor.
use Rattle.std.proofs.Common.{◌≡◌, ℕ, zero, suc, ◌+◌, ◌^◌, ◌<◌, ◌≤◌, List, [], ◌∷◌, ◌++◌, length, map, take, refl, arith, ap, sym, ◌∙◌, Bool, true, false, Option, Some, None}
use Rattle.std.specs.Prelude.{sum}
use Rattle.std.specs.List.{concat, AllByRecursion}
use Rattle.std.proofs.lemmas.List.{length-append}
use Rattle.cef_core.specs.Parameters.{interacting}
use Rattle.cef_core.specs.Phases.{ArePlaces}
use Rattle.cef_core.specs.Shapes.{shape}
use Rattle.cef_term.proofs.Lists.{shift_room}
use Rattle.cef_term.proofs.Picking.{sum-cons}
use Rattle.cef_term.specs.Kept.{placed}
use Rattle.cef_minor.specs.declared.form.Form.{Form}
use Rattle.cef_minor.specs.declared.form.Form.TheVariants.{Plain, Difference, Weighted}
use Rattle.cef_minor.specs.Kept.{found_form}
use Rattle.cef_minor.specs.Products.{form_of, pair_form}
use Rattle.cef_minor.proofs.Interactions.{interacting_skips, interacting_takes}

pub length_shifted : (from : ℕ) (list : List ℕ) → length (map (λ p. from + p) list) ≡ length list
length_shifted from [] = refl
length_shifted from (p ∷ list) = omega (arith, length_shifted from list)

pub take_both : (here later sites rest : List ℕ) (n r : ℕ) → here ≡ sites → length sites ≡ n → take r later ≡ rest → take (n + r) (here ++ later) ≡ sites ++ rest
take_both here later sites rest n r e l t = rw (e, ← l, ← t) (both sites)
  where
    both : (sites : List ℕ) → take (length sites + r) (sites ++ later) ≡ sites ++ take r later
    both [] = ap (λ k. take k later) (nothing r)
      where
        nothing : (r : ℕ) → 0 + r ≡ r
        nothing r = omega arith
    both (s ∷ sites) = rw (next (length sites) r) (ap (λ xs. s ∷ xs) (both sites))
      where
        next : (a b : ℕ) → suc a + b ≡ suc (a + b)
        next a b = omega arith

pub length_placed : (from width : ℕ) (widths list : List ℕ) (lists : List (List ℕ)) → length (concat (placed from (width ∷ widths) (list ∷ lists))) ≡ length list + length (concat (placed (from + width) widths lists))
length_placed from width widths list lists =
    length-append (map (λ p. from + p) list) (concat (placed (from + width) widths lists)) ∙ ap (λ k. k + length (concat (placed (from + width) widths lists))) (length_shifted from list)

pub ruleset shifts = (length_shifted)

pub ruleset lists = (length_shifted, take_both, length_placed, shift_room, sum-cons)

pub pair_form-zero : (i j order : ℕ) → order ≡ 0 → Plain ≡ pair_form order i j
pair_form-zero i j zero e = refl
pair_form-zero i j (suc order) e = absurd (omega (arith, e))

pub pair_form-some : (i j order : ℕ) → (order ≡ 0 → ⊥) → Difference i j ≡ pair_form order i j
pair_form-some i j zero h = absurd (h refl)
pair_form-some i j (suc order) h = refl

pub form_other : (order : ℕ) (weighted : Bool) (list : List ℕ) → (length list ≡ 2 → ⊥) → (length list ≡ 3 → ⊥) → Plain ≡ form_of order weighted (list ∷ [])
form_other order weighted [] h k = refl
form_other order weighted (i ∷ []) h k = refl
form_other order weighted (i ∷ j ∷ []) h k = absurd (h refl)
form_other order weighted (i ∷ j ∷ l ∷ []) h k = absurd (k refl)
form_other order true (i ∷ j ∷ l ∷ m ∷ list) h k = refl
form_other order false (i ∷ j ∷ l ∷ m ∷ list) h k = refl

pub ruleset forms = (pair_form-zero, pair_form-some, form_other, length_shifted)

pub form_many : (order : ℕ) (weighted : Bool) (lists : List (List ℕ)) → 2 ≤ length lists → Plain ≡ form_of order weighted lists
form_many order weighted [] h = absurd (omega arith)
form_many order weighted (x ∷ []) h = absurd (omega arith)
form_many order weighted ([] ∷ m ∷ rest) h = refl
form_many order weighted ((i ∷ []) ∷ m ∷ rest) h = refl
form_many order weighted ((i ∷ j ∷ []) ∷ m ∷ rest) h = refl
form_many order true ((i ∷ j ∷ k ∷ []) ∷ m ∷ rest) h = refl
form_many order false ((i ∷ j ∷ k ∷ []) ∷ m ∷ rest) h = refl
form_many order true ((i ∷ j ∷ k ∷ l ∷ more) ∷ m ∷ rest) h = refl
form_many order false ((i ∷ j ∷ k ∷ l ∷ more) ∷ m ∷ rest) h = refl

pub found_none : (order : ℕ) (weighted : Bool) (lists : List (List ℕ)) → None ≡ found_form order weighted lists → lists ≡ []
found_none order weighted [] e = refl
found_none order weighted (x ∷ []) e = absurd cc
found_none order weighted (x ∷ y ∷ lists) e = absurd cc

pub found_one : (order : ℕ) (weighted : Bool) (list : List ℕ) (lists : List (List ℕ)) (form : Form) → None ≡ found_form order weighted lists → form ≡ form_of order weighted (list ∷ []) → Some form ≡ found_form order weighted (list ∷ lists)
found_one order weighted list lists form e f = rw (found_none order weighted lists e, f) refl

pub found_more : (order : ℕ) (weighted : Bool) (list : List ℕ) (lists : List (List ℕ)) (form : Form) → Some form ≡ found_form order weighted lists → Some Plain ≡ found_form order weighted (list ∷ lists)
found_more order weighted list [] form e = absurd cc
found_more order weighted list (x ∷ lists) form e = refl

pub form_is_none : (order : ℕ) (weighted : Bool) (lists : List (List ℕ)) → None ≡ found_form order weighted lists → Plain ≡ form_of order weighted lists
form_is_none order weighted lists e = rw (found_none order weighted lists e) refl

pub form_is_some : (order : ℕ) (weighted : Bool) (lists : List (List ℕ)) (form : Form) → Some form ≡ found_form order weighted lists → form ≡ form_of order weighted lists
form_is_some order weighted [] form e = absurd cc
form_is_some order weighted (x ∷ []) form e = same form (form_of order weighted (x ∷ [])) e
  where
    same : (a b : Form) → Some a ≡ Some b → a ≡ b
    same a b e = cc
form_is_some order weighted (x ∷ y ∷ lists) form e = same form Plain e ∙ form_many order weighted (x ∷ y ∷ lists) (omega arith)
  where
    same : (a b : Form) → Some a ≡ Some b → a ≡ b
    same a b e = cc

pub ruleset found = (found_one, found_more, form_is_none, form_is_some, interacting_skips, interacting_takes, length_shifted, shift_room, sum-cons)

-- a list of two or more before those that are found
pub found_step : {X : Type 0} (order : ℕ) (weighted : Bool) (from behind : ℕ) (sites rows : List (List X)) (array lists : List (List ℕ)) (row : List X) (list : List ℕ) (later result : Option Form) → sites ≡ row ∷ rows → array ≡ list ∷ lists → behind ≡ from + length row → 2 ≤ length list →
    later ≡ found_form order weighted (interacting (placed behind (shape rows) lists)) → ((others : List (List ℕ)) → later ≡ found_form order weighted others → result ≡ found_form order weighted (map (λ p. from + p) list ∷ others)) →
    result ≡ found_form order weighted (interacting (placed from (shape sites) array))
found_step order weighted from behind sites rows array lists row list later result e f b two l step =
    let many : 2 ≤ length (map (λ p. from + p) list) = omega (arith, two, length_shifted from list) in
    let here : later ≡ found_form order weighted (interacting (placed (from + length row) (shape rows) lists)) = rw b at l in
    rw (e, f, interacting_takes (map (λ p. from + p) list) (placed (from + length row) (shape rows) lists) many) (step (interacting (placed (from + length row) (shape rows) lists)) here)
