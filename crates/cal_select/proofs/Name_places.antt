-- The place of a name in a list that has it.
use Rattle.std.proofs.Common.{◌≡◌, ℕ, ◌+◌, ◌<◌, List, [], ◌∷◌, length, Bool, true, false, cond, not, Some, None, refl, sym, get_or, arith, subst}
use Rattle.std.specs.Prelude.{nat_lt, ◌||◌}
use Rattle.std.specs.List.{list_any, position, position_or_len}
use Rattle.std.proofs.lemmas.Bool.Decides.{nat_tests}
use Rattle.std.proofs.lemmas.List.Sums.{prefix_len_stops}
use Rattle.cal_scan.specs.Names.{same_name}
use Rattle.cal_select.specs.Chosen.{Word, is_in}
use Rattle.cal_select.proofs.Few.{same_is}

-- a place in a list lies within it
pub position-within : {A : Type 0} (p : A → Bool) (xs : List A) (i : ℕ) → position p xs ≡ Some i → i < length xs
position-within p xs i e = by_test (nat_lt (position_or_len p xs) (length xs)) refl e
  where
    by_test : (b : Bool) → nat_lt (position_or_len p xs) (length xs) ≡ b → cond b (Some (position_or_len p xs)) None ≡ Some i → i < length xs
    by_test true less found = let same : position_or_len p xs ≡ i = cc in grind (arith, nat_tests)
    by_test false less found = cc

-- where an element passes a test there is a first place
first_place : {A : Type 0} (q : A → Bool) (xs : List A) → list_any q xs ≡ true → position_or_len q xs < length xs
first_place q [] found = cc
first_place q (x ∷ xs) found = by_test (q x) found (first_place q xs)
  where
    by_test : (b : Bool) → (b || list_any q xs) ≡ true → (list_any q xs ≡ true → position_or_len q xs < length xs) → cond (not b) (1 + position_or_len q xs) 0 < length (x ∷ xs)
    by_test true found rest = omega arith
    by_test false found rest = omega (arith, rest found)

flip : (names : List Word) (name : Word) → is_in names name ≡ true → list_any (λ other. same_name other name) names ≡ true
flip [] name found = found
flip (x ∷ names) name found = by_test (same_name name x) refl found (flip names name)
  where
    by_test : (b : Bool) → same_name name x ≡ b → (b || is_in names name) ≡ true → (is_in names name ≡ true → list_any (λ other. same_name other name) names ≡ true) → (same_name x name || list_any (λ other. same_name other name) names) ≡ true
    by_test true e found rest = let same : name ≡ x = same_is name x e in rw (subst (λ (y : Word). same_name y name ≡ true) same (subst (λ (y : Word). same_name name y ≡ true) (sym same) e)) refl
    by_test false e found rest = rw (rest found) (grind (arith))

-- the place of a name in a list that has it
pub record IsPlace (names : List Word) (name : Word) (i : ℕ) : Type 0 where
  pub found : position (λ other. same_name other name) names ≡ Some i
  pub within : i < length names
  pub there : get_or names i [] ≡ name

pub place : (names : List Word) (name : Word) → is_in names name ≡ true → IsPlace names name (position_or_len (λ other. same_name other name) names)
place names name found =
    let less : position_or_len (λ other. same_name other name) names < length names = first_place (λ other. same_name other name) names (flip names name found) in
    record {
      found = some_of (nat_lt (position_or_len (λ other. same_name other name) names) (length names)) (grind (arith, nat_tests));
      within = less;
      there = same_is (get_or names (position_or_len (λ other. same_name other name) names) []) name
          (not_false (same_name (get_or names (position_or_len (λ other. same_name other name) names) []) name) (prefix_len_stops (λ other. not (same_name other name)) names [] less));
    }
  where
    some_of : (b : Bool) → b ≡ true → cond b (Some (position_or_len (λ other. same_name other name) names)) None ≡ Some (position_or_len (λ other. same_name other name) names)
    some_of true e = refl
    some_of false e = cc

    not_false : (b : Bool) → not b ≡ false → b ≡ true
    not_false true e = refl
    not_false false e = cc
