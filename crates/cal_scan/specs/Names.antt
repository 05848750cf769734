-- Lists of names: each a letter and then letters, digits and `_`, and none twice.
use Rattle.std.specs.Prelude.{◌≡◌, ℕ, ◌<◌, ◌≤◌, List, [], ◌∷◌, length, Option, Some, None, Bool, true, false, cond, not, ◌&&◌, ◌==◌, nat_eq, nat_le}
use Rattle.std.specs.List.{AllByRecursion, IsDistinct, list_any}
use Rattle.std.specs.Cmp.Lexicographic.{pointwise}
use Rattle.cal_scan.specs.Lines.{Word}
use Rattle.cal_scan.specs.Words.{same_word, is_name}

abbrev pub same_name : List ℕ → List ℕ → Bool
same_name a b = pointwise nat_eq a b

-- one or more names, none of them twice
pub record AreNames (names : List (List ℕ)) : Type 0 where
  pub present : 0 < length names
  pub fine : AllByRecursion (λ name. is_name name ≡ true) names
  pub distinct : IsDistinct same_name names

-- at most so many, where there is a limit
abbrev pub IsWithin : Option ℕ → ℕ → Type 0
IsWithin None n = Unit {0}
IsWithin (Some most) n = n ≤ most

abbrev pub AreNamesWithin : Option ℕ → List Word → Type 0
AreNamesWithin most names = AreNames names × IsWithin most (length names)

-- ---- as tests

-- whether a word is among others
abbrev pub stands_in : Word → List Word → Bool
stands_in w ws = list_any (λ v. same_word w v) ws

unfoldable pub are_names : List Word → Bool
are_names [] = true
are_names (w ∷ ws) = cond (is_name w) (cond (stands_in w ws) false (are_names ws)) false

abbrev pub is_within : Option ℕ → ℕ → Bool
is_within None n = true
is_within (Some most) n = nat_le n most

-- the words, where they are such names
unfoldable pub names_of : Option ℕ → List Word → Option (List Word)
names_of most ws = cond (not (length ws == 0) && is_within most (length ws)) (cond (are_names ws) (Some ws) None) None
