-- The functions that expressions name.
use Rattle.std.specs.Prelude.{◌≡◌, ℕ, List, [], ◌∷◌, Option, Some, slice_get, ◌⊎◌}
use Rattle.std.specs.List.{position, AllByRecursion}
use Rattle.std.specs.Map.{keys_of}
use Rattle.cal_scan.specs.Names.{same_name}
use Rattle.tdb_expr.specs.declared.ranged.Ranged.{Ranged}
use Rattle.tdb_expr.specs.Forms.{IsRanged}

-- the functions of a database, by name, in the order in which they were entered first
abbrev pub Functions : Type 0
Functions = List (List ℕ × Ranged)

-- the place of the function of this name
unfoldable pub place_of : Functions → List ℕ → Option ℕ
place_of functions name = position (same_name name) (keys_of functions)

abbrev pub IsFunctionAt : Functions → ℕ → Ranged → Type 0
IsFunctionAt functions place ranged = (name : List ℕ) × (slice_get functions place ≡ Some (name, ranged))

abbrev pub IsAmong : ℕ → List ℕ → Type 0
IsAmong x [] = ⊥
IsAmong x (y ∷ ys) = (x ≡ y) ⊎ IsAmong x ys

-- each is one that a database keeps
abbrev pub AreFunctions : Functions → Type 0
AreFunctions functions = AllByRecursion (λ entry. IsRanged entry.1) functions
