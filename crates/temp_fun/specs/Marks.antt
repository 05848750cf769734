-- What is known of functions while an expression is read.
use Rattle.std.specs.Prelude.{◌≡◌, ℕ, ◌<◌, ◌≤◌, length, List, Some, Result, Ok, Err, ℤ, slice_get, unsigned_abs, ◌⊎◌}
use Rattle.cal_dec.specs.Decimals.{decimal_of}
use Rattle.tdb_expr.specs.declared.factor.Factor.{Factor}
use Rattle.tdb_expr.specs.declared.factor.Factor.TheVariants.{Name}
use Rattle.temp_fun.specs.declared.mark.Mark.{Mark}
use Rattle.temp_fun.specs.declared.mark.Mark.TheVariants.{Unvisited, Followed, Done}
use Rattle.temp_fun.specs.declared.found.Found.{Found}
use Rattle.temp_fun.specs.declared.found.Found.TheVariants.{Number, Waits}
use Rattle.temp_fun.specs.declared.fault.EvalFault.{EvalFault}
use Rattle.temp_fun.specs.declared.fault.EvalFault.TheVariants.{Cycle, Unsupported}
use Rattle.temp_fun.specs.Functions.{Functions, place_of, IsAmong}
use Rattle.temp_fun.specs.Values.{FactorIs, FunctionIs, from_nano}
use Rattle.temp_fun.specs.Stops.{FactorStops}

-- the function at the place is done with its value and height
pub record AreRight (f : Functions) (t : ℕ) (marks : List Mark) : Type 0 where
  pub size : length marks ≡ length f
  pub done : (place : ℕ) (v : ℤ) (h : ℕ) → slice_get marks place ≡ Some (Done v h) → FunctionIs f t place v h

-- the functions that are being followed are those at these places
pub record AreFollowed (marks : List Mark) (followed : List ℕ) : Type 0 where
  pub all : (place : ℕ) → IsAmong place followed → slice_get marks place ≡ Some Followed
  pub only : (place : ℕ) → slice_get marks place ≡ Some Followed → IsAmong place followed

-- the factor names the function at this place, which was not visited
pub record WaitsFor (f : Functions) (marks : List Mark) (x : Factor) (place : ℕ) : Type 0 where
  pub name : List ℕ
  pub is_name : x ≡ Name name
  pub at : place_of f name ≡ Some place
  pub unvisited : slice_get marks place ≡ Some Unvisited

-- what is found of a factor
abbrev pub Reads : Functions → ℕ → List Mark → ℕ → Factor → Result Found EvalFault → Type 0
Reads f t marks line x (Ok (Number d h)) = FactorIs f t x (decimal_of d) h
Reads f t marks line x (Ok (Waits place)) = WaitsFor f marks x place
Reads f t marks line x (Err fault) = (followed : List ℕ) → AreFollowed marks followed → FactorStops f t followed line x fault

-- what is found by the mark of a function
abbrev pub ReadsAt : Mark → ℕ → ℕ → Result Found EvalFault → Type 0
ReadsAt mark line place (Ok (Number d h)) = (v : ℤ) × (mark ≡ Done v h) × (decimal_of d ≡ from_nano v) × (h ≤ 64)
ReadsAt mark line place (Ok (Waits p)) = (mark ≡ Unvisited) × (p ≡ place)
ReadsAt mark line place (Err fault) = ((mark ≡ Followed) × (fault ≡ Cycle line)) ⊎ ((v : ℤ) × (h : ℕ) × (mark ≡ Done v h) × (64 < h) × (fault ≡ Unsupported line))

abbrev pub ReadsName : Functions → ℕ → List Mark → ℕ → List ℕ → Result Found EvalFault → Type 0
ReadsName f t marks line name = Reads f t marks line (Name name)

-- an exponent of a magnitude of at most 300
abbrev pub IsModest : Found → Type 0
IsModest (Number d h) = unsigned_abs d.exponent ≤ 300
IsModest (Waits place) = Unit {0}
