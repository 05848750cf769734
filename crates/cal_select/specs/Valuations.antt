-- What ranged texts give at a temperature: a value in nano, or a first refusal.
use Rattle.std.specs.Prelude.{ℕ, Result, Ok, Err, ℤ}
use Rattle.tdb_expr.specs.declared.ranged.Ranged.{Ranged}
use Rattle.tdb_expr.specs.Forms.{IsRanged}
use Rattle.temp_fun.specs.declared.fault.EvalFault.{EvalFault}
use Rattle.temp_fun.specs.Functions.{Functions}
use Rattle.temp_fun.specs.Values.{IsValue}
use Rattle.temp_fun.specs.Stops.{IsRefusal}

abbrev pub Outcome : Type 0
Outcome = Result ℤ EvalFault

-- an outcome for each ranged text
abbrev pub Valuation : Type 0
Valuation = Ranged → Outcome

abbrev pub IsOutcome : Functions → ℕ → Ranged → Outcome → Type 0
IsOutcome f t ranged (Ok v) = IsValue f t ranged v
IsOutcome f t ranged (Err fault) = IsRefusal f t ranged fault

-- each ranged text that a database can have gets its outcome at t
pub record AreOutcomes (f : Functions) (t : ℕ) (outcome : Valuation) : Type 0 where
  pub each : (ranged : Ranged) → IsRanged ranged → IsOutcome f t ranged (outcome ranged)
