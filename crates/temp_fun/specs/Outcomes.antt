-- A ranged text has exactly one outcome: a value or a first refusal.
use Rattle.std.specs.Prelude.{◌≡◌, ℕ, ℤ, ◌⊎◌}
use Rattle.tdb_expr.specs.declared.ranged.Ranged.{Ranged}
use Rattle.tdb_expr.specs.Forms.{IsRanged}
use Rattle.temp_fun.specs.declared.fault.EvalFault.{EvalFault}
use Rattle.temp_fun.specs.Functions.{Functions, AreFunctions}
use Rattle.temp_fun.specs.Values.{IsValue}
use Rattle.temp_fun.specs.Stops.{IsRefusal}

-- there is a value or a refusal
abbrev pub SomeOutcome : Functions → ℕ → Ranged → Type 0
SomeOutcome f t ranged = ((v : ℤ) × IsValue f t ranged v) ⊎ ((a : EvalFault) × IsRefusal f t ranged a)

abbrev pub OneValue : Functions → ℕ → Ranged → Type 0
OneValue f t ranged = (v w : ℤ) → IsValue f t ranged v → IsValue f t ranged w → v ≡ w

abbrev pub OneRefusal : Functions → ℕ → Ranged → Type 0
OneRefusal f t ranged = (a b : EvalFault) → IsRefusal f t ranged a → IsRefusal f t ranged b → a ≡ b

abbrev pub NotBoth : Functions → ℕ → Ranged → Type 0
NotBoth f t ranged = (v : ℤ) (a : EvalFault) → IsValue f t ranged v → IsRefusal f t ranged a → ⊥
