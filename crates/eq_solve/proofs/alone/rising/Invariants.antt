use Rattle.std.proofs.Common.{◌≡◌, ℕ, ◌<◌, List}
use Rattle.std.specs.Prelude.{Some, slice_get, pos, ◌≤ℤ◌}
use Rattle.cef_core.specs.declared.phase.PhaseAt.{PhaseAt}
use Rattle.cef_core.specs.Constitutions.{IsConstitution, content}
use Rattle.cef_core.specs.Worth.{worth}
use Rattle.eq_solve.proofs.alone.rising.Given as goal

abbrev pub invariant-phases : goal.invariant-phases
invariant-phases g l = (p : ℕ) → p < l.place → (phase : PhaseAt) (counts : List (List ℕ)) → slice_get l.system.phases p ≡ Some phase → IsConstitution phase counts → worth l.v (content phase counts) ≤ℤ pos 0
