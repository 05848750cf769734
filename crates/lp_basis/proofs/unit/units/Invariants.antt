use Rattle.std.proofs.Common.{◌≡◌, ℕ, ◌<◌, length, get_or}
use Rattle.lp_basis.specs.Steps.{IsUnitRow}
use Rattle.lp_basis.specs.declared.row.Row.{Row}
use Rattle.lp_basis.proofs.unit.units.Given as goal

abbrev pub invariant-units : goal.invariant-units
invariant-units l = record {
  sized : length l.rows.items ≡ l.k;
  exact : (k : ℕ) (d : Row) → k < l.k → IsUnitRow l.size k (get_or l.rows.items k d);
}
