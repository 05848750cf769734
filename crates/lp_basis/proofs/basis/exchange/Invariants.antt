use Rattle.std.proofs.Common.{◌≡◌, ℕ, ◌<◌, length}
use Rattle.std.proofs.Common.{get_or}
use Rattle.lp_basis.specs.Steps.{IsPlaced}
use Rattle.lp_basis.specs.declared.row.Row.{Row}
use Rattle.lp_basis.proofs.basis.exchange.Given as goal

abbrev pub invariant-exchange : goal.invariant-exchange
invariant-exchange l = record {
  sized : length l.next.items ≡ l.j;
  placed : (k : ℕ) (d : Row) → k < l.j → IsPlaced l.i k (length l.column) l.p l.mine.items l.column l.rows (get_or l.next.items k d);
}
