use Rattle.std.proofs.Common.{◌≡◌, ℕ, ◌<◌, get_or, None}
use Rattle.std.specs.Prelude.{pos, ◌≤ℤ◌}
use Rattle.lp_core.specs.Ends.{target_product}
use Rattle.lp_core.proofs.first.has_unit.Given as goal

abbrev pub invariant-places : goal.invariant-places
invariant-places l = (i : ℕ) → i < l.j → get_or l.places i None ≡ None → target_product l.rows l.target i ≤ℤ pos 0
