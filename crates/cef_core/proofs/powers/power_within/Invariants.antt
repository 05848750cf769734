use Rattle.std.proofs.Common.{◌≡◌, ◌^◌, ◌≤◌}
use Rattle.cef_core.proofs.powers.power_within.Given as goal

abbrev pub invariant-factors : goal.invariant-factors
invariant-factors l = record { powered : l.power ≡ l.base ^ l.counter; small : l.power ≤ l.limit }
