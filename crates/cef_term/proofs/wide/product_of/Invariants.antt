use Rattle.std.proofs.Common.{◌≡◌, take}
use Rattle.cef_term.specs.Kept.{product_at}
use Rattle.cef_term.proofs.wide.product_of.Given as goal

abbrev pub invariant-each : goal.invariant-each
invariant-each l = l.total ≡ product_at l.counts (take l.i l.places)
