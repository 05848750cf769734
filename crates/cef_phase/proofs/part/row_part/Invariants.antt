use Rattle.cef_phase.specs.Walks.{mixing_of, ranges_at}
use Rattle.cef_phase.proofs.Parts.{IsPartly}
use Rattle.cef_phase.proofs.part.row_part.Given as goal

abbrev pub invariant-each : goal.invariant-each
invariant-each l = IsPartly l.row.mix.now.lattice (mixing_of l.row) l.row.slopes.now (ranges_at l.row) l.multiplier l.site l.height l.counts
