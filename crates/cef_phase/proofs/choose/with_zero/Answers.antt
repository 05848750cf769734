use Rattle.std.specs.Prelude.{pos}
use Rattle.cef_phase.specs.declared.row.Row.{Row}
use Rattle.cef_phase.specs.Walks.{part_at, all_secants}
use Rattle.cef_phase.proofs.Betters.{zero_worse, zero_behind}
use Rattle.cef_phase.proofs.choose.with_zero.Goals as goal

pub returns-then-leaves_out_zero-clause-chosen : goal.returns-then-leaves_out_zero-clause-chosen
returns-then-leaves_out_zero-clause-chosen c =
    let row : Row = c.args.row.now in
    rw c.best_of.ensures.exact
    (zero_behind (part_at row) (pos 0) c.args.best.multiplier (all_secants row) c.requires.chosen (zero_worse row.mix.now.lattice (part_at row) _ _ _ _ c.requires.best c.if-leaves_out_zero.ensures))
