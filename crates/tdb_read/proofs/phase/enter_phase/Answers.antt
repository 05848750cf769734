use Rattle.tdb_read.specs.Phase.{IsPhase}
use Rattle.tdb_read.proofs.Found.{at_some}
use Rattle.tdb_read.proofs.Forms.{phase_fine}
use Rattle.tdb_read.proofs.phase.enter_phase.Goals as goal

pub enter_phase-requires-clause-name : goal.enter_phase-requires-clause-name
enter_phase-requires-clause-name c =
    (phase_fine c.args.line c.args.text.now c.in-Some.name c.in-Some.text (at_some (IsPhase c.args.line c.args.text.now) c.in_ok-found.found (c.in-Some.name, c.in-Some.text) c.in_ok-found.ensures c.in-Some.is)).0

pub enter_phase-requires-clause-text : goal.enter_phase-requires-clause-text
enter_phase-requires-clause-text c =
    (phase_fine c.args.line c.args.text.now c.in-Some.name c.in-Some.text (at_some (IsPhase c.args.line c.args.text.now) c.in_ok-found.found (c.in-Some.name, c.in-Some.text) c.in_ok-found.ensures c.in-Some.is)).1
