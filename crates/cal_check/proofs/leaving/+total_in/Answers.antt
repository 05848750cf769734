use Rattle.std.proofs.Common.{◌∷◌, rules, SFits, arith}
use Rattle.std.specs.Prelude.{◌+ℤ◌, ◌*ℤ◌}
use Rattle.std.specs.Int.{w128}
use Rattle.std.proofs.lemmas.Int.{ints, to_z-of_z}
use Rattle.cal_check.specs.Workings.{CanTotal}
use Rattle.cal_check.proofs.Totals.{first_is}
use Rattle.cal_check.proofs.leaving.+total_in.Goals as goal

pub total_in-behind-requires : goal.total_in-behind-requires
total_in-behind-requires t c =
    let can : CanTotal c.args.system.now c.args.phases.now (c.in-Some.entry.now ∷ c.in-Some.rest.now) c.args.component = rw c.in-Some.ensures.cases.0 at c.requires in
    (omega (arith, c.in-Some.ensures.cases.1, c.decreases), (first_is _ _ c.args.name.now _ _ _ can).rest)

pub is_of-requires : goal.is_of-requires
is_of-requires t c =
    let can : CanTotal c.args.system.now c.args.phases.now (c.in-Some.entry.now ∷ c.in-Some.rest.now) c.args.component = rw c.in-Some.ensures.cases.0 at c.requires in
    (first_is _ _ c.args.name.now _ _ _ can).in_phases

pub held_by-here-requires-clause-phase : goal.held_by-here-requires-clause-phase
held_by-here-requires-clause-phase t c =
    let can : CanTotal c.args.system.now c.args.phases.now (c.in-Some.entry.now ∷ c.in-Some.rest.now) c.args.component = rw c.in-Some.ensures.cases.0 at c.requires in
    (first_is _ _ c.args.name.now _ _ _ can).in_system

pub held_by-here-requires-clause-fits : goal.held_by-here-requires-clause-fits
held_by-here-requires-clause-fits t c =
    let can : CanTotal c.args.system.now c.args.phases.now (c.in-Some.entry.now ∷ c.in-Some.rest.now) c.args.component = rw c.in-Some.ensures.cases.0 at c.requires in
    let is = first_is _ _ c.args.name.now _ _ _ can in
    omega (arith, ints, is.least, is.behind, is.most)

pub plus-requires : goal.plus-requires
plus-requires t c =
    let can : CanTotal c.args.system.now c.args.phases.now (c.in-Some.entry.now ∷ c.in-Some.rest.now) c.args.component = rw c.in-Some.ensures.cases.0 at c.requires in
    let is = first_is _ _ c.args.name.now _ _ _ can in
    let fits_here : SFits w128 c.held_by-here.result = search rules in
    let fits_behind : SFits w128 c.total_in-behind.result = search rules in
    simp to_z-of_z (rw (c.held_by-here.ensures, c.total_in-behind.ensures) (omega (arith, ints, is.least, is.behind, is.most)))
