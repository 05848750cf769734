use Rattle.std.proofs.Common.{◌≡◌, suc, ◌-◌, length, arith, List, ◌∙◌, sym}
use Rattle.std.specs.Prelude.{ℤ}
use Rattle.lp_stage.specs.declared.phase.Phase.TheVariants.{First}
use Rattle.lp_basis.specs.declared.column.Column.{Column}
use Rattle.lp_core.specs.Fitting.{widest, Fits}
use Rattle.lp_core.proofs.Beginning.{meets_target}
use Rattle.lp_core.proofs.Cheapest.{cheapest}
use Rattle.lp_core.proofs.Refusing.{proof_of_none, no_weights_give}
use Rattle.lp_core.proofs.solving.solve.Goals as goal

size_is : (columns : List Column) (target : List ℤ) → Fits columns target → length target ≡ suc (length target - 1)
size_is columns target fits = omega (arith, fits.aim.positive.1)

pub has_unit-requires-clause-sized : goal.has_unit-requires-clause-sized
has_unit-requires-clause-sized c =
    let done = c.in_ok-end.ensures (length c.args.target.now - 1) (size_is c.args.columns.now c.args.target.now c.requires) in
    rw (c.deref.ensures.value, c.deref-2.ensures.value) (done.run.basis.held.count ∙ sym done.run.basis.count)

pub has_unit-requires-clause-meets : goal.has_unit-requires-clause-meets
has_unit-requires-clause-meets c =
    let b = length c.args.target.now - 1 in
    let done = c.in_ok-end.ensures b (size_is c.args.columns.now c.args.target.now c.requires) in
    rw c.deref-2.ensures.value (meets_target b (widest (suc b) c.args.columns.now) 1 First c.args.columns.now c.args.target.now c.in_ok-end.end done.run)

pub returns-then-has_unit-clause-infeasible : goal.returns-then-has_unit-clause-infeasible
returns-then-has_unit-clause-infeasible c =
    let b = length c.args.target.now - 1 in
    let size = size_is c.args.columns.now c.args.target.now c.requires in
    let done = c.in_ok-end.ensures b size in
    let unit = rw (c.deref.ensures.value, c.deref-2.ensures.value) at c.if-has_unit.ensures.yes in
    let proof = proof_of_none b c.args.columns.now c.args.target.now c.in_ok-end.end size done unit in
    (proof, no_weights_give c.args.columns.now c.args.target.now c.in_ok-end.end.potentials.numbers.items proof)

pub second_end-requires : goal.second_end-requires
second_end-requires c =
    let b = length c.args.target.now - 1 in
    let size = size_is c.args.columns.now c.args.target.now c.requires in
    let none = rw (c.deref.ensures.value, c.deref-2.ensures.value) at c.if-has_unit.ensures.no in
    (b, record { fits = c.requires; size = size; first = c.in_ok-end.ensures b size; none = none })

pub plan_of-requires : goal.plan_of-requires
plan_of-requires c =
    let b = length c.args.target.now - 1 in
    let size = size_is c.args.columns.now c.args.target.now c.requires in
    let none = rw (c.deref.ensures.value, c.deref-2.ensures.value) at c.if-has_unit.ensures.no in
    (b, c.args.columns.now, c.in_ok-last.ensures b (record { fits = c.requires; size = size; first = c.in_ok-end.ensures b size; none = none }))

pub returns-clause-plan : goal.returns-clause-plan
returns-clause-plan c =
    let b = length c.args.target.now - 1 in
    let size = size_is c.args.columns.now c.args.target.now c.requires in
    let none = rw (c.deref.ensures.value, c.deref-2.ensures.value) at c.if-has_unit.ensures.no in
    c.in_ok-plan.ensures b c.args.columns.now (c.in_ok-last.ensures b (record { fits = c.requires; size = size; first = c.in_ok-end.ensures b size; none = none }))

pub returns-clause-least : goal.returns-clause-least
returns-clause-least c =
    let b = length c.args.target.now - 1 in
    let size = size_is c.args.columns.now c.args.target.now c.requires in
    let none = rw (c.deref.ensures.value, c.deref-2.ensures.value) at c.if-has_unit.ensures.no in
    let last = c.in_ok-last.ensures b (record { fits = c.requires; size = size; first = c.in_ok-end.ensures b size; none = none }) in
    cheapest c.args.columns.now c.args.target.now c.in_ok-plan.plan (c.in_ok-plan.ensures b c.args.columns.now last)
