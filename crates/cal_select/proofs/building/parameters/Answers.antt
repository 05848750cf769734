use Rattle.std.proofs.Common.{◌≤◌, ◌∙◌, sym, arith, length}
use Rattle.cal_select.specs.Parameters.{counts, parameters_of, parameter_at}
use Rattle.cal_select.specs.Causes.{parameter_causes}
use Rattle.cal_select.proofs.Firsts.{told-found}
use Rattle.cal_select.proofs.Made.{made-on, made-off, made-all}
use Rattle.cal_select.proofs.By_phase.{as_many}
use Rattle.cal_select.proofs.building.parameters.Goals as goal
use Rattle.cal_select.proofs.building.parameters.Goals.{then-counts+in-Ok+in_ok-push-in-Ok, else-counts}

pub numbers-preserved : goal.numbers-preserved
numbers-preserved c =
    let db = c.args.source.now.db.now in
    let needs = c.args.needs.now in
    let own = parameters_of db needs.group.phase.now in
    elim c.if-counts.branch [
      | then-counts+in-Ok+in_ok-push-in-Ok w ↦ rw (w.all-is, w.known-is) (record {
        known = w.in-Ok.ensures.known;
        made = λ outcome are.
            let gives = w.in-Ok.ensures.gives outcome are in
            made-on (parameter_causes outcome needs.kept.now) (parameter_at outcome db needs.scale needs.kept.now) (counts needs.magnetic needs.kept.now)
            own c.numbers.number (c.parameter_of.result.0.now, c.parameter_of.result.1.now) c.numbers.all _ w.in-Ok.field-0.value
            c.parameter_of.ensures.entry (sym c.counts.ensures ∙ w.if-counts.true) (c.numbers.invariant.made outcome are) gives.0 gives.1 w.in_ok-push-in-Ok.ensures.ok;
      })
      | else-counts w ↦ rw (w.all-is, w.known-is) (record {
        known = c.numbers.invariant.known;
        made = λ outcome are.
            made-off (parameter_causes outcome needs.kept.now) (parameter_at outcome db needs.scale needs.kept.now) (counts needs.magnetic needs.kept.now)
            own c.numbers.number (c.parameter_of.result.0.now, c.parameter_of.result.1.now) c.numbers.all
            c.parameter_of.ensures.entry (sym c.counts.ensures ∙ w.if-counts.false) (c.numbers.invariant.made outcome are);
      })
    ]

pub returns : goal.returns
returns c =
    let db = c.args.source.now.db.now in
    let needs = c.args.needs.now in
    let own = parameters_of db needs.group.phase.now in
    let passed : length own ≤ c.numbers.number = omega (arith, c.numbers-test.false, as_many db.parameters own needs.group.places.now c.requires.places) in
    record {
      gives = λ outcome are.
          let made = made-all (parameter_causes outcome needs.kept.now) (parameter_at outcome db needs.scale needs.kept.now) (counts needs.magnetic needs.kept.now) own c.numbers.number c.numbers.all passed (c.numbers.invariant.made outcome are) in
          (made.none, made.made);
      known = c.numbers.invariant.known;
    }

pub returns-in-Err : goal.returns-in-Err
returns-in-Err c =
    let db = c.args.source.now.db.now in
    let needs = c.args.needs.now in
    record {
      gives = λ outcome are apart.
          told-found (parameter_causes outcome needs.kept.now) (counts needs.magnetic needs.kept.now) (parameters_of db needs.group.phase.now) c.numbers.number (c.parameter_of.result.0.now, c.parameter_of.result.1.now) c.in-Err.fault
          c.parameter_of.ensures.entry (sym c.counts.ensures ∙ c.if-counts.true) (c.numbers.invariant.made outcome are).none (c.in-Err.ensures.gives outcome are) apart;
      known = tt;
    }
