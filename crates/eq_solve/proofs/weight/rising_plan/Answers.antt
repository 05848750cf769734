use Rattle.std.proofs.Common.{refl, rules, SFits}
use Rattle.std.specs.Int.{w128}
use Rattle.std.proofs.lemmas.Int.{to_z-of_z}
use Rattle.eq_solve.proofs.Weighing.{plan_permuted, rising_one}
use Rattle.eq_solve.proofs.weight.rising_plan.Goals as goal

pub returns-clause-plan : goal.returns-clause-plan
returns-clause-plan c columns target is =
    let fits_parts : SFits w128 c.args.plan.parts = search rules in
    let fits_denominator : SFits w128 c.args.plan.denominator = search rules in
    let permutation = rw c.deref.ensures.value at c.in_ok-weights.ensures.permutation in
    let ordered = rw c.deref.ensures.value at c.in_ok-weights.ensures.rising in
    simp to_z-of_z (plan_permuted columns target c.args.plan
    (record { weights = c.in_ok-weights.weights; parts = c.args.plan.parts; potentials = c.args.plan.potentials; denominator = c.args.plan.denominator })
    is permutation (rising_one columns target c.args.plan c.in_ok-weights.weights.items ordered is) refl refl refl)

pub returns-clause-rising : goal.returns-clause-rising
returns-clause-rising c columns target is =
    let ordered = rw c.deref.ensures.value at c.in_ok-weights.ensures.rising in
    rising_one columns target c.args.plan c.in_ok-weights.weights.items ordered is
