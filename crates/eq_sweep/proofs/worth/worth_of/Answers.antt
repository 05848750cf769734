use Rattle.std.proofs.Common.{rules, ◌≡◌, ◌≤◌, ◌^◌, SFits, arith, refl, ap, sym, ◌∙◌, to_z, length, ◌<◌, suc, ◌+◌, get_or}
use Rattle.std.specs.Prelude.{unsigned_abs, pos, ◌+ℤ◌, ◌*ℤ◌}
use Rattle.std.specs.Int.{w128}
use Rattle.std.proofs.lemmas.Int.{ints, to_z-of_z}
use Rattle.cal_math.specs.Vectors.{at}
use Rattle.cef_core.specs.Constitutions.{content}
use Rattle.eq_sweep.proofs.Worths.{worth_to, worth_is_small, worth_fits, share_is_small, share_fits, worth_is}
use Rattle.eq_sweep.proofs.worth.worth_of.Goals as goal

pub times-here-requires : goal.times-here-requires
times-here-requires c =
    let potential : SFits w128 (get_or c.args.potentials.now c.components.component (pos 0)) = search rules in
    let amount : SFits w128 c.content.result = search rules in
    let small = share_is_small c.args.phase.now c.args.potentials.now c.args.site.now c.components.component c.requires.plane c.requires.shape c.components-test.true in
    simp to_z-of_z (rw c.content.ensures (share_fits _ small))

pub plus-sum-requires : goal.plus-sum-requires
plus-sum-requires c =
    let potential : SFits w128 (get_or c.args.potentials.now c.components.component (pos 0)) = search rules in
    let amount : SFits w128 c.content.result = search rules in
    let share : SFits w128 c.times-here.result = search rules in
    let here : c.times-here.result ≡ get_or c.args.potentials.now c.components.component (pos 0) *ℤ c.content.result = simp to_z-of_z at c.times-here.ensures in
    let small = worth_is_small c.args.phase.now c.args.potentials.now c.args.site.now (suc c.components.component) c.requires.plane c.requires.shape (omega (arith, c.components-test.true)) in
    simp to_z-of_z (rw (here, c.content.ensures, c.components.invariant) (worth_fits _ small))

pub returns-clause-exact : goal.returns-clause-exact
returns-clause-exact c =
    c.components.invariant ∙ worth_is c.args.phase.now c.args.potentials.now c.args.site.now c.components.component (omega (arith, c.components-test.false, c.components.auto.component-end))

pub returns-clause-size : goal.returns-clause-size
returns-clause-size c =
    rw c.components.invariant (worth_is_small c.args.phase.now c.args.potentials.now c.args.site.now c.components.component c.requires.plane c.requires.shape c.components.auto.component-end)
