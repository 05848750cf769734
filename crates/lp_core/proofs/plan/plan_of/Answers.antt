use Rattle.std.proofs.Common.{ℕ, suc, ◌≤◌, ◌^◌, List, length, rules, arith, refl}
use Rattle.std.specs.Prelude.{ℤ}
use Rattle.std.specs.Int.{w128}
use Rattle.std.proofs.lemmas.Int.{to_z_pos}
use Rattle.lp_basis.specs.declared.column.Column.{Column}
use Rattle.lp_stage.specs.declared.stage.Stage.{Stage}
use Rattle.lp_stage.specs.Stages.{basis_columns}
use Rattle.lp_core.specs.Fitting.{widest}
use Rattle.lp_core.specs.Ends.{IsLast}
use Rattle.lp_core.specs.Weights.{AreFractions, IsCommon}
use Rattle.lp_core.specs.declared.weight.Fraction.{Fraction}
use Rattle.lp_core.proofs.Planning.{can_weigh, fits_common, fits_weights, parts_small, denominator_small, plan_is}
use Rattle.lp_core.proofs.plan.plan_of.Goals as goal

pub fractions_of-requires : goal.fractions_of-requires
fractions_of-requires c =
    let b : ℕ = c.requires.0 in
    (b, widest (suc b) c.requires.1, basis_columns c.requires.1 c.args.stage.places.items, rw c.deref.ensures.value (can_weigh b c.requires.1 c.args.target.now c.args.stage c.requires.2))

pub parts_of-parts-requires : goal.parts_of-parts-requires
parts_of-parts-requires c =
    let are = rw c.deref.ensures.value at c.in_ok-fractions.ensures in
    rw c.deref-2.ensures.value (fits_common c.requires.0 c.requires.1 c.args.target.now c.args.stage c.in_ok-fractions.fractions.items c.requires.2 are)

pub weights_of-requires : goal.weights_of-requires
weights_of-requires c =
    let are = rw c.deref.ensures.value at c.in_ok-fractions.ensures in
    let common = rw c.deref-2.ensures.value at c.parts_of-parts.ensures in
    rw (c.deref-3.ensures.value, c.deref-4.ensures.value) (fits_weights c.requires.0 c.requires.1 c.args.target.now c.args.stage c.in_ok-fractions.fractions.items c.parts_of-parts.result c.requires.2 are common)

-- the parts and the denominator are at most 2^62
small : (b : ℕ) (columns : List Column) (target : List ℤ) (stage : Stage) (fractions : List Fraction) (parts : ℕ) → IsLast b columns target stage → AreFractions stage.rows.items target fractions → IsCommon fractions (length fractions) parts →
    (parts ≤ 2 ^ 62) × (stage.potentials.denominator ≤ 2 ^ 62)
small b columns target stage fractions parts last are common =
    (omega (arith, parts_small b columns target stage fractions parts last are common, last.basis.held.room), omega (arith, denominator_small b columns target stage last, last.basis.held.room))

pub overflow_cast-result : goal.overflow_cast-result
overflow_cast-result c =
    let are = rw c.deref.ensures.value at c.in_ok-fractions.ensures in
    let common = rw c.deref-2.ensures.value at c.parts_of-parts.ensures in
    let most : c.parts_of-parts.result ≤ 2 ^ 62 = (small c.requires.0 c.requires.1 c.args.target.now c.args.stage c.in_ok-fractions.fractions.items c.parts_of-parts.result c.requires.2 are common).0 in
    search rules

pub overflow_cast-result-2 : goal.overflow_cast-result-2
overflow_cast-result-2 c =
    let are = rw c.deref.ensures.value at c.in_ok-fractions.ensures in
    let common = rw c.deref-2.ensures.value at c.parts_of-parts.ensures in
    let most : c.args.stage.potentials.denominator ≤ 2 ^ 62 = (small c.requires.0 c.requires.1 c.args.target.now c.args.stage c.in_ok-fractions.fractions.items c.parts_of-parts.result c.requires.2 are common).1 in
    search rules

pub returns : goal.returns
returns c b columns last =
    let are = rw c.deref.ensures.value at c.in_ok-fractions.ensures in
    let common = rw c.deref-2.ensures.value at c.parts_of-parts.ensures in
    let weighed = rw (c.deref-3.ensures.value, c.deref-4.ensures.value) at c.in_ok-weights.ensures in
    let most = small b columns c.args.target.now c.args.stage c.in_ok-fractions.fractions.items c.parts_of-parts.result last are common in
    plan_is b columns c.args.target.now c.args.stage c.in_ok-fractions.fractions.items c.parts_of-parts.result c.in_ok-weights.weights.items _ last are common weighed (record {
      weights_are = refl;
      parts_are = to_z_pos w128 c.parts_of-parts.result (omega (arith, most.0));
      potentials_are = refl;
      denominator_is = to_z_pos w128 c.args.stage.potentials.denominator (omega (arith, most.1));
    })
