use Rattle.std.proofs.Common.{ℕ, suc, arith, refl}
use Rattle.std.specs.Prelude.{ℤ}
use Rattle.cal_math.specs.Vectors.{at}
use Rattle.lp_stage.specs.Stages.{basis_columns, basis_costs}
use Rattle.lp_stage.proofs.Moving.{can_price, potentials_costs}
use Rattle.lp_stage.proofs.stage.priced.Goals as goal

pub potentials_of-requires : goal.potentials_of-requires
potentials_of-requires c =
    let can = c.requires.3 in
    let same = rw c.deref.ensures.value at c.in_ok-costs.ensures.sized in
    let are = rw c.deref.ensures.value at c.in_ok-costs.ensures.every in
    let price = can_price c.requires.0 c.requires.1 c.requires.2 c.args.phase c.args.columns.now c.args.places.items c.args.rows.items c.in_ok-costs.costs.items can.during can.basis same are in
    (c.requires.0, c.requires.1, c.requires.2, basis_columns c.args.columns.now c.args.places.items, rw (c.deref-2.ensures.value, c.deref-3.ensures.value) price)

pub returns-clause-stage : goal.returns-clause-stage
returns-clause-stage c b w s can =
    let same = rw c.deref.ensures.value at c.in_ok-costs.ensures.sized in
    let are = rw c.deref.ensures.value at c.in_ok-costs.ensures.every in
    let price = can_price b w s c.args.phase c.args.columns.now c.args.places.items c.args.rows.items c.in_ok-costs.costs.items can.during can.basis same are in
    let cols : ℕ → ℕ → ℤ = basis_columns c.args.columns.now c.args.places.items in
    let prices = rw c.deref-3.ensures.value at (c.in_ok-potentials.ensures b w s cols (rw (c.deref-2.ensures.value, c.deref-3.ensures.value) price)) in
    record {
      places_are = refl;
      basis = can.basis;
      potentials = potentials_costs (suc b) cols (at c.in_ok-costs.costs.items) (basis_costs c.args.phase c.args.columns.now c.args.places.items) c.in_ok-potentials.potentials (λ j lt. are j (omega (arith, can.basis.count, lt))) prices;
    }
