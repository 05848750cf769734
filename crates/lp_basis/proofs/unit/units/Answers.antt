use Rattle.std.proofs.Common.{◌≡◌, ◌∙◌, arith}
use Rattle.lp_basis.proofs.UnitRows.{IsHeld-units}
use Rattle.lp_basis.proofs.unit.units.Goals as goal

pub returns : goal.returns
returns c w columns some room units =
    let ended : c.units.k ≡ c.args.size = omega (arith, c.units-test.false, c.units.auto.k-end) in
    IsHeld-units c.args.size w columns c.units.rows.items c.requires some room units (c.units.invariant.sized ∙ ended) (λ k d less. c.units.invariant.exact k d (omega (arith, ended)))
