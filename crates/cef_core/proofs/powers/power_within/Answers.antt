use Rattle.std.proofs.Common.{◌≡◌, arith, sym, ◌∙◌}
use Rattle.std.proofs.Math.Nat.{pow-zero}
use Rattle.cef_core.proofs.Capped.{power-next, power-none, power-all}
use Rattle.cef_core.proofs.powers.power_within.Goals as goal

pub factors-init : goal.factors-init
factors-init c = record { powered = sym (pow-zero c.args.base); small = c.requires.one }

pub factors-preserved : goal.factors-preserved
factors-preserved c =
    let next = power-next c.args.limit c.args.base c.factors.counter c.factors.power c.in_ok-power.power c.factors.invariant.powered c.in_ok-power.ensures in
    record { powered = next.0; small = next.1 }

pub returns-in_err-power : goal.returns-in_err-power
returns-in_err-power c = c.from_residual.ensures ∙ power-none c.args.limit c.args.base c.factors.counter c.args.exponent c.factors.power c.requires.one c.factors-test.true c.factors.invariant.powered c.in_err-power.ensures

pub returns : goal.returns
returns c = power-all c.args.limit c.args.base c.factors.counter c.args.exponent c.factors.power (omega arith) c.factors.invariant.powered c.factors.invariant.small
