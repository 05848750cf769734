use Rattle.std.proofs.Common.{◌≡◌, rules, ap, subst, arith}
use Rattle.std.specs.Prelude.{unsigned_abs}
use Rattle.cal_dec.specs.Decimals.{Decimal, decimal_of}
use Rattle.cal_dec.specs.Products.{power_of}
use Rattle.temp_fun.specs.Values.{log_kelvin}
use Rattle.temp_fun.proofs.Reading.{number_is, temperature_is, power_is, logarithm_is}
use Rattle.tdb_expr.specs.Forms.{IsFactor}
use Rattle.temp_fun.proofs.Powers.{power_modest}
use Rattle.temp_fun.proofs.factor.read_factor.Goals as goal

pub returns-in-Number-clause-value : goal.returns-in-Number-clause-value
returns-in-Number-clause-value c = number_is _ _ _ _ c.in-Number.is

pub returns-in-T-clause-value : goal.returns-in-T-clause-value
returns-in-T-clause-value c = temperature_is _ _ _ _ c.in-T.is c.kelvin.ensures

pub returns-in-Power-clause-value : goal.returns-in-Power-clause-value
returns-in-Power-clause-value c =
    let e : decimal_of c.power.result ≡ power_of (decimal_of c.kelvin-in-Power.result) c.in-Power.n = search rules in
    power_is _ _ _ _ _ _ c.in-Power.is e c.kelvin-in-Power.ensures

pub returns-in-Power-clause-modest : goal.returns-in-Power-clause-modest
returns-in-Power-clause-modest c =
    let e : decimal_of c.power.result ≡ power_of (decimal_of c.kelvin-in-Power.result) c.in-Power.n = search rules in
    power_modest c.args.reader.now.t c.in-Power.n (decimal_of c.power.result) _ e c.kelvin-in-Power.ensures c.args.reader.now.greatest (subst IsFactor c.in-Power.is c.requires.factor)

pub returns-in-LnT-clause-value : goal.returns-in-LnT-clause-value
returns-in-LnT-clause-value c = logarithm_is _ _ _ _ c.in-LnT.is c.args.reader.now.log_is

pub returns-in-LnT-clause-modest : goal.returns-in-LnT-clause-modest
unfolding log_kelvin
returns-in-LnT-clause-modest c = omega (arith, ap (λ (d : Decimal). unsigned_abs d.exponent) c.args.reader.now.log_is)
