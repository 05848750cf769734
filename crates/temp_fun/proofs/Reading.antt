-- What a factor is, by its form.
use Rattle.std.proofs.Common.{◌≡◌, ℕ, ◌^◌, ◌≤◌, List, Some, Result, Ok, Err, refl, sym, ap, subst, ◌∙◌, arith, inl, inr}
use Rattle.std.specs.Prelude.{ℤ, negsuc, unsigned_abs, slice_get}
use Rattle.cal_dec.specs.declared.dec.Dec.{Dec}
use Rattle.cal_dec.specs.Decimals.{Decimal, decimal_of}
use Rattle.cal_dec.specs.Products.{power_of}
use Rattle.cal_dec.specs.Trimming.{trimmed_exponent}
use Rattle.tdb_expr.specs.declared.factor.Factor.{Factor}
use Rattle.tdb_expr.specs.declared.factor.Factor.TheVariants.{Number, Power, T, LnT, Name}
use Rattle.temp_fun.specs.declared.mark.Mark.{Mark}
use Rattle.temp_fun.specs.declared.found.Found.{Found}
use Rattle.temp_fun.specs.declared.found.Found.TheVariants as found
use Rattle.temp_fun.specs.declared.fault.EvalFault.{EvalFault}
use Rattle.temp_fun.specs.Functions.{Functions, place_of}
use Rattle.temp_fun.specs.Values.{FactorIs, kelvin, log_kelvin, from_nano, number, temperature, power, logarithm, function}
use Rattle.temp_fun.specs.Stops.{FactorStops, cycle, too_high}
use Rattle.temp_fun.specs.Marks.{AreRight, Reads, ReadsAt}

pub number_is : (f : Functions) (t : ℕ) (x : Factor) (d : Dec) → x ≡ Number d → FactorIs f t x (decimal_of d) 0
number_is f t x d e = rw e (number d)

pub temperature_is : (f : Functions) (t : ℕ) (x : Factor) (d : Decimal) → x ≡ T → d ≡ kelvin t → FactorIs f t x d 0
temperature_is f t x d e is = rw (e, is) temperature

pub power_is : (f : Functions) (t : ℕ) (x : Factor) (n : ℤ) (d k : Decimal) → x ≡ Power n → d ≡ power_of k n → k ≡ kelvin t → FactorIs f t x d 0
power_is f t x n d k e is k_is = rw (e, is, k_is) (power n)

pub logarithm_is : (f : Functions) (t : ℕ) (x : Factor) (d : Decimal) → x ≡ LnT → d ≡ log_kelvin t → FactorIs f t x d 0
logarithm_is f t x d e is = rw (e, is) logarithm

pub from_nano_modest : (d : Decimal) (v : ℤ) → d ≡ from_nano v → unsigned_abs v ≤ 2 ^ 127 → unsigned_abs d.exponent ≤ 300
from_nano_modest d v e h =
    omega (arith, ap (λ (x : Decimal). unsigned_abs x.exponent) e, trimmed_exponent v (negsuc 8) 21 (omega arith) (omega arith))

-- a function by its mark
pub reads_at : (f : Functions) (t : ℕ) (marks : List Mark) (line : ℕ) (name : List ℕ) (place : ℕ) (mark : Mark) (r : Result Found EvalFault) →
    AreRight f t marks → place_of f name ≡ Some place → slice_get marks place ≡ Some mark → ReadsAt mark line place r → Reads f t marks line (Name name) r
reads_at f t marks line name place mark (Ok (found.Number d h)) right at is reads =
    subst (λ (x : Decimal). FactorIs f t (Name name) x h) (sym reads.2)
    (function name place reads.0 h at (right.done place reads.0 h (is ∙ ap (λ (m : Mark). Some m) reads.1)) reads.3)
reads_at f t marks line name place mark (Ok (found.Waits p)) right at is reads =
    record { name = name; is_name = refl; at = at ∙ ap (λ (q : ℕ). Some q) (sym reads.1); unvisited = ap (slice_get marks) reads.1 ∙ is ∙ ap (λ (m : Mark). Some m) reads.0 }
reads_at f t marks line name place mark (Err fault) right at is (inl reads) = λ followed are.
    subst (λ (e : EvalFault). FactorStops f t followed line (Name name) e) (sym reads.1)
    (cycle followed line name place at (are.only place (is ∙ ap (λ (m : Mark). Some m) reads.0)))
reads_at f t marks line name place mark (Err fault) right at is (inr reads) = λ followed are.
    subst (λ (e : EvalFault). FactorStops f t followed line (Name name) e) (sym reads.4)
    (too_high followed line name place reads.0 reads.1 at (right.done place reads.0 reads.1 (is ∙ ap (λ (m : Mark). Some m) reads.2)) reads.3)
