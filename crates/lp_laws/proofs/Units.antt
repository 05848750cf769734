-- The unit columns are a basis whose rows are unit rows.
use Rattle.std.proofs.Common.{◌≡◌, ℕ, zero, suc, ◌*◌, ◌<◌, ◌≤◌, refl, arith, ap, sym, ◌∙◌, subst}
use Rattle.std.specs.Prelude.{ℤ, pos, ◌*ℤ◌, ◌≤ℤ◌, unsigned_abs}
use Rattle.std.proofs.lemmas.Int.{ints, unsigned_abs-mul}
use Rattle.std.proofs.Common.{inl, inr}
use Rattle.std.proofs.lemmas.Bool.{cases_eq}
use Rattle.cal_math.specs.Vectors.{dot}
use Rattle.cal_math.proofs.Vectors.{sum-one, dot-comm, dot_one}
use Rattle.lp_laws.specs.Bases.{IsBasis, IsUnit, IsPrimitive, IsPlain}

-- a product with a unit is the number at its component
pub dot_unit_column : (n k : ℕ) (r u : ℕ → ℤ) → k < n → IsUnit n k u → dot n r u ≡ r k
dot_unit_column n k r u lt is = dot_one n k r u lt is.zeros ∙ ap (λ (z : ℤ). r k *ℤ z) is.one ∙ omega (arith, ints)

pub dot_unit_row : (n k : ℕ) (r x : ℕ → ℤ) → k < n → IsUnit n k r → dot n r x ≡ x k
dot_unit_row n k r x lt is = dot-comm n r x ∙ dot_unit_column n k x r lt is

pub IsBasis-units : (n : ℕ) (columns rows : ℕ → ℕ → ℤ) (own : ℕ → ℤ) → ((j : ℕ) → j < n → IsUnit n j (columns j)) → ((j : ℕ) → j < n → IsUnit n j (rows j)) → ((j : ℕ) → j < n → own j ≡ pos 1) →
    IsBasis n n columns rows own
IsBasis-units n columns rows own units unit_rows ones = record {
  owns = λ j lt. dot_unit_column n j (rows j) (columns j) lt (units j lt) ∙ (unit_rows j lt).one ∙ sym (ones j lt);
  kills = λ i j p q ne. dot_unit_column n j (rows i) (columns j) q (units j q) ∙ (unit_rows i p).zeros j q (λ e. ne (sym e));
  above = λ j lt. rw (ones j lt) (omega (arith, ints));
  complete = λ x zeros c lt. sym (dot_unit_row n c (rows c) x lt (unit_rows c lt)) ∙ zeros c lt;
}

pub IsPrimitive-unit : (n k : ℕ) (row : ℕ → ℤ) → k < n → IsUnit n k row → IsPrimitive n row
unfolding IsPrimitive
IsPrimitive-unit n k row lt is g divides =
    one_of g (unsigned_abs (divides k lt).0) (sym (unsigned_abs-mul (pos g) (divides k lt).0) ∙ ap unsigned_abs ((divides k lt).1 ∙ is.one))
  where
    one_of : (a b : ℕ) → a * b ≡ 1 → a ≡ 1
    one_of zero b e = absurd (omega (arith, e))
    one_of (suc zero) b e = refl
    one_of (suc (suc a)) zero e = absurd (omega (arith, e))
    one_of (suc (suc a)) (suc b) e = absurd (omega (arith, e))

pub IsPlain-units : (n w : ℕ) (columns : ℕ → ℕ → ℤ) → 1 ≤ w → ((j : ℕ) → j < n → IsUnit n j (columns j)) → IsPlain n n w columns
IsPlain-units n w columns some units = record {
  least = λ j c lt less. elim (cases_eq c j) [
    | inl e ↦ subst (λ (k : ℕ). pos 0 ≤ℤ columns j k) (sym e) (rw (units j lt).one (omega (arith, ints)))
    | inr ne ↦ rw ((units j lt).zeros c less ne) (omega (arith, ints))
  ];
  sums = λ j lt. omega (arith, ints, sum-one n j (columns j) lt (units j lt).zeros, (units j lt).one, some);
}
