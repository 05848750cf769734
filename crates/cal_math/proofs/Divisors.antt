-- What is left of a divisor of a product when its greatest common divisor with one factor is taken out: it divides the other factor.
use Rattle.std.proofs.Common.{◌≡◌, ℕ, zero, suc, ◌*◌, ◌/◌, ◌≤◌, refl, arith, ap, sym, ◌∙◌, subst, inl, inr}
use Rattle.std.specs.Prelude.{ℤ, pos, ◌+ℤ◌, ◌*ℤ◌, unsigned_abs}
use Rattle.std.specs.Int.{◌∣◌, IsGcd}
use Rattle.std.proofs.lemmas.Int.{ints, unsigned_abs-mul}
use Rattle.std.proofs.lemmas.Bool.{cases_eq}
use Rattle.std.proofs.lemmas.Nat.Gcd.{dvd_trans}
use Rattle.std.proofs.Math.Nat.{dvd-mul_right, div-mul_cancel}
use Rattle.cal_math.specs.Whole.{*ℤ-+ℤ, *ℤ_assoc, *ℤ_left}
use Rattle.cal_math.specs.Vectors.{dot}
use Rattle.cal_math.proofs.Bezout.{greatest, Greatest}

pub dvd_from : (a b q : ℕ) → b ≡ a * q → a ∣ b
dvd_from a b q e = subst (λ (v : ℕ). a ∣ v) (sym e) (dvd-mul_right a q)

pub times_quotient : (a b : ℕ) → a ∣ b → b ≡ a * (b / a)
times_quotient a b h = omega (arith, div-mul_cancel a h)

pub factor_above : (a b : ℕ) → 1 ≤ b → a ∣ b → 1 ≤ a
factor_above a b above h = elim (cases_eq a 0) [
  | inl e ↦ absurd (omega (arith, above, times_quotient a b h, ap (λ (k : ℕ). k * (b / a)) e))
  | inr ne ↦ omega arith
]

pub same_factor : (g a b : ℕ) → 1 ≤ g → g * a ≡ g * b → a ≡ b
same_factor g a b above e = elim (cases_eq a b) [
  | inl same ↦ same
  | inr ne ↦ absurd (apart g a b above ne e)
]
  where
    apart : (g a b : ℕ) → 1 ≤ g → (a ≡ b → ⊥) → g * a ≡ g * b → ⊥
    apart (suc g) zero zero above ne e = ne refl
    apart (suc g) zero (suc b) above ne e = omega (arith, e)
    apart (suc g) (suc a) zero above ne e = omega (arith, e)
    apart (suc g) (suc a) (suc b) above ne e = apart (suc g) a b above (λ f. ne (omega arith)) (omega (arith, e))
    apart zero a b above ne e = omega arith

-- a row of two numbers
pair : ℕ → ℕ → ℕ → ℤ
pair a b zero = pos a
pair a b (suc c) = pos b

size_of : (g a : ℕ) (s : ℤ) → pos g *ℤ s ≡ pos a → g ∣ a
size_of g a s e = dvd_from g a (unsigned_abs s) (ap unsigned_abs (sym e) ∙ unsigned_abs-mul (pos g) s)

-- a combination of a and b that every common divisor of them divides
record IsCombined (a b g : ℕ) (x y : ℤ) : Type 0 where
  exact : pos a *ℤ x +ℤ pos b *ℤ y ≡ pos g
  first : g ∣ a
  second : g ∣ b

record Combined (a b : ℕ) : Type 0 where
  g : ℕ
  x : ℤ
  y : ℤ
  holds : IsCombined a b g x y

combined : (a b : ℕ) → Combined a b
unfolding dot pair
combined a b =
    let all : Greatest 2 (pair a b) = greatest 2 (pair a b) in
    record {
      g = all.g;
      x = all.z 0;
      y = all.z 1;
      holds = record {
        exact = omega (arith, ints, all.exact.combined);
        first = size_of all.g a (all.exact.divides 0 (omega arith)).0 (all.exact.divides 0 (omega arith)).1;
        second = size_of all.g b (all.exact.divides 1 (omega arith)).0 (all.exact.divides 1 (omega arith)).1;
      };
    }

-- a divides t times each of a and b, and so t times their greatest common divisor
times_gcd : (a b g t e : ℕ) → IsGcd a b g → t * b ≡ a * e → a ∣ t * g
times_gcd a b g t e is divides =
    let c : Combined a b = combined a b in
    let u : ℤ = pos t *ℤ c.x +ℤ pos e *ℤ c.y in
    let left_is : pos t *ℤ (pos a *ℤ c.x) ≡ pos a *ℤ (pos t *ℤ c.x) = *ℤ_left (pos t) (pos a) c.x in
    let tb : pos t *ℤ pos b ≡ pos a *ℤ pos e = omega (arith, ints, divides) in
    let right_is : pos t *ℤ (pos b *ℤ c.y) ≡ pos a *ℤ (pos e *ℤ c.y) = sym (*ℤ_assoc (pos t) (pos b) c.y) ∙ ap (λ (z : ℤ). z *ℤ c.y) tb ∙ *ℤ_assoc (pos a) (pos e) c.y in
    let whole : pos (t * c.g) ≡ pos a *ℤ u =
    omega (arith, ints, ap (λ (z : ℤ). pos t *ℤ z) c.holds.exact, *ℤ-+ℤ (pos t) (pos a *ℤ c.x) (pos b *ℤ c.y), left_is, right_is, *ℤ-+ℤ (pos a) (pos t *ℤ c.x) (pos e *ℤ c.y)) in
    let g_is : g ≡ c.g * (g / c.g) = times_quotient c.g g (is.2 c.g c.holds.first c.holds.second) in
    dvd_trans a (dvd_from a (t * c.g) (unsigned_abs u) (ap unsigned_abs whole ∙ unsigned_abs-mul (pos a) u))
    (dvd_from (t * c.g) (t * g) (g / c.g) (ap (λ (v : ℕ). t * v) g_is ∙ omega arith))

pub rest_divides : (a b g t : ℕ) → 1 ≤ a → IsGcd a b g → a ∣ t * b → a / g ∣ t
rest_divides a b g t above is h =
    let g_some : 1 ≤ g = factor_above g a above is.0 in
    let a_is : a ≡ g * (a / g) = times_quotient g a is.0 in
    let d : a ∣ t * g = times_gcd a b g t (t * b / a) is (times_quotient a (t * b) h) in
    let q : ℕ = t * g / a in
    let product : g * t ≡ g * (a / g * q) = omega (arith, times_quotient a (t * g) d, ap (λ (v : ℕ). v * q) a_is) in
    dvd_from (a / g) t q (same_factor g t (a / g * q) g_some product)
