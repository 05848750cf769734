-- Room for the product of the counts at the places.
use Rattle.std.proofs.Common.{◌≡◌, ℕ, zero, suc, ◌+◌, ◌-◌, ◌*◌, ◌^◌, ◌<◌, ◌≤◌, List, [], ◌∷◌, ◌++◌, length, take, arith, refl, ap, slice_index}
use Rattle.std.proofs.lemmas.Nat.{mul-le}
use Rattle.std.proofs.Math.Nat.{pow-suc, pow-zero, pow-le-pow_right, one-le-pow}
use Rattle.std.proofs.lemmas.List.{length-take}
use Rattle.std.specs.Prelude.{pos, ◌-ℤ◌, unsigned_abs}
use Rattle.std.proofs.lemmas.Int.{ints}
use Rattle.cef_core.specs.Parameters.{product_of}
use Rattle.cef_term.proofs.Sizes.{power_size, ends_size}
use Rattle.cef_term.specs.declared.form.Form.{Form}
use Rattle.cef_term.specs.declared.form.Form.TheVariants.{Plain, Binary, Ternary}
use Rattle.cef_term.specs.Kept.{count_at, product_at, factor_at, least_factor_at, greatest_factor_at, factor_most, HasProduct}

pub product_at-size : (counts places : List ℕ) (n : ℕ) → ((k : ℕ) → count_at counts k ≤ n) → product_at counts places ≤ n ^ length places
product_at-size counts [] n small = omega (arith, pow-zero n)
product_at-size counts (p ∷ places) n small = omega (arith, mul-le (count_at counts p) (product_at counts places) n (n ^ length places) (small p) (product_at-size counts places n small), pow-suc n (length places))

pub factor_most-low : (n : ℕ) (form : Form) → 1 ≤ n → 1 ≤ factor_most n form
factor_most-low n Plain h = omega arith
factor_most-low n (Binary i j v) h = one-le-pow v n h
factor_most-low n (Ternary m o i j) h = omega arith

product_of-snoc : (xs : List ℕ) (x : ℕ) → product_of (xs ++ x ∷ []) ≡ product_of xs * x
product_of-snoc [] x = omega arith
product_of-snoc (y ∷ xs) x = omega (arith, ap (λ (z : ℕ). y * z) (product_of-snoc xs x))

pub product_at-take : (counts places : List ℕ) (i : ℕ) → i < length places → product_at counts (take i places) * slice_index counts (slice_index places i) ≡ product_at counts (take (i + 1) places)
product_at-take counts [] i lt = absurd (omega arith)
product_at-take counts (p ∷ places) zero lt = omega arith
product_at-take counts (p ∷ places) (suc i) lt =
    let e : suc i + 1 ≡ suc (i + 1) = omega arith in
    rw e (omega (arith, ap (λ (z : ℕ). count_at counts p * z) (product_at-take counts places i (omega arith))))

pub product_at-front : (most : ℕ) (counts places : List ℕ) (i : ℕ) → HasProduct most counts places → product_at counts (take i places) ≤ most
product_at-front most counts places i has =
    let len : length (take i places) ≤ length places = omega (arith, length-take i places) in
    let below = product_at-size counts (take i places) has.n has.small in
    let up : has.n ^ length (take i places) ≤ has.n ^ length places = pow-le-pow_right {n = has.n} has.some {i = length (take i places)} {j = length places} len in
    omega (arith, below, up, has.room)

pub product_at-room : (most : ℕ) (counts places : List ℕ) (i : ℕ) → HasProduct most counts places → i < length places → product_at counts (take i places) * slice_index counts (slice_index places i) ≤ most
product_at-room most counts places i has lt = omega (arith, product_at-take counts places i lt, product_at-front most counts places (i + 1) has)

pub ruleset products = (product_at-take)

-- the sizes of the factor, and of the products with it
pub record AreFactors (n : ℕ) (form : Form) (low high : List ℕ) : Type 0 where
  pub value : unsigned_abs (factor_at form low) ≤ factor_most n form
  pub least : unsigned_abs (least_factor_at form low high) ≤ factor_most n form
  pub greatest : unsigned_abs (greatest_factor_at form low high) ≤ factor_most n form

-- a ternary form is of this lattice
abbrev pub IsFormOf : ℕ → Form → Type 0
IsFormOf n Plain = Unit {0}
IsFormOf n (Binary i j v) = Unit {0}
IsFormOf n (Ternary m o i j) = m ≡ n

pub factors_size : (n : ℕ) (form : Form) (low high : List ℕ) → IsFormOf n form → ((k : ℕ) → count_at low k ≤ n) → ((k : ℕ) → count_at high k ≤ n) → AreFactors n form low high
factors_size n Plain low high m a b = record { value = omega (arith, ints); least = omega (arith, ints); greatest = omega (arith, ints) }
factors_size n (Binary i j v) low high m a b =
    let x : unsigned_abs (pos (count_at low i) -ℤ pos (count_at low j)) ≤ n = omega (arith, ints, a i, a j) in
    let y : unsigned_abs (pos (count_at low i) -ℤ pos (count_at high j)) ≤ n = omega (arith, ints, a i, b j) in
    let z : unsigned_abs (pos (count_at high i) -ℤ pos (count_at low j)) ≤ n = omega (arith, ints, b i, a j) in
    let ends = ends_size (pos (count_at low i) -ℤ pos (count_at high j)) (pos (count_at high i) -ℤ pos (count_at low j)) n v y z in
    record { value = power_size (pos (count_at low i) -ℤ pos (count_at low j)) n v x; least = ends.0; greatest = ends.1 }
factors_size n (Ternary m o i j) low high e a b = record {
  value = omega (arith, ints, e, a o, a i, a j);
  least = omega (arith, ints, e, a o, b i, b j);
  greatest = omega (arith, ints, e, b o, a i, a j);
}

pub record AreProducts (n : ℕ) (places : List ℕ) (form : Form) (low high : List ℕ) : Type 0 where
  pub value : product_at low places * unsigned_abs (factor_at form low) ≤ n ^ length places * factor_most n form
  pub low_least : product_at low places * unsigned_abs (least_factor_at form low high) ≤ n ^ length places * factor_most n form
  pub high_least : product_at high places * unsigned_abs (least_factor_at form low high) ≤ n ^ length places * factor_most n form
  pub low_greatest : product_at low places * unsigned_abs (greatest_factor_at form low high) ≤ n ^ length places * factor_most n form
  pub high_greatest : product_at high places * unsigned_abs (greatest_factor_at form low high) ≤ n ^ length places * factor_most n form

pub products_size : (n : ℕ) (places : List ℕ) (form : Form) (low high : List ℕ) → IsFormOf n form → ((k : ℕ) → count_at low k ≤ n) → ((k : ℕ) → count_at high k ≤ n) → AreProducts n places form low high
products_size n places form low high m a b =
    let f = factors_size n form low high m a b in
    let l = product_at-size low places n a in
    let h = product_at-size high places n b in
    record {
      value = mul-le _ _ _ _ l f.value;
      low_least = mul-le _ _ _ _ l f.least;
      high_least = mul-le _ _ _ _ h f.least;
      low_greatest = mul-le _ _ _ _ l f.greatest;
      high_greatest = mul-le _ _ _ _ h f.greatest;
    }

-- powers of N
pub power-zero : (n e : ℕ) → e ≡ 0 → 1 ≡ n ^ e
power-zero n e h = rw h (omega (arith, pow-zero n))

pub power-step : (n e : ℕ) → (e ≡ 0 → ⊥) → n ^ (e - 1) * n ≡ n ^ e
power-step n zero h = absurd (h refl)
power-step n (suc e) h = let back : suc e - 1 ≡ e = omega arith in rw back (omega (arith, pow-suc n e))

pub power-less : (n e m : ℕ) → 1 ≤ n → n ^ e ≤ m → n ^ (e - 1) ≤ m
power-less n zero m h r = let back : 0 - 1 ≡ 0 = omega arith in rw back r
power-less n (suc e) m h r = let back : suc e - 1 ≡ e = omega arith in rw back (omega (arith, pow-suc n e, mul-le (n ^ e) 1 (n ^ e) n (omega arith) h))

pub divisor-room : (n e : ℕ) (form : Form) (m : ℕ) → 1 ≤ n → n ^ e * factor_most n form ≤ m → (n ^ e ≤ m) × (factor_most n form ≤ m)
divisor-room n e form m h r =
    (omega (arith, r, mul-le (n ^ e) 1 (n ^ e) (factor_most n form) (omega arith) (factor_most-low n form h)), omega (arith, r, mul-le 1 (factor_most n form) (n ^ e) (factor_most n form) (one-le-pow e n h) (omega arith)))

pub divisor-low : (n e : ℕ) (form : Form) → 1 ≤ n → 1 ≤ n ^ e * factor_most n form
divisor-low n e form h = omega (arith, mul-le 1 1 (n ^ e) (factor_most n form) (one-le-pow e n h) (factor_most-low n form h))

pub ruleset powers = (power-zero, power-step, power-less)
