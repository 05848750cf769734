-- The value where every site is fixed.
use Rattle.std.proofs.Common.{◌≡◌, ℕ, zero, suc, ◌+◌, ◌*◌, ◌^◌, ◌<◌, ◌≤◌, List, [], ◌∷◌, ◌++◌, length, refl, arith, ap, sym, ◌∙◌, Bool, true, false, inl, inr}
use Rattle.std.specs.Prelude.{FitsSigned, ℤ, pos, negsuc, ◌+ℤ◌, ◌-ℤ◌, ◌*ℤ◌, ◌≤ℤ◌, unsigned_abs, nat_eq, if◌then◌else◌, ◌≢◌, ◌⊎◌}
use Rattle.std.specs.Int.{int_div_euclid, w128}
use Rattle.std.specs.List.{AllByRecursion}
use Rattle.std.proofs.lemmas.Bool.{eq-eqb, ne_eqb}
use Rattle.std.proofs.lemmas.Int.{ints, to_z-of_z, unsigned_abs-mul, fits_signed_from_abs}
use Rattle.std.proofs.lemmas.Nat.{mul-le}
use Rattle.std.proofs.Math.Nat.{mul-le-mul_left, pow-suc, pow-zero}
use Rattle.cal_math.specs.Whole.{*ℤ--ℤ, abs-*ℤ-le}
use Rattle.cef_minor.specs.declared.form.Form.{Form}
use Rattle.cef_minor.specs.declared.form.Form.TheVariants.{Plain, Difference, Weighted}
use Rattle.cef_minor.specs.declared.frame.Frame.{Frame}
use Rattle.cef_minor.specs.Kept.{IsArray, IsFormIn, IsFrame, factor_at, factor_most, factor_parts}
use Rattle.cef_minor.specs.Planes.{are_fixed}
use Rattle.cef_minor.specs.Products.{product_at, products_of, q_of, value_of}
use Rattle.cef_minor.proofs.Steps.{floor_size}

pub fixed_first : (low high : ℕ → ℕ) (site : ℕ) (sites later : List ℕ) → sites ≡ site ∷ later → low site ≡ high site → are_fixed low high later ≡ are_fixed low high sites
fixed_first low high site sites later e h = rw (e, eq-eqb (low site) (high site) h) refl

pub fixed_not : (low high : ℕ → ℕ) (site : ℕ) (sites later : List ℕ) → sites ≡ site ∷ later → low site ≢ high site → false ≡ are_fixed low high sites
fixed_not low high site sites later e h = rw (e, ne_eqb (low site) (high site) h) refl

pub ruleset fixed_rules = (fixed_first, fixed_not)

pub ruleset difference_rules = (to_z-of_z)

pub ruleset factor_rules = (to_z-of_z)

-- The products of a form add to the product of the counts times the factor.
pub product-append : (count : ℕ → ℕ) (a b : List ℕ) → product_at count (a ++ b) ≡ product_at count a * product_at count b
product-append count [] b = omega arith
product-append count (site ∷ a) b = rw (product-append count a b) (grind arith)

pub product_with : (count : ℕ → ℕ) (a : List ℕ) (site : ℕ) → product_at count (a ++ site ∷ []) ≡ product_at count a * count site
product_with count a site = product-append count a (site ∷ []) ∙ ap (λ n. product_at count a * n) (omega arith)

pub q_is : (n : ℕ) (count : ℕ → ℕ) (form : Form) (all : List ℕ) → q_of count (products_of n form all) ≡ pos (product_at count all) *ℤ factor_at n count form
q_is n count Plain all = plain_is (product_at count all)
  where
    plain_is : (k : ℕ) → pos 1 *ℤ pos k +ℤ pos 0 ≡ pos k *ℤ pos 1
    plain_is k = omega (arith, ints)
q_is n count (Difference i j) all =
    let k : ℕ = product_at count all in
    omega (arith, ints, ap (λ n. pos n) (product_with count all i), ap (λ n. pos n) (product_with count all j), *ℤ--ℤ (pos k) (pos (count i)) (pos (count j)))
q_is n count (Weighted o i j k) all =
    let m : ℕ = product_at count all in
    omega (
      arith,
      ints,
      ap (λ x. pos x) (product_with count all o),
      ap (λ x. pos x) (product_with count all i),
      ap (λ x. pos x) (product_with count all j),
      ap (λ x. pos x) (product_with count all k),
      *ℤ--ℤ (pos m) (pos (3 * count o + n)) (pos (count i + count j + count k)),
      first m (count o) n,
      second m (count i) (count j) (count k),
    )
  where
    first : (m o n : ℕ) → m * (3 * o + n) ≡ 3 * (m * o) + n * m
    first m o n = grind arith

    second : (m i j k : ℕ) → m * (i + j + k) ≡ m * i + m * j + m * k
    second m i j k = grind arith

-- the size of the factor at counts up to n
pub factor_size : (n sites : ℕ) (count : ℕ → ℕ) (form : Form) → ((i : ℕ) → count i ≤ n) → IsFormIn sites form → unsigned_abs (factor_at n count form) ≤ factor_most n form
factor_size n sites count Plain small h = omega arith
factor_size n sites count (Difference i j) small h = difference_size (count i) (count j) n (small i) (small j)
  where
    difference_size : (a b n : ℕ) → a ≤ n → b ≤ n → unsigned_abs (pos a -ℤ pos b) ≤ n
    difference_size a b n h k = omega (arith, ints)
factor_size n sites count (Weighted o i j k) small h = by h.3
  where
    three_size : (o i j k n : ℕ) → i ≤ n → j ≤ n → k ≤ n → (o ≡ i) ⊎ (o ≡ j) ⊎ (o ≡ k) → unsigned_abs (pos (3 * o + n) -ℤ pos (i + j + k)) ≤ 3 * n
    three_size o i j k n p q r (inl e) = omega (arith, ints)
    three_size o i j k n p q r (inr (inl e)) = omega (arith, ints)
    three_size o i j k n p q r (inr (inr e)) = omega (arith, ints)

    same_count : (a b : ℕ) → a ≡ b → count a ≡ count b
    same_count a b e = ap count e

    by : (o ≡ i) ⊎ (o ≡ j) ⊎ (o ≡ k) → unsigned_abs (pos (3 * count o + n) -ℤ pos (count i + count j + count k)) ≤ 3 * n
    by (inl e) = three_size (count o) (count i) (count j) (count k) n (small i) (small j) (small k) (inl (same_count o i e))
    by (inr (inl e)) = three_size (count o) (count i) (count j) (count k) n (small i) (small j) (small k) (inr (inl (same_count o j e)))
    by (inr (inr e)) = three_size (count o) (count i) (count j) (count k) n (small i) (small j) (small k) (inr (inr (same_count o k e)))

pub product_size : (n : ℕ) (count : ℕ → ℕ) (sites : List ℕ) → ((i : ℕ) → count i ≤ n) → product_at count sites ≤ n ^ length sites
product_size n count [] small = omega (arith, pow-zero n)
product_size n count (site ∷ sites) small = omega (arith, mul-le (count site) (product_at count sites) n (n ^ length sites) (small site) (product_size n count sites small), pow-suc n (length sites))

-- q is at most the divisor
pub q_size : (n sites : ℕ) (count : ℕ → ℕ) (form : Form) (all : List ℕ) → ((i : ℕ) → count i ≤ n) → IsFormIn sites form → unsigned_abs (pos (product_at count all) *ℤ factor_at n count form) ≤ n ^ length all * factor_most n form
q_size n sites count form all small h =
    abs-*ℤ-le (pos (product_at count all)) (factor_at n count form) (n ^ length all) (factor_most n form) (product_size n count all small) (factor_size n sites count form small h)

pub ruleset level_rules = (to_z-of_z)

pub small_fits : (x : ℤ) → unsigned_abs x ≤ 3 * 2 ^ 125 → FitsSigned w128 x
small_fits x h = fits_signed_from_abs w128 x (omega (arith, h))

pub micro_q_fits : (micro q : ℤ) (den : ℕ) → unsigned_abs micro ≤ 2 ^ 55 → unsigned_abs q ≤ den → den ≤ 3 * 2 ^ 70 → FitsSigned w128 (micro *ℤ q)
micro_q_fits micro q den m h k = small_fits (micro *ℤ q) (omega (arith, abs-*ℤ-le micro q (2 ^ 55) (3 * 2 ^ 70) m (omega (arith, h, k))))

-- a value is at most the parameter's number
pub value_size : (micro q : ℤ) (den : ℕ) → 1 ≤ den → unsigned_abs q ≤ den → unsigned_abs (value_of micro den q) ≤ unsigned_abs micro
value_size micro q den p h = floor_size (micro *ℤ q) (unsigned_abs micro) den p (rw (unsigned_abs-mul micro q) (mul-le-mul_left (unsigned_abs micro) h))

pub value_fits : (micro q x : ℤ) (den : ℕ) → x ≡ value_of micro den q → 1 ≤ den → unsigned_abs micro ≤ 2 ^ 55 → unsigned_abs q ≤ den → FitsSigned w128 (pos 65536 *ℤ x)
value_fits micro q x den e p m h =
    let small : unsigned_abs x ≤ 2 ^ 55 = omega (arith, ap unsigned_abs e, value_size micro q den p h, m) in
    small_fits (pos 65536 *ℤ x) (omega (arith, abs-*ℤ-le (pos 65536) x 65536 (2 ^ 55) (omega arith) small))

pub array_power : (frame : Frame) (sites : ℕ) (form : Form) (all : List ℕ) → IsArray frame sites form all → frame.parts ^ length all ≤ 2 ^ 70
array_power frame sites Plain all a = omega (arith, a.power)
array_power frame sites (Difference i j) all a = omega (arith, a.power, mul-le-mul_left (frame.parts ^ length all) a.frame_keeps.some)
array_power frame sites (Weighted o i j k) all a = omega (arith, a.power, mul-le-mul_left (frame.parts ^ length all) a.frame_keeps.some)

-- a factor times the product of the counts
pub factor_room : (factor : ℤ) (product power most den : ℕ) → product ≤ power → unsigned_abs factor ≤ most → den ≡ power * most → den ≤ 3 * 2 ^ 70 → unsigned_abs factor * product ≤ 3 * 2 ^ 125
factor_room factor product power most den h k e d = omega (arith, mul-le (unsigned_abs factor) product most power k h, turned most power, e, d)
  where
    turned : (a b : ℕ) → a * b ≡ b * a
    turned a b = grind arith
