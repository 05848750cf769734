-- The slopes and the parts of several products add up.
use Rattle.std.proofs.Common.{◌≡◌, ℕ, ◌+◌, ◌^◌, ◌<◌, ◌≤◌, List, [], ◌∷◌, ◌++◌, arith, ap, sym, ◌∙◌, to_z, of_z}
use Rattle.std.specs.Prelude.{ℤ, pos, ◌+ℤ◌, ◌-ℤ◌, unsigned_abs, FitsSigned}
use Rattle.std.specs.Int.{w128}
use Rattle.std.proofs.lemmas.Int.{ints, to_z-of_z, fits_signed_from_abs}
use Rattle.cef_minor.specs.Products.{SignedProduct}
use Rattle.cef_minor.specs.Slopes.{SlopeAt, site_slope, slopes_of, slopes_of_product}

-- numbers of at most 103 bits are held, and so are their sums
pub held : (a : ℤ) → unsigned_abs a ≤ 2 ^ 104 → to_z w128 (of_z w128 a) ≡ a
held a h = to_z-of_z w128 a (fits_signed_from_abs w128 a (omega (arith, h)))

pub sum_fits : (a x s : ℤ) → unsigned_abs a ≤ 2 ^ 102 → to_z w128 (of_z w128 x) ≡ s → unsigned_abs s ≤ 2 ^ 103 → FitsSigned w128 (to_z w128 (of_z w128 a) +ℤ to_z w128 (of_z w128 x))
sum_fits a x s h e k =
    let first : to_z w128 (of_z w128 a) ≡ a = held a (omega (arith, h)) in
    rw (first, e) (fits_signed_from_abs w128 (a +ℤ s) (omega (arith, ints, h, k)))

pub sum_held : (a x s : ℤ) → unsigned_abs a ≤ 2 ^ 102 → to_z w128 (of_z w128 x) ≡ s → unsigned_abs s ≤ 2 ^ 103 → to_z w128 (of_z w128 (to_z w128 (of_z w128 a) +ℤ to_z w128 (of_z w128 x))) ≡ a +ℤ s
sum_held a x s h e k =
    let first : to_z w128 (of_z w128 a) ≡ a = held a (omega (arith, h)) in
    rw (first, e) (held (a +ℤ s) (omega (arith, ints, h, k)))

pub slope-append : (a b : List SlopeAt) (i : ℕ) → site_slope (a ++ b) i ≡ site_slope a i +ℤ site_slope b i
slope-append [] b i = omega (arith, ints)
slope-append (s ∷ a) b i = omega (arith, ints, slope-append a b i)

-- the slopes of one product, and then those of others
pub raised_first : (micro : ℤ) (den : ℕ) (low high : ℕ → ℕ) (p : SignedProduct) (products : List SignedProduct) (i : ℕ) (old mid new : ℤ) →
    mid ≡ old +ℤ site_slope (slopes_of_product micro den low high p) i → new ≡ mid +ℤ site_slope (slopes_of micro den low high products) i →
    new ≡ old +ℤ site_slope (slopes_of micro den low high (p ∷ products)) i
raised_first micro den low high p products i old mid new e f =
    omega (arith, ints, e, f, slope-append (slopes_of_product micro den low high p) (slopes_of micro den low high products) i)

pub raised_last : (x : ℤ) → x ≡ x +ℤ pos 0
raised_last x = omega (arith, ints)

pub five_add : (a b d e f v w x y z : ℤ) → a ≡ v → b ≡ w → d ≡ x → e ≡ y → f ≡ z → a +ℤ (b +ℤ (d +ℤ (e +ℤ f))) ≡ v +ℤ (w +ℤ (x +ℤ (y +ℤ (z +ℤ pos 0))))
five_add a b d e f v w x y z p q r s t = rw (p, q, r, s, t) (omega (arith, ints))

pub lowered_fits : (x : ℤ) → unsigned_abs x ≤ 2 ^ 104 → FitsSigned w128 (x -ℤ pos 65536)
lowered_fits x h = fits_signed_from_abs w128 (x -ℤ pos 65536) (omega (arith, ints, h))

pub ruleset lowered_rules = (lowered_fits, to_z-of_z)
