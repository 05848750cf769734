-- The comparison of two ratios by whole parts and rests.
use Rattle.std.proofs.Common.{◌≡◌, ℕ, ◌+◌, ◌*◌, ◌/◌, ◌%◌, ◌<◌, arith, ap, sym, ◌∙◌}
use Rattle.std.proofs.lemmas.Nat.{div-add-mod', mod_below, mul-lt}
use Rattle.std.proofs.Math.Nat.{mul-le-mul_right}
use Rattle.std.specs.declared.cmp.Ordering.{Ordering}
use Rattle.std.proofs.Common.{Less, Equal, Greater}
use Rattle.cal_whole.specs.Ratios.{IsOrdered, IsOrderedSigned}
use Rattle.std.specs.Prelude.{ℤ, pos, negsuc, ◌+ℤ◌, ◌-ℤ◌, ◌*ℤ◌, ◌≤ℤ◌, ◌<ℤ◌}
use Rattle.std.specs.Int.{int_div_euclid, int_rem_euclid}
use Rattle.std.proofs.lemmas.Int.{ints}
use Rattle.cal_math.specs.Whole.{floor-le, lt-floor, *ℤ-≤, *ℤ-+ℤ, *ℤ_comm, *ℤ_left}

whole_less : (a b c d p q r s : ℕ) → a ≡ p * b + r → r < b → c ≡ q * d + s → 0 < d → p < q → a * d < c * b
whole_less a b c d p q r s e lt f some less =
    omega (arith, ap (λ (v : ℕ). v * d) e, ap (λ (v : ℕ). v * b) f, mul-le-mul_right (b * d) less, mul-le-mul_right d lt)

pub less_from_whole : (a b c d : ℕ) → 0 < b → 0 < d → a / b < c / d → a * d < c * b
less_from_whole a b c d p q h = whole_less a b c d (a / b) (c / d) (a % b) (c % d) (sym (div-add-mod' a b)) (mod_below a b p) (sym (div-add-mod' c d)) q h

-- with equal whole parts both products are one number more than those of the rests
pub rests : (a b c d : ℕ) → a / b ≡ c / d → (a * d ≡ a / b * b * d + a % b * d) × (c * b ≡ a / b * b * d + c % d * b)
rests a b c d h =
    (omega (arith, ap (λ (v : ℕ). v * d) (div-add-mod' a b)), omega (arith, ap (λ (v : ℕ). v * b) (div-add-mod' c d), ap (λ (v : ℕ). v * d * b) h))

pub rest_some : (r d : ℕ) → 0 < r → 0 < d → 0 < r * d
rest_some r d p q = omega (arith, mul-lt 0 0 r d p q)

pub IsOrdered-moved : (o : Ordering) (x y v w k : ℕ) → v ≡ k + x → w ≡ k + y → IsOrdered o x y → IsOrdered o v w
IsOrdered-moved Less x y v w k e f h = omega (arith, h)
IsOrdered-moved Equal x y v w k e f h = omega (arith, h)
IsOrdered-moved Greater x y v w k e f h = omega (arith, h)

-- ---- of whole numbers

pub rest_is : (a d : ℤ) → pos 1 ≤ℤ d → int_rem_euclid a d ≡ a -ℤ d *ℤ int_div_euclid a d
rest_is (pos a) (pos d) h = omega (arith, ints, div-add-mod' a d)
rest_is (negsuc a) (pos d) h = omega (arith, ints, div-add-mod' a d, mod_below a d (omega (arith, ints)))
rest_is a (negsuc d) h = absurd (omega (arith, ints))

pub whole_less_from_floor : (a b c d : ℤ) → pos 1 ≤ℤ b → pos 1 ≤ℤ d → int_div_euclid a b <ℤ int_div_euclid c d → (a *ℤ d) <ℤ (c *ℤ b)
whole_less_from_floor a b c d p q h =
    let f : ℤ = int_div_euclid a b in
    let g : ℤ = int_div_euclid c d in
    let high : (a +ℤ pos 1) ≤ℤ (b *ℤ g) = omega (arith, ints, lt-floor a b p, *ℤ-≤ b (f +ℤ pos 1) g (omega (arith, ints)) (omega (arith, ints, h)), *ℤ-+ℤ b f (pos 1)) in
    let low : (d *ℤ g) ≤ℤ c = floor-le c d q in
    omega (arith, ints, *ℤ-≤ d (a +ℤ pos 1) (b *ℤ g) (omega (arith, ints)) high, *ℤ-+ℤ d a (pos 1), *ℤ_comm d a, *ℤ-≤ b (d *ℤ g) c (omega (arith, ints)) low, *ℤ_comm b c, *ℤ_left d b g)

pub IsOrderedSigned-moved : (o : Ordering) (x y : ℕ) (v w k : ℤ) → v ≡ k +ℤ pos x → w ≡ k +ℤ pos y → IsOrdered o x y → IsOrderedSigned o v w
IsOrderedSigned-moved Less x y v w k e f h = omega (arith, ints, h)
IsOrderedSigned-moved Equal x y v w k e f h = omega (arith, ints, h)
IsOrderedSigned-moved Greater x y v w k e f h = omega (arith, ints, h)

pub whole_rests : (a b c d : ℤ) (r s m n : ℕ) → b ≡ pos m → d ≡ pos n → int_div_euclid a b ≡ int_div_euclid c d → pos r ≡ a -ℤ b *ℤ int_div_euclid a b → pos s ≡ c -ℤ d *ℤ int_div_euclid c d →
    (a *ℤ d ≡ (b *ℤ int_div_euclid a b) *ℤ d +ℤ pos (r * n)) × (c *ℤ b ≡ (b *ℤ int_div_euclid a b) *ℤ d +ℤ pos (s * m))
whole_rests a b c d r s m n b_is d_is same r_is s_is =
    let f : ℤ = int_div_euclid a b in
    let a_is : a ≡ b *ℤ f +ℤ pos r = omega (arith, ints, r_is) in
    let c_is : c ≡ d *ℤ f +ℤ pos s = omega (arith, ints, s_is, ap (λ (z : ℤ). d *ℤ z) same) in
    let rn : pos r *ℤ d ≡ pos (r * n) = ap (λ (z : ℤ). pos r *ℤ z) d_is ∙ omega (arith, ints) in
    let sm : pos s *ℤ b ≡ pos (s * m) = ap (λ (z : ℤ). pos s *ℤ z) b_is ∙ omega (arith, ints) in (
      ap (λ (z : ℤ). z *ℤ d) a_is ∙ *ℤ_comm (b *ℤ f +ℤ pos r) d ∙ *ℤ-+ℤ d (b *ℤ f) (pos r) ∙ omega (arith, ints, *ℤ_comm d (b *ℤ f), *ℤ_comm d (pos r), rn),
      ap (λ (z : ℤ). z *ℤ b) c_is ∙ *ℤ_comm (d *ℤ f +ℤ pos s) b ∙ *ℤ-+ℤ b (d *ℤ f) (pos s) ∙ omega (arith, ints, *ℤ_left b d f, *ℤ_comm d (b *ℤ f), *ℤ_comm b (pos s), sm),
    )
