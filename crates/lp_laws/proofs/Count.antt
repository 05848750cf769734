-- At most as many vectors are apart as the box of a basis has places.
use Rattle.std.proofs.Common.{◌≡◌, ℕ, zero, suc, ◌<◌, ◌≤◌, ◌≢◌, arith, ap, ◌∙◌, subst}
use Rattle.std.specs.Prelude.{ℤ, pos, negsuc, ◌+ℤ◌, ◌-ℤ◌, ◌*ℤ◌, ◌≤ℤ◌, ◌<ℤ◌, unsigned_abs}
use Rattle.std.proofs.lemmas.Int.{ints}
use Rattle.cal_math.specs.Whole.{*ℤ-+ℤ, *ℤ--ℤ, *ℤ-≤}
use Rattle.lp_laws.proofs.Pigeon.{product_of, count_digits}
use Rattle.cal_math.specs.Vectors.{dot}
use Rattle.cal_math.proofs.Vectors.{dot_one, dot-sub, dot-scale}
use Rattle.lp_laws.proofs.Fraction.{IsFraction, fraction, whole_part, dot-fraction, IsFraction-fraction}
use Rattle.lp_laws.specs.Bases.{IsBasis}

-- each vector with factors from 0 to below 1 lies, at the components that `kept` names, in a box of these lengths
unfoldable pub IsBox : (n m : ℕ) (rows : ℕ → ℕ → ℤ) (own : ℕ → ℤ) (size : ℕ) (kept : ℕ → ℕ) (low : ℕ → ℤ) (lengths : ℕ → ℕ) → Type 0
IsBox n m rows own size kept low lengths =
    (y : ℕ → ℤ) → IsFraction n m rows own y → (c : ℕ) → c < size → (low c ≤ℤ y (kept c)) × ((y (kept c) -ℤ low c) <ℤ pos (lengths c))

digit_below : (z : ℤ) (length : ℕ) → pos 0 ≤ℤ z → z <ℤ pos length → unsigned_abs z < length
digit_below (pos k) length h lt = omega (arith, ints)
digit_below (negsuc k) length h lt = absurd (omega (arith, ints))

same_digit : (y z : ℤ) → pos 0 ≤ℤ y → pos 0 ≤ℤ z → unsigned_abs y ≡ unsigned_abs z → y ≡ z
same_digit y z h k e = omega (arith, ints)

pub count : (n m : ℕ) (columns rows : ℕ → ℕ → ℤ) (own : ℕ → ℤ) → IsBasis n m columns rows own →
    (size : ℕ) (kept : ℕ → ℕ) (low : ℕ → ℤ) (lengths : ℕ → ℕ) → IsBox n m rows own size kept low lengths →
    (number : ℕ) (x : ℕ → ℕ → ℤ) →
    ((h l : ℕ) → h < number → l < number → ((c : ℕ) → c < size → fraction n m columns rows own (x h) (kept c) ≡ fraction n m columns rows own (x l) (kept c)) → h ≡ l) →
    number ≤ product_of size lengths
unfolding IsBox
count n m columns rows own basis size kept low lengths box number x apart =
    count_digits number size lengths (λ h c. unsigned_abs (part h c -ℤ low c))
    (λ h c p q. digit_below (part h c -ℤ low c) (lengths c) (least h c q) (inside h c q).1)
    (λ h l p q same. apart h l p q (λ c less.
    let e : part h c -ℤ low c ≡ part l c -ℤ low c = same_digit (part h c -ℤ low c) (part l c -ℤ low c) (least h c less) (least l c less) (same c less) in
    omega (arith, ints, e)))
  where
    part : ℕ → ℕ → ℤ
    part h c = fraction n m columns rows own (x h) (kept c)

    inside : (h c : ℕ) → c < size → (low c ≤ℤ part h c) × ((part h c -ℤ low c) <ℤ pos (lengths c))
    inside h c lt = box (fraction n m columns rows own (x h)) (IsFraction-fraction n m columns rows own basis (x h)) c lt

    least : (h c : ℕ) → c < size → pos 0 ≤ℤ (part h c -ℤ low c)
    least h c lt = omega (arith, ints, (inside h c lt).0)

-- two numbers from 0 to below d that differ by a multiple of d are one
small_multiple : (h l d : ℕ) (t : ℤ) → h < d → l < d → pos h -ℤ pos l ≡ pos d *ℤ t → h ≡ l
small_multiple h l d (pos zero) p q e = omega (arith, ints)
small_multiple h l d (pos (suc t)) p q e = absurd (omega (arith, ints, *ℤ-≤ (pos d) (pos 1) (pos (suc t)) (omega (arith, ints)) (omega (arith, ints))))
small_multiple h l d (negsuc t) p q e = absurd (omega (arith, ints, *ℤ-≤ (pos d) (negsuc t) (negsuc 0) (omega (arith, ints)) (omega (arith, ints))))

-- the own product of a row that takes the value 1, where its column has a number at component k alone: the other components bound it
pub own-le_unit : (n m : ℕ) (columns rows : ℕ → ℕ → ℤ) (own : ℕ → ℤ) → IsBasis n m columns rows own →
    (size : ℕ) (kept : ℕ → ℕ) (low : ℕ → ℤ) (lengths : ℕ → ℕ) → IsBox n m rows own size kept low lengths →
    (i k d : ℕ) → i < m → k < n → own i ≡ pos d → ((c : ℕ) → c < n → c ≢ k → columns i c ≡ pos 0) → columns i k ≡ pos 1 →
    ((c : ℕ) → c < n → c ≢ k → (b : ℕ) × (b < size) × (kept b ≡ c)) →
    (z : ℕ → ℤ) → dot n (rows i) z ≡ pos 1 → d ≤ product_of size lengths
own-le_unit n m columns rows own basis size kept low lengths box i k d lt within own_is none one covers z value =
    count n m columns rows own basis size kept low lengths box d (λ h c. pos h *ℤ z c) apart
  where
    rest : ℕ → ℕ → ℤ
    rest h = fraction n m columns rows own (λ c. pos h *ℤ z c)

    dot_rest : (h : ℕ) → dot n (rows i) (rest h) ≡ pos h -ℤ pos d *ℤ whole_part n rows own (λ c. pos h *ℤ z c) i
    dot_rest h =
        dot-fraction n m columns rows own basis (λ c. pos h *ℤ z c) i lt
        ∙ omega (arith, ints, dot-scale n (pos h) (rows i) z, ap (λ (v : ℤ). pos h *ℤ v) value, ap (λ (v : ℤ). v *ℤ whole_part n rows own (λ c. pos h *ℤ z c) i) own_is)

    only : (u : ℕ → ℤ) → ((c : ℕ) → c < n → c ≢ k → u c ≡ pos 0) → dot n (rows i) u ≡ rows i k *ℤ u k
    only u h = dot_one n k (rows i) u within h

    at_k : rows i k ≡ pos d
    at_k = omega (arith, ints, only (columns i) none, ap (λ (v : ℤ). rows i k *ℤ v) one, basis.owns i lt, own_is)

    apart : (h l : ℕ) → h < d → l < d → ((c : ℕ) → c < size → rest h (kept c) ≡ rest l (kept c)) → h ≡ l
    apart h l p q same =
        let zeros : (c : ℕ) → c < n → c ≢ k → rest h c -ℤ rest l c ≡ pos 0 = λ c less ne.
        let e : rest h c ≡ rest l c = subst (λ (b : ℕ). rest h b ≡ rest l b) (covers c less ne).2 (same (covers c less ne).0 (covers c less ne).1) in omega (arith, ints, e) in
        let a : ℤ = whole_part n rows own (λ c. pos h *ℤ z c) i in
        let b : ℤ = whole_part n rows own (λ c. pos l *ℤ z c) i in
        let u : ℤ = rest h k -ℤ rest l k in
        let gap : dot n (rows i) (λ c. rest h c -ℤ rest l c) ≡ pos d *ℤ u = only (λ c. rest h c -ℤ rest l c) zeros ∙ ap (λ (v : ℤ). v *ℤ u) at_k in
        small_multiple h l d ((u +ℤ a) -ℤ b) p q
        (omega (arith, ints, gap, dot-sub n (rows i) (rest h) (rest l), dot_rest h, dot_rest l, *ℤ--ℤ (pos d) (u +ℤ a) b, *ℤ-+ℤ (pos d) u a))
