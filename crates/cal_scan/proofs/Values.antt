-- The value of digits: what a digit adds to it, how great it is, and its cap.
use Rattle.std.proofs.Common.{◌≡◌, ℕ, suc, ◌+◌, ◌-◌, ◌*◌, ◌^◌, ◌≤◌, ◌<◌, ◌⊎◌, inl, inr, true, List, [], ◌∷◌, length, get_or, drop, min, refl, sym, ap, ◌∙◌, arith}
use Rattle.std.specs.List.{list_all}
use Rattle.std.proofs.Math.Nat.{pow-suc, mul_comm, mul_assoc, mul-add, pow-le-pow_right, le-mul_of_pos_right, mul-le-mul}
use Rattle.std.proofs.lemmas.List.{at_drop_more, at_drop_all}
use Rattle.std.proofs.lemmas.List.Folds.{list_all_at}
use Rattle.std.proofs.lemmas.Bool.{and_parts, ltb-true, true_from_ne_false, true≢false}
use Rattle.cal_scan.specs.Bytes.{is_digit}
use Rattle.cal_scan.specs.Numbers.{digits_value, is_whole}

-- ---- a digit more

pub digit_range : (d : ℕ) → is_digit d ≡ true → (48 ≤ d) × (d ≤ 57)
digit_range d on =
    let low : 47 < d = ltb-true 47 d ((and_parts _ _ on).0) in
    let high : d < 58 = ltb-true d 58 ((and_parts _ _ on).1) in
    (omega (arith, low), omega (arith, high))

pub digit_at : (ds : List ℕ) (i : ℕ) → list_all is_digit ds ≡ true → i < length ds → (48 ≤ get_or ds i 0) × (get_or ds i 0 ≤ 57)
digit_at ds i all lt = digit_range (get_or ds i 0) (true_from_ne_false (is_digit (get_or ds i 0)) (λ off. true≢false (sym all ∙ list_all_at is_digit ds i 0 lt off)))

pub tenfold : (v e p : ℕ) → (v * 10 + e) * p ≡ v * (p * 10) + e * p
tenfold v e p =
    mul_comm (v * 10 + e) p
    ∙ mul-add p (v * 10) e
    ∙ ap (λ (n : ℕ). n + p * e) (mul_comm p (v * 10) ∙ mul_assoc v 10 p ∙ ap (λ (n : ℕ). v * n) (mul_comm 10 p))
    ∙ ap (λ (n : ℕ). v * (p * 10) + n) (mul_comm p e)

-- what is read so far, v, and the digits that are left make the value
pub value_on : (v i : ℕ) (ds : List ℕ) (total : ℕ) → i < length ds → v * 10 ^ length (drop i ds) + digits_value (drop i ds) ≡ total
    → (v * 10 + (get_or ds i 0 - 48)) * 10 ^ length (drop (i + 1) ds) + digits_value (drop (i + 1) ds) ≡ total
unfolding digits_value
value_on v i ds total lt so_far =
    let p : ℕ = 10 ^ length (drop (i + 1) ds) in
    let e : ℕ = get_or ds i 0 - 48 in
    let r : ℕ = digits_value (drop (i + 1) ds) in
    let opened : v * 10 ^ length (drop i ds) + digits_value (drop i ds) ≡ v * 10 ^ suc (length (drop (i + 1) ds)) + (e * p + r) = at_drop_more (λ (xs : List ℕ). v * 10 ^ length xs + digits_value xs) ds i 0 lt in
    let power : v * 10 ^ suc (length (drop (i + 1) ds)) ≡ v * (p * 10) = ap (λ (n : ℕ). v * n) (pow-suc 10 (length (drop (i + 1) ds))) in
    omega (arith, so_far, opened, power, tenfold v e p)

pub value_end : (v i : ℕ) (ds : List ℕ) (total : ℕ) → length ds ≤ i → v * 10 ^ length (drop i ds) + digits_value (drop i ds) ≡ total → v ≡ total
unfolding digits_value
value_end v i ds total le so_far =
    let ended : v * 10 ^ length (drop i ds) + digits_value (drop i ds) ≡ v * 1 + 0 = at_drop_all (λ (xs : List ℕ). v * 10 ^ length xs + digits_value xs) ds i le in
    omega (arith, so_far, ended)

-- ---- how great it is

pub value_below : (ds : List ℕ) → list_all is_digit ds ≡ true → digits_value ds < 10 ^ length ds
unfolding digits_value
value_below [] all = omega arith
value_below (d ∷ ds) all =
    let p = and_parts (is_digit d) (list_all is_digit ds) all in
    let digit : d - 48 ≤ 9 = omega (arith, (digit_range d p.0).1) in
    let front : (d - 48) * 10 ^ length ds ≤ 9 * 10 ^ length ds = mul-le-mul digit (omega arith) in
    omega (arith, front, pow-suc 10 (length ds), value_below ds p.1)

pub whole_below : (most : ℕ) (text : List ℕ) → is_whole most text ≡ true → digits_value text < 10 ^ most
whole_below most [] on = absurd (true≢false (sym on))
whole_below most (d ∷ ds) on =
    let p = and_parts _ _ on in
    let few : suc (length ds) < most + 1 = ltb-true (suc (length ds)) (most + 1) p.0 in
    let power : 10 ^ suc (length ds) ≤ 10 ^ most = pow-le-pow_right (omega arith) (omega (arith, few)) in
    omega (arith, power, value_below (d ∷ ds) p.1)

-- ---- its cap

either : (a b : ℕ) → (a ≤ b) ⊎ (b ≤ a)
either a b = grind arith

above : (a p r : ℕ) → 1 ≤ p → a ≤ a * p + r
above a p r one = omega (arith, le-mul_of_pos_right {m = p} a (omega arith))

-- what is above the cap stays above it
pub capped_through : (cap a p r : ℕ) → 1 ≤ p → min cap (min cap a * p + r) ≡ min cap (a * p + r)
capped_through cap a p r one = elim (either a cap) [
  | inl le ↦ let same : min cap a ≡ a = omega (arith, le) in ap (λ (n : ℕ). min cap (n * p + r)) same
  | inr ge ↦
      let same : min cap a ≡ cap = omega (arith, ge) in
      let moved : min cap a * p + r ≡ cap * p + r = ap (λ (n : ℕ). n * p + r) same in
      omega (arith, ge, moved, above cap p r one, above a p r one)
]

pub one_below : (n : ℕ) → 1 ≤ 10 ^ n
one_below n =
    let zero : 0 ≤ n = omega arith in
    let power : 10 ^ 0 ≤ 10 ^ n = pow-le-pow_right (omega arith) zero in
    omega (arith, power)

-- what is read so far, v, and the digits that are left make the total, up to the cap
pub record Grows (cap v : ℕ) (rest : List ℕ) (total : ℕ) : Type 0 where
  pub bound : v ≤ cap
  pub makes : min cap (v * 10 ^ length rest + digits_value rest) ≡ min cap total

pub grows_start : (cap : ℕ) (ds : List ℕ) → Grows cap 0 ds (digits_value ds)
grows_start cap ds = let none : 0 * 10 ^ length ds + digits_value ds ≡ digits_value ds = omega (arith, mul_comm 0 (10 ^ length ds)) in record { bound = omega arith; makes = ap (min cap) none }

pub grows_on : (cap v next i : ℕ) (ds : List ℕ) (total : ℕ) → i < length ds → next ≡ min cap (v * 10 + (get_or ds i 0 - 48)) → Grows cap v (drop i ds) total → Grows cap next (drop (i + 1) ds) total
grows_on cap v next i ds total lt is h =
    let e : ℕ = get_or ds i 0 - 48 in
    let r : ℕ = digits_value (drop (i + 1) ds) in
    let on : (v * 10 + e) * 10 ^ length (drop (i + 1) ds) + r ≡ v * 10 ^ length (drop i ds) + digits_value (drop i ds) = value_on v i ds _ lt refl in
    record {
      bound = omega (arith, is);
      makes = ap (λ (n : ℕ). min cap (n * 10 ^ length (drop (i + 1) ds) + r)) is ∙ capped_through cap (v * 10 + e) (10 ^ length (drop (i + 1) ds)) r (one_below (length (drop (i + 1) ds))) ∙ ap (min cap) on ∙ h.makes;
    }

pub grows_end : (cap v i : ℕ) (ds : List ℕ) (total : ℕ) → length ds ≤ i → Grows cap v (drop i ds) total → v ≡ min cap total
grows_end cap v i ds total le h =
    let ended : v ≡ v * 10 ^ length (drop i ds) + digits_value (drop i ds) = value_end v i ds _ le refl in
    let whole : min cap v ≡ min cap total = ap (min cap) ended ∙ h.makes in
    omega (arith, whole, h.bound)

-- a whole number of at most nine digits stays below a cap of 10^9
pub uncapped : (most v : ℕ) (text : List ℕ) → most ≤ 9 → is_whole most text ≡ true → v ≡ min 1000000000 (digits_value text) → v ≡ digits_value text
uncapped most v text few on is =
    let power : 10 ^ most ≤ 10 ^ 9 = pow-le-pow_right (omega arith) few in
    omega (arith, is, power, whole_below most text on)
