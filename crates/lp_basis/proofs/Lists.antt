-- Lists that grow by one number, products of rows that fit.
use Rattle.std.proofs.Common.{◌≡◌, ℕ, zero, suc, ◌+◌, ◌*◌, ◌<◌, ◌≤◌, List, [], ◌∷◌, ◌++◌, length, get_or, refl, arith, sym, subst, inl, inr}
use Rattle.std.specs.Prelude.{ℤ, ◌-ℤ◌, ◌*ℤ◌, unsigned_abs, FitsSigned}
use Rattle.std.specs.Int.{w128, ◌∣◌}
use Rattle.std.proofs.lemmas.Int.{ints, fits_signed_from_abs}
use Rattle.std.proofs.lemmas.Nat.Gcd.{dvd_trans}
use Rattle.std.proofs.lemmas.Bool.{cases_eq}
use Rattle.cal_math.specs.Whole.{abs-*ℤ-le}
use Rattle.cal_math.specs.Vectors.{at}
use Rattle.lp_basis.specs.Rows.{FitsMixed}

pub at_front : (xs : List ℤ) (y : ℤ) (c : ℕ) → c < length xs → at (xs ++ y ∷ []) c ≡ at xs c
at_front [] y c lt = absurd (omega arith)
at_front (x ∷ xs) y zero lt = refl
at_front (x ∷ xs) y (suc c) lt = at_front xs y c (omega arith)

pub at_end : (xs : List ℤ) (y : ℤ) → at (xs ++ y ∷ []) (length xs) ≡ y
at_end [] y = refl
at_end (x ∷ xs) y = at_end xs y

-- what holds of each number of a list, and of one more
pub each_pushed : (P : ℕ → ℤ → Type 0) (xs zs : List ℤ) (y : ℤ) (i : ℕ) → length xs ≡ i → zs ≡ xs ++ y ∷ [] → ((c : ℕ) → c < i → P c (at xs c)) → P i y → (c : ℕ) → c < i + 1 → P c (at zs c)
each_pushed P xs zs y i e is h k c lt =
    rw is (elim (cases_eq c i) [
      | inl same ↦ subst (λ (b : ℕ). P b (at (xs ++ y ∷ []) b)) (sym same) (subst (λ (b : ℕ). P i (at (xs ++ y ∷ []) b)) e (subst (λ (v : ℤ). P i v) (sym (at_end xs y)) k))
      | inr other ↦ subst (λ (v : ℤ). P c v) (sym (at_front xs y c (omega arith))) (h c (omega arith))
    ])

pub mixed_fits : (m r : ℕ) (p : ℤ) (row : List ℤ) (q : ℤ) (other : List ℤ) (c : ℕ) → FitsMixed m r p row q other →
    FitsSigned w128 (p *ℤ at row c) × FitsSigned w128 (q *ℤ at other c) × FitsSigned w128 (p *ℤ at row c -ℤ q *ℤ at other c)
mixed_fits m r p row q other c fits =
    let first : unsigned_abs (p *ℤ at row c) ≤ r * m = abs-*ℤ-le p (at row c) r m fits.p_small (fits.row_small c) in
    let second : unsigned_abs (q *ℤ at other c) ≤ r * m = abs-*ℤ-le q (at other c) r m fits.q_small (fits.other_small c) in
    let both : unsigned_abs (p *ℤ at row c -ℤ q *ℤ at other c) ≤ r * m + r * m = omega (arith, ints, first, second) in
    (fits_signed_from_abs w128 _ (omega (arith, first, fits.room)), fits_signed_from_abs w128 _ (omega (arith, second, fits.room)), fits_signed_from_abs w128 _ (omega (arith, both, fits.room)))

pub divides_more : (xs : List ℤ) (g h s : ℕ) (i : ℕ) → s ≡ unsigned_abs (at xs i) → h ∣ g → h ∣ s → ((c : ℕ) → c < i → g ∣ unsigned_abs (at xs c)) → (c : ℕ) → c < i + 1 → h ∣ unsigned_abs (at xs c)
divides_more xs g h s i e p q all c lt =
    elim (cases_eq c i) [
      | inl same ↦ subst (λ (b : ℕ). h ∣ unsigned_abs (at xs b)) (sym same) (subst (λ (v : ℕ). h ∣ v) e q)
      | inr other ↦ dvd_trans h p (all c (omega arith))
    ]

-- what holds of each element of a list, and of one more
front_of : {X : Type 0} (xs : List X) (y d : X) (k : ℕ) → k < length xs → get_or (xs ++ y ∷ []) k d ≡ get_or xs k d
front_of [] y d k lt = absurd (omega arith)
front_of (x ∷ xs) y d zero lt = refl
front_of (x ∷ xs) y d (suc k) lt = front_of xs y d k (omega arith)

end_of : {X : Type 0} (xs : List X) (y d : X) → get_or (xs ++ y ∷ []) (length xs) d ≡ y
end_of [] y d = refl
end_of (x ∷ xs) y d = end_of xs y d

pub each_of : {X : Type 0} (P : ℕ → X → Type 0) (xs zs : List X) (y : X) (i : ℕ) → length xs ≡ i → zs ≡ xs ++ y ∷ [] → ((k : ℕ) (d : X) → k < i → P k (get_or xs k d)) → P i y → (k : ℕ) (d : X) → k < i + 1 → P k (get_or zs k d)
each_of P xs zs y i e is h here k d lt =
    rw is (elim (cases_eq k i) [
      | inl same ↦ subst (λ (b : ℕ). P b (get_or (xs ++ y ∷ []) b d)) (sym same) (subst (λ (b : ℕ). P i (get_or (xs ++ y ∷ []) b d)) e (subst (P i) (sym (end_of xs y d)) here))
      | inr other ↦ subst (P k) (sym (front_of xs y d k (omega arith))) (h k d (omega arith))
    ])
