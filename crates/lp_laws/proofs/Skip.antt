-- Places but one, and a function changed at one place.
use Rattle.std.proofs.Common.{◌≡◌, ℕ, zero, suc, ◌<◌, ◌≤◌, ◌≢◌, refl, arith, ap, subst, inl, inr}
use Rattle.std.specs.Prelude.{ℤ, pos, ◌+ℤ◌}
use Rattle.std.specs.Prelude.{◌⊎◌}
use Rattle.std.proofs.lemmas.Int.{ints}
use Rattle.std.proofs.lemmas.Bool.{cases_eq, cases_lt}
use Rattle.cal_math.specs.Vectors.{sum_to}
use Rattle.cal_math.proofs.Vectors.{sum-same}

skipped : (k c : ℕ) → (c < k) ⊎ (k ≤ c) → ℕ
skipped k c (inl lt) = c
skipped k c (inr le) = suc c

-- the c-th of the places other than k
pub skip : ℕ → ℕ → ℕ
skip k c = skipped k c (cases_lt c k)

skipped_before : (k c : ℕ) → c < k → (t : (c < k) ⊎ (k ≤ c)) → skipped k c t ≡ c
unfolding skipped
skipped_before k c h (inl lt) = refl
skipped_before k c h (inr le) = absurd (omega arith)

skipped_after : (k c : ℕ) → k ≤ c → (t : (c < k) ⊎ (k ≤ c)) → skipped k c t ≡ suc c
unfolding skipped
skipped_after k c h (inl lt) = absurd (omega arith)
skipped_after k c h (inr le) = refl

pub skip_before : (k c : ℕ) → c < k → skip k c ≡ c
unfolding skip
skip_before k c h = skipped_before k c h (cases_lt c k)

pub skip_after : (k c : ℕ) → k ≤ c → skip k c ≡ suc c
unfolding skip
skip_after k c h = skipped_after k c h (cases_lt c k)

pub skip_below : (s k c : ℕ) → c < s → skip k c < suc s
skip_below s k c lt = elim (cases_lt c k) [ inl less ↦ omega (arith, skip_before k c less) | inr le ↦ omega (arith, skip_after k c le) ]

pub skip_apart : (k c : ℕ) → skip k c ≢ k
skip_apart k c e = elim (cases_lt c k) [ inl less ↦ omega (arith, skip_before k c less) | inr le ↦ omega (arith, skip_after k c le) ]

pub skip_covers : (s k c : ℕ) → k < suc s → c < suc s → c ≢ k → (b : ℕ) × (b < s) × (skip k b ≡ c)
skip_covers s k c p q ne =
    elim (cases_lt c k) [
      | inl less ↦ (c, omega arith, skip_before k c less)
      | inr le ↦ after c (omega arith) le q
    ]
  where
    after : (c : ℕ) → k < c → k ≤ c → c < suc s → (b : ℕ) × (b < s) × (skip k b ≡ c)
    after zero above le lt = absurd (omega arith)
    after (suc c) above le lt = (c, omega arith, skip_after k c (omega arith))

pub sum_skip : (s k : ℕ) (f : ℕ → ℤ) → k < suc s → sum_to (suc s) f ≡ f k +ℤ sum_to s (λ c. f (skip k c))
sum_skip zero k f lt = let e : 0 ≡ k = omega arith in subst (λ (i : ℕ). sum_to 1 f ≡ f i +ℤ pos 0) e (omega (arith, ints))
sum_skip (suc s) k f lt =
    elim (cases_eq k (suc s)) [
      | inl e ↦ omega (arith, ints, ap f e, sum-same (suc s) (λ c. f (skip k c)) f (λ c less. ap f (skip_before k c (omega arith))))
      | inr ne ↦ omega (arith, ints, sum_skip s k f (omega arith), ap f (skip_after k s (omega arith)))
    ]

-- ---- a function changed at one place

chosen : {A : Type 0} (i : ℕ) (v : A) (f : ℕ → A) (j : ℕ) → (j ≡ i) ⊎ (j ≡ i → ⊥) → A
chosen i v f j (inl e) = v
chosen i v f j (inr ne) = f j

pub put : {A : Type 0} → ℕ → A → (ℕ → A) → ℕ → A
put i v f j = chosen i v f j (cases_eq j i)

chosen_same : {A : Type 0} (i : ℕ) (v : A) (f : ℕ → A) (t : (i ≡ i) ⊎ (i ≡ i → ⊥)) → chosen i v f i t ≡ v
unfolding chosen
chosen_same i v f (inl e) = refl
chosen_same i v f (inr ne) = absurd (ne refl)

chosen_other : {A : Type 0} (i : ℕ) (v : A) (f : ℕ → A) (j : ℕ) → j ≢ i → (t : (j ≡ i) ⊎ (j ≡ i → ⊥)) → chosen i v f j t ≡ f j
unfolding chosen
chosen_other i v f j ne (inl e) = absurd (ne e)
chosen_other i v f j ne (inr other) = refl

pub put_same : {A : Type 0} (i : ℕ) (v : A) (f : ℕ → A) → put i v f i ≡ v
unfolding put
put_same i v f = chosen_same i v f (cases_eq i i)

pub put_other : {A : Type 0} (i : ℕ) (v : A) (f : ℕ → A) (j : ℕ) → j ≢ i → put i v f j ≡ f j
unfolding put
put_other i v f j ne = chosen_other i v f j ne (cases_eq j i)

-- the unit column of component k
pub unit : ℕ → ℕ → ℤ
unit k = put k (pos 1) (λ c. pos 0)

pub unit_same : (k : ℕ) → unit k k ≡ pos 1
unfolding unit
unit_same k = put_same k (pos 1) (λ c. pos 0)

pub unit_other : (k c : ℕ) → c ≢ k → unit k c ≡ pos 0
unfolding unit
unit_other k c ne = put_other k (pos 1) (λ c. pos 0) c ne
