-- A list of digits is a number, and different numbers below m are at most m.
use Rattle.std.proofs.Common.{◌≡◌, ℕ, zero, suc, ◌+◌, ◌*◌, ◌<◌, ◌≤◌, arith, sym, ◌∙◌, subst, inl, inr}
use Rattle.std.specs.Prelude.{◌⊎◌}
use Rattle.std.proofs.lemmas.Bool.{cases_eq}
use Rattle.std.proofs.Math.Nat.{mul_comm}
use Rattle.std.proofs.lemmas.Nat.{mul-add-lt, same_from_place}

abbrev pub product_of : ℕ → (ℕ → ℕ) → ℕ
product_of zero f = 1
product_of (suc n) f = product_of n f * f n

-- the number whose digits these are, the last one lowest
abbrev pub code : ℕ → (ℕ → ℕ) → (ℕ → ℕ) → ℕ
code zero lengths digits = 0
code (suc n) lengths digits = code n lengths digits * lengths n + digits n

pub code_below : (n : ℕ) (lengths digits : ℕ → ℕ) → ((c : ℕ) → c < n → digits c < lengths c) → code n lengths digits < product_of n lengths
code_below zero lengths digits h = omega arith
code_below (suc n) lengths digits h =
    rw (mul_comm (product_of n lengths) (lengths n))
    (mul-add-lt (code n lengths digits) (lengths n) (digits n) (product_of n lengths) (code_below n lengths digits (λ c lt. h c (omega arith))) (h n (omega arith)))

pub same_digits : (n : ℕ) (lengths a b : ℕ → ℕ) → ((c : ℕ) → c < n → a c < lengths c) → ((c : ℕ) → c < n → b c < lengths c) →
    code n lengths a ≡ code n lengths b → (c : ℕ) → c < n → a c ≡ b c
same_digits zero lengths a b h k e c lt = absurd (omega arith)
same_digits (suc n) lengths a b h k e c lt =
    let both : (code n lengths a ≡ code n lengths b) × (a n ≡ b n) =
    same_from_place (code n lengths a) (a n) (code n lengths b) (b n) (lengths n) (h n (omega arith)) (k n (omega arith)) e in
    elim (cases_eq c n) [
      | inl same ↦ subst (λ (i : ℕ). a i ≡ b i) (sym same) both.1
      | inr other ↦ same_digits n lengths a b (λ c lt. h c (omega arith)) (λ c lt. k c (omega arith)) both.0 c (omega arith)
    ]

-- what stands for h where the greatest value is given to n
moved : (n m : ℕ) (f : ℕ → ℕ) (h : ℕ) → (f h ≡ m) ⊎ (f h ≡ m → ⊥) → ℕ
moved n m f h (inl e) = f n
moved n m f h (inr e) = f h

moved_below : (n m : ℕ) (f : ℕ → ℕ) → ((h : ℕ) → h < suc n → f h < suc m) → ((h l : ℕ) → h < suc n → l < suc n → f h ≡ f l → h ≡ l) →
    (h : ℕ) → h < n → (t : (f h ≡ m) ⊎ (f h ≡ m → ⊥)) → moved n m f h t < m
unfolding moved
moved_below n m f below apart h lt (inl e) =
    elim (cases_eq (f n) m) [
      | inl top ↦ absurd (omega (arith, apart h n (omega arith) (omega arith) (e ∙ sym top)))
      | inr low ↦ omega (arith, below n (omega arith))
    ]
moved_below n m f below apart h lt (inr e) = omega (arith, below h (omega arith))

moved_apart : (n m : ℕ) (f : ℕ → ℕ) → ((h l : ℕ) → h < suc n → l < suc n → f h ≡ f l → h ≡ l) →
    (h l : ℕ) → h < n → l < n → (s : (f h ≡ m) ⊎ (f h ≡ m → ⊥)) (t : (f l ≡ m) ⊎ (f l ≡ m → ⊥)) → moved n m f h s ≡ moved n m f l t → h ≡ l
unfolding moved
moved_apart n m f apart h l p q (inl a) (inl b) e = apart h l (omega arith) (omega arith) (a ∙ sym b)
moved_apart n m f apart h l p q (inl a) (inr b) e = absurd (omega (arith, apart n l (omega arith) (omega arith) e))
moved_apart n m f apart h l p q (inr a) (inl b) e = absurd (omega (arith, apart h n (omega arith) (omega arith) e))
moved_apart n m f apart h l p q (inr a) (inr b) e = apart h l (omega arith) (omega arith) e

-- n numbers below m, no two of them equal, are at most m
pub pigeon : (n m : ℕ) (f : ℕ → ℕ) → ((h : ℕ) → h < n → f h < m) → ((h l : ℕ) → h < n → l < n → f h ≡ f l → h ≡ l) → n ≤ m
pigeon zero m f below apart = omega arith
pigeon (suc n) zero f below apart = absurd (omega (arith, below 0 (omega arith)))
pigeon (suc n) (suc m) f below apart =
    let less : n ≤ m = pigeon n m (λ h. moved n m f h (cases_eq (f h) m))
    (λ h lt. moved_below n m f below apart h lt (cases_eq (f h) m))
    (λ h l p q e. moved_apart n m f apart h l p q (cases_eq (f h) m) (cases_eq (f l) m) e) in
    omega arith

-- the same of n lists of digits
pub count_digits : (n size : ℕ) (lengths : ℕ → ℕ) (digits : ℕ → ℕ → ℕ) → ((h c : ℕ) → h < n → c < size → digits h c < lengths c) →
    ((h l : ℕ) → h < n → l < n → ((c : ℕ) → c < size → digits h c ≡ digits l c) → h ≡ l) → n ≤ product_of size lengths
count_digits n size lengths digits below apart =
    pigeon n (product_of size lengths) (λ h. code size lengths (digits h)) (λ h lt. code_below size lengths (digits h) (λ c less. below h c lt less))
    (λ h l p q e. apart h l p q (same_digits size lengths (digits h) (digits l) (λ c less. below h c p less) (λ c less. below l c q less) e))
