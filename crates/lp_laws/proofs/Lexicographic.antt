-- Lists of whole numbers in lexicographic order: multiples, sums, and the order of lists over numbers above 0.
use Rattle.std.proofs.Common.{◌≡◌, ℕ, zero, suc, ◌*◌, ◌<◌, refl, arith, ap, sym, ◌∙◌, subst, inl, inr}
use Rattle.std.specs.Prelude.{ℤ, pos, negsuc, ◌+ℤ◌, ◌-ℤ◌, ◌*ℤ◌, ◌≤ℤ◌}
use Rattle.std.proofs.lemmas.Int.{ints}
use Rattle.std.proofs.lemmas.Bool.{cases_eq, cases_lt}
use Rattle.std.proofs.Math.Nat.{mul-le-mul_right}
use Rattle.cal_math.specs.Whole.{*ℤ--ℤ, *ℤ_left}
use Rattle.cal_math.proofs.Products.{times_zero, zero_from_product, one_from_product, one-le-*ℤ}
use Rattle.lp_laws.proofs.Pigeon.{code}
use Rattle.lp_laws.specs.Orders.{IsLexAbove}

-- ---- lists in order are numbers in order

pub code_falls : (n : ℕ) (lengths a b : ℕ → ℕ) → ((c : ℕ) → c < n → a c < lengths c) → (k : ℕ) → k < n → ((c : ℕ) → c < k → a c ≡ b c) → a k < b k → code n lengths a < code n lengths b
code_falls zero lengths a b inside k lt same less = absurd (omega arith)
code_falls (suc n) lengths a b inside k lt same less =
    elim (cases_eq k n) [
      | inl e ↦
          let last : a n < b n = subst (λ (i : ℕ). a i < b i) e less in
          let front : code n lengths a ≡ code n lengths b = code-same n lengths a b (λ c q. same c (omega arith)) in
          omega (arith, ap (λ (v : ℕ). v * lengths n) front)
      | inr ne ↦
          let front : code n lengths a < code n lengths b = code_falls n lengths a b (λ c q. inside c (omega arith)) k (omega arith) same less in
          omega (arith, mul-le-mul_right (lengths n) front, inside n (omega arith))
    ]
  where
    code-same : (n : ℕ) (lengths a b : ℕ → ℕ) → ((c : ℕ) → c < n → a c ≡ b c) → code n lengths a ≡ code n lengths b
    code-same zero lengths a b h = refl
    code-same (suc n) lengths a b h = rw (code-same n lengths a b (λ c lt. h c (omega arith)), h n (omega arith))

-- either all are 0, or the list is above 0, or its negative is
pub data LexCases (size : ℕ) (f : ℕ → ℤ) : Type 0 where
  all_zero : ((c : ℕ) → c < size → f c ≡ pos 0) → LexCases size f
  lex_above : IsLexAbove size f → LexCases size f
  lex_below : IsLexAbove size (λ c. pos 0 -ℤ f c) → LexCases size f

pub IsLexAbove-scale : (size : ℕ) (a : ℤ) (f h : ℕ → ℤ) → pos 1 ≤ℤ a → IsLexAbove size f → ((c : ℕ) → c < size → h c ≡ a *ℤ f c) → IsLexAbove size h
IsLexAbove-scale size a f h p u is = record {
  place = u.place;
  within = u.within;
  zeros = λ c less. is c (omega (arith, u.within)) ∙ ap (λ (z : ℤ). a *ℤ z) (u.zeros c less) ∙ times_zero a;
  above = subst (λ (z : ℤ). pos 1 ≤ℤ z) (sym (is u.place u.within)) (one-le-*ℤ a (f u.place) p u.above);
}

pub IsLexAbove-add : (size : ℕ) (f g h : ℕ → ℤ) → IsLexAbove size f → IsLexAbove size g → ((c : ℕ) → c < size → h c ≡ f c +ℤ g c) → IsLexAbove size h
IsLexAbove-add size f g h u v is =
    elim (cases_lt u.place v.place) [
      | inl lt ↦ record {
        place = u.place;
        within = u.within;
        zeros = λ c less. omega (arith, ints, is c (omega (arith, u.within)), u.zeros c less, v.zeros c (omega arith));
        above = omega (arith, ints, is u.place u.within, u.above, v.zeros u.place lt);
      }
      | inr le ↦ elim (cases_lt v.place u.place) [
        | inl lt ↦ record {
          place = v.place;
          within = v.within;
          zeros = λ c less. omega (arith, ints, is c (omega (arith, v.within)), v.zeros c less, u.zeros c (omega arith));
          above = omega (arith, ints, is v.place v.within, v.above, u.zeros v.place lt);
        }
        | inr other ↦
            let e : u.place ≡ v.place = omega arith in
            record {
              place = u.place;
              within = u.within;
              zeros = λ c less. omega (arith, ints, is c (omega (arith, u.within)), u.zeros c less, v.zeros c (omega arith));
              above = omega (arith, ints, is u.place u.within, u.above, subst (λ (k : ℕ). pos 1 ≤ℤ g k) (sym e) v.above);
            }
      ]
    ]

-- a number above 0 times a list above 0, and one of at least 0 times another
pub IsLexAbove-sum : (size : ℕ) (f g h : ℕ → ℤ) (a b : ℤ) → pos 1 ≤ℤ a → pos 0 ≤ℤ b → IsLexAbove size f → IsLexAbove size g → ((c : ℕ) → c < size → h c ≡ a *ℤ f c +ℤ b *ℤ g c) → IsLexAbove size h
IsLexAbove-sum size f g h a (pos zero) p q u v is = IsLexAbove-scale size a f h p u (λ c lt. is c lt ∙ omega (arith, ints))
IsLexAbove-sum size f g h a (pos (suc b)) p q u v is =
    IsLexAbove-add size (λ c. a *ℤ f c) (λ c. pos (suc b) *ℤ g c) h
    (IsLexAbove-scale size a f (λ c. a *ℤ f c) p u (λ c lt. refl)) (IsLexAbove-scale size (pos (suc b)) g (λ c. pos (suc b) *ℤ g c) (omega (arith, ints)) v (λ c lt. refl)) is
IsLexAbove-sum size f g h a (negsuc b) p q u v is = absurd (omega (arith, ints))

pub IsLexAbove-divided : (size : ℕ) (a : ℤ) (f h : ℕ → ℤ) → pos 1 ≤ℤ a → ((k : ℕ) → k < size → f k ≡ a *ℤ h k) → IsLexAbove size f → IsLexAbove size h
IsLexAbove-divided size a f h p is v = record {
  place = v.place;
  within = v.within;
  zeros = λ c q. zero_from_product a (h c) p (sym (is c (omega (arith, v.within))) ∙ v.zeros c q);
  above = one_from_product a (h v.place) p (subst (λ (z : ℤ). pos 1 ≤ℤ z) (is v.place v.within) v.above);
}

pub before_trans : (size : ℕ) (f g h : ℕ → ℤ) (a b c : ℤ) → pos 1 ≤ℤ a → pos 1 ≤ℤ b → pos 1 ≤ℤ c →
    IsLexAbove size (λ k. a *ℤ g k -ℤ b *ℤ f k) → IsLexAbove size (λ k. b *ℤ h k -ℤ c *ℤ g k) → IsLexAbove size (λ k. a *ℤ h k -ℤ c *ℤ f k)
before_trans size f g h a b c p q r first second =
    IsLexAbove-divided size b (λ k. b *ℤ (a *ℤ h k -ℤ c *ℤ f k)) (λ k. a *ℤ h k -ℤ c *ℤ f k) q (λ k lt. refl)
    (IsLexAbove-sum size (λ k. a *ℤ g k -ℤ b *ℤ f k) (λ k. b *ℤ h k -ℤ c *ℤ g k) (λ k. b *ℤ (a *ℤ h k -ℤ c *ℤ f k)) c a r (omega (arith, ints)) first second
    (λ k lt. omega (arith, ints, *ℤ--ℤ b (a *ℤ h k) (c *ℤ f k), *ℤ--ℤ c (a *ℤ g k) (b *ℤ f k), *ℤ--ℤ a (b *ℤ h k) (c *ℤ g k), *ℤ_left b a (h k), *ℤ_left b c (f k), *ℤ_left c a (g k))))
