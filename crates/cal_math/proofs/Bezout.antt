-- The greatest common divisor of a row's numbers is a combination of them.
use Rattle.std.proofs.Common.{◌≡◌, ℕ, zero, suc, ◌/◌, ◌%◌, ◌<◌, ◌≤◌, refl, arith, ap, sym, ◌∙◌, subst, inl, inr}
use Rattle.std.specs.Prelude.{ℤ, pos, negsuc, ◌+ℤ◌, ◌-ℤ◌, ◌*ℤ◌}
use Rattle.std.specs.Prelude.{◌⊎◌}
use Rattle.std.proofs.lemmas.Int.{ints}
use Rattle.std.proofs.lemmas.Bool.{cases_eq}
use Rattle.std.proofs.lemmas.Nat.{div-add-mod', mod_below}
use Rattle.cal_math.specs.Whole.{*ℤ-+ℤ, *ℤ--ℤ, *ℤ_comm, *ℤ_assoc}
use Rattle.cal_math.specs.Vectors.{sum_to, dot}
use Rattle.cal_math.proofs.Vectors.{sum-same, dot-scale}

-- g divides a and b, and is the combination of them by x and y
record IsPair (a b : ℤ) (g : ℕ) (x y : ℤ) : Type 0 where
  combined : a *ℤ x +ℤ b *ℤ y ≡ pos g
  first : (s : ℤ) × (pos g *ℤ s ≡ a)
  second : (s : ℤ) × (pos g *ℤ s ≡ b)

record Pair (a b : ℤ) : Type 0 where
  g : ℕ
  x : ℤ
  y : ℤ
  exact : IsPair a b g x y

-- one step by a remainder
pair_step : (a b r q : ℤ) → a ≡ b *ℤ q +ℤ r → Pair b r → Pair a b
pair_step a b r q e p = record {
  g = p.g;
  x = p.y;
  y = p.x -ℤ q *ℤ p.y;
  exact = record {
    combined = omega (arith, ints, p.exact.combined, ap (λ (z : ℤ). z *ℤ p.y) e, *ℤ_comm (b *ℤ q +ℤ r) p.y, *ℤ-+ℤ p.y (b *ℤ q) r, *ℤ_comm p.y r, *ℤ_comm p.y (b *ℤ q), *ℤ_assoc b q p.y, *ℤ--ℤ b p.x (q *ℤ p.y));
    first = (
      p.exact.first.0 *ℤ q +ℤ p.exact.second.0,
      omega (arith, ints, *ℤ-+ℤ (pos p.g) (p.exact.first.0 *ℤ q) p.exact.second.0, *ℤ_assoc (pos p.g) p.exact.first.0 q, ap (λ (z : ℤ). z *ℤ q) p.exact.first.1, p.exact.second.1, e),
    );
    second = p.exact.first;
  };
}

pair_of : (fuel a b : ℕ) → b ≤ fuel → Pair (pos a) (pos b)
pair_of fuel a zero h = record {
  g = a;
  x = pos 1;
  y = pos 0;
  exact = record { combined = omega (arith, ints); first = (pos 1, omega (arith, ints)); second = (pos 0, omega (arith, ints)) };
}
pair_of zero a (suc b) h = absurd (omega arith)
pair_of (suc fuel) a (suc b) h =
    pair_step (pos a) (pos (suc b)) (pos (a % suc b)) (pos (a / suc b)) (ap pos (omega (arith, div-add-mod' a (suc b))))
    (pair_of fuel (suc b) (a % suc b) (omega (arith, mod_below a (suc b) (omega arith))))

-- the same of whole numbers with signs
signed_pair : (a : ℕ) (b : ℤ) → Pair (pos a) b
signed_pair a (pos b) = pair_of b a b (omega arith)
signed_pair a (negsuc b) = turned (pair_of (suc b) a (suc b) (omega arith))
  where
    turned : Pair (pos a) (pos (suc b)) → Pair (pos a) (negsuc b)
    turned p = record {
      g = p.g;
      x = p.x;
      y = pos 0 -ℤ p.y;
      exact = record {
        combined = omega (arith, ints, p.exact.combined, *ℤ--ℤ (negsuc b) (pos 0) p.y);
        first = p.exact.first;
        second = (pos 0 -ℤ p.exact.second.0, omega (arith, ints, p.exact.second.1, *ℤ--ℤ (pos p.g) (pos 0) p.exact.second.0));
      };
    }

-- g divides the first n numbers of a row, and the row takes the value g at z
pub record IsGreatest (n : ℕ) (row : ℕ → ℤ) (g : ℕ) (z : ℕ → ℤ) : Type 0 where
  pub combined : dot n row z ≡ pos g
  pub divides : (c : ℕ) → c < n → (s : ℤ) × (pos g *ℤ s ≡ row c)

pub record Greatest (n : ℕ) (row : ℕ → ℤ) : Type 0 where
  pub g : ℕ
  pub z : ℕ → ℤ
  pub exact : IsGreatest n row g z

last : (n : ℕ) (x y : ℤ) (z : ℕ → ℤ) (c : ℕ) → (c ≡ n) ⊎ (c ≡ n → ⊥) → ℤ
last n x y z c (inl e) = y
last n x y z c (inr ne) = x *ℤ z c

last_same : (n : ℕ) (x y : ℤ) (z : ℕ → ℤ) (c : ℕ) → c ≡ n → (t : (c ≡ n) ⊎ (c ≡ n → ⊥)) → last n x y z c t ≡ y
unfolding last
last_same n x y z c e (inl f) = refl
last_same n x y z c e (inr ne) = absurd (ne e)

last_other : (n : ℕ) (x y : ℤ) (z : ℕ → ℤ) (c : ℕ) → c < n → (t : (c ≡ n) ⊎ (c ≡ n → ⊥)) → last n x y z c t ≡ x *ℤ z c
unfolding last
last_other n x y z c lt (inl f) = absurd (omega arith)
last_other n x y z c lt (inr ne) = refl

pub greatest : (n : ℕ) (row : ℕ → ℤ) → Greatest n row
unfolding dot
greatest zero row = record { g = 0; z = λ c. pos 0; exact = record { combined = refl; divides = λ c lt. absurd (omega arith) } }
greatest (suc n) row = joined (greatest n row)
  where
    joined : Greatest n row → Greatest (suc n) row
    joined before =
        let p : Pair (pos before.g) (row n) = signed_pair before.g (row n) in
        let z : ℕ → ℤ = λ c. last n p.x p.y before.z c (cases_eq c n) in
        let front : sum_to n (λ c. row c *ℤ z c) ≡ p.x *ℤ pos before.g =
        sum-same n (λ c. row c *ℤ z c) (λ c. row c *ℤ (p.x *ℤ before.z c)) (λ c lt. ap (λ (v : ℤ). row c *ℤ v) (last_other n p.x p.y before.z c lt (cases_eq c n)))
        ∙ dot-scale n p.x row before.z ∙ ap (λ (v : ℤ). p.x *ℤ v) before.exact.combined in
        let back : row n *ℤ z n ≡ row n *ℤ p.y = ap (λ (v : ℤ). row n *ℤ v) (last_same n p.x p.y before.z n refl (cases_eq n n)) in
        record {
          g = p.g;
          z = z;
          exact = record {
            combined = omega (arith, ints, front, back, p.exact.combined, *ℤ_comm p.x (pos before.g));
            divides = λ c lt. elim (cases_eq c n) [
              | inl e ↦ subst (λ (k : ℕ). (s : ℤ) × (pos p.g *ℤ s ≡ row k)) (sym e) p.exact.second
              | inr ne ↦ (
                p.exact.first.0 *ℤ (before.exact.divides c (omega arith)).0,
                sym (*ℤ_assoc (pos p.g) p.exact.first.0 (before.exact.divides c (omega arith)).0) ∙ ap (λ (v : ℤ). v *ℤ (before.exact.divides c (omega arith)).0) p.exact.first.1
                    ∙ (before.exact.divides c (omega arith)).1,
              )
            ];
          };
        }
