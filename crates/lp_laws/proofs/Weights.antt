-- The weights of a basis, and the proof that there are none.
use Rattle.std.proofs.Common.{◌≡◌, ℕ, ◌<◌, refl, arith, sym, ◌∙◌}
use Rattle.std.specs.Prelude.{ℤ, pos, ◌-ℤ◌, ◌*ℤ◌, ◌≤ℤ◌}
use Rattle.std.proofs.lemmas.Int.{ints}
use Rattle.cal_math.specs.Whole.{*ℤ-≤}
use Rattle.cal_math.specs.Vectors.{sum_to, dot}
use Rattle.cal_math.proofs.Products.{one-le-*ℤ}
use Rattle.cal_math.proofs.Vectors.{sum-zero, sum-le, dot_same, dot-sub, dot-scale, dot-combined}
use Rattle.lp_laws.proofs.Bases.{dot_basis}
use Rattle.lp_laws.specs.Bases.{IsBasis}

-- the weights of a basis, over parts, give the target
pub weights_add : (n m : ℕ) (columns rows : ℕ → ℕ → ℤ) (own target weights : ℕ → ℤ) (parts : ℤ) → IsBasis n m columns rows own → ((j : ℕ) → j < m → weights j *ℤ own j ≡ parts *ℤ dot n (rows j) target) →
    (c : ℕ) → c < n → sum_to m (λ j. weights j *ℤ columns j c) ≡ parts *ℤ target c
weights_add n m columns rows own target weights parts basis is c lt =
    let zero_is : parts *ℤ target c -ℤ sum_to m (λ j. weights j *ℤ columns j c) ≡ pos 0 =
    basis.complete (λ c. parts *ℤ target c -ℤ sum_to m (λ j. weights j *ℤ columns j c)) (λ j less.
    dot-sub n (rows j) (λ c. parts *ℤ target c) (λ c. sum_to m (λ j. weights j *ℤ columns j c))
    ∙ omega (arith, ints, dot-scale n parts (rows j) target, dot_basis n m columns rows own weights basis j less, is j less)) c lt in
    omega (arith, ints, zero_is)

-- with v at most 0 at every column and above 0 at the target there are no weights of at least 0
pub no_weights : (n m : ℕ) (columns : ℕ → ℕ → ℤ) (target v weights : ℕ → ℤ) (parts : ℤ) → ((j : ℕ) → j < m → dot n v (columns j) ≤ℤ pos 0) → pos 1 ≤ℤ dot n v target →
    pos 1 ≤ℤ parts → ((j : ℕ) → j < m → pos 0 ≤ℤ weights j) → ((c : ℕ) → c < n → sum_to m (λ j. weights j *ℤ columns j c) ≡ parts *ℤ target c) → ⊥
no_weights n m columns target v weights parts below above some least is =
    let total : parts *ℤ dot n v target ≡ sum_to m (λ j. weights j *ℤ dot n v (columns j)) =
    sym (dot-scale n parts v target) ∙ sym (dot_same n v (λ c. sum_to m (λ j. weights j *ℤ columns j c)) v (λ c. parts *ℤ target c) (λ c lt. refl) is) ∙ dot-combined n m v weights columns in
    omega (arith, ints, total, one-le-*ℤ parts (dot n v target) some above, sum-le m (λ j. weights j *ℤ dot n v (columns j)) (λ j. pos 0) (λ j lt. product (weights j) (dot n v (columns j)) (least j lt) (below j lt)), sum-zero m (λ j. pos 0) (λ j lt. refl))
  where
    product : (a b : ℤ) → pos 0 ≤ℤ a → b ≤ℤ pos 0 → (a *ℤ b) ≤ℤ pos 0
    product a b h k = omega (arith, ints, *ℤ-≤ a b (pos 0) h k)
