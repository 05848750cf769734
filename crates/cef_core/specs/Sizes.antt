-- How large contents are.
use Rattle.std.proofs.Common.{◌≡◌, ℕ, zero, suc, ◌+◌, ◌*◌, ◌<◌, ◌≤◌, List, [], ◌∷◌, Option, Some, None, Bool, true, false, length, refl, arith, ap, sym, ◌∙◌}
use Rattle.std.specs.Prelude.{nat_eq, sum}
use Rattle.std.proofs.lemmas.Bool.{eqb-true}
use Rattle.std.proofs.lemmas.List.Sums.{sum_by-cons}
use Rattle.std.proofs.Math.Nat.{mul-le-mul_left}
use Rattle.cal_math.specs.Sums.{sum_below}
use Rattle.cef_core.specs.declared.phase.PhaseAt.{PhaseAt}
use Rattle.cef_core.specs.Constitutions.{HasShape, weight_of, content_of_counts, content_over}

-- sums over the components below n
sum_below-add : (n : ℕ) (f g : ℕ → ℕ) → sum_below n (λ c. f c + g c) ≡ sum_below n f + sum_below n g
sum_below-add zero f g = refl
sum_below-add (suc n) f g = omega (arith, sum_below-add n f g)

sum_below-times : (n k : ℕ) (f : ℕ → ℕ) → sum_below n (λ c. k * f c) ≡ k * sum_below n f
sum_below-times zero k f = omega arith
sum_below-times (suc n) k f = omega (arith, sum_below-times n k f, spread k (sum_below n f) (f n))
  where
    spread : (k a b : ℕ) → k * (a + b) ≡ k * a + k * b
    spread k a b = omega arith

sum_below-none : (n : ℕ) → sum_below n (λ c. 0) ≡ 0
sum_below-none zero = refl
sum_below-none (suc n) = omega (arith, sum_below-none n)

-- a site weighs for one component at most
weight-other : (c ratio d : ℕ) → c < d → weight_of c ratio (Some d) ≡ 0
weight-other c ratio d h = by (nat_eq c d) refl
  where
    by : (b : Bool) → nat_eq c d ≡ b → weight_of c ratio (Some d) ≡ 0
    by true e = absurd (omega (arith, h, eqb-true c d e))
    by false e = rw e refl

weights-before : (n ratio d : ℕ) → n ≤ d → sum_below n (λ c. weight_of c ratio (Some d)) ≡ 0
weights-before zero ratio d h = refl
weights-before (suc n) ratio d h = omega (arith, weights-before n ratio d (omega arith), weight-other n ratio d (omega arith))

weights_small : (n ratio : ℕ) (site : Option ℕ) → sum_below n (λ c. weight_of c ratio site) ≤ ratio
weights_small n ratio None = omega (arith, sum_below-none n)
weights_small zero ratio (Some d) = omega arith
weights_small (suc n) ratio (Some d) = by (nat_eq n d) refl (weights_small n ratio (Some d))
  where
    by : (b : Bool) → nat_eq n d ≡ b → sum_below n (λ c. weight_of c ratio (Some d)) ≤ ratio → sum_below (suc n) (λ c. weight_of c ratio (Some d)) ≤ ratio
    by true e before =
        let own : weight_of n ratio (Some d) ≡ ratio = rw e refl in
        omega (arith, own, weights-before n ratio d (omega (arith, eqb-true n d e)))
    by false e before =
        let none : weight_of n ratio (Some d) ≡ 0 = rw e refl in
        omega (arith, none, before)

row_small : (n ratio : ℕ) (sites : List (Option ℕ)) (counts : List ℕ) → sum_below n (λ c. content_of_counts c ratio sites counts) ≤ ratio * sum counts
row_small n ratio [] counts = omega (arith, sum_below-none n)
row_small n ratio (site ∷ sites) [] = omega (arith, sum_below-none n)
row_small n ratio (site ∷ sites) (k ∷ counts) =
    omega (
      arith,
      sum_below-add n (λ c. k * weight_of c ratio site) (λ c. content_of_counts c ratio sites counts),
      sum_below-times n k (λ c. weight_of c ratio site),
      times k (sum_below n (λ c. weight_of c ratio site)) ratio (weights_small n ratio site),
      row_small n ratio sites counts,
      spread ratio k (sum counts) (sum (k ∷ counts)) (sum_by-cons (λ (x : ℕ). x) k counts),
    )
  where
    times : (k w ratio : ℕ) → w ≤ ratio → k * w ≤ ratio * k
    times k w ratio h = omega (arith, mul-le-mul_left k h)

    spread : (ratio k rest all : ℕ) → all ≡ k + rest → ratio * all ≡ ratio * k + ratio * rest
    spread ratio k rest all e = rw e (omega arith)

rows_small : (n lattice : ℕ) (ratios : List ℕ) (sites : List (List (Option ℕ))) (counts : List (List ℕ)) → HasShape lattice sites counts → sum_below n (λ c. content_over c ratios sites counts) ≤ lattice * sum ratios
rows_small n lattice [] sites counts h = omega (arith, sum_below-none n)
rows_small n lattice (ratio ∷ ratios) [] counts h = omega (arith, sum_below-none n)
rows_small n lattice (ratio ∷ ratios) (row ∷ sites) [] h = omega (arith, sum_below-none n)
rows_small n lattice (ratio ∷ ratios) (row ∷ sites) (ks ∷ counts) h =
    omega (
      arith,
      sum_below-add n (λ c. content_of_counts c ratio row ks) (λ c. content_over c ratios sites counts),
      row_small n ratio row ks,
      ap (λ (k : ℕ). ratio * k) h.1,
      rows_small n lattice ratios sites counts h.2,
      spread lattice ratio (sum ratios) (sum (ratio ∷ ratios)) (sum_by-cons (λ (x : ℕ). x) ratio ratios),
    )
  where
    spread : (lattice ratio rest all : ℕ) → all ≡ ratio + rest → lattice * all ≡ ratio * lattice + lattice * rest
    spread lattice ratio rest all e = rw e (omega arith)

-- The contents of all components below n together are at most the lattice's number times the sum of the ratios.
pub content_small : (n : ℕ) (phase : PhaseAt) (counts : List (List ℕ)) → HasShape phase.lattice phase.sites counts →
    sum_below n (λ c. content_over c phase.ratios phase.sites counts) ≤ phase.lattice * sum phase.ratios
content_small n phase counts h = rows_small n phase.lattice phase.ratios phase.sites counts h
