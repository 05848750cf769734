-- A phase ends: what the basis costs, over all denominators at once, is one number that falls with each step.
use Rattle.std.proofs.Common.{◌≡◌, ℕ, suc, ◌-◌, ◌*◌, ◌/◌, ◌^◌, ◌<◌, ◌≤◌, List, length, refl, arith, ap, sym, ◌∙◌, subst}
use Rattle.std.specs.Prelude.{ℤ, pos, ◌-ℤ◌, ◌*ℤ◌, unsigned_abs}
use Rattle.std.proofs.lemmas.Int.{ints}
use Rattle.std.proofs.lemmas.Nat.{mul-le}
use Rattle.std.proofs.Math.Nat.{mul-le-mul_left, mul-div_cancel, one-le-pow, div-le_self}
use Rattle.cal_math.specs.Whole.{*ℤ_left, *ℤ_assoc, *ℤ--ℤ, abs-*ℤ-le}
use Rattle.lp_laws.proofs.Measure.{multiple_of, multiple_some, multiple_is, measure_of, measure_falls}
use Rattle.cal_math.specs.Vectors.{at, sum_to, dot}
use Rattle.cal_math.proofs.Products.{one-le-*ℤ}
use Rattle.cal_math.proofs.Vectors.{dot_bounded}
use Rattle.lp_laws.proofs.Lexicographic.{IsLexAbove-scale, IsLexAbove-divided}
use Rattle.lp_laws.specs.Orders.{IsLexAbove}
use Rattle.lp_stage.specs.Leaving.{amounts_at}
use Rattle.lp_stage.specs.Running.{IsRunning, HasFallen}
use Rattle.lp_basis.specs.declared.column.Column.{Column}
use Rattle.lp_stage.specs.declared.phase.Phase.{Phase}
use Rattle.lp_stage.specs.declared.stage.Stage.{Stage}
use Rattle.lp_stage.proofs.Improvement.{stage_small}

-- a multiple of every denominator
all_parts : ℕ
all_parts = multiple_of (2 ^ 62)

most : ℕ
most = all_parts * (2 ^ 100 * 2 ^ 126)

-- what the basis costs at start k, over that multiple
cost_over : ℕ → List Column → Stage → (t : ℕ) → ℕ → ℤ
cost_over n starts stage t k = pos t *ℤ dot n (at stage.potentials.numbers.items) (at (amounts_at starts k))

pub left : List Column → Stage → ℕ
left starts stage = measure_of (length starts) most (cost_over (length starts - 1) starts stage (all_parts / stage.potentials.denominator))

part_is : (d : ℕ) → 1 ≤ d → d ≤ 2 ^ 62 → all_parts / d * d ≡ all_parts
unfolding all_parts
part_is d some small =
    let h = multiple_is (2 ^ 62) d some small in exact (multiple_of (2 ^ 62)) d h.0 some h.1
  where
    exact : (a d t : ℕ) → 1 ≤ d → t * d ≡ a → a / d * d ≡ a
    exact a d t some e =
        let q : a / d ≡ t = subst (λ (n : ℕ). n / d ≡ t) e (mul-div_cancel t {n = d} some) in ap (λ (n : ℕ). n * d) q ∙ e

parts_some : 1 ≤ all_parts
unfolding all_parts
parts_some = multiple_some (2 ^ 62)

-- ---- how large

cost_small : (b w s v : ℕ) (phase : Phase) (columns starts : List Column) (stage : Stage) (t k : ℕ) → IsRunning b w s v phase columns starts stage → t ≤ all_parts → k < length starts → unsigned_abs (cost_over (suc b) starts stage t k) ≤ most
unfolding cost_over most
cost_small b w s v phase columns starts stage t k run le lt =
    let start = run.fits k (omega (arith, run.count, lt)) in
    let h = dot_bounded (suc b) (2 ^ 100) (at stage.potentials.numbers.items) (at (amounts_at starts k)) (stage_small b w s v phase columns starts stage run).1 (λ c less. start.least c) in
    let sum : unsigned_abs (sum_to (suc b) (at (amounts_at starts k))) ≤ v = omega (arith, ints, start.sum, h.0) in
    let wide : v ≤ w ^ b * v = omega (arith, mul-le 1 v (w ^ b) v (one-le-pow b w run.basis.held.wide) (omega arith)) in
    let product : unsigned_abs (dot (suc b) (at stage.potentials.numbers.items) (at (amounts_at starts k))) ≤ 2 ^ 100 * 2 ^ 126 = omega (arith, h.1, mul-le-mul_left (2 ^ 100) sum, wide, run.room) in
    abs-*ℤ-le (pos t) (dot (suc b) (at stage.potentials.numbers.items) (at (amounts_at starts k))) all_parts (2 ^ 100 * 2 ^ 126) le product

-- ---- one number that falls

same_scale : (m d e t u : ℕ) (x y : ℤ) → t * d ≡ m → u * e ≡ m → pos m *ℤ (pos e *ℤ x -ℤ pos d *ℤ y) ≡ (pos d *ℤ pos e) *ℤ (pos t *ℤ x -ℤ pos u *ℤ y)
same_scale m d e t u x y first second =
    let m_is : pos m ≡ pos d *ℤ pos t = omega (arith, ints, first) in
    let m_is2 : pos m ≡ pos e *ℤ pos u = omega (arith, ints, second) in
    let left_is : pos m *ℤ (pos e *ℤ x) ≡ (pos d *ℤ pos e) *ℤ (pos t *ℤ x) =
    ap (λ (z : ℤ). z *ℤ (pos e *ℤ x)) m_is ∙ *ℤ_assoc (pos d) (pos t) (pos e *ℤ x) ∙ ap (λ (z : ℤ). pos d *ℤ z) (*ℤ_left (pos t) (pos e) x) ∙ sym (*ℤ_assoc (pos d) (pos e) (pos t *ℤ x)) in
    let right_is : pos m *ℤ (pos d *ℤ y) ≡ (pos d *ℤ pos e) *ℤ (pos u *ℤ y) =
    ap (λ (z : ℤ). z *ℤ (pos d *ℤ y)) m_is2 ∙ *ℤ_assoc (pos e) (pos u) (pos d *ℤ y) ∙ ap (λ (z : ℤ). pos e *ℤ z) (*ℤ_left (pos u) (pos d) y) ∙ *ℤ_left (pos e) (pos d) (pos u *ℤ y) ∙ sym (*ℤ_assoc (pos d) (pos e) (pos u *ℤ y)) in
    *ℤ--ℤ (pos m) (pos e *ℤ x) (pos d *ℤ y) ∙ omega (arith, ints, left_is, right_is, *ℤ--ℤ (pos d *ℤ pos e) (pos t *ℤ x) (pos u *ℤ y))

pub left_falls : (b w s v : ℕ) (phase : Phase) (columns starts : List Column) (stage next : Stage) → IsRunning b w s v phase columns starts stage → IsRunning b w s v phase columns starts next → HasFallen (suc b) starts stage next → left starts next < left starts stage
unfolding left cost_over
left_falls b w s v phase columns starts stage next run run' fallen =
    rw less (measure_falls (length starts) most (λ k. pos t *ℤ X k) (λ k. pos t' *ℤ Y k)
    (λ k lt. cost_small b w s v phase columns starts stage t k run (div-le_self all_parts D) lt)
    (λ k lt. cost_small b w s v phase columns starts next t' k run' (div-le_self all_parts D') lt)
    (subst (λ (n : ℕ). IsLexAbove n (λ k. pos t *ℤ X k -ℤ pos t' *ℤ Y k)) (sym run.count)
    (IsLexAbove-divided (suc (suc b)) (pos D *ℤ pos D') (λ k. pos all_parts *ℤ (pos D' *ℤ X k -ℤ pos D *ℤ Y k)) (λ k. pos t *ℤ X k -ℤ pos t' *ℤ Y k)
    (one-le-*ℤ (pos D) (pos D') (omega (arith, ints, run.potentials.priced.positive)) (omega (arith, ints, run'.potentials.priced.positive)))
    (λ k lt. same_scale all_parts D D' t t' (X k) (Y k) (part_is D run.potentials.priced.positive (stage_small b w s v phase columns starts stage run).0) (part_is D' run'.potentials.priced.positive (stage_small b w s v phase columns starts next run').0))
    (IsLexAbove-scale (suc (suc b)) (pos all_parts) (λ k. pos D' *ℤ X k -ℤ pos D *ℤ Y k) (λ k. pos all_parts *ℤ (pos D' *ℤ X k -ℤ pos D *ℤ Y k)) (omega (arith, ints, parts_some)) fallen (λ k lt. refl)))))
  where
    less : length starts - 1 ≡ suc b
    less = omega (arith, run.count)

    D : ℕ
    D = stage.potentials.denominator

    D' : ℕ
    D' = next.potentials.denominator

    t : ℕ
    t = all_parts / D

    t' : ℕ
    t' = all_parts / D'

    X : ℕ → ℤ
    X k = dot (suc b) (at stage.potentials.numbers.items) (at (amounts_at starts k))

    Y : ℕ → ℤ
    Y k = dot (suc b) (at next.potentials.numbers.items) (at (amounts_at starts k))
