-- Where a unit column keeps a weight at the end of the first phase, the potentials prove that no weights give the target.
use Rattle.std.proofs.Common.{◌≡◌, ℕ, zero, suc, ◌-◌, ◌*◌, ◌^◌, ◌<◌, ◌≤◌, List, [], ◌∷◌, length, get_or, refl, arith, ap, sym, ◌∙◌, subst}
use Rattle.std.specs.Prelude.{ℤ, pos, ◌≤ℤ◌, ◌*ℤ◌, Option, Some, None, All, unsigned_abs}
use Rattle.std.proofs.lemmas.Int.{ints}
use Rattle.cal_math.specs.Whole.{*ℤ-≤}
use Rattle.cal_math.specs.Vectors.{at, dot}
use Rattle.cal_math.proofs.Products.{times_zero, one-le-*ℤ}
use Rattle.cal_math.proofs.Vectors.{dot-plus, dot-zero, dot_same, dot-scale}
use Rattle.lp_laws.proofs.Idle.{price_above}
use Rattle.lp_laws.proofs.Reduced.{reduced_potential-le}
use Rattle.lp_basis.specs.Held.{numbers_at, own_at}
use Rattle.lp_basis.specs.declared.column.Column.{Column}
use Rattle.lp_stage.specs.Leaving.{amounts_at}
use Rattle.lp_stage.specs.Stages.{cost_at, known_cost, basis_columns, basis_costs}
use Rattle.lp_stage.specs.declared.phase.Phase.TheVariants.{First}
use Rattle.lp_stage.specs.declared.stage.Stage.{Stage}
use Rattle.lp_stage.proofs.Improvement.{amounts_get}
use Rattle.lp_core.specs.Fitting.{widest}
use Rattle.lp_core.specs.Plans.{Weight, given_amount, IsFeasible, IsProofOfNone}
use Rattle.lp_core.specs.FirstPhase.{IsFirstEnd, HasUnit}
use Rattle.lp_core.proofs.Beginning.{cost_small_first}

-- ---- a proof of none excludes weights

below_at : (n : ℕ) (columns : List Column) (v : ℕ → ℤ) → All (λ column. dot n v (at column.amounts.items) ≤ℤ pos 0) columns → (k : ℕ) → k < length columns → dot n v (at (amounts_at columns k)) ≤ℤ pos 0
below_at n [] v below k lt = absurd (omega arith)
below_at n (x ∷ columns) v below k lt = rw (amounts_get (x ∷ columns) k x lt) (below k x lt)

price_below : (n : ℕ) (columns : List Column) (v : ℕ → ℤ) (weights : List Weight) → All (λ column. dot n v (at column.amounts.items) ≤ℤ pos 0) columns → All (λ w. (w.0 < length columns) × (pos 0 ≤ℤ w.1)) weights →
    dot n v (given_amount columns weights) ≤ℤ pos 0
price_below n columns v [] below named = omega (arith, ints, dot-zero n v)
price_below n columns v (w ∷ weights) below named =
    let here = named 0 w (omega arith) in
    let rest = price_below n columns v weights below (λ k d lt. named (suc k) d (omega arith)) in
    omega (
      arith,
      ints,
      rest,
      dot-plus n v (λ c. w.1 *ℤ at (amounts_at columns w.0) c) (given_amount columns weights),
      dot-scale n w.1 v (at (amounts_at columns w.0)),
      *ℤ-≤ w.1 (dot n v (at (amounts_at columns w.0))) (pos 0) here.1 (below_at n columns v below w.0 here.0),
      times_zero w.1,
    )

pub no_weights_give : (columns : List Column) (target v : List ℤ) → IsProofOfNone columns target v → (parts : ℕ) (weights : List Weight) → ¬ IsFeasible columns target parts weights
no_weights_give columns target v proof parts weights feasible =
    let total : dot (length target) (at v) (given_amount columns weights) ≡ pos parts *ℤ dot (length target) (at v) (at target) =
    dot_same (length target) (at v) (given_amount columns weights) (at v) (λ c. pos parts *ℤ at target c) (λ c lt. refl) feasible.gives ∙ dot-scale (length target) (pos parts) (at v) (at target) in
    omega (
      arith,
      ints,
      total,
      price_below (length target) columns (at v) weights proof.below feasible.named,
      one-le-*ℤ (pos parts) (dot (length target) (at v) (at target)) (omega (arith, ints, feasible.positive)) proof.above,
    )

-- ---- the potentials of the first phase

cost_least : (columns : List Column) (place : Option ℕ) → pos 0 ≤ℤ cost_at First columns place
cost_least columns None = omega (arith, ints)
cost_least columns (Some k) = known columns k
  where
    known : (columns : List Column) (k : ℕ) → pos 0 ≤ℤ known_cost First columns k
    known [] k = omega (arith, ints)
    known (x ∷ columns) zero = omega (arith, ints)
    known (x ∷ columns) (suc k) = known columns k

-- what holds of all numbers of a list
pub All-from_at : (P : ℤ → Type 0) (xs : List ℤ) → ((k : ℕ) → k < length xs → P (at xs k)) → All P xs
All-from_at P [] h k d lt = absurd (omega arith)
All-from_at P (x ∷ xs) h zero d lt = h 0 (omega arith)
All-from_at P (x ∷ xs) h (suc k) d lt = All-from_at P xs (λ i less. h (suc i) (omega arith)) k d (omega arith)

pub proof_of_none : (b : ℕ) (columns : List Column) (target : List ℤ) (end : Stage) → length target ≡ suc b → IsFirstEnd b columns target end → HasUnit end.places.items end.rows.items target →
    IsProofOfNone columns target end.potentials.numbers.items
proof_of_none b columns target end size done unit =
    let run = done.run in
    let held = run.basis.held in
    let cols : ℕ → ℕ → ℤ = basis_columns columns end.places.items in
    let rows : ℕ → ℕ → ℤ = λ j. at (numbers_at end.rows.items j) in
    let costs : ℕ → ℤ = basis_costs First columns end.places.items in
    let numbers : ℕ → ℤ = at end.potentials.numbers.items in
    let within : unit.place < suc b = omega (arith, unit.within, run.basis.count) in
    let least : (j : ℕ) → j < suc b → pos 0 ≤ℤ dot (suc b) (rows j) (at target) = λ j lt. subst (λ (n : ℕ). pos 0 ≤ℤ dot n (rows j) (at target)) size (run.least j lt) in
    let cost_some : pos 1 ≤ℤ costs unit.place = subst (λ (o : Option ℕ). pos 1 ≤ℤ cost_at First columns o) (sym unit.is_unit) (omega (arith, ints)) in
    record {
      one_each = run.potentials.sized ∙ sym size;
      below = λ k d lt. subst (λ (n : ℕ). dot n numbers (at (get_or columns k d).amounts.items) ≤ℤ pos 0) (sym size) (omega (arith, ints, done.dear k d lt));
      above = subst (λ (n : ℕ). pos 1 ≤ℤ dot n numbers (at target)) (sym size)
          (price_above (suc b) (suc b) cols rows (own_at end.rows.items) costs numbers (at target) end.potentials.denominator held.basis run.potentials.priced (λ j lt. cost_least columns (get_or end.places.items j None))
          least unit.place within cost_some (subst (λ (n : ℕ). pos 1 ≤ℤ dot n (rows unit.place) (at target)) size unit.weighted));
      small = subst (λ (n : ℕ). All (λ z. unsigned_abs z ≤ 3 * n * widest n columns ^ (n - 1)) end.potentials.numbers.items) (sym size)
          (All-from_at (λ z. unsigned_abs z ≤ 3 * suc b * widest (suc b) columns ^ (suc b - 1)) end.potentials.numbers.items
          (λ k lt. omega (
            arith,
            less,
            reduced_potential-le b (widest (suc b) columns) 1 cols rows (own_at end.rows.items) costs numbers end.potentials.denominator run.during.few held.basis held.plain run.potentials.priced run.potentials.reduced
                (λ j q. cost_small_first columns (get_or end.places.items j None)) k (omega (arith, run.potentials.sized, lt)),
          )));
    }
  where
    exponent : b ≡ suc b - 1
    exponent = omega arith

    less : 3 * suc b * 1 * widest (suc b) columns ^ b ≡ 3 * suc b * widest (suc b) columns ^ (suc b - 1)
    less = omega (arith, ap (λ (k : ℕ). 3 * suc b * widest (suc b) columns ^ k) exponent)
