-- What a step of a running phase gives.
use Rattle.std.proofs.Common.{◌≡◌, ℕ, zero, suc, ◌*◌, ◌^◌, ◌<◌, ◌≤◌, ◌≢◌, List, [], ◌∷◌, length, get_or, refl, arith, ap, sym, ◌∙◌, subst, inl, inr}
use Rattle.std.specs.Prelude.{ℤ, pos, ◌*ℤ◌, ◌≤ℤ◌, ◌<ℤ◌, unsigned_abs, All, Option, Some, None, MatchOption}
use Rattle.std.proofs.lemmas.Int.{ints}
use Rattle.std.proofs.lemmas.Bool.{cases_eq, cases_lt}
use Rattle.std.proofs.lemmas.List.{get_or-set_same, get_or-set_other}
use Rattle.std.proofs.Math.Nat.{pow-suc, mul-le-mul_right}
use Rattle.cal_math.specs.Vectors.{at, sum_to, dot}
use Rattle.cal_math.proofs.Vectors.{sum-le, sum-zero}
use Rattle.lp_laws.proofs.Reduced.{reduced_denominator-le, reduced_potential-le}
use Rattle.lp_laws.proofs.Falling.{some_place, lists_above}
use Rattle.lp_laws.proofs.Steps.{costs_fall_at}
use Rattle.lp_laws.specs.Orders.{IsLexAbove}
use Rattle.lp_basis.specs.Held.{numbers_at, own_at}
use Rattle.lp_basis.specs.Potentials.{IsPotentials}
use Rattle.lp_stage.specs.Pricing.{cost_in, IsCheap, IsDear, FitsPrice, IsEntering}
use Rattle.lp_stage.specs.Leaving.{amounts_at, row_product, IsStart}
use Rattle.lp_stage.specs.Stages.{column_at, cost_at, basis_columns, basis_costs, IsPlacedBasis, CanStep, IsStep}
use Rattle.lp_stage.specs.Running.{IsRunning, IsBetter}
use Rattle.lp_basis.specs.declared.column.Column.{Column}
use Rattle.lp_stage.specs.declared.phase.Phase.{Phase}
use Rattle.lp_stage.specs.declared.stage.Stage.{Stage}
use Rattle.lp_basis.proofs.Held.{at_past}
use Rattle.lp_basis.proofs.Pricing.{potential_room}

pub amounts_get : (columns : List Column) (k : ℕ) (d : Column) → k < length columns → amounts_at columns k ≡ (get_or columns k d).amounts.items
amounts_get [] k d lt = absurd (omega arith)
amounts_get (x ∷ columns) zero d lt = refl
amounts_get (x ∷ columns) (suc k) d lt = amounts_get columns k d (omega arith)

pub cost_get : (phase : Phase) (columns : List Column) (k : ℕ) (d : Column) → k < length columns → cost_at phase columns (Some k) ≡ cost_in phase (get_or columns k d)
cost_get phase [] k d lt = absurd (omega arith)
cost_get phase (x ∷ columns) zero d lt = refl
cost_get phase (x ∷ columns) (suc k) d lt = cost_get phase columns k d (omega arith)

price_room : (b w s : ℕ) → b < 8 → w ^ suc b * s ≤ 2 ^ 94 → 3 * suc b * s * w ^ b * w < 2 ^ 126
price_room b w s few room =
    let x : ℕ = w ^ suc b * s in
    let e : 3 * suc b * s * w ^ b * w ≡ 3 * (suc b * x) = omega (arith, ap (λ (v : ℕ). 3 * (suc b * (v * s))) (pow-suc w b)) in
    omega (arith, e, mul-le-mul_right x few, room)

pub fits_price : (b w s v : ℕ) (phase : Phase) (columns starts : List Column) (stage : Stage) → IsRunning b w s v phase columns starts stage →
    All (FitsPrice (3 * suc b * s * w ^ b) w stage.potentials.numbers.items stage.potentials.denominator) columns
fits_price b w s v phase columns starts stage run k d lt =
    let column : Column = get_or columns k d in
    let start : IsStart (suc b) w column.amounts.items = subst (IsStart (suc b) w) (amounts_get columns k d lt) (run.during.fine k lt) in
    let held = run.basis.held in
    let rows : ℕ → ℕ → ℤ = λ j. at (numbers_at stage.rows.items j) in
    let numbers : ℕ → ℤ = at stage.potentials.numbers.items in
    record {
      product = record {
        sized = run.potentials.sized ∙ sym start.sized;
        row_small = λ c. elim (cases_lt c (suc b)) [
          | inl less ↦ reduced_potential-le b w s (basis_columns columns stage.places.items) rows (own_at stage.rows.items) (basis_costs phase columns stage.places.items) numbers stage.potentials.denominator run.during.few held.basis held.plain run.potentials.priced run.potentials.reduced
              (λ j less. run.during.small (get_or stage.places.items j None)) c less
          | inr le ↦ rw (at_past stage.potentials.numbers.items c (omega (arith, run.potentials.sized))) (omega arith)
        ];
        least = start.least;
        sum = rw run.potentials.sized start.sum;
        room = price_room b w s run.during.few run.during.room;
      };
      denominator_small = omega (arith, reduced_denominator-le (suc b) w (basis_columns columns stage.places.items) rows (own_at stage.rows.items) (basis_costs phase columns stage.places.items) numbers stage.potentials.denominator held.basis held.plain run.potentials.priced run.potentials.reduced, held.room);
      cost_small = (run.fine k d lt).cost;
    }

pub can_step : (b w s v : ℕ) (phase : Phase) (columns starts : List Column) (stage : Stage) (k : ℕ) → IsRunning b w s v phase columns starts stage → k < length columns →
    CanStep b w s v phase columns starts stage.places.items stage.rows.items k
can_step b w s v phase columns starts stage k run lt = record {
  during = run.during;
  basis = run.basis;
  known = lt;
  leaves = record { held = run.basis.held; enters = run.during.fine k lt; count = run.count; fits = run.fits; room = run.room; rows0 = run.rows0; own0 = run.own0; begun = run.begun };
}

-- a column always meets some row above 0
pub some_row : (b w s v : ℕ) (phase : Phase) (columns starts : List Column) (stage : Stage) (k : ℕ) (d : Column) → IsRunning b w s v phase columns starts stage → k < length columns →
    ((j : ℕ) → j < suc b → row_product (suc b) stage.rows.items (amounts_at columns k) j ≤ℤ pos 0) → ⊥
some_row b w s v phase columns starts stage k d run lt low =
    let amounts : ℕ → ℤ = at (amounts_at columns k) in
    let most : sum_to (suc b) amounts ≤ℤ sum_to (suc b) (λ c. pos 0) = sum-le (suc b) amounts (λ c. pos 0)
    (λ c less. some_place (suc b) (suc b) (basis_columns columns stage.places.items) (λ j. at (numbers_at stage.rows.items j)) (own_at stage.rows.items) run.basis.held.basis (λ j c p q. run.basis.held.plain.least j c p q) amounts low c less) in
    let some : pos 1 ≤ℤ sum_to (suc b) amounts = subst (λ (xs : List ℤ). pos 1 ≤ℤ sum_to (suc b) (at xs)) (sym (amounts_get columns k d lt)) (run.fine k d lt).positive in
    omega (arith, ints, most, some, sum-zero (suc b) (λ c. pos 0) (λ c less. refl))

-- the better stage
pub running_next : (b w s v : ℕ) (phase : Phase) (columns starts : List Column) (stage next : Stage) (k : ℕ) (d : Column) → IsRunning b w s v phase columns starts stage → k < length columns →
    IsCheap (suc b) phase (at stage.potentials.numbers.items) stage.potentials.denominator (get_or columns k d) → IsStep b w phase columns starts stage.places.items stage.rows.items k next →
    IsBetter b w s v phase columns starts stage next
running_next b w s v phase columns starts stage next k d run lt cheap step = record {
  running = record {
    during = run.during;
    fine = run.fine;
    basis = basis';
    potentials = potentials';
    count = run.count;
    fits = run.fits;
    room = run.room;
    rows0 = run.rows0;
    own0 = run.own0;
    begun = run.begun;
    above = above';
  };
  fallen = costs_fall_at (suc b) (suc b) i cols cols' rows' (own_at next.rows.items) (basis_costs phase columns old) (basis_costs phase columns next.places.items) (at stage.potentials.numbers.items) (at next.potentials.numbers.items) stage.potentials.denominator next.potentials.denominator
      basis'.held.basis (record { within = step.leaving.within; stays = λ j less ne c q. stays j ne c }) (λ j less ne. ap (cost_at phase columns) (other j ne)) run.potentials.priced potentials'.priced cheap' (suc (suc b)) S (above' i step.leaving.within);
  keeps = λ j e. elim (cases_eq j i) [
    | inl same ↦ absurd (not_none k (sym (ap (λ (l : ℕ). get_or next.places.items l None) same ∙ here) ∙ e))
    | inr ne ↦ sym (other j ne) ∙ e
  ];
}
  where
    not_none : (k : ℕ) → Some k ≡ None → ⊥
    not_none k e = cc

    i : ℕ
    i = step.place

    old : List (Option ℕ)
    old = stage.places.items

    S : ℕ → ℕ → ℤ
    S k = at (amounts_at starts k)

    rows' : ℕ → ℕ → ℤ
    rows' j = at (numbers_at next.rows.items j)

    cols : ℕ → ℕ → ℤ
    cols = basis_columns columns old

    cols' : ℕ → ℕ → ℤ
    cols' = basis_columns columns next.places.items

    basis' : IsPlacedBasis b w columns next.places.items next.rows.items
    basis' = subst (λ (ps : List (Option ℕ)). IsPlacedBasis b w columns ps next.rows.items) (sym step.stage.places_are) step.stage.basis

    potentials' : IsPotentials (suc b) (basis_columns columns next.places.items) (basis_costs phase columns next.places.items) next.potentials
    potentials' = subst (λ (ps : List (Option ℕ)). IsPotentials (suc b) (basis_columns columns ps) (basis_costs phase columns ps) next.potentials) (sym step.stage.places_are) step.stage.potentials

    here : get_or next.places.items i None ≡ Some k
    here = ap (λ (ps : List (Option ℕ)). get_or ps i None) step.stage.places_are ∙ get_or-set_same old i (Some k) None (omega (arith, step.leaving.within, run.basis.count))

    other : (j : ℕ) → j ≢ i → get_or next.places.items j None ≡ get_or old j None
    other j ne = ap (λ (ps : List (Option ℕ)). get_or ps j None) step.stage.places_are ∙ get_or-set_other old i j (Some k) None ne

    stays : (j : ℕ) → j ≢ i → (c : ℕ) → cols' j c ≡ cols j c
    stays j ne c = ap (λ (p : Option ℕ). column_at columns p j c) (other j ne)

    enters : (c : ℕ) → cols' i c ≡ at (amounts_at columns k) c
    enters c = ap (λ (p : Option ℕ). column_at columns p i c) here

    above' : (j : ℕ) → j < suc b → IsLexAbove (suc (suc b)) (λ k. dot (suc b) (rows' j) (S k))
    above' = lists_above (suc b) (suc b) i cols (λ j. at (numbers_at stage.rows.items j)) (own_at stage.rows.items) cols' rows' (own_at next.rows.items) (at (amounts_at columns k)) run.basis.held.basis basis'.held.basis step.leaving.within
        (λ c less. enters c) (λ j less ne c q. stays j ne c) step.leaving.positive (suc (suc b)) S run.above step.leaving.first

    cheap' : (pos stage.potentials.denominator *ℤ basis_costs phase columns next.places.items i) <ℤ dot (suc b) (at stage.potentials.numbers.items) (cols' i)
    cheap' =
        let cost_is : basis_costs phase columns next.places.items i ≡ cost_in phase (get_or columns k d) = ap (cost_at phase columns) here ∙ cost_get phase columns k d lt in
        let price_is : dot (suc b) (at stage.potentials.numbers.items) (cols' i) ≡ dot (suc b) (at stage.potentials.numbers.items) (at (get_or columns k d).amounts.items) =
        ap (λ (p : Option ℕ). dot (suc b) (at stage.potentials.numbers.items) (column_at columns p i)) here ∙ ap (λ (xs : List ℤ). dot (suc b) (at stage.potentials.numbers.items) (at xs)) (amounts_get columns k d lt) in
        rw (cost_is, price_is) cheap

-- whatever the step found
pub step_gives : (b w s v : ℕ) (phase : Phase) (columns starts : List Column) (stage : Stage) (k : ℕ) (found : Option Stage) → IsRunning b w s v phase columns starts stage → IsEntering (suc b) phase (at stage.potentials.numbers.items) stage.potentials.denominator columns k →
    MatchOption found ((j : ℕ) → j < suc b → row_product (suc b) stage.rows.items (amounts_at columns k) j ≤ℤ pos 0) (IsStep b w phase columns starts stage.places.items stage.rows.items k) →
    MatchOption found (All (IsDear (suc b) phase (at stage.potentials.numbers.items) stage.potentials.denominator) columns) (IsBetter b w s v phase columns starts stage)
step_gives b w s v phase [] starts stage k found run enters is = absurd (omega (arith, enters.within))
step_gives b w s v phase (x ∷ columns) starts stage k None run enters is = absurd (some_row b w s v phase (x ∷ columns) starts stage k x run enters.within is)
step_gives b w s v phase (x ∷ columns) starts stage k (Some next) run enters is = running_next b w s v phase (x ∷ columns) starts stage next k x run enters.within (enters.cheap x) is

-- the denominator and the potentials of a running phase
pub stage_small : (b w s v : ℕ) (phase : Phase) (columns starts : List Column) (stage : Stage) → IsRunning b w s v phase columns starts stage →
    (stage.potentials.denominator ≤ 2 ^ 62) × ((c : ℕ) → c < suc b → unsigned_abs (at stage.potentials.numbers.items c) ≤ 2 ^ 100)
stage_small b w s v phase columns starts stage run =
    let held = run.basis.held in
    let rows : ℕ → ℕ → ℤ = λ j. at (numbers_at stage.rows.items j) in
    let numbers : ℕ → ℤ = at stage.potentials.numbers.items in (
      omega (arith, reduced_denominator-le (suc b) w (basis_columns columns stage.places.items) rows (own_at stage.rows.items) (basis_costs phase columns stage.places.items) numbers stage.potentials.denominator held.basis held.plain run.potentials.priced run.potentials.reduced, held.room),
      λ c lt. potential_room b w s (unsigned_abs (numbers c)) run.during.few held.wide run.during.room
          (reduced_potential-le b w s (basis_columns columns stage.places.items) rows (own_at stage.rows.items) (basis_costs phase columns stage.places.items) numbers stage.potentials.denominator run.during.few held.basis held.plain run.potentials.priced run.potentials.reduced
          (λ j less. run.during.small (get_or stage.places.items j None)) c lt),
    )
