-- How the phases begin.
use Rattle.std.proofs.Common.{◌≡◌, ℕ, zero, suc, ◌+◌, ◌≢◌, ◌^◌, ◌<◌, ◌≤◌, List, [], ◌∷◌, length, get_or, refl, arith, sym, ◌∙◌, subst, inl, inr, replicate}
use Rattle.std.specs.Prelude.{ℤ, pos, ◌≤ℤ◌, ◌*ℤ◌, Option, Some, None, All, unsigned_abs}
use Rattle.std.proofs.lemmas.Int.{ints}
use Rattle.std.proofs.lemmas.List.{length-replicate}
use Rattle.std.proofs.lemmas.Bool.{cases_lt}
use Rattle.std.proofs.Math.Nat.{mul-le-mul_left}
use Rattle.cal_math.specs.Vectors.{at, dot}
use Rattle.cal_math.proofs.Products.{least-*ℤ}
use Rattle.cal_math.proofs.Vectors.{dot-comm, dot_one}
use Rattle.lp_laws.proofs.Bounds.{number-le}
use Rattle.lp_laws.proofs.Units.{dot_unit_column}
use Rattle.lp_laws.specs.Bases.{IsUnit}
use Rattle.lp_basis.specs.Columns.{IsColumn}
use Rattle.lp_basis.specs.Held.{IsHeld, numbers_at, own_at}
use Rattle.lp_basis.proofs.Held.{at_past}
use Rattle.lp_basis.specs.declared.column.Column.{Column}
use Rattle.lp_basis.specs.declared.row.Row.{Row}
use Rattle.lp_stage.specs.Leaving.{amounts_at, IsStart}
use Rattle.lp_stage.specs.Stages.{cost_at, known_cost, basis_columns, IsPhase, IsStage, CanStand}
use Rattle.lp_stage.specs.declared.phase.Phase.{Phase}
use Rattle.lp_stage.specs.declared.phase.Phase.TheVariants.{First, Second}
use Rattle.lp_stage.specs.declared.stage.Stage.{Stage}
use Rattle.lp_stage.proofs.Improvement.{amounts_get}
use Rattle.lp_core.specs.Fitting.{widest, dearest, HasRoom, Fits}
use Rattle.lp_core.specs.Starts.{CanRun}
use Rattle.lp_core.specs.FirstPhase.{CanBegin, IsBegun, MeetsTarget}
use Rattle.lp_core.proofs.Extents.{sum-le_widest, one-le_widest}
use Rattle.lp_core.proofs.Starts.{IsUnit-unit_at}
use Rattle.lp_core.proofs.Runs.{target_sum, room_is}

-- ---- the columns of a phase

column_start : (n : ℕ) (columns : List Column) → All (IsColumn n) columns → (k : ℕ) → k < length columns → IsStart n (widest n columns) (amounts_at columns k)
column_start n [] fine k lt = absurd (omega arith)
column_start n (x ∷ columns) fine k lt =
    let column = fine k x lt in
    let sum = sum-le_widest n k (x ∷ columns) x lt in
    rw (amounts_get (x ∷ columns) k x lt) (record { sized = column.sized; least = column.least; sum = omega (arith, ints, sum, column.positive) })

pub cost_small_first : (columns : List Column) (place : Option ℕ) → unsigned_abs (cost_at First columns place) ≤ 1
cost_small_first columns None = omega arith
cost_small_first columns (Some k) = rw (none columns k) (omega arith)
  where
    none : (columns : List Column) (k : ℕ) → known_cost First columns k ≡ pos 0
    none [] k = refl
    none (x ∷ columns) zero = refl
    none (x ∷ columns) (suc k) = none columns k

cost_known : (columns : List Column) (k : ℕ) → unsigned_abs (known_cost Second columns k) ≤ dearest columns
unfolding dearest
cost_known [] k = omega arith
cost_known (x ∷ columns) zero = omega arith
cost_known (x ∷ columns) (suc k) = omega (arith, cost_known columns k)

pub cost_small_second : (columns : List Column) (place : Option ℕ) → unsigned_abs (cost_at Second columns place) ≤ dearest columns
cost_small_second columns None = omega arith
cost_small_second columns (Some k) = cost_known columns k

dearest_small : (n : ℕ) (columns : List Column) → All (IsColumn n) columns → dearest columns ≤ 2 ^ 55
unfolding dearest
dearest_small n [] fine = omega arith
dearest_small n (x ∷ columns) fine = omega (arith, (fine 0 x (omega arith)).cost, dearest_small n columns (λ k d lt. fine (suc k) d (omega arith)))

pub fine_at : (b : ℕ) (columns : List Column) (target : List ℤ) → Fits columns target → length target ≡ suc b → All (IsColumn (suc b)) columns
fine_at b columns target fits size = subst (λ (n : ℕ). All (IsColumn n) columns) size fits.fine

pub room_at : (b : ℕ) (columns : List Column) (target : List ℤ) → Fits columns target → length target ≡ suc b → HasRoom (suc b) (widest (suc b) columns) (dearest columns)
room_at b columns target fits size = subst (λ (n : ℕ). HasRoom n (widest n columns) (dearest columns)) size fits.room

pub first_phase : (b : ℕ) (columns : List Column) (target : List ℤ) → Fits columns target → length target ≡ suc b → IsPhase b (widest (suc b) columns) 1 First columns
first_phase b columns target fits size = record {
  few = omega (arith, fits.aim.few, size);
  fine = column_start (suc b) columns (fine_at b columns target fits size);
  small = cost_small_first columns;
  cost_room = omega arith;
  room = omega (arith, (room_at b columns target fits size).wide);
}

pub second_phase : (b : ℕ) (columns : List Column) (target : List ℤ) → Fits columns target → length target ≡ suc b → IsPhase b (widest (suc b) columns) (dearest columns) Second columns
second_phase b columns target fits size = record {
  few = omega (arith, fits.aim.few, size);
  fine = column_start (suc b) columns (fine_at b columns target fits size);
  small = cost_small_second columns;
  cost_room = dearest_small (suc b) columns (fine_at b columns target fits size);
  room = (room_at b columns target fits size).dear;
}

pub CanBegin-from_fits : (b : ℕ) (columns : List Column) (target : List ℤ) → Fits columns target → length target ≡ suc b → CanBegin b (widest (suc b) columns) columns
CanBegin-from_fits b columns target fits size = record {
  wide = one-le_widest (suc b) columns;
  room = (room_at b columns target fits size).wide;
  during = first_phase b columns target fits size;
}

-- ---- the units

abbrev no_column : Option ℕ
no_column = None

unit_place : (n j : ℕ) → get_or (replicate n no_column) j no_column ≡ no_column
unit_place zero j = refl
unit_place (suc n) zero = refl
unit_place (suc n) (suc j) = unit_place n j

units_stand : (n : ℕ) (columns : List Column) (j : ℕ) → IsUnit n j (basis_columns columns (replicate n None) j)
units_stand n columns j = rw (unit_place n j) (IsUnit-unit_at n j)

pub CanStand-units : (b w : ℕ) (columns : List Column) (rows : List Row) → CanBegin b w columns →
    ((w : ℕ) (units : ℕ → ℕ → ℤ) → 1 ≤ w → w ^ suc b ≤ 2 ^ 62 → ((j : ℕ) → j < suc b → IsUnit (suc b) j (units j)) → IsHeld (suc b) w units rows) →
    CanStand b w 1 First columns (replicate (suc b) None) rows
CanStand-units b w columns rows can held = record {
  during = can.during;
  basis = record {
    count = length-replicate (suc b) None;
    known = λ j lt. rw (unit_place (suc b) j) tt;
    held = held w (basis_columns columns (replicate (suc b) None)) can.wide can.room (λ j lt. units_stand (suc b) columns j);
  };
}

-- a row of the units meets a target of at least 0 at least at 0
unit_least : (b w : ℕ) (columns : List Column) (rows : List Row) (target : List ℤ) → IsHeld (suc b) w (basis_columns columns (replicate (suc b) None)) rows → ((c : ℕ) → pos 0 ≤ℤ at target c) →
    (j : ℕ) → j < suc b → pos 0 ≤ℤ dot (suc b) (at (numbers_at rows j)) (at target)
unit_least b w columns rows target held least j lt =
    let row : ℕ → ℤ = at (numbers_at rows j) in
    let cols : ℕ → ℕ → ℤ = basis_columns columns (replicate (suc b) None) in
    let number : (i : ℕ) → i < suc b → dot (suc b) row (cols i) ≡ row i = λ i less. dot_unit_column (suc b) i row (cols i) less (units_stand (suc b) columns i) in
    let zeros : (i : ℕ) → i < suc b → i ≢ j → row i ≡ pos 0 = λ i less ne. sym (number i less) ∙ held.basis.kills j i lt less (λ e. ne (sym e)) in
    let own : row j ≡ own_at rows j = sym (number j lt) ∙ held.basis.owns j lt in
    let is : dot (suc b) row (at target) ≡ at target j *ℤ row j = dot-comm (suc b) row (at target) ∙ dot_one (suc b) j (at target) row lt zeros in
    rw is (least-*ℤ (at target j) (row j) (least j) (omega (arith, ints, own, held.basis.above j lt)))

pub CanRun-units : (b : ℕ) (columns : List Column) (target : List ℤ) (stage : Stage) → Fits columns target → length target ≡ suc b → IsBegun (length target) columns stage →
    CanRun b (widest (suc b) columns) 1 First columns target stage
CanRun-units b columns target stage fits size begun =
    let can = CanBegin-from_fits b columns target fits size in
    let at_units = begun b (widest (suc b) columns) size can in
    let is = subst (λ (n : ℕ). IsStage b (widest (suc b) columns) First columns (replicate n None) stage) size at_units in
    record {
      during = can.during;
      fine = fine_at b columns target fits size;
      aim = fits.aim;
      size = size;
      basis = rw is.places_are is.basis;
      potentials = rw is.places_are is.potentials;
      least = λ j lt. subst (λ (n : ℕ). pos 0 ≤ℤ dot n (at (numbers_at stage.rows.items j)) (at target)) (sym size)
          (unit_least b (widest (suc b) columns) columns stage.rows.items target is.basis.held fits.aim.least j lt);
    }

-- ---- the rows of a running phase meet the target

pub meets_target : (b w s : ℕ) (phase : Phase) (columns : List Column) (target : List ℤ) (stage : Stage) → CanRun b w s phase columns target stage → MeetsTarget stage.rows.items target
meets_target b w s phase columns target stage can j lt =
    let held = can.basis.held in
    let within : j < suc b = omega (arith, lt, held.count) in
    let small : (c : ℕ) → unsigned_abs (at (numbers_at stage.rows.items j) c) ≤ w ^ b = λ c. elim (cases_lt c (suc b)) [
      | inl less ↦ number-le b w (basis_columns columns stage.places.items) (λ i. at (numbers_at stage.rows.items i)) (own_at stage.rows.items) held.basis held.plain j c within less (held.primitive j within)
      | inr le ↦ rw (at_past (numbers_at stage.rows.items j) c (omega (arith, held.lengths j within))) (omega arith)
    ] in (
      w ^ b,
      2 ^ 53,
      record {
        sized = held.lengths j within ∙ sym can.size;
        row_small = small;
        least = can.aim.least;
        sum = rw (held.lengths j within) (target_sum b target can.size can.aim);
        room = omega (arith, room_is b w held.wide held.room, mul-le-mul_left (w ^ b) wider);
      },
    )
  where
    wider : 2 ^ 53 ≤ w + 2 ^ 53
    wider = omega arith
