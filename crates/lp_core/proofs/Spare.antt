-- Units without weight: what an exchange at the place of one keeps, and that a spare one has no weight at the end.
use Rattle.std.proofs.Common.{◌≡◌, ℕ, suc, ◌+◌, ◌^◌, ◌<◌, ◌≢◌, List, length, get_or, set, refl, arith, ap, sym, ◌∙◌, subst, inl, inr}
use Rattle.std.specs.Prelude.{ℤ, pos, ◌≤ℤ◌, ◌⊎◌, Option, Some, None}
use Rattle.std.proofs.lemmas.Int.{ints}
use Rattle.std.proofs.lemmas.Bool.{cases_eq}
use Rattle.std.proofs.lemmas.List.{get_or-set_same, get_or-set_other}
use Rattle.cal_math.specs.Vectors.{at, dot}
use Rattle.cal_math.proofs.Vectors.{dot_same}
use Rattle.lp_laws.proofs.Idle.{stays_killed, stays_least, stays_idle}
use Rattle.lp_basis.specs.Held.{numbers_at, own_at}
use Rattle.lp_basis.specs.Potentials.{IsPotentials}
use Rattle.lp_basis.proofs.Held.{fits_column}
use Rattle.lp_basis.specs.declared.column.Column.{Column}
use Rattle.lp_basis.specs.declared.row.Row.{Row}
use Rattle.lp_stage.specs.Leaving.{amounts_at, row_product}
use Rattle.lp_stage.specs.Stages.{column_at, basis_columns, basis_costs, IsKnown, IsPlacedBasis, IsStage, CanStand, CanMove}
use Rattle.lp_stage.specs.declared.phase.Phase.TheVariants.{Second}
use Rattle.lp_stage.specs.declared.stage.Stage.{Stage}
use Rattle.lp_core.specs.Fitting.{widest, dearest}
use Rattle.lp_core.specs.Ends.{target_product, IsLast}
use Rattle.lp_core.specs.Starts.{CanRun, HasRun}
use Rattle.lp_core.specs.SecondPhase.{column_product, KillsAll, MeetsAll, CanFollow, IsReady}
use Rattle.lp_core.proofs.Beginning.{second_phase, fine_at}

is_none : (o : Option ℕ) → (o ≡ None) ⊎ ((k : ℕ) × (o ≡ Some k))
is_none None = inl refl
is_none (Some k) = inr (k, refl)

some_is : (k : ℕ) → Some k ≡ None → ⊥
some_is k e = cc

-- ---- the first stage of the second phase

zero_between : (x : ℤ) → pos 0 ≤ℤ x → x ≤ℤ pos 0 → x ≡ pos 0
zero_between x h k = omega (arith, ints)

pub CanStand-follow : (b : ℕ) (columns : List Column) (target : List ℤ) (end : Stage) → CanFollow b columns target end →
    CanStand b (widest (suc b) columns) (dearest columns) Second columns end.places.items end.rows.items
CanStand-follow b columns target end can = record { during = second_phase b columns target can.fits can.size; basis = can.first.run.basis }

pub IsReady-first : (b : ℕ) (columns : List Column) (target : List ℤ) (end stage : Stage) → CanFollow b columns target end → stage.rows.items ≡ end.rows.items → IsStage b (widest (suc b) columns) Second columns end.places.items stage →
    IsReady b columns target 0 stage
IsReady-first b columns target end stage can rows_are is = record {
  fits = can.fits;
  size = can.size;
  basis = subst (λ (places : List (Option ℕ)). IsPlacedBasis b (widest (suc b) columns) columns places stage.rows.items) (sym is.places_are) is.basis;
  potentials = subst (λ (places : List (Option ℕ)). IsPotentials (suc b) (basis_columns columns places) (basis_costs Second columns places) stage.potentials) (sym is.places_are) is.potentials;
  reached = record {
    least = λ j lt. subst (λ (rows : List Row). pos 0 ≤ℤ target_product rows target j) (sym rows_are) (can.first.run.least j lt);
    idle = λ j lt none. subst (λ (rows : List Row). target_product rows target j ≡ pos 0) (sym rows_are)
        (zero_between (target_product end.rows.items target j) (can.first.run.least j lt) (can.none j (omega (arith, can.first.run.basis.count, lt)) (subst (λ (places : List (Option ℕ)). get_or places j None ≡ None) is.places_are none)));
  };
  spare = λ j lt within none. absurd (omega arith);
}

-- ---- the row of a place meets the known columns

pub meets_all : (b : ℕ) (columns : List Column) (target : List ℤ) (done : ℕ) (stage : Stage) → IsReady b columns target done stage → (j : ℕ) → j < suc b → MeetsAll columns (numbers_at stage.rows.items j)
meets_all b columns target done stage ready j lt k within =
    let start = (second_phase b columns target ready.fits ready.size).fine k within in
    let w : ℕ = widest (suc b) columns in
    (w ^ b, w, fits_column b w (basis_columns columns stage.places.items) stage.rows.items (amounts_at columns k) ready.basis.held start.sized start.least start.sum j lt)

-- the product with a known column, by the row's own length
pub met_same : (b : ℕ) (columns : List Column) (target : List ℤ) (done : ℕ) (stage : Stage) → IsReady b columns target done stage → (j k : ℕ) → j < suc b →
    column_product columns (numbers_at stage.rows.items j) k ≡ row_product (suc b) stage.rows.items (amounts_at columns k) j
met_same b columns target done stage ready j k lt = ap (λ (n : ℕ). dot n (at (numbers_at stage.rows.items j)) (at (amounts_at columns k))) (ready.basis.held.lengths j lt)

-- ---- one more place is done

known_more : (b : ℕ) (columns : List Column) (target : List ℤ) (j : ℕ) (stage : Stage) → IsReady b columns target j stage → (get_or stage.places.items j None ≡ None → KillsAll (suc b) columns stage.rows.items j) →
    IsReady b columns target (j + 1) stage
known_more b columns target j stage ready last = record {
  fits = ready.fits;
  size = ready.size;
  basis = ready.basis;
  potentials = ready.potentials;
  reached = ready.reached;
  spare = λ i lt within none. elim (cases_eq i j) [
    | inl e ↦ subst (λ (l : ℕ). KillsAll (suc b) columns stage.rows.items l) (sym e) (last (subst (λ (l : ℕ). get_or stage.places.items l None ≡ None) e none))
    | inr ne ↦ ready.spare i (omega arith) within none
  ];
}

pub IsReady-spare : (b : ℕ) (columns : List Column) (target : List ℤ) (j : ℕ) (stage : Stage) → IsReady b columns target j stage → j < suc b →
    (get_or stage.places.items j None ≡ None → (k : ℕ) → k < length columns → column_product columns (numbers_at stage.rows.items j) k ≡ pos 0) → IsReady b columns target (j + 1) stage
IsReady-spare b columns target j stage ready lt kills =
    known_more b columns target j stage ready (λ none k within. sym (met_same b columns target j stage ready j k lt) ∙ kills none k within)

pub CanMove-ready : (b : ℕ) (columns : List Column) (target : List ℤ) (j k : ℕ) (stage : Stage) → IsReady b columns target j stage → j < suc b → k < length columns → column_product columns (numbers_at stage.rows.items j) k ≢ pos 0 →
    CanMove b (widest (suc b) columns) (dearest columns) Second columns stage.places.items stage.rows.items j k
CanMove-ready b columns target j k stage ready lt within met = record {
  during = second_phase b columns target ready.fits ready.size;
  basis = ready.basis;
  place = lt;
  known = within;
  met = λ e. met (met_same b columns target j stage ready j k lt ∙ e);
}

-- a known column has come in at place j, which had a unit
pub IsReady-moved : (b : ℕ) (columns : List Column) (target : List ℤ) (j k : ℕ) (stage next : Stage) → IsReady b columns target j stage → j < suc b → k < length columns → get_or stage.places.items j None ≡ None →
    IsStage b (widest (suc b) columns) Second columns (set stage.places.items j (Some k)) next → IsReady b columns target (j + 1) next
IsReady-moved b columns target j k stage next ready lt within none is = record {
  fits = ready.fits;
  size = ready.size;
  basis = basis';
  potentials = subst (λ (places : List (Option ℕ)). IsPotentials (suc b) (basis_columns columns places) (basis_costs Second columns places) next.potentials) (sym is.places_are) is.potentials;
  reached = record {
    least = λ i less. subst (λ (n : ℕ). pos 0 ≤ℤ dot n (rows' i) (at target)) (sym ready.size)
        (stays_least (suc b) (suc b) j cols rows (own_at stage.rows.items) cols' rows' (own_at next.rows.items) (at target) ready.basis.held.basis basis'.held.basis stays (idle j lt none) i less
        (subst (λ (n : ℕ). pos 0 ≤ℤ dot n (rows i) (at target)) ready.size (ready.reached.least i less)));
    idle = λ i less free. subst (λ (n : ℕ). dot n (rows' i) (at target) ≡ pos 0) (sym ready.size)
        (stays_idle (suc b) (suc b) j cols rows (own_at stage.rows.items) cols' rows' (own_at next.rows.items) (at target) ready.basis.held.basis basis'.held.basis stays (idle j lt none) i less (idle i less (was_free i free)));
  };
  spare = λ i less small free l known.
      stays_killed (suc b) (suc b) cols' rows' (own_at next.rows.items) basis'.held.basis (rows i) i small (kills i small less free) (own_some i small free) (at (amounts_at columns l)) (ready.spare i (before i less free) small (was_free i free) l known);
}
  where
    cols : ℕ → ℕ → ℤ
    cols = basis_columns columns stage.places.items

    cols' : ℕ → ℕ → ℤ
    cols' = basis_columns columns next.places.items

    rows : ℕ → ℕ → ℤ
    rows i = at (numbers_at stage.rows.items i)

    rows' : ℕ → ℕ → ℤ
    rows' i = at (numbers_at next.rows.items i)

    basis' : IsPlacedBasis b (widest (suc b) columns) columns next.places.items next.rows.items
    basis' = subst (λ (places : List (Option ℕ)). IsPlacedBasis b (widest (suc b) columns) columns places next.rows.items) (sym is.places_are) is.basis

    here : get_or next.places.items j None ≡ Some k
    here = ap (λ (places : List (Option ℕ)). get_or places j None) is.places_are ∙ get_or-set_same stage.places.items j (Some k) None (omega (arith, lt, ready.basis.count))

    other : (i : ℕ) → i ≢ j → get_or next.places.items i None ≡ get_or stage.places.items i None
    other i ne = ap (λ (places : List (Option ℕ)). get_or places i None) is.places_are ∙ get_or-set_other stage.places.items j i (Some k) None ne

    stays : (i : ℕ) → i < suc b → i ≢ j → (c : ℕ) → c < suc b → cols' i c ≡ cols i c
    stays i less ne c q = ap (λ (o : Option ℕ). column_at columns o i c) (other i ne)

    idle : (i : ℕ) → i < suc b → get_or stage.places.items i None ≡ None → dot (suc b) (rows i) (at target) ≡ pos 0
    idle i less free = subst (λ (n : ℕ). dot n (rows i) (at target) ≡ pos 0) ready.size (ready.reached.idle i less free)

    apart : (i : ℕ) → get_or next.places.items i None ≡ None → i ≢ j
    apart i free e = some_is k (sym here ∙ ap (λ (l : ℕ). get_or next.places.items l None) (sym e) ∙ free)

    was_free : (i : ℕ) → get_or next.places.items i None ≡ None → get_or stage.places.items i None ≡ None
    was_free i free = sym (other i (apart i free)) ∙ free

    before : (i : ℕ) → i < j + 1 → get_or next.places.items i None ≡ None → i < j
    before i less free = let ne : i ≢ j = apart i free in omega arith

    own_some : (i : ℕ) → i < suc b → get_or next.places.items i None ≡ None → pos 1 ≤ℤ dot (suc b) (rows i) (cols' i)
    own_some i less free =
        subst (λ (z : ℤ). pos 1 ≤ℤ z) (sym (dot_same (suc b) (rows i) (cols' i) (rows i) (cols i) (λ c q. refl) (λ c q. stays i less (apart i free) c q) ∙ ready.basis.held.basis.owns i less)) (ready.basis.held.basis.above i less)

    kills : (i : ℕ) → i < suc b → i < j + 1 → get_or next.places.items i None ≡ None → (l : ℕ) → l < suc b → l ≢ i → dot (suc b) (rows i) (cols' l) ≡ pos 0
    kills i less small free l q ne =
        elim (cases_eq l j) [
          | inl e ↦
              ap (λ (o : Option ℕ). dot (suc b) (rows i) (column_at columns o l)) (ap (λ (m : ℕ). get_or next.places.items m None) e ∙ here)
              ∙ ready.spare i (before i small free) less (was_free i free) k within
          | inr apart_too ↦
              dot_same (suc b) (rows i) (cols' l) (rows i) (cols l) (λ c r. refl) (λ c r. stays l q apart_too c r) ∙ ready.basis.held.basis.kills i l less q (λ e. ne (sym e))
        ]

-- ---- the end of the second phase

pub CanRun-ready : (b : ℕ) (columns : List Column) (target : List ℤ) (stage : Stage) → IsReady b columns target (suc b) stage → CanRun b (widest (suc b) columns) (dearest columns) Second columns target stage
CanRun-ready b columns target stage ready = record {
  during = second_phase b columns target ready.fits ready.size;
  fine = fine_at b columns target ready.fits ready.size;
  aim = ready.fits.aim;
  size = ready.size;
  basis = ready.basis;
  potentials = ready.potentials;
  least = ready.reached.least;
}

pub IsLast-run : (b : ℕ) (columns : List Column) (target : List ℤ) (stage end : Stage) → IsReady b columns target (suc b) stage → HasRun b (widest (suc b) columns) (dearest columns) Second columns target stage end → IsLast b columns target end
IsLast-run b columns target stage end ready done = record {
  fits = ready.fits;
  size = ready.size;
  basis = done.run.basis;
  potentials = done.run.potentials;
  reached = record {
    least = done.run.least;
    idle = λ i less free. subst (λ (n : ℕ). dot n (rows' i) (at target) ≡ pos 0) (sym ready.size)
        (stays_killed (suc b) (suc b) cols' rows' (own_at end.rows.items) done.run.basis.held.basis (rows i) i less (kills i less free) (own_some i less free) (at target)
        (subst (λ (n : ℕ). dot n (rows i) (at target) ≡ pos 0) ready.size (ready.reached.idle i less (done.keeps i free))));
  };
  dear = done.dear;
}
  where
    cols : ℕ → ℕ → ℤ
    cols = basis_columns columns stage.places.items

    cols' : ℕ → ℕ → ℤ
    cols' = basis_columns columns end.places.items

    rows : ℕ → ℕ → ℤ
    rows i = at (numbers_at stage.rows.items i)

    rows' : ℕ → ℕ → ℤ
    rows' i = at (numbers_at end.rows.items i)

    -- a unit that stands yet is the one that stood
    same_unit : (i : ℕ) → get_or end.places.items i None ≡ None → cols' i ≡ cols i
    same_unit i free = ap (λ (o : Option ℕ). column_at columns o i) (free ∙ sym (done.keeps i free))

    own_some : (i : ℕ) → i < suc b → get_or end.places.items i None ≡ None → pos 1 ≤ℤ dot (suc b) (rows i) (cols' i)
    own_some i less free = subst (λ (z : ℤ). pos 1 ≤ℤ z) (sym (ap (dot (suc b) (rows i)) (same_unit i free) ∙ ready.basis.held.basis.owns i less)) (ready.basis.held.basis.above i less)

    kills : (i : ℕ) → i < suc b → get_or end.places.items i None ≡ None → (l : ℕ) → l < suc b → l ≢ i → dot (suc b) (rows i) (cols' l) ≡ pos 0
    kills i less free l q ne =
        elim (is_none (get_or end.places.items l None)) [
          | inl empty ↦ ap (dot (suc b) (rows i)) (same_unit l empty) ∙ ready.basis.held.basis.kills i l less q (λ e. ne (sym e))
          | inr known ↦
              ap (λ (o : Option ℕ). dot (suc b) (rows i) (column_at columns o l)) known.1
              ∙ ready.spare i less less (done.keeps i free) known.0 (subst (IsKnown (length columns)) known.1 (done.run.basis.known l (omega (arith, q, done.run.basis.count))))
        ]
