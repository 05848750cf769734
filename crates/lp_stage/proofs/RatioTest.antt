-- The best of the first rows in the ratio test, and with one row more.
use Rattle.std.proofs.Common.{◌≡◌, ℕ, zero, suc, ◌+◌, ◌^◌, ◌<◌, ◌≢◌, List, [], ◌∷◌, length, get_or, refl, arith, ap, sym, ◌∙◌, subst, inl, inr}
use Rattle.std.specs.Prelude.{ℤ, pos, ◌-ℤ◌, ◌*ℤ◌, ◌≤ℤ◌, Option, Some, None}
use Rattle.std.proofs.lemmas.Int.{ints}
use Rattle.std.proofs.lemmas.Bool.{cases_eq}
use Rattle.cal_math.specs.Vectors.{at, dot}
use Rattle.cal_math.proofs.Vectors.{dot_difference}
use Rattle.lp_laws.proofs.Lexicographic.{before_trans}
use Rattle.lp_laws.proofs.Falling.{no_tie}
use Rattle.lp_laws.specs.Orders.{IsLexAbove}
use Rattle.lp_basis.specs.Rows.{FitsProduct}
use Rattle.lp_basis.proofs.Held.{number_small}
use Rattle.lp_basis.specs.Held.{numbers_at, own_at}
use Rattle.lp_stage.specs.Leaving.{amounts_at, start_product, CanLeave, row_product, IsFirst, IsLeaving, IsCandidate, IsBest, IsChosen, newer, older, tied}
use Rattle.lp_basis.specs.declared.row.Row.{Row}
use Rattle.lp_basis.specs.declared.column.Column.{Column}
use Rattle.lp_stage.specs.declared.leaving.Candidate.{Candidate}

pub amounts_read : (starts : List Column) (k : ℕ) (x : Column) → k < length starts → x ≡ get_or starts k x → amounts_at starts k ≡ x.amounts.items
amounts_read [] k x lt e = absurd (omega arith)
amounts_read (y ∷ starts) zero x lt e = ap (λ (v : Column). v.amounts.items) (sym e)
amounts_read (y ∷ starts) (suc k) x lt e = amounts_read starts k x (omega arith) e

IsLexAbove-same : (size : ℕ) (f g : ℕ → ℤ) → ((k : ℕ) → k < size → f k ≡ g k) → IsLexAbove size f → IsLexAbove size g
IsLexAbove-same size f g same u = record {
  place = u.place;
  within = u.within;
  zeros = λ c lt. sym (same c (omega (arith, u.within))) ∙ u.zeros c lt;
  above = subst (λ (z : ℤ). pos 1 ≤ℤ z) (same u.place u.within) u.above;
}

-- a row that does not meet the column above 0
pub best_kept : (n : ℕ) (rows : List Row) (column : List ℤ) (starts : List Column) (j : ℕ) (best : Option Candidate) → row_product n rows column j ≤ℤ pos 0 → IsBest n rows column starts j best → IsBest n rows column starts (j + 1) best
best_kept n rows column starts j None low is = λ i lt. elim (cases_eq i j) [
  | inl e ↦ subst (λ (k : ℕ). row_product n rows column k ≤ℤ pos 0) (sym e) low
  | inr ne ↦ is i (omega arith)
]
best_kept n rows column starts j (Some candidate) low is = (
  is.0,
  record {
    within = omega (arith, is.1.within);
    positive = is.1.positive;
    first = λ i lt ne some. elim (cases_eq i j) [
      | inl e ↦ absurd (not_low (row_product n rows column j) low (subst (λ (k : ℕ). pos 1 ≤ℤ row_product n rows column k) e some))
      | inr other ↦ is.1.first i (omega arith) ne some
    ];
  },
)
  where
    not_low : (z : ℤ) → z ≤ℤ pos 0 → pos 1 ≤ℤ z → ⊥
    not_low z h k = omega (arith, ints, h, k)

-- the first row that does
pub best_first : (n : ℕ) (rows : List Row) (column : List ℤ) (starts : List Column) (j : ℕ) (next : Candidate) → next.place ≡ j → IsCandidate n rows column starts next → pos 1 ≤ℤ row_product n rows column j →
    ((i : ℕ) → i < j → row_product n rows column i ≤ℤ pos 0) → IsBest n rows column starts (j + 1) (Some next)
best_first n rows column starts j next e is some none = (
  is,
  subst (λ (i : ℕ). IsLeaving n rows column starts (j + 1) i) (sym e) (record {
    within = omega arith;
    positive = some;
    first = λ i lt ne above. absurd (omega (arith, ints, above, none i (omega arith)));
  }),
)

-- two candidates in one ratio would tie
tie : (b w v : ℕ) (columns : ℕ → ℕ → ℤ) (rows : List Row) (column : List ℤ) (starts : List Column) (i j : ℕ) → CanLeave b w v columns rows column starts → i < suc b → j < suc b → j ≢ i → pos 1 ≤ℤ row_product (suc b) rows column i →
    ((k : ℕ) → k < suc (suc b) → row_product (suc b) rows column j *ℤ start_product (suc b) starts (numbers_at rows i) k ≡ row_product (suc b) rows column i *ℤ start_product (suc b) starts (numbers_at rows j) k) → ⊥
tie b w v columns rows column starts i j can p q ne some same =
    let n : ℕ = suc b in
    let a : ℤ = row_product n rows column i in
    let d : ℤ = row_product n rows column j in
    let row : ℕ → ℕ → ℤ = λ l. at (numbers_at rows l) in
    let u : ℕ → ℤ = λ c. a *ℤ row j c -ℤ d *ℤ row i c in
    no_tie n n n columns row (own_at rows) (λ k. at (amounts_at starts (suc k))) can.rows0 can.own0 can.held.basis can.begun i j a d p q ne some u (λ c lt. refl)
    (λ k lt. dot_difference n a d (row j) (row i) u (at (amounts_at starts (suc k))) (λ c less. refl) ∙ omega (arith, ints, same (suc k) (omega arith)))

pub best_chosen : (b w v : ℕ) (columns : ℕ → ℕ → ℤ) (rows : List Row) (column : List ℤ) (starts : List Column) (j : ℕ) (old next result : Candidate) → CanLeave b w v columns rows column starts → j < suc b → next.place ≡ j →
    IsCandidate (suc b) rows column starts next → pos 1 ≤ℤ row_product (suc b) rows column j → IsBest (suc b) rows column starts j (Some old) → IsChosen old next result → IsBest (suc b) rows column starts (j + 1) (Some result)
best_chosen b w v columns rows column starts j old next result can lt e is some (was, leaving) (newer result_is above) =
    subst (λ (c : Candidate). IsBest (suc b) rows column starts (j + 1) (Some c)) (sym result_is) (
      is,
      subst (λ (i : ℕ). IsLeaving (suc b) rows column starts (j + 1) i) (sym e) (record {
        within = omega arith;
        positive = some;
        first = λ i less ne more. elim (cases_eq i old.place) [
          | inl same ↦ subst (λ (l : ℕ). IsFirst (suc b) rows column starts j l) (sym same) front
          | inr other ↦ before_trans (suc (suc b)) (list j) (list old.place) (list i) (met j) (met old.place) (met i) some leaving.positive more front (leaving.first i (omega arith) other more)
        ];
      }),
    )
  where
    met : ℕ → ℤ
    met = row_product (suc b) rows column

    list : ℕ → ℕ → ℤ
    list i = start_product (suc b) starts (numbers_at rows i)

    next_list : (k : ℕ) → k < suc (suc b) → at next.list.items k ≡ list j k
    next_list k less = is.list_is k less ∙ ap (λ (i : ℕ). list i k) e

    front : IsFirst (suc b) rows column starts j old.place
    front = IsLexAbove-same (suc (suc b)) (λ k. next.met *ℤ at old.list.items k -ℤ old.met *ℤ at next.list.items k) (λ k. met j *ℤ list old.place k -ℤ met old.place *ℤ list j k)
        (λ k less. rw (is.met_is, e, was.met_is, was.list_is k less, next_list k less) refl) (subst (λ (n : ℕ). IsLexAbove n (λ k. next.met *ℤ at old.list.items k -ℤ old.met *ℤ at next.list.items k)) is.sized above)
best_chosen b w v columns rows column starts j old next result can lt e is some (was, leaving) (older result_is above) =
    subst (λ (c : Candidate). IsBest (suc b) rows column starts (j + 1) (Some c)) (sym result_is) (
      was,
      record {
        within = omega (arith, leaving.within);
        positive = leaving.positive;
        first = λ i less ne more. elim (cases_eq i j) [
          | inl same ↦ subst (λ (l : ℕ). IsFirst (suc b) rows column starts old.place l) (sym same) front
          | inr other ↦ leaving.first i (omega arith) ne more
        ];
      },
    )
  where
    met : ℕ → ℤ
    met = row_product (suc b) rows column

    list : ℕ → ℕ → ℤ
    list i = start_product (suc b) starts (numbers_at rows i)

    next_list : (k : ℕ) → k < suc (suc b) → at next.list.items k ≡ list j k
    next_list k less = is.list_is k less ∙ ap (λ (i : ℕ). list i k) e

    front : IsFirst (suc b) rows column starts old.place j
    front = IsLexAbove-same (suc (suc b)) (λ k. old.met *ℤ at next.list.items k -ℤ next.met *ℤ at old.list.items k) (λ k. met old.place *ℤ list j k -ℤ met j *ℤ list old.place k)
        (λ k less. rw (is.met_is, e, was.met_is, was.list_is k less, next_list k less) refl) (subst (λ (n : ℕ). IsLexAbove n (λ k. old.met *ℤ at next.list.items k -ℤ next.met *ℤ at old.list.items k)) is.sized above)
best_chosen b w v columns rows column starts j old next result can lt e is some (was, leaving) (tied same) =
    absurd (tie b w v columns rows column starts old.place j can (omega (arith, leaving.within, lt)) lt (λ f. omega (arith, leaving.within, f)) leaving.positive
    (λ k less. subst (λ (z : ℤ). row_product (suc b) rows column j *ℤ start_product (suc b) starts (numbers_at rows old.place) k ≡ z) (equal k less) refl))
  where
    equal : (k : ℕ) → k < suc (suc b) → row_product (suc b) rows column j *ℤ start_product (suc b) starts (numbers_at rows old.place) k ≡ row_product (suc b) rows column old.place *ℤ start_product (suc b) starts (numbers_at rows j) k
    equal k less =
        ap (λ (z : ℤ). z *ℤ start_product (suc b) starts (numbers_at rows old.place) k) (sym (is.met_is ∙ ap (row_product (suc b) rows column) e))
        ∙ ap (λ (z : ℤ). next.met *ℤ z) (sym (was.list_is k less))
        ∙ same k (omega (arith, is.sized, less))
        ∙ ap (λ (z : ℤ). z *ℤ at next.list.items k) was.met_is
        ∙ ap (λ (z : ℤ). row_product (suc b) rows column old.place *ℤ z) (is.list_is k less ∙ ap (λ (i : ℕ). start_product (suc b) starts (numbers_at rows i) k) e)

-- ---- what code reads

pub fits_start : (b w v : ℕ) (columns : ℕ → ℕ → ℤ) (rows : List Row) (column : List ℤ) (starts : List Column) (j : ℕ) → CanLeave b w v columns rows column starts → j < suc b → (k : ℕ) → k < length starts → FitsProduct (w ^ b) v (numbers_at rows j) (amounts_at starts k)
fits_start b w v columns rows column starts j can lt k less =
    let start = can.fits k (omega (arith, can.count, less)) in
    record {
      sized = can.held.lengths j lt ∙ sym start.sized;
      row_small = number_small b w columns rows can.held j lt;
      least = start.least;
      sum = rw (can.held.lengths j lt) start.sum;
      room = can.room;
    }

pub met_read : (b w v : ℕ) (columns : ℕ → ℕ → ℤ) (rows : List Row) (column : List ℤ) (starts : List Column) (j : ℕ) (row : List ℤ) (met : ℤ) → CanLeave b w v columns rows column starts → j < suc b → numbers_at rows j ≡ row →
    met ≡ dot (length row) (at row) (at column) → met ≡ row_product (suc b) rows column j
met_read b w v columns rows column starts j row met can lt e is =
    is ∙ ap (λ (xs : List ℤ). dot (length xs) (at xs) (at column)) (sym e) ∙ ap (λ (k : ℕ). dot k (at (numbers_at rows j)) (at column)) (can.held.lengths j lt)

pub candidate_is : (b w v : ℕ) (columns : ℕ → ℕ → ℤ) (rows : List Row) (column : List ℤ) (starts : List Column) (j : ℕ) (row : List ℤ) (next : Candidate) → CanLeave b w v columns rows column starts → j < suc b → numbers_at rows j ≡ row →
    next.place ≡ j → next.met ≡ row_product (suc b) rows column j → length next.list.items ≡ length starts → ((k : ℕ) → k < length starts → at next.list.items k ≡ start_product (length row) starts row k) → IsCandidate (suc b) rows column starts next
candidate_is b w v columns rows column starts j row next can lt e place_is met_is same are = record {
  met_is = met_is ∙ ap (row_product (suc b) rows column) (sym place_is);
  sized = same ∙ can.count;
  list_is = λ k less. are k (omega (arith, can.count, less)) ∙ ap (λ (xs : List ℤ). start_product (length xs) starts xs k) (sym e) ∙ ap (λ (n : ℕ). start_product n starts (numbers_at rows j) k) (can.held.lengths j lt) ∙ ap (λ (i : ℕ). start_product (suc b) starts (numbers_at rows i) k) (sym place_is);
}
