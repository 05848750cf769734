-- The totals, the energy and what the plane leaves, of amounts of known columns.
use Rattle.std.specs.Prelude.{◌≡◌, ℕ, ◌+◌, ◌<◌, ◌≤◌, ◌^◌, List, [], length, slice_index_or, nat_lt, Bool, false, negsuc, ℤ, pos, ◌-ℤ◌, ◌*ℤ◌, ◌≤ℤ◌, ◌<ℤ◌}
use Rattle.std.specs.List.{AllByRecursion}
use Rattle.cal_math.specs.Sums.{sum_of}
use Rattle.cal_math.specs.Vectors.{at, sum_to, dot}
use Rattle.lp_basis.specs.Rows.{FitsProduct}
use Rattle.lp_basis.specs.declared.column.Column.{Column}
use Rattle.lp_stage.specs.Leaving.{amounts_at}
use Rattle.cef_report.specs.declared.entry.Entry.{Entry}
use Rattle.lp_core.specs.Fitting.{Fits}
use Rattle.lp_core.specs.Plans.{Weight, given_amount, column_cost}

-- what the plane leaves of the column at k: 2^16*G - M*b
abbrev pub left_at : List ℤ → List Column → ℕ → ℤ
left_at potentials columns k = pos 65536 *ℤ column_cost columns k -ℤ dot (length potentials) (at potentials) (at (amounts_at columns k))

-- the sum of that over the amounts: 2^16*energy - M*totals
abbrev pub left_of : List ℤ → List Column → List Weight → ℤ
left_of potentials columns amounts = sum_of (λ w. w.1 *ℤ left_at potentials columns w.0) amounts

-- amounts of known columns, none below 0, that give at most what is asked
pub record AreAmounts (columns : List Column) (asked : List ℤ) (amounts : List Weight) : Type 0 where
  pub fits : Fits columns asked
  pub named : AllByRecursion (λ w. (w.0 < length columns) × (pos 0 ≤ℤ w.1)) amounts
  pub within : (c : ℕ) → c < length asked → given_amount columns amounts c ≤ℤ at asked c

-- the column at k lies above the plane by the margin for each unit of its content, or by less than one more
pub record IsCloseAt (margin : ℕ) (potentials : List ℤ) (columns : List Column) (k : ℕ) : Type 0 where
  pub clear : (pos margin *ℤ sum_to (length potentials) (at (amounts_at columns k))) ≤ℤ left_at potentials columns k
  pub near : left_at potentials columns k <ℤ (pos (margin + 1) *ℤ sum_to (length potentials) (at (amounts_at columns k)))

-- potentials whose products with the columns fit
pub record FitsPlane (columns : List Column) (asked potentials : List ℤ) : Type 0 where
  pub one_each : length potentials ≡ length asked
  pub products : (k : ℕ) → k < length columns → (m : ℕ) × (w : ℕ) × FitsProduct m w potentials (amounts_at columns k)
  pub narrow : (k : ℕ) → k < length columns → sum_to (length asked) (at (amounts_at columns k)) ≤ℤ pos (10 ^ 8)

-- amounts of columns that are close to the plane
pub record AreClose (margin : ℕ) (columns : List Column) (asked potentials : List ℤ) (amounts : List Weight) : Type 0 where
  pub amounts_are : AreAmounts columns asked amounts
  pub plane : FitsPlane columns asked potentials
  pub small : margin ≤ 2 ^ 56
  pub close : AllByRecursion (λ w. IsCloseAt margin potentials columns w.0) amounts

-- the greatest of f 0, .., f (n - 1)
pub record IsGreatest (n : ℕ) (f : ℕ → ℤ) (greatest : ℤ) : Type 0 where
  pub place : ℕ
  pub within : place < n
  pub is : f place ≡ greatest
  pub most : (c : ℕ) → c < n → f c ≤ℤ greatest

-- totals of at least 0 and at most what is asked
pub record AreWithin (asked totals : List ℤ) : Type 0 where
  pub same : length totals ≡ length asked
  pub least : (c : ℕ) → c < length asked → pos 0 ≤ℤ at totals c
  pub most : (c : ℕ) → c < length asked → at totals c ≤ℤ at asked c
  pub small : (c : ℕ) → at asked c ≤ℤ pos (2 ^ 50)

-- an amount of at least 1
abbrev pub is_above : ℤ → Bool
is_above (pos n) = nat_lt 0 n
is_above (negsuc n) = false

abbrev pub is_some : Weight → Bool
is_some w = is_above w.1

-- the entry of an amount
abbrev pub entry_at : List Entry → Weight → Entry
entry_at known w =
    record {
      phase = (slice_index_or known w.0 (record { phase = 0; amount = pos 0; site = [] })).phase;
      amount = w.1;
      site = (slice_index_or known w.0 (record { phase = 0; amount = pos 0; site = [] })).site;
    }
