-- Amounts of known columns: none of their terms is below 0, and none is large.
use Rattle.std.proofs.Common.{◌≡◌, ℕ, zero, suc, ◌+◌, ◌*◌, ◌^◌, ◌<◌, ◌≤◌, List, [], ◌∷◌, length, get_or, refl, arith, ap, sym, ◌∙◌, subst}
use Rattle.std.specs.Prelude.{ℤ, pos, ◌+ℤ◌, ◌*ℤ◌, ◌≤ℤ◌, ◌<ℤ◌, unsigned_abs, Some, slice_get}
use Rattle.std.specs.List.{AllByRecursion}
use Rattle.std.proofs.lemmas.Int.{ints}
use Rattle.cal_math.specs.Whole.{*ℤ-+ℤ, *ℤ_left, *ℤ-≤, abs-*ℤ-le}
use Rattle.cal_math.specs.Vectors.{at, sum_to}
use Rattle.cal_math.proofs.Vectors.{sum-add, sum-scale, sum-le, sum-zero}
use Rattle.lp_basis.specs.Columns.{IsColumn}
use Rattle.lp_basis.specs.declared.column.Column.{Column}
use Rattle.lp_stage.specs.Leaving.{amounts_at}
use Rattle.lp_core.specs.Fitting.{Fits}
use Rattle.lp_core.specs.Plans.{Weight, given_amount, column_cost, cost_of}
use Rattle.eq_solve.specs.Figures.{AreAmounts, AreClose, AreWithin, left_at, left_of}

-- the column at a place
pub record IsHere (columns : List Column) (k : ℕ) : Type 0 where
  pub column : Column
  pub is : slice_get columns k ≡ Some column
  pub read : (d : Column) → get_or columns k d ≡ column
  pub amounts : amounts_at columns k ≡ column.amounts.items
  pub cost : column_cost columns k ≡ column.cost

pub here : (columns : List Column) (k : ℕ) → k < length columns → IsHere columns k
here [] k lt = absurd (omega arith)
here (x ∷ columns) zero lt = record { column = x; is = refl; read = λ d. refl; amounts = refl; cost = refl }
here (x ∷ columns) (suc k) lt =
    let h = here columns k (omega arith) in
    record { column = h.column; is = h.is; read = h.read; amounts = h.amounts; cost = h.cost }

pub cost_read : (columns : List Column) (k : ℕ) (x : Column) → k < length columns → x ≡ get_or columns k x → column_cost columns k ≡ x.cost
cost_read columns k x lt e =
    let h = here columns k lt in
    h.cost ∙ ap (λ (y : Column). y.cost) (sym (e ∙ h.read x))

pub column_fine : (columns : List Column) (asked : List ℤ) (k : ℕ) → Fits columns asked → (lt : k < length columns) → IsColumn (length asked) (here columns k lt).column
column_fine columns asked k fits lt =
    let h = here columns k lt in
    subst (IsColumn (length asked)) (h.read h.column) (fits.fine k h.column lt)

-- contents are not below 0
pub content_least : (columns : List Column) (asked : List ℤ) (k : ℕ) → Fits columns asked → k < length columns → (c : ℕ) → pos 0 ≤ℤ at (amounts_at columns k) c
content_least columns asked k fits lt c = rw (here columns k lt).amounts ((column_fine columns asked k fits lt).least c)

pub column-length : (columns : List Column) (asked : List ℤ) (k : ℕ) → Fits columns asked → k < length columns → length (amounts_at columns k) ≡ length asked
column-length columns asked k fits lt = rw (here columns k lt).amounts (column_fine columns asked k fits lt).sized

times_least : (a b : ℤ) → pos 0 ≤ℤ a → pos 0 ≤ℤ b → pos 0 ≤ℤ (a *ℤ b)
times_least a b p q = omega (arith, ints, *ℤ-≤ a (pos 0) b p q)

pub given_least : (columns : List Column) (asked : List ℤ) (amounts : List Weight) → Fits columns asked → AllByRecursion (λ w. (w.0 < length columns) × (pos 0 ≤ℤ w.1)) amounts →
    (c : ℕ) → pos 0 ≤ℤ given_amount columns amounts c
given_least columns asked [] fits named c = omega (arith, ints)
given_least columns asked (w ∷ amounts) fits named c =
    omega (arith, ints, times_least w.1 (at (amounts_at columns w.0) c) named.0.1 (content_least columns asked w.0 fits named.0.0 c), given_least columns asked amounts fits named.1 c)

-- the amounts behind the first
pub amounts-rest : (columns : List Column) (asked : List ℤ) (w : Weight) (amounts : List Weight) → AreAmounts columns asked (w ∷ amounts) → AreAmounts columns asked amounts
amounts-rest columns asked w amounts are = record {
  fits = are.fits;
  named = are.named.1;
  within = λ c lt. omega (arith, ints, times_least w.1 (at (amounts_at columns w.0) c) are.named.0.1 (content_least columns asked w.0 are.fits are.named.0.0 c), are.within c lt);
}

-- a term and the terms behind it
pub record IsTerm (columns : List Column) (asked : List ℤ) (w : Weight) (amounts : List Weight) (c : ℕ) : Type 0 where
  pub least : pos 0 ≤ℤ (w.1 *ℤ at (amounts_at columns w.0) c)
  pub behind : pos 0 ≤ℤ given_amount columns amounts c
  pub most : (w.1 *ℤ at (amounts_at columns w.0) c +ℤ given_amount columns amounts c) ≤ℤ pos (2 ^ 50)

pub term_is : (columns : List Column) (asked : List ℤ) (w : Weight) (amounts : List Weight) (c : ℕ) → c < length asked → AreAmounts columns asked (w ∷ amounts) → IsTerm columns asked w amounts c
term_is columns asked w amounts c lt are = record {
  least = times_least w.1 (at (amounts_at columns w.0) c) are.named.0.1 (content_least columns asked w.0 are.fits are.named.0.0 c);
  behind = given_least columns asked amounts are.fits are.named.1 c;
  most = omega (arith, ints, are.within c lt, are.fits.aim.most c);
}

-- the content of an amount in all is at most that of what is asked, and so is the amount
total_of_one : (columns : List Column) (asked : List ℤ) (w : Weight) (amounts : List Weight) → AreAmounts columns asked (w ∷ amounts) →
    (w.1 *ℤ sum_to (length asked) (at (amounts_at columns w.0))) ≤ℤ sum_to (length asked) (at asked)
total_of_one columns asked w amounts are =
    let n : ℕ = length asked in
    let each : sum_to n (λ c. w.1 *ℤ at (amounts_at columns w.0) c) ≤ℤ sum_to n (at asked) = sum-le n (λ c. w.1 *ℤ at (amounts_at columns w.0) c) (at asked) (λ c lt. below c lt) in
    omega (arith, ints, each, sum-scale n w.1 (at (amounts_at columns w.0)))
  where
    below : (c : ℕ) → c < length asked → (w.1 *ℤ at (amounts_at columns w.0) c) ≤ℤ at asked c
    below c lt = omega (arith, ints, (term_is columns asked w amounts c lt are).behind, are.within c lt)

sum_most : (n : ℕ) (f : ℕ → ℤ) → ((c : ℕ) → f c ≤ℤ pos (2 ^ 50)) → sum_to n f ≤ℤ pos (n * 2 ^ 50)
sum_most zero f most = omega (arith, ints)
sum_most (suc n) f most = omega (arith, ints, sum_most n f most, most n)

pub asked_small : (columns : List Column) (asked : List ℤ) → Fits columns asked → sum_to (length asked) (at asked) ≤ℤ pos (2 ^ 53)
asked_small columns asked fits = omega (arith, ints, sum_most (length asked) (at asked) fits.aim.most, fits.aim.few)

-- an amount times its content is at most 2^53
pub record IsAmount (columns : List Column) (asked : List ℤ) (w : Weight) : Type 0 where
  pub least : pos 0 ≤ℤ w.1
  pub within : w.0 < length columns
  pub some : pos 1 ≤ℤ sum_to (length asked) (at (amounts_at columns w.0))
  pub times : (w.1 *ℤ sum_to (length asked) (at (amounts_at columns w.0))) ≤ℤ pos (2 ^ 53)
  pub most : w.1 ≤ℤ pos (2 ^ 53)
  pub cost : unsigned_abs (column_cost columns w.0) ≤ 2 ^ 55

pub amount_is : (columns : List Column) (asked : List ℤ) (w : Weight) (amounts : List Weight) → AreAmounts columns asked (w ∷ amounts) → IsAmount columns asked w
amount_is columns asked w amounts are =
    let lt : w.0 < length columns = are.named.0.0 in
    let h = here columns w.0 lt in
    let fine = column_fine columns asked w.0 are.fits lt in
    let some : pos 1 ≤ℤ sum_to (length asked) (at (amounts_at columns w.0)) = rw h.amounts fine.positive in
    let times : (w.1 *ℤ sum_to (length asked) (at (amounts_at columns w.0))) ≤ℤ pos (2 ^ 53) = omega (arith, ints, total_of_one columns asked w amounts are, asked_small columns asked are.fits) in
    record {
      least = are.named.0.1;
      within = lt;
      some = some;
      times = times;
      most = omega (arith, ints, times, *ℤ-≤ w.1 (pos 1) (sum_to (length asked) (at (amounts_at columns w.0))) are.named.0.1 some);
      cost = rw h.cost fine.cost;
    }

-- ---- energies, and what the plane leaves

pub cost_small : (columns : List Column) (asked : List ℤ) (amounts : List Weight) → AreAmounts columns asked amounts → unsigned_abs (cost_of columns amounts) ≤ length amounts * 2 ^ 108
cost_small columns asked [] are = omega (arith, ints)
cost_small columns asked (w ∷ amounts) are =
    let is = amount_is columns asked w amounts are in
    let rest = cost_small columns asked amounts (amounts-rest columns asked w amounts are) in
    let one : unsigned_abs (w.1 *ℤ column_cost columns w.0) ≤ 2 ^ 53 * 2 ^ 55 = abs-*ℤ-le w.1 (column_cost columns w.0) (2 ^ 53) (2 ^ 55) (omega (arith, ints, is.least, is.most)) is.cost in
    omega (arith, ints, one, rest)

pub close-rest : (margin : ℕ) (columns : List Column) (asked potentials : List ℤ) (w : Weight) (amounts : List Weight) →
    AreClose margin columns asked potentials (w ∷ amounts) → AreClose margin columns asked potentials amounts
close-rest margin columns asked potentials w amounts are = record {
  amounts_are = amounts-rest columns asked w amounts are.amounts_are;
  plane = are.plane;
  small = are.small;
  close = are.close.1;
}

pub record IsLeft (margin : ℕ) (columns : List Column) (asked potentials : List ℤ) (w : Weight) : Type 0 where
  pub low : pos 0 ≤ℤ left_at potentials columns w.0
  pub high : left_at potentials columns w.0 ≤ℤ pos (2 ^ 120)
  pub one_low : pos 0 ≤ℤ (w.1 *ℤ left_at potentials columns w.0)
  pub one_high : (w.1 *ℤ left_at potentials columns w.0) ≤ℤ (pos (margin + 1) *ℤ (w.1 *ℤ sum_to (length asked) (at (amounts_at columns w.0))))

pub left_is : (margin : ℕ) (columns : List Column) (asked potentials : List ℤ) (w : Weight) (amounts : List Weight) → AreClose margin columns asked potentials (w ∷ amounts) → IsLeft margin columns asked potentials w
left_is margin columns asked potentials w amounts are =
    let is = amount_is columns asked w amounts are.amounts_are in
    let n : ℕ = length asked in
    let len : length potentials ≡ n = are.plane.one_each in
    let sum : ℤ = sum_to n (at (amounts_at columns w.0)) in
    let clear : (pos margin *ℤ sum) ≤ℤ left_at potentials columns w.0 = rw (← len) are.close.0.clear in
    let near : left_at potentials columns w.0 <ℤ (pos (margin + 1) *ℤ sum) = rw (← len) are.close.0.near in
    let low : pos 0 ≤ℤ left_at potentials columns w.0 = omega (arith, ints, clear, *ℤ-≤ (pos margin) (pos 0) sum (omega (arith, ints)) (omega (arith, ints, is.some))) in
    let narrow : (pos (margin + 1) *ℤ sum) ≤ℤ (pos (margin + 1) *ℤ pos (10 ^ 8)) = *ℤ-≤ (pos (margin + 1)) sum (pos (10 ^ 8)) (omega (arith, ints)) (are.plane.narrow w.0 is.within) in
    record {
      low = low;
      high = omega (arith, ints, near, narrow, are.small);
      one_low = times_least w.1 (left_at potentials columns w.0) is.least low;
      one_high = omega (arith, ints, *ℤ-≤ w.1 (left_at potentials columns w.0) (pos (margin + 1) *ℤ sum) is.least (omega (arith, ints, near)), *ℤ_left w.1 (pos (margin + 1)) sum);
    }

given_sum : (columns : List Column) (n : ℕ) (w : Weight) (amounts : List Weight) → sum_to n (given_amount columns (w ∷ amounts)) ≡ w.1 *ℤ sum_to n (at (amounts_at columns w.0)) +ℤ sum_to n (given_amount columns amounts)
given_sum columns n w amounts =
    sum-add n (λ c. w.1 *ℤ at (amounts_at columns w.0) c) (given_amount columns amounts) ∙ ap (λ (z : ℤ). z +ℤ sum_to n (given_amount columns amounts)) (sum-scale n w.1 (at (amounts_at columns w.0)))

pub left_low : (margin : ℕ) (columns : List Column) (asked potentials : List ℤ) (amounts : List Weight) → AreClose margin columns asked potentials amounts → pos 0 ≤ℤ left_of potentials columns amounts
left_low margin columns asked potentials [] are = omega (arith, ints)
left_low margin columns asked potentials (w ∷ amounts) are =
    omega (arith, ints, (left_is margin columns asked potentials w amounts are).one_low, left_low margin columns asked potentials amounts (close-rest margin columns asked potentials w amounts are))

pub left_high : (margin : ℕ) (columns : List Column) (asked potentials : List ℤ) (amounts : List Weight) → AreClose margin columns asked potentials amounts →
    left_of potentials columns amounts ≤ℤ (pos (margin + 1) *ℤ sum_to (length asked) (given_amount columns amounts))
left_high margin columns asked potentials [] are = omega (arith, ints, ap (λ (z : ℤ). pos (margin + 1) *ℤ z) (sum-zero (length asked) (λ c. pos 0) (λ i lt. refl)))
left_high margin columns asked potentials (w ∷ amounts) are =
    let n : ℕ = length asked in
    let one = (left_is margin columns asked potentials w amounts are).one_high in
    let rest = left_high margin columns asked potentials amounts (close-rest margin columns asked potentials w amounts are) in
    omega (arith, ints, one, rest, ap (λ (z : ℤ). pos (margin + 1) *ℤ z) (given_sum columns n w amounts), *ℤ-+ℤ (pos (margin + 1)) (w.1 *ℤ sum_to n (at (amounts_at columns w.0))) (sum_to n (given_amount columns amounts)))

pub given_most : (columns : List Column) (asked : List ℤ) (amounts : List Weight) → AreAmounts columns asked amounts → sum_to (length asked) (given_amount columns amounts) ≤ℤ pos (2 ^ 53)
given_most columns asked amounts are = omega (arith, ints, sum-le (length asked) (given_amount columns amounts) (at asked) are.within, asked_small columns asked are.fits)

pub left_small : (margin : ℕ) (columns : List Column) (asked potentials : List ℤ) (amounts : List Weight) → AreClose margin columns asked potentials amounts → left_of potentials columns amounts ≤ℤ pos (2 ^ 111)
left_small margin columns asked potentials amounts are =
    let high = left_high margin columns asked potentials amounts are in
    let most = given_most columns asked amounts are.amounts_are in
    let times : (pos (margin + 1) *ℤ sum_to (length asked) (given_amount columns amounts)) ≤ℤ (pos (margin + 1) *ℤ pos (2 ^ 53)) = *ℤ-≤ (pos (margin + 1)) _ _ (omega (arith, ints)) most in
    omega (arith, ints, high, times, are.small)

pub totals_within : (columns : List Column) (asked totals : List ℤ) (amounts : List Weight) → AreAmounts columns asked amounts → length totals ≡ length asked → ((c : ℕ) → c < length asked → at totals c ≡ given_amount columns amounts c) → AreWithin asked totals
totals_within columns asked totals amounts are same is = record {
  same = same;
  least = λ c lt. rw (is c lt) (given_least columns asked amounts are.fits are.named c);
  most = λ c lt. rw (is c lt) (are.within c lt);
  small = are.fits.aim.most;
}
