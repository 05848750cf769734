-- Known constitutions make columns that a plan takes, and a constitution below the plane is none of them.
use Rattle.std.proofs.Common.{◌≡◌, ℕ, zero, suc, ◌+◌, ◌-◌, ◌*◌, ◌^◌, ◌<◌, ◌≤◌, List, [], ◌∷◌, ◌++◌, length, map, get_or, refl, arith, ap, sym, ◌∙◌, subst, inl, inr}
use Rattle.std.specs.Prelude.{ℤ, pos, ◌*ℤ◌, ◌≤ℤ◌, ◌<ℤ◌, unsigned_abs, All}
use Rattle.std.specs.List.{insert}
use Rattle.std.specs.Int.{int_div_euclid}
use Rattle.std.proofs.lemmas.Int.{ints, unsigned_abs-mul}
use Rattle.std.proofs.lemmas.Bool.{cases_lt}
use Rattle.std.proofs.lemmas.List.{length-map}
use Rattle.std.proofs.lemmas.Nat.{mul-le}
use Rattle.std.proofs.Math.Nat.{pow-suc, pow-zero, mul-le-mul_left}
use Rattle.cal_math.specs.Whole.{*ℤ-≤, abs-floor-le}
use Rattle.cal_math.specs.Vectors.{at, sum_to, dot}
use Rattle.cal_math.proofs.Vectors.{sum-same, dot_same}
use Rattle.lp_basis.specs.Columns.{IsColumn, sum_at}
use Rattle.lp_basis.specs.declared.column.Column.{Column}
use Rattle.lp_core.specs.Fitting.{widest, dearest, IsTarget, Fits}
use Rattle.lp_core.specs.Plans.{IsPlan}
use Rattle.lp_core.specs.declared.plan.Plan.{Plan}
use Rattle.cef_report.specs.declared.entry.Entry.{Entry}
use Rattle.cef_core.specs.declared.system.System.{System}
use Rattle.cef_core.specs.Constitutions.{content}
use Rattle.cef_report.specs.Assemblages.{content_of, energy_of}
use Rattle.cef_core.specs.Worth.{worth}
use Rattle.eq_solve.specs.Points.{IsConstitutionOf, IsListOf, IsNew, IsKnownAs, AreKnown, IsSized}
use Rattle.eq_solve.specs.Sweeps.{CanSweep, IsBelow}
use Rattle.eq_solve.specs.Prices.{lowered, IsClear, IsNear}
use Rattle.eq_solve.proofs.Margins.{clear, near}
use Rattle.eq_solve.proofs.Worths.{worth-dot}

pub content-least : (system : System) (entry : Entry) → IsConstitutionOf system entry → (c : ℕ) → pos 0 ≤ℤ content_of system entry c
unfolding content
content-least system entry is c = simp is.is_phase (omega (arith, ints))

pub at_past : (xs : List ℤ) (c : ℕ) → length xs ≤ c → at xs c ≡ pos 0
at_past [] c le = refl
at_past (x ∷ xs) zero le = absurd (omega arith)
at_past (x ∷ xs) (suc c) le = at_past xs c (omega arith)

pub known_at : (system : System) (known : List Entry) (columns : List Column) (k : ℕ) (d : Entry) (e : Column) → AreKnown system known columns → k < length known →
    IsKnownAs system (get_or known k d) (get_or columns k e)
known_at system [] columns k d e are lt = absurd (omega arith)
known_at system (x ∷ known) [] k d e are lt = absurd are
known_at system (x ∷ known) (y ∷ columns) zero d e are lt = are.0
known_at system (x ∷ known) (y ∷ columns) (suc k) d e are lt = known_at system known columns k d e are.1 (omega arith)

pub known-length : (system : System) (known : List Entry) (columns : List Column) → AreKnown system known columns → length columns ≡ length known
known-length system [] [] are = refl
known-length system [] (y ∷ columns) are = absurd are
known-length system (x ∷ known) [] are = absurd are
known-length system (x ∷ known) (y ∷ columns) are = ap suc (known-length system known columns are.1)

pub list_of : (system : System) (entry : Entry) → IsConstitutionOf system entry → IsListOf system entry
list_of system entry is = record { phase = is.phase; is_phase = is.is_phase; shape = is.constitution.shape }

pub column_sum : (system : System) (entry : Entry) (column : Column) → IsKnownAs system entry column →
    sum_to (length system.elements) (at column.amounts.items) ≡ sum_to (length system.elements) (content_of system entry)
column_sum system entry column is = sum-same (length system.elements) (at column.amounts.items) (content_of system entry) is.column_is.amounts_are

pub is_column : (system : System) (entry : Entry) (column : Column) → IsSized system → IsKnownAs system entry column → IsColumn (length system.elements) column
is_column system entry column sized is = record {
  sized = is.column_is.same;
  least = least;
  positive = rw (column_sum system entry column is) (sized.some entry is.is_constitution);
  cost = rw is.column_is.cost_is (omega (arith, sized.cheap entry is.is_constitution, sized.dear));
}
  where
    least : (c : ℕ) → pos 0 ≤ℤ at column.amounts.items c
    least c =
        elim (cases_lt c (length system.elements)) [
          | inl lt ↦ rw (is.column_is.amounts_are c lt) (content-least system entry is.is_constitution c)
          | inr le ↦ rw (at_past column.amounts.items c (omega (arith, is.column_is.same))) (omega (arith, ints))
        ]

pub pow-le : (n a b : ℕ) → a ≤ b → a ^ n ≤ b ^ n
pow-le zero a b le = rw (pow-zero a, pow-zero b) (omega arith)
pow-le (suc n) a b le = rw (pow-suc a n, pow-suc b n) (mul-le (a ^ n) a (b ^ n) b (pow-le n a b le) le)

-- the columns stay within the limits of the system
record AreSmall (system : System) (dear : ℕ) (columns : List Column) : Type 0 where
  fine : All (IsColumn (length system.elements)) columns
  wide : widest (length system.elements) columns ≤ system.widest
  cheap : dearest columns ≤ dear

columns_small : (system : System) (sized : IsSized system) (known : List Entry) (columns : List Column) → AreKnown system known columns → AreSmall system sized.dearest columns
unfolding widest dearest
columns_small system sized [] [] are = record { fine = λ k d lt. absurd (omega arith); wide = sized.wide_some; cheap = omega arith }
columns_small system sized [] (y ∷ columns) are = absurd are
columns_small system sized (x ∷ known) [] are = absurd are
columns_small system sized (x ∷ known) (y ∷ columns) are =
    let rest = columns_small system sized known columns are.1 in
    let this = is_column system x y sized are.0 in
    let sum : sum_to (length system.elements) (at y.amounts.items) ≤ℤ pos system.widest = rw (column_sum system x y are.0) (sized.narrow x (list_of system x are.0.is_constitution)) in
    let some = this.positive in
    let first : sum_at (length system.elements) y ≤ system.widest = omega (arith, ints, sum, some) in
    let cost : unsigned_abs y.cost ≤ sized.dearest = rw are.0.column_is.cost_is (sized.cheap x are.0.is_constitution) in
    record { fine = fine this rest.fine; wide = omega (arith, first, rest.wide); cheap = omega (arith, cost, rest.cheap) }
  where
    fine : IsColumn (length system.elements) y → All (IsColumn (length system.elements)) columns → All (IsColumn (length system.elements)) (y ∷ columns)
    fine this rest zero d lt = this
    fine this rest (suc k) d lt = rest k d (omega arith)

pub fits : (system : System) (known : List Entry) (columns : List Column) (asked : List ℤ) → IsSized system → AreKnown system known columns →
    length asked ≡ length system.elements → IsTarget asked → Fits columns asked
fits system known columns asked sized are size aim =
    let small = columns_small system sized known columns are in
    let n : ℕ = length system.elements in
    let power : widest n columns ^ n ≤ system.widest ^ n = pow-le n (widest n columns) system.widest small.wide in
    let product : widest n columns ^ n * dearest columns ≤ system.widest ^ n * sized.dearest = mul-le (widest n columns ^ n) (dearest columns) (system.widest ^ n) sized.dearest power small.cheap in
    record {
      aim = aim;
      fine = rw size small.fine;
      room = rw size (record { wide = omega (arith, power, sized.wide_room); dear = omega (arith, product, sized.dear_room) });
    }

-- what the plan's potentials, lowered, are for the known columns
pub all_clear : (columns : List Column) (target : List ℤ) (plan : Plan) (margin : ℕ) → Fits columns target → IsPlan columns target plan →
    All (IsClear margin (map (lowered plan.denominator margin) plan.potentials.items)) columns
all_clear columns target plan margin fits is k d lt =
    let column : Column = get_or columns k d in
    let len : length plan.potentials.items ≡ length target = is.one_each in
    let fine : IsColumn (length target) column = fits.fine k d lt in
    clear plan.denominator margin plan.potentials.items column is.denominator_some fine.least (rw len (is.priced k d lt))

pub one_near : (columns : List Column) (target : List ℤ) (plan : Plan) (margin : ℕ) → Fits columns target → IsPlan columns target plan → (column : Column) → IsColumn (length target) column →
    dot (length target) (at plan.potentials.items) (at column.amounts.items) ≡ column.cost *ℤ plan.denominator →
    IsNear margin (map (lowered plan.denominator margin) plan.potentials.items) column
one_near columns target plan margin fits is column fine tight =
    let len : length plan.potentials.items ≡ length target = is.one_each in
    near plan.denominator margin plan.potentials.items column is.denominator_some fine.least (rw len fine.positive) (rw len tight)

-- the value of a known constitution under potentials, as the product with its column
pub worth_column : (system : System) (potentials : List ℤ) (entry : Entry) (column : Column) → length potentials ≡ length system.elements → IsKnownAs system entry column →
    worth potentials (content_of system entry) ≡ dot (length potentials) (at potentials) (at column.amounts.items)
worth_column system potentials entry column len is =
    worth-dot potentials (content_of system entry)
    ∙ dot_same (length potentials) (at potentials) (content_of system entry) (at potentials) (at column.amounts.items) (λ c lt. refl) (λ c lt. sym (is.column_is.amounts_are c (omega arith)))

-- the column of a known constitution
pub record HasColumn (system : System) (columns : List Column) (k : ℕ) (entry : Entry) : Type 0 where
  pub column : Column
  pub within : k < length columns
  pub read : (e : Column) → get_or columns k e ≡ column
  pub is : IsKnownAs system entry column

pub column_of : (system : System) (known : List Entry) (columns : List Column) (k : ℕ) (d : Entry) → AreKnown system known columns → k < length known → HasColumn system columns k (get_or known k d)
column_of system [] columns k d are lt = absurd (omega arith)
column_of system (x ∷ known) [] k d are lt = absurd are
column_of system (x ∷ known) (y ∷ columns) zero d are lt = record { column = y; within = omega arith; read = λ e. refl; is = are.0 }
column_of system (x ∷ known) (y ∷ columns) (suc k) d are lt =
    let rest = column_of system known columns k d are.1 (omega arith) in
    record { column = rest.column; within = omega (arith, rest.within); read = rest.read; is = rest.is }

-- A constitution below the plane is new: the known ones lie on or above it.
pub below-new : (system : System) (known : List Entry) (columns : List Column) (potentials : List ℤ) (margin : ℕ) (entry : Entry) → IsSized system → AreKnown system known columns →
    length potentials ≡ length system.elements → All (IsClear margin potentials) columns → IsBelow system potentials entry → IsNew known entry
below-new system known columns potentials margin entry sized are len all below k d lt same =
    let other : Entry = get_or known k d in
    let has = column_of system known columns k d are lt in
    let column : Column = has.column in
    let is_clear : IsClear margin potentials column = subst (IsClear margin potentials) (has.read column) (all k column has.within) in
    let value : worth potentials (content_of system other) ≡ dot (length potentials) (at potentials) (at column.amounts.items) = worth_column system potentials other column len has.is in
    let holds : pos 1 ≤ℤ sum_to (length potentials) (at column.amounts.items) = rw len (is_column system other column sized has.is).positive in
    let least : pos 0 ≤ℤ (pos margin *ℤ sum_to (length potentials) (at column.amounts.items)) = omega (arith, ints, *ℤ-≤ (pos margin) (pos 0) (sum_to (length potentials) (at column.amounts.items)) (omega (arith, ints)) (omega (arith, ints, holds))) in
    let low : (pos 65536 *ℤ energy_of system other) <ℤ worth potentials (content_of system other) = rw (same.0, same.1) below.below in
    let cost : column.cost ≡ energy_of system other = has.is.column_is.cost_is in
    omega (arith, ints, is_clear, value, least, low, ap (λ (z : ℤ). pos 65536 *ℤ z) cost)

-- ---- sizes

small_number : (system : System) (sized : IsSized system) (known : List Entry) (columns : List Column) (z : ℤ) (n : ℕ) → n ≡ length system.elements → AreKnown system known columns →
    unsigned_abs z ≤ 3 * n * dearest columns * widest n columns ^ (n - 1) → unsigned_abs z * system.widest ≤ 24 * 2 ^ 94
small_number system sized known columns z zero size are le = absurd (omega (arith, sized.some_element))
small_number system sized known columns z (suc b) size are le =
    let small = columns_small system sized known columns are in
    let power : widest (suc b) columns ^ b ≤ system.widest ^ b = pow-le b (widest (suc b) columns) system.widest (rw size small.wide) in
    let W : ℕ = system.widest in
    let S : ℕ = sized.dearest in
    let product : dearest columns * widest (suc b) columns ^ b ≤ S * W ^ b = mul-le (dearest columns) (widest (suc b) columns ^ b) S (W ^ b) small.cheap power in
    let one : b ≡ suc b - 1 = omega arith in
    let few : 3 * suc b ≤ 24 = omega (arith, size, sized.few) in
    let whole : 3 * suc b * (dearest columns * widest (suc b) columns ^ b) ≤ 24 * (S * W ^ b) = mul-le (3 * suc b) (dearest columns * widest (suc b) columns ^ b) 24 (S * W ^ b) few product in
    let first : unsigned_abs z ≤ 24 * (S * W ^ b) = omega (arith, rw (← one) at le, whole) in
    let all : unsigned_abs z * W ≤ 24 * (S * W ^ b) * W = mul-le (unsigned_abs z) W (24 * (S * W ^ b)) W first (omega arith) in
    let room : W ^ suc b * S ≤ 2 ^ 94 = rw size sized.dear_room in
    let order : 24 * (S * W ^ b) * W ≡ 24 * (W ^ suc b * S) = rw (pow-suc W b) (turn S (W ^ b) W) in
    omega (arith, all, room, order)
  where
    turn : (s p w : ℕ) → 24 * (s * p) * w ≡ 24 * (p * w * s)
    turn s p w = omega arith

-- the plan's numbers have room
pub numbers_small : (system : System) (known : List Entry) (columns : List Column) (target : List ℤ) (plan : Plan) → IsSized system → AreKnown system known columns → length target ≡ length system.elements →
    IsPlan columns target plan → All (λ number. unsigned_abs number ≤ 2 ^ 99) plan.potentials.items
numbers_small system known columns target plan sized are size is k d lt =
    let z : ℤ = get_or plan.potentials.items k d in
    let most : unsigned_abs z * system.widest ≤ 24 * 2 ^ 94 = small_number system sized known columns z (length target) size are (is.small k d lt) in
    let alone : unsigned_abs z * 1 ≤ unsigned_abs z * system.widest = mul-le-mul_left (unsigned_abs z) sized.wide_some in
    omega (arith, most, alone)

lowered_small : (d : ℤ) (margin : ℕ) (z : ℤ) (w : ℕ) → pos 1 ≤ℤ d → margin ≤ 2 ^ 56 → w ≤ 10 ^ 8 → unsigned_abs z * w ≤ 24 * 2 ^ 94 → unsigned_abs (lowered d margin z) * w ≤ 2 ^ 116
lowered_small d margin z w some m wide small =
    let floor : ℤ = int_div_euclid (pos 65536 *ℤ z) d in
    let most : unsigned_abs floor ≤ 65536 * unsigned_abs z = abs-floor-le (pos 65536 *ℤ z) d (65536 * unsigned_abs z) some (omega (arith, unsigned_abs-mul (pos 65536) z)) in
    let both : unsigned_abs (lowered d margin z) ≤ 65536 * unsigned_abs z + margin = omega (arith, ints, most) in
    let times : unsigned_abs (lowered d margin z) * w ≤ (65536 * unsigned_abs z + margin) * w = mul-le _ w _ w both (omega arith) in
    let order : (65536 * unsigned_abs z + margin) * w ≡ 65536 * (unsigned_abs z * w) + margin * w = spread (unsigned_abs z) margin w in
    let last : margin * w ≤ 2 ^ 56 * 10 ^ 8 = mul-le margin w (2 ^ 56) (10 ^ 8) m wide in
    omega (arith, times, order, small, last)
  where
    spread : (a b c : ℕ) → (65536 * a + b) * c ≡ 65536 * (a * c) + b * c
    spread a b c = omega arith

pub can_sweep : (system : System) (known : List Entry) (columns : List Column) (target : List ℤ) (plan : Plan) (margin : ℕ) → IsSized system → AreKnown system known columns → length target ≡ length system.elements →
    margin ≤ 2 ^ 56 → IsPlan columns target plan → CanSweep system (map (lowered plan.denominator margin) plan.potentials.items)
can_sweep system known columns target plan margin sized are size m is = record {
  one_each = length-map plan.potentials.items (lowered plan.denominator margin) ∙ is.one_each ∙ size;
  small = small plan.potentials.items is.small;
}
  where
    small : (numbers : List ℤ) → All (λ z. unsigned_abs z ≤ 3 * length target * dearest columns * widest (length target) columns ^ (length target - 1)) numbers →
        All (λ z. unsigned_abs z * system.widest ≤ 2 ^ 116) (map (lowered plan.denominator margin) numbers)
    small [] all k d lt = absurd (omega arith)
    small (z ∷ numbers) all zero d lt =
        lowered_small plan.denominator margin z system.widest is.denominator_some m sized.wide (small_number system sized known columns z (length target) size are (all 0 z (omega arith)))
    small (z ∷ numbers) all (suc k) d lt = small numbers (λ j e less. all (suc j) e (omega arith)) k d (omega arith)

pub known-insert : (system : System) (known : List Entry) (columns : List Column) (place : ℕ) (entry : Entry) (column : Column) → AreKnown system known columns → IsKnownAs system entry column → AreKnown system (insert known place entry) (insert columns place column)
known-insert system known columns zero entry column are is = (is, are)
known-insert system [] [] (suc place) entry column are is = (is, tt)
known-insert system [] (y ∷ columns) (suc place) entry column are is = absurd are
known-insert system (x ∷ known) [] (suc place) entry column are is = absurd are
known-insert system (x ∷ known) (y ∷ columns) (suc place) entry column are is = (are.0, known-insert system known columns place entry column are.1 is)

pub proof_small : (system : System) (sized : IsSized system) (known : List Entry) (columns : List Column) (z : ℤ) (n : ℕ) → n ≡ length system.elements → AreKnown system known columns →
    unsigned_abs z ≤ 3 * n * widest n columns ^ (n - 1) → unsigned_abs z * system.widest ≤ 2 ^ 116
proof_small system sized known columns z zero size are le = absurd (omega (arith, sized.some_element))
proof_small system sized known columns z (suc b) size are le =
    let small = columns_small system sized known columns are in
    let W : ℕ = system.widest in
    let power : widest (suc b) columns ^ b ≤ W ^ b = pow-le b (widest (suc b) columns) W (rw size small.wide) in
    let one : b ≡ suc b - 1 = omega arith in
    let few : 3 * suc b ≤ 24 = omega (arith, size, sized.few) in
    let whole : 3 * suc b * widest (suc b) columns ^ b ≤ 24 * W ^ b = mul-le (3 * suc b) (widest (suc b) columns ^ b) 24 (W ^ b) few power in
    let first : unsigned_abs z ≤ 24 * W ^ b = omega (arith, rw (← one) at le, whole) in
    let all : unsigned_abs z * W ≤ 24 * W ^ b * W = mul-le (unsigned_abs z) W (24 * W ^ b) W first (omega arith) in
    let room : W ^ suc b ≤ 2 ^ 62 = rw size sized.wide_room in
    let order : 24 * W ^ b * W ≡ 24 * W ^ suc b = rw (pow-suc W b) (turn (W ^ b) W) in
    omega (arith, all, room, order)
  where
    turn : (p w : ℕ) → 24 * p * w ≡ 24 * (p * w)
    turn p w = omega arith
