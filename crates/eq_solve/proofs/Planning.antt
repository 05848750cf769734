-- A plan in whole amounts: its totals, how far they are from what is asked, and what the plane leaves.
use Rattle.std.proofs.Common.{◌≡◌, ℕ, zero, suc, ◌+◌, ◌*◌, ◌/◌, ◌^◌, ◌<◌, ◌≤◌, List, [], ◌∷◌, length, map, arith, ap, sym, ◌∙◌, subst, inl, inr}
use Rattle.std.specs.Prelude.{ℤ, pos, ◌+ℤ◌, ◌-ℤ◌, ◌*ℤ◌, ◌≤ℤ◌, ◌<ℤ◌, unsigned_abs, All, Some, slice_get}
use Rattle.std.specs.Int.{int_div_euclid}
use Rattle.std.specs.List.{AllByRecursion}
use Rattle.std.proofs.lemmas.Int.{ints}
use Rattle.std.proofs.lemmas.Bool.{cases_lt}
use Rattle.std.proofs.lemmas.List.{length-map}
use Rattle.std.proofs.lemmas.Nat.{mul-le, le-div}
use Rattle.std.proofs.Math.Nat.{div-mul-le_self}
use Rattle.cal_math.specs.Whole.{*ℤ-+ℤ, *ℤ--ℤ, *ℤ_comm, *ℤ_left, *ℤ-≤, le-floor, floor-le, lt-floor}
use Rattle.cal_math.specs.Vectors.{at, sum_to, dot}
use Rattle.lp_basis.specs.declared.column.Column.{Column}
use Rattle.lp_stage.specs.Leaving.{amounts_at}
use Rattle.lp_core.specs.Fitting.{Fits, IsTarget}
use Rattle.lp_core.specs.Plans.{Weight, given_amount, IsPlan}
use Rattle.lp_core.specs.declared.plan.Plan.{Plan}
use Rattle.cef_report.specs.declared.entry.Entry.{Entry}
use Rattle.cef_core.specs.declared.system.System.{System}
use Rattle.eq_solve.specs.Points.{AreKnown, IsSized}
use Rattle.eq_solve.specs.Sweeps.{CanSweep}
use Rattle.eq_solve.specs.Prices.{lowered, floored, IsClear, IsNear}
use Rattle.eq_solve.specs.Figures.{AreClose, IsCloseAt, FitsPlane}
use Rattle.eq_solve.proofs.Margins.{le_cancel, lt_cancel}
use Rattle.eq_solve.proofs.Amounts.{here, column_fine, content_least}
use Rattle.eq_solve.proofs.Knowing.{list_of, column_sum, at_past, fits, all_clear, one_near, can_sweep}

-- ---- contents

pub sum_least : (n : ℕ) (f : ℕ → ℤ) → ((c : ℕ) → pos 0 ≤ℤ f c) → pos 0 ≤ℤ sum_to n f
sum_least zero f least = omega (arith, ints)
sum_least (suc n) f least = omega (arith, ints, sum_least n f least, least n)

part-le_sum : (n : ℕ) (f : ℕ → ℤ) → ((c : ℕ) → pos 0 ≤ℤ f c) → (c : ℕ) → c < n → f c ≤ℤ sum_to n f
part-le_sum zero f least c lt = absurd (omega arith)
part-le_sum (suc n) f least c lt =
    elim (cases_lt c n) [
      | inl before ↦ omega (arith, ints, part-le_sum n f least c before, least n)
      | inr behind ↦ let e : n ≡ c = omega arith in subst (λ (k : ℕ). f k ≤ℤ sum_to (suc n) f) e (omega (arith, ints, sum_least n f least))
    ]

pub narrow_at : (system : System) (known : List Entry) (columns : List Column) (k : ℕ) → IsSized system → AreKnown system known columns → k < length columns →
    sum_to (length system.elements) (at (amounts_at columns k)) ≤ℤ pos system.widest
narrow_at system [] [] k sized are lt = absurd (omega arith)
narrow_at system [] (y ∷ columns) k sized are lt = absurd are
narrow_at system (x ∷ known) [] k sized are lt = absurd are
narrow_at system (x ∷ known) (y ∷ columns) zero sized are lt = rw (column_sum system x y are.0) (sized.narrow x (list_of system x are.0.is_constitution))
narrow_at system (x ∷ known) (y ∷ columns) (suc k) sized are lt = narrow_at system known columns k sized are.1 (omega arith)

-- ---- amounts

floor_least : (x : ℤ) (parts : ℕ) → 1 ≤ parts → pos 0 ≤ℤ x → pos 0 ≤ℤ int_div_euclid x (pos parts)
floor_least x parts some least = le-floor (pos 0) x (pos parts) (omega (arith, ints)) (omega (arith, ints))

named_all : (columns : List Column) (parts : ℕ) (weights : List Weight) → 1 ≤ parts → All (λ w. (w.0 < length columns) × (pos 0 ≤ℤ w.1)) weights →
    AllByRecursion (λ w. (w.0 < length columns) × (pos 0 ≤ℤ w.1)) (map (floored (pos parts)) weights)
named_all columns parts [] some named = tt
named_all columns parts (w ∷ weights) some named =
    let first = named 0 w (omega arith) in
    ((first.0, floor_least w.1 parts some first.1), named_all columns parts weights some (λ k d lt. named (suc k) d (omega arith)))

-- the whole amounts give no more than the weights, and less by less than a part for each weight
below_given : (columns : List Column) (asked : List ℤ) (parts : ℕ) (weights : List Weight) (c : ℕ) → Fits columns asked → 1 ≤ parts → All (λ w. (w.0 < length columns) × (pos 0 ≤ℤ w.1)) weights →
    (pos parts *ℤ given_amount columns (map (floored (pos parts)) weights) c) ≤ℤ given_amount columns weights c
below_given columns asked parts [] c fine some named = omega (arith, ints)
below_given columns asked parts (w ∷ weights) c fine some named =
    let first = named 0 w (omega arith) in
    let rest = below_given columns asked parts weights c fine some (λ k d lt. named (suc k) d (omega arith)) in
    let b : ℤ = at (amounts_at columns w.0) c in
    let floor : ℤ = int_div_euclid w.1 (pos parts) in
    let low : (b *ℤ (pos parts *ℤ floor)) ≤ℤ (b *ℤ w.1) = *ℤ-≤ b (pos parts *ℤ floor) w.1 (content_least columns asked w.0 fine first.0 c) (floor-le w.1 (pos parts) (omega (arith, ints))) in
    omega (arith, ints, rest, low, *ℤ-+ℤ (pos parts) (floor *ℤ b) (given_amount columns (map (floored (pos parts)) weights) c), *ℤ_left b (pos parts) floor, *ℤ_comm b floor, *ℤ_comm b w.1, ap (λ (z : ℤ). pos parts *ℤ z) (*ℤ_comm b floor))

above_given : (system : System) (known : List Entry) (columns : List Column) (asked : List ℤ) (p : ℕ) (weights : List Weight) (c : ℕ) → IsSized system → AreKnown system known columns → Fits columns asked →
    c < length system.elements → All (λ w. (w.0 < length columns) × (pos 0 ≤ℤ w.1)) weights →
    given_amount columns weights c ≤ℤ (pos (suc p) *ℤ given_amount columns (map (floored (pos (suc p))) weights) c +ℤ pos (length weights * (p * system.widest)))
above_given system known columns asked p [] c sized are fine lt named = omega (arith, ints)
above_given system known columns asked p (w ∷ weights) c sized are fine lt named =
    let first = named 0 w (omega arith) in
    let rest = above_given system known columns asked p weights c sized are fine lt (λ k d less. named (suc k) d (omega arith)) in
    let b : ℤ = at (amounts_at columns w.0) c in
    let least : pos 0 ≤ℤ b = content_least columns asked w.0 fine first.0 c in
    let wide : b ≤ℤ pos system.widest = omega (arith, ints, part-le_sum (length system.elements) (at (amounts_at columns w.0)) (content_least columns asked w.0 fine first.0) c lt, narrow_at system known columns w.0 sized are first.0) in
    let floor : ℤ = int_div_euclid w.1 (pos (suc p)) in
    let near : w.1 ≤ℤ (pos (suc p) *ℤ floor +ℤ pos p) = omega (arith, ints, lt-floor w.1 (pos (suc p)) (omega (arith, ints))) in
    let times : (b *ℤ w.1) ≤ℤ (b *ℤ (pos (suc p) *ℤ floor +ℤ pos p)) = *ℤ-≤ b w.1 (pos (suc p) *ℤ floor +ℤ pos p) least near in
    let part : (pos p *ℤ b) ≤ℤ (pos p *ℤ pos system.widest) = *ℤ-≤ (pos p) b (pos system.widest) (omega (arith, ints)) wide in
    let count : pos (suc (length weights) * (p * system.widest)) ≡ pos (p * system.widest) +ℤ pos (length weights * (p * system.widest)) = ap pos (more (length weights) (p * system.widest)) in
    omega (
      arith,
      ints,
      rest,
      times,
      part,
      count,
      *ℤ-+ℤ b (pos (suc p) *ℤ floor) (pos p),
      *ℤ_left b (pos (suc p)) floor,
      ap (λ (z : ℤ). pos (suc p) *ℤ z) (*ℤ_comm b floor),
      *ℤ_comm b w.1,
      *ℤ_comm b (pos p),
      *ℤ-+ℤ (pos (suc p)) (floor *ℤ b) (given_amount columns (map (floored (pos (suc p))) weights) c),
    )
  where
    more : (n k : ℕ) → suc n * k ≡ k + n * k
    more n k = omega arith

-- what the whole amounts of a plan are
pub record IsRounded (system : System) (columns : List Column) (asked potentials : List ℤ) (margin : ℕ) (amounts : List Weight) : Type 0 where
  pub close : AreClose margin columns asked potentials amounts
  pub few : length amounts ≤ length system.elements
  pub near : (c : ℕ) → c < length system.elements → (at asked c -ℤ given_amount columns amounts c) <ℤ pos (length system.elements * system.widest)

within_all : (columns : List Column) (asked : List ℤ) (parts : ℕ) (weights : List Weight) → Fits columns asked → 1 ≤ parts → All (λ w. (w.0 < length columns) × (pos 0 ≤ℤ w.1)) weights →
    ((c : ℕ) → c < length asked → given_amount columns weights c ≡ pos parts *ℤ at asked c) → (c : ℕ) → c < length asked → given_amount columns (map (floored (pos parts)) weights) c ≤ℤ at asked c
within_all columns asked parts weights fine some named gives c lt =
    le_cancel (pos parts) _ _ (omega (arith, ints)) (omega (arith, ints, below_given columns asked parts weights c fine some named, gives c lt))

near_all : (system : System) (known : List Entry) (columns : List Column) (asked : List ℤ) (parts : ℕ) (weights : List Weight) → IsSized system → AreKnown system known columns → Fits columns asked →
    length asked ≡ length system.elements → 1 ≤ parts → length weights ≤ length system.elements → All (λ w. (w.0 < length columns) × (pos 0 ≤ℤ w.1)) weights →
    ((c : ℕ) → c < length asked → given_amount columns weights c ≡ pos parts *ℤ at asked c) → (c : ℕ) → c < length system.elements →
    (at asked c -ℤ given_amount columns (map (floored (pos parts)) weights) c) <ℤ pos (length system.elements * system.widest)
near_all system known columns asked zero weights sized are fine size some few named gives c lt = absurd (omega arith)
near_all system known columns asked (suc p) weights sized are fine size some few named gives c lt =
    let n : ℕ = length system.elements in
    let W : ℕ = system.widest in
    let B : ℤ = given_amount columns (map (floored (pos (suc p))) weights) c in
    let above = above_given system known columns asked p weights c sized are fine lt named in
    let equal : given_amount columns weights c ≡ pos (suc p) *ℤ at asked c = gives c (omega arith) in
    let most : length weights * (p * W) ≤ n * (p * W) = mul-le (length weights) (p * W) n (p * W) few (omega arith) in
    let some_wide : 1 * 1 ≤ n * W = mul-le 1 1 n W sized.some_element sized.wide_some in
    let order : n * (p * W) + n * W ≡ suc p * (n * W) = turn n p W in
    let strict : length weights * (p * W) < suc p * (n * W) = omega (arith, most, some_wide, order) in
    lt_cancel (pos (suc p)) (at asked c -ℤ B) (pos (n * W)) (omega (arith, ints)) (omega (arith, ints, above, equal, strict, *ℤ--ℤ (pos (suc p)) (at asked c) B))
  where
    turn : (n p w : ℕ) → n * (p * w) + n * w ≡ suc p * (n * w)
    turn n p w = omega arith

close_at : (columns : List Column) (asked : List ℤ) (plan : Plan) (margin k : ℕ) → Fits columns asked → IsPlan columns asked plan → (lt : k < length columns) →
    ((column : Column) → slice_get columns k ≡ Some column → dot (length asked) (at plan.potentials.items) (at column.amounts.items) ≡ column.cost *ℤ plan.denominator) →
    IsCloseAt margin (map (lowered plan.denominator margin) plan.potentials.items) columns k
close_at columns asked plan margin k fine is lt tight =
    let h = here columns k lt in
    let ms : List ℤ = map (lowered plan.denominator margin) plan.potentials.items in
    let is_clear : IsClear margin ms h.column = subst (IsClear margin ms) (h.read h.column) (all_clear columns asked plan margin fine is k h.column lt) in
    let is_near : IsNear margin ms h.column = one_near columns asked plan margin fine is h.column (column_fine columns asked k fine lt) (tight h.column h.is) in
    record { clear = rw (h.amounts, h.cost) is_clear; near = rw (h.amounts, h.cost) is_near }

close_all : (columns : List Column) (asked : List ℤ) (plan : Plan) (margin parts : ℕ) (weights : List Weight) → Fits columns asked → IsPlan columns asked plan →
    All (λ w. (w.0 < length columns) × (pos 0 ≤ℤ w.1)) weights →
    All (λ w. (column : Column) → slice_get columns w.0 ≡ Some column → dot (length asked) (at plan.potentials.items) (at column.amounts.items) ≡ column.cost *ℤ plan.denominator) weights →
    AllByRecursion (λ w. IsCloseAt margin (map (lowered plan.denominator margin) plan.potentials.items) columns w.0) (map (floored (pos parts)) weights)
close_all columns asked plan margin parts [] fine is named tight = tt
close_all columns asked plan margin parts (w ∷ weights) fine is named tight = (
  close_at columns asked plan margin w.0 fine is (named 0 w (omega arith)).0 (tight 0 w (omega arith)),
  close_all columns asked plan margin parts weights fine is (λ k d lt. named (suc k) d (omega arith)) (λ k d lt. tight (suc k) d (omega arith)),
)

-- the potentials' products with the columns fit
pub potential_small : (system : System) (potentials : List ℤ) → CanSweep system potentials → 1 ≤ system.widest → (c : ℕ) → unsigned_abs (at potentials c) ≤ 2 ^ 116 / system.widest
potential_small system potentials can wide c =
    elim (cases_lt c (length potentials)) [
      | inl lt ↦ le-div (unsigned_abs (at potentials c)) (2 ^ 116) system.widest (omega arith) (can.small c (pos 0) lt)
      | inr le ↦ rw (at_past potentials c le) (omega arith)
    ]

pub plane_fits : (system : System) (known : List Entry) (columns : List Column) (asked potentials : List ℤ) → IsSized system → AreKnown system known columns → Fits columns asked → length asked ≡ length system.elements →
    CanSweep system potentials → FitsPlane columns asked potentials
plane_fits system known columns asked potentials sized are fine size can = record {
  one_each = can.one_each ∙ sym size;
  products = λ k lt. (
    2 ^ 116 / system.widest,
    system.widest,
    record {
      sized = can.one_each ∙ sym size ∙ sym (length_at k lt);
      row_small = potential_small system potentials can sized.wide_some;
      least = content_least columns asked k fine lt;
      sum = rw can.one_each (narrow_at system known columns k sized are lt);
      room = omega (arith, div-mul-le_self (2 ^ 116) system.widest);
    },
  );
  narrow = λ k lt. rw size (omega (arith, ints, narrow_at system known columns k sized are lt, sized.wide));
}
  where
    length_at : (k : ℕ) → k < length columns → length (amounts_at columns k) ≡ length asked
    length_at k lt = rw (here columns k lt).amounts (column_fine columns asked k fine lt).sized

pub rounded : (system : System) (known : List Entry) (columns : List Column) (asked : List ℤ) (plan : Plan) (margin : ℕ) → IsSized system → AreKnown system known columns → IsTarget asked → length asked ≡ length system.elements →
    margin ≤ 2 ^ 56 → IsPlan columns asked plan →
    IsRounded system columns asked (map (lowered plan.denominator margin) plan.potentials.items) margin (map (floored plan.parts) plan.weights.items)
rounded system known columns asked plan margin sized are aim size m is =
    let fine : Fits columns asked = fits system known columns asked sized are size aim in
    let named = is.feasible.named in
    rw is.parts_are (record {
      close = record {
        amounts_are = record {
          fits = fine;
          named = named_all columns is.parts plan.weights.items is.feasible.positive named;
          within = within_all columns asked is.parts plan.weights.items fine is.feasible.positive named is.feasible.gives;
        };
        plane = plane_fits system known columns asked _ sized are fine size (can_sweep system known columns asked plan margin sized are size m is);
        small = m;
        close = close_all columns asked plan margin is.parts plan.weights.items fine is named is.tight;
      };
      few = omega (arith, is.few, length-map plan.weights.items (floored (pos is.parts)));
      near = near_all system known columns asked is.parts plan.weights.items sized are fine size is.feasible.positive (omega (arith, is.few)) named is.feasible.gives;
    })
