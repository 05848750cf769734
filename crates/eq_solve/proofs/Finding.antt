-- Why the numbers of a plan are those of an equilibrium, and what is kept where the budget is spent.
use Rattle.std.proofs.Common.{◌≡◌, ℕ, suc, ◌+◌, ◌-◌, ◌*◌, ◌/◌, ◌<◌, ◌≤◌, List, [], ◌∷◌, length, map, refl, arith, ap, sym, ◌∙◌}
use Rattle.std.specs.Prelude.{ℤ, pos, ◌+ℤ◌, ◌-ℤ◌, ◌*ℤ◌, ◌≤ℤ◌, ◌<ℤ◌, All, AllPairs, filter}
use Rattle.std.specs.Int.{int_div_euclid}
use Rattle.std.specs.List.{AllByRecursion}
use Rattle.std.proofs.lemmas.Int.{ints}
use Rattle.std.proofs.lemmas.List.{length-map}
use Rattle.std.proofs.Math.Nat.{mul-div-le}
use Rattle.cal_math.specs.Sums.{sum_of}
use Rattle.cal_math.specs.Whole.{le-floor, *ℤ-+ℤ, *ℤ_comm, *ℤ_left, *ℤ_assoc, *ℤ-≤, pos-*ℤ-≤}
use Rattle.cal_math.specs.Vectors.{at, sum_to, dot}
use Rattle.cal_math.proofs.Vectors.{sum-same, dot_same}
use Rattle.lp_basis.specs.declared.column.Column.{Column}
use Rattle.lp_stage.specs.Leaving.{amounts_at}
use Rattle.lp_core.specs.Fitting.{IsTarget}
use Rattle.lp_core.specs.Plans.{Weight, given_amount, cost_of, IsPlan}
use Rattle.lp_core.specs.declared.plan.Plan.{Plan}
use Rattle.cef_report.specs.declared.entry.Entry.{Entry}
use Rattle.cef_core.specs.declared.system.System.{System}
use Rattle.cef_tree.specs.declared.tree.Tree.{Tree}
use Rattle.cef_report.specs.Assemblages.{content_of, total, total_energy, IsEntry, IsAssemblage}
use Rattle.cef_report.specs.Certificates.{IsAbove, MeetsGap}
use Rattle.cef_core.specs.Worth.{worth}
use Rattle.cef_report.proofs.Sound.{IsWithin-from_certificate}
use Rattle.eq_sweep.specs.declared.swept.Swept.{Swept}
use Rattle.eq_sweep.specs.declared.swept.Swept.TheVariants.{Closed, Out}
use Rattle.eq_solve.specs.declared.found.Found.{Found}
use Rattle.eq_solve.specs.declared.fault.Open.{Open}
use Rattle.eq_solve.specs.Points.{AreKnown, IsSized}
use Rattle.eq_solve.specs.Sweeps.{CanSweep}
use Rattle.eq_solve.specs.Prices.{floored}
use Rattle.eq_solve.specs.Figures.{AreAmounts, IsCloseAt, IsGreatest, is_some, entry_at, left_of}
use Rattle.cef_report.specs.Feasibility.{IsFeasible}
use Rattle.eq_solve.specs.Answers.{IsKept, IsOpen}
use Rattle.eq_solve.specs.Finding.{IsFound, AreFigures}
use Rattle.eq_solve.proofs.Worths.{worth-dot, sum-first}
use Rattle.cef_report.specs.Holding.{IsBefore}
use Rattle.eq_solve.proofs.Rising.{AreRising, entries_rising, some_rising}
use Rattle.eq_solve.proofs.Amounts.{given_least, left_low, left_high}
use Rattle.eq_solve.proofs.Knowing.{known-length}
use Rattle.eq_solve.proofs.Planning.{IsRounded, sum_least}
use Rattle.eq_solve.proofs.Entries.{all_from, sum_some, IsCounted, some_counted, some-few, entry_is, total_is, total_energy_is, entries_are, left_sum}

sum_list : (xs : List ℤ) → sum_of (λ n. n) xs ≡ sum_to (length xs) (at xs)
sum_list [] = refl
sum_list (x ∷ xs) = ap (λ (z : ℤ). x +ℤ z) (sum_list xs) ∙ sym (sum-first (length xs) (at (x ∷ xs)))

-- a gap that is the least whole number of 2^16ths above x, for x of at most s * T, is at most ceil (g * T / N) where s * N <= 2^16 * g
gap_most : (x gap T : ℤ) (s g n : ℕ) → 0 < n → pos 0 ≤ℤ T → (pos 65536 *ℤ gap) <ℤ (x +ℤ pos 65536) → x ≤ℤ (pos s *ℤ T) → n * s ≤ 65536 * g →
    gap ≤ℤ int_div_euclid (pos g *ℤ T +ℤ (pos n -ℤ pos 1)) (pos n)
gap_most x gap T s g n some least near high within =
    let first : (pos n *ℤ x) ≤ℤ (pos n *ℤ (pos s *ℤ T)) = pos-*ℤ-≤ n _ _ high in
    let scaled : (T *ℤ pos (n * s)) ≤ℤ (T *ℤ pos (65536 * g)) = *ℤ-≤ T (pos (n * s)) (pos (65536 * g)) least (omega (arith, ints, within)) in
    let next : (pos 65536 *ℤ gap) ≤ℤ (x +ℤ pos 65535) = omega (arith, ints, near) in
    let times : (pos n *ℤ (pos 65536 *ℤ gap)) ≤ℤ (pos n *ℤ (x +ℤ pos 65535)) = pos-*ℤ-≤ n _ _ next in
    let left : pos n *ℤ (pos s *ℤ T) ≡ T *ℤ pos (n * s) = sym (*ℤ_assoc (pos n) (pos s) T) ∙ *ℤ_comm (pos n *ℤ pos s) T in
    let right : T *ℤ pos (65536 * g) ≡ pos 65536 *ℤ (pos g *ℤ T) = *ℤ_comm T (pos (65536 * g)) ∙ *ℤ_assoc (pos 65536) (pos g) T in
    let goal : (pos n *ℤ gap) ≤ℤ (pos g *ℤ T +ℤ (pos n -ℤ pos 1)) = omega (arith, ints, times, first, scaled, left, right, *ℤ_left (pos n) (pos 65536) gap, *ℤ-+ℤ (pos n) x (pos 65535)) in
    le-floor gap _ (pos n) (omega (arith, ints)) goal

pub places : (m k : ℕ) (amounts : List Weight) → m ≡ k → AllByRecursion (λ w. (w.0 < m) × (pos 0 ≤ℤ w.1)) amounts → AllByRecursion (λ w. w.0 < k) amounts
places m k [] e named = tt
places m k (w ∷ amounts) e named = (omega (arith, named.0.0), places m k amounts e named.1)

pub named_places : (m k : ℕ) (amounts : List Weight) → m ≡ k → AllByRecursion (λ w. (w.0 < m) × (pos 0 ≤ℤ w.1)) amounts → AllByRecursion (λ w. (w.0 < k) × (pos 0 ≤ℤ w.1)) amounts
named_places m k [] e named = tt
named_places m k (w ∷ amounts) e named = ((omega (arith, named.0.0), named.0.1), named_places m k amounts e named.1)

counted_places : (m k : ℕ) (amounts : List Weight) → m ≡ k → AllByRecursion (IsCounted m) amounts → AllByRecursion (IsCounted k) amounts
counted_places m k [] e named = tt
counted_places m k (w ∷ amounts) e named = ((omega (arith, named.0.0), named.0.1), counted_places m k amounts e named.1)

pub counted_only : (k : ℕ) (amounts : List Weight) → AllByRecursion (IsCounted k) amounts → AllByRecursion (λ w. w.0 < k) amounts
counted_only k [] named = tt
counted_only k (w ∷ amounts) named = (named.0.0, counted_only k amounts named.1)

-- the numbers of the found are those of its entries
record AreOf (system : System) (asked : List ℤ) (columns : List Column) (amounts : List Weight) (found : Found) : Type 0 where
  assemblage : IsAssemblage system found.entries
  few : length found.entries ≤ length amounts
  totals_are : (c : ℕ) → c < length system.elements → given_amount columns amounts c ≡ total system found.entries c
  energy_is : cost_of columns amounts ≡ total_energy system found.entries

of_entries : (system : System) (known : List Entry) (columns : List Column) (asked potentials : List ℤ) (amounts : List Weight) (trees : List Tree) (found : Found) → AreKnown system known columns → AreAmounts columns asked amounts →
    AreFigures known columns asked potentials amounts trees found → AreOf system asked columns amounts found
of_entries system known columns asked potentials amounts trees found are amounts_are figures =
    let m : ℕ = length columns in
    let some : List Weight = filter is_some amounts in
    let counted : AllByRecursion (IsCounted (length known)) some = counted_places m (length known) some (known-length system known columns are) (some_counted m amounts amounts_are.named) in
    let named : AllByRecursion (λ w. w.0 < length known) some = counted_only (length known) some counted in
    record {
      assemblage = rw figures.entries_are (all_from (IsEntry system) (map (entry_at known) some) (entries_are system known columns some are counted));
      few = rw figures.entries_are (omega (arith, length-map some (entry_at known), some-few amounts));
      totals_are = λ c lt. rw figures.entries_are (sym (total_is system known columns some c are named lt ∙ sum_some (λ k. at (amounts_at columns k) c) m amounts amounts_are.named));
      energy_is = rw figures.entries_are (sym (total_energy_is system known columns some are named ∙ sum_some (λ k. Rattle.lp_core.specs.Plans.column_cost columns k) m amounts amounts_are.named));
    }

some_places : (m : ℕ) (known : List Entry) (amounts : List Weight) → m ≡ length known → AllByRecursion (λ w. (w.0 < m) × (pos 0 ≤ℤ w.1)) amounts → AllByRecursion (λ w. w.0 < length known) (filter is_some amounts)
some_places m known amounts e named = counted_only (length known) (filter is_some amounts) (counted_places m (length known) (filter is_some amounts) e (some_counted m amounts named))

pub found_from : (system : System) (swept : List ℤ → ℕ → Swept → Type 0) (known : List Entry) (columns : List Column) (asked potentials : List ℤ) (margin gap budget : ℕ) (amounts : List Weight) (trees : List Tree) (found : Found) →
    IsSized system → AreKnown system known columns → AllPairs IsBefore known → AreRising amounts → length asked ≡ length system.elements → margin + 1 ≡ 65536 * gap / system.lattice → CanSweep system potentials →
    IsRounded system columns asked potentials margin amounts → swept potentials budget (Closed trees) → IsAbove system potentials →
    AreFigures known columns asked potentials amounts trees found → IsFound system swept asked gap budget found
found_from system swept known columns asked potentials margin gap budget amounts trees found sized are order rising size s can rounds closes above figures =
    let n : ℕ = length system.elements in
    let close = rounds.close in
    let of = of_entries system known columns asked potentials amounts trees found are close.amounts_are figures in
    let len : length potentials ≡ n = can.one_each in
    let total_at : (c : ℕ) → c < n → at found.totals c ≡ given_amount columns amounts c = λ c lt. figures.totals_are c (omega (arith, size)) in
    let value : worth potentials (at found.totals) ≡ dot (length potentials) (at potentials) (given_amount columns amounts) =
    worth-dot potentials (at found.totals) ∙ dot_same (length potentials) (at potentials) (at found.totals) (at potentials) (given_amount columns amounts) (λ c lt. refl) (λ c lt. total_at c (omega (arith, len))) in
    let left : pos 65536 *ℤ found.energy -ℤ worth potentials (at found.totals) ≡ left_of potentials columns amounts =
    rw (figures.energy_is, value) (sym (left_sum potentials columns amounts)) in
    let low : pos 0 ≤ℤ left_of potentials columns amounts = left_low margin columns asked potentials amounts close in
    let high : left_of potentials columns amounts ≤ℤ (pos (margin + 1) *ℤ sum_to (length asked) (given_amount columns amounts)) = left_high margin columns asked potentials amounts close in
    let sums : sum_of (λ k. k) found.totals ≡ sum_to (length asked) (given_amount columns amounts) =
    sum_list found.totals ∙ ap (λ (k : ℕ). sum_to k (at found.totals)) figures.one_each ∙ sum-same (length asked) (at found.totals) (given_amount columns amounts) figures.totals_are in
    let allowed : MeetsGap potentials found.totals found.energy found.gap = omega (arith, ints, left, figures.gap_allowed) in
    let greatest : IsGreatest n (λ c. at asked c -ℤ at found.totals c) found.tolerance = rw (← size) figures.tolerance_is in
    let at_place : at asked greatest.place -ℤ given_amount columns amounts greatest.place ≡ found.tolerance = rw (← total_at greatest.place greatest.within) greatest.is in
    let same_components : length found.totals ≡ n = figures.one_each ∙ size in
    record {
      assemblage = of.assemblage;
      rising = rw figures.entries_are (entries_rising known (filter is_some amounts) order (some_rising amounts rising) (some_places (length columns) known amounts (known-length system known columns are) close.amounts_are.named));
      few = omega (arith, of.few, rounds.few);
      components = same_components;
      totals_are = λ c lt. total_at c lt ∙ of.totals_are c lt;
      energy_is = figures.energy_is ∙ of.energy_is;
      none_above = λ c lt. rw (total_at c lt) (close.amounts_are.within c (omega (arith, size)));
      tolerance_is = greatest;
      tolerance_small = rw (← at_place) (rounds.near greatest.place greatest.within);
      can_sweep = rw figures.potentials_are can;
      closes = rw (figures.potentials_are, figures.trees_are) closes;
      above = rw figures.potentials_are above;
      gap_low = omega (arith, ints, low, figures.gap_allowed);
      gap_allowed = rw figures.potentials_are allowed;
      gap_least = λ g g_low meets. let met = rw figures.potentials_are at meets in omega (arith, ints, left, met, figures.gap_least);
      gap_small = rw sums (gap_most (left_of potentials columns amounts) found.gap (sum_to (length asked) (given_amount columns amounts)) (margin + 1) gap system.lattice (omega (arith, sized.lattice_low)) (totals_least close.amounts_are) figures.gap_least high (rw s (mul-div-le (65536 * gap) system.lattice)));
      least = IsWithin-from_certificate system potentials found.totals found.energy found.gap (len ∙ sym same_components) above allowed;
    }
  where
    totals_least : AreAmounts columns asked amounts → pos 0 ≤ℤ sum_to (length asked) (given_amount columns amounts)
    totals_least amounts_are = sum_least (length asked) (given_amount columns amounts) (given_least columns asked amounts amounts_are.fits amounts_are.named)

-- ---- what is kept

kept_at : (system : System) (s margin : ℕ) (known : List Entry) (columns : List Column) (potentials : List ℤ) (w : Weight) → AreKnown system known columns → length potentials ≡ length system.elements → w.0 < length known → pos 0 ≤ℤ w.1 →
    s ≡ margin + 1 → IsCloseAt margin potentials columns w.0 → IsKept system s potentials (entry_at known w)
kept_at system s margin known columns potentials w are len lt least e close =
    let n : ℕ = length system.elements in
    let is = entry_is system known columns w are lt in
    let sum : sum_to n (content_of system (entry_at known w)) ≡ sum_to n (at (amounts_at columns w.0)) = sum-same n (content_of system (entry_at known w)) (at (amounts_at columns w.0)) is.content_is in
    let value : worth potentials (content_of system (entry_at known w)) ≡ dot (length potentials) (at potentials) (at (amounts_at columns w.0)) =
    worth-dot potentials (content_of system (entry_at known w)) ∙ dot_same (length potentials) (at potentials) (content_of system (entry_at known w)) (at potentials) (at (amounts_at columns w.0)) (λ c less. refl) (λ c less. is.content_is c (omega (arith, len))) in
    let one : s - 1 ≡ margin = omega (arith, e) in
    record {
      is_constitution = is.is_constitution;
      least = least;
      clear = rw (one, sum, value, is.energy_is) (rw (← len) close.clear);
      near = rw (e, sum, value, is.energy_is) (rw (← len) close.near);
    }

kept_all : (system : System) (s margin : ℕ) (known : List Entry) (columns : List Column) (potentials : List ℤ) (amounts : List Weight) → AreKnown system known columns → length potentials ≡ length system.elements → s ≡ margin + 1 →
    AllByRecursion (λ w. (w.0 < length columns) × (pos 0 ≤ℤ w.1)) amounts → AllByRecursion (λ w. IsCloseAt margin potentials columns w.0) amounts → AllByRecursion (IsKept system s potentials) (map (entry_at known) amounts)
kept_all system s margin known columns potentials [] are len e named close = tt
kept_all system s margin known columns potentials (w ∷ amounts) are len e named close = (
  kept_at system s margin known columns potentials w are len (omega (arith, named.0.0, known-length system known columns are)) named.0.1 e close.0,
  kept_all system s margin known columns potentials amounts are len e named.1 close.1,
)

some_weight : (columns : List Column) (asked : List ℤ) (plan : Plan) → IsTarget asked → IsPlan columns asked plan → 0 < length plan.weights.items
some_weight columns asked plan aim is = by_list plan.weights.items is.feasible.gives
  where
    by_list : (weights : List Weight) → ((c : ℕ) → c < length asked → given_amount columns weights c ≡ pos is.parts *ℤ at asked c) → 0 < length weights
    by_list [] gives = absurd (omega (arith, ints, gives aim.positive.0 aim.positive.1, *ℤ-≤ (pos is.parts) (pos 1) (at asked aim.positive.0) (omega (arith, ints)) aim.positive.2, is.feasible.positive))
    by_list (w ∷ weights) gives = omega arith

pub open_from : (system : System) (swept : List ℤ → ℕ → Swept → Type 0) (known : List Entry) (columns : List Column) (asked potentials : List ℤ) (margin gap budget : ℕ) (plan : Plan) (amounts : List Weight) (left : Open) →
    AreKnown system known columns → AllPairs IsBefore known → AreRising amounts → length asked ≡ length system.elements → margin + 1 ≡ 65536 * gap / system.lattice → CanSweep system potentials → IsTarget asked → IsPlan columns asked plan →
    amounts ≡ map (floored plan.parts) plan.weights.items →
    IsRounded system columns asked potentials margin amounts → swept potentials budget (Out left.phase) → left.phase < length system.phases → budget < system.lists →
    left.entries ≡ map (entry_at known) amounts → left.potentials ≡ potentials → IsOpen system swept asked gap budget left
open_from system swept known columns asked potentials margin gap budget plan amounts left are order rising size s can aim is amounts_are rounds out within few entries potentials_are =
    let named : AllByRecursion (λ w. w.0 < length known) amounts = places (length columns) (length known) amounts (known-length system known columns are) rounds.close.amounts_are.named in
    let total_at : (c : ℕ) → c < length system.elements → total system left.entries c ≡ given_amount columns amounts c = λ c lt. rw entries (total_is system known columns amounts c are named lt) in
    record {
      budget_low = few;
      can_sweep = rw potentials_are can;
      phase_in = within;
      out = rw potentials_are out;
      rising = rw entries (entries_rising known amounts order rising named);
      present = rw entries (rw amounts_are (omega (arith, length-map (map (floored plan.parts) plan.weights.items) (entry_at known), length-map plan.weights.items (floored plan.parts), some_weight columns asked plan aim is)));
      none_above = λ c lt. rw (total_at c lt) (rounds.close.amounts_are.within c (omega (arith, size)));
      close = λ c lt. rw (total_at c lt) (rounds.near c lt);
      kept = rw (potentials_are, entries) (all_from (IsKept system (65536 * gap / system.lattice) potentials) (map (entry_at known) amounts)
          (kept_all system (65536 * gap / system.lattice) margin known columns potentials amounts are can.one_each (sym s) rounds.close.amounts_are.named rounds.close.close));
    }

-- ---- a plan shows that the totals are feasible

counted_weights : (m k : ℕ) (weights : List Weight) → m ≡ k → All (λ w. (w.0 < m) × (pos 0 ≤ℤ w.1)) weights → All (λ w. pos 1 ≤ℤ w.1) weights → AllByRecursion (IsCounted k) weights
counted_weights m k [] e named above = tt
counted_weights m k (w ∷ weights) e named above = ((omega (arith, (named 0 w (omega arith)).0), above 0 w (omega arith)), counted_weights m k weights e (λ i d lt. named (suc i) d (omega arith)) (λ i d lt. above (suc i) d (omega arith)))

pub feasible_from : (system : System) (known : List Entry) (columns : List Column) (asked : List ℤ) (plan : Plan) → AreKnown system known columns → length asked ≡ length system.elements → IsPlan columns asked plan → IsFeasible system asked
feasible_from system known columns asked plan are size is =
    let counted : AllByRecursion (IsCounted (length known)) plan.weights.items = counted_weights (length columns) (length known) plan.weights.items (known-length system known columns are) is.feasible.named is.above in
    let named : AllByRecursion (λ w. w.0 < length known) plan.weights.items = counted_only (length known) plan.weights.items counted in (
      is.parts,
      map (entry_at known) plan.weights.items,
      record {
        parts = is.feasible.positive;
        assemblage = all_from (IsEntry system) (map (entry_at known) plan.weights.items) (entries_are system known columns plan.weights.items are counted);
        totals_are = λ c lt. total_is system known columns plan.weights.items c are named (omega (arith, size)) ∙ is.feasible.gives c lt;
      },
    )
