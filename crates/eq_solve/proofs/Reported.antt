-- The report of what was found holds, is certified, and is within the limits of texts.
use Rattle.std.proofs.Common.{◌≡◌, ℕ, zero, suc, ◌+◌, ◌-◌, ◌*◌, ◌^◌, ◌<◌, ◌≤◌, List, [], ◌∷◌, ◌++◌, Option, Some, length, map, get_or, refl, arith, ap, sym, ◌∙◌, subst, inl, inr}
use Rattle.std.specs.Prelude.{ℤ, pos, negsuc, ◌+ℤ◌, ◌-ℤ◌, ◌*ℤ◌, ◌≤ℤ◌, ◌<ℤ◌, unsigned_abs, All, sum, slice_get, ◌⊎◌}
use Rattle.std.specs.Int.{int_div_euclid}
use Rattle.std.specs.List.{AllByRecursion, Any, concat}
use Rattle.std.proofs.lemmas.Int.{ints}
use Rattle.std.proofs.lemmas.List.{length-map, length-append}
use Rattle.std.proofs.lemmas.List.Sums.{sum_by-cons}
use Rattle.std.proofs.lemmas.Nat.{mul-le}
use Rattle.std.proofs.lemmas.Option.{slice_get_within}
use Rattle.std.proofs.Math.Nat.{mul-le-mul_left}
use Rattle.cal_math.specs.Sums.{sum_of}
use Rattle.cal_math.specs.Whole.{*ℤ-≤, abs-*ℤ-le, abs-floor-le}
use Rattle.cal_math.specs.Vectors.{at, sum_to}
use Rattle.cef_core.specs.declared.phase.PhaseAt.{PhaseAt}
use Rattle.cef_core.specs.declared.system.System.{System}
use Rattle.cef_tree.specs.declared.tree.Tree.{Tree}
use Rattle.cef_core.specs.Constitutions.{HasShape}
use Rattle.cef_core.specs.Systems.{IsPhaseOf, IsSystem}
use Rattle.cef_report.specs.declared.entry.Entry.{Entry}
use Rattle.cef_report.specs.declared.report.Report.{Report}
use Rattle.cef_report.specs.Assemblages.{content_of, energy_of, total, total_energy, IsEntry}
use Rattle.cef_report.specs.Certificates.{IsCertified}
use Rattle.cef_report.specs.Feasibility.{AreAsked}
use Rattle.cef_report.specs.Holding.{Holds}
use Rattle.cef_report.specs.Spelled.{IsNumber, IsAsked, AreCounts, IsSpelledSite, IsSpelledEntry, IsSpelledTree, leaf, IsSpelled}
use Rattle.eq_sweep.specs.declared.swept.Swept.{Swept}
use Rattle.eq_solve.specs.declared.found.Found.{Found}
use Rattle.eq_solve.specs.Answers.{IsNear}
use Rattle.eq_solve.specs.Finding.{IsFound}
use Rattle.eq_solve.specs.Points.{IsConstitutionOf, IsSized}
use Rattle.eq_solve.specs.Reporting.{Reports}
use Rattle.eq_solve.specs.Sweeps.{CanSweep}
use Rattle.eq_solve.proofs.Knowing.{content-least}
use Rattle.eq_solve.proofs.Sizing.{First, first_phase, all_at}

-- ---- what was found holds, and is certified

at_asked : (asked : List ℤ) (c : ℕ) → AllByRecursion IsAsked asked → (pos 0 ≤ℤ at asked c) × (at asked c ≤ℤ pos (2 ^ 50))
at_asked [] c all = (omega (arith, ints), omega (arith, ints))
at_asked (x ∷ asked) zero all = all.0
at_asked (x ∷ asked) (suc c) all = at_asked asked c all.1

tolerance_least : (system : System) (swept : List ℤ → ℕ → Swept → Type 0) (asked : List ℤ) (gap budget : ℕ) (found : Found) → IsFound system swept asked gap budget found → pos 0 ≤ℤ found.tolerance
tolerance_least system swept asked gap budget found is =
    let greatest = is.tolerance_is in
    omega (arith, ints, is.none_above greatest.place greatest.within, greatest.is)

pub holds_from : (system : System) (swept : List ℤ → ℕ → Swept → Type 0) (asked : List ℤ) (gap budget : ℕ) (found : Found) (report : Report) → IsFound system swept asked gap budget found → Reports system asked found report → Holds system asked report
holds_from system swept asked gap budget found report is reports = record {
  same_temperature = reports.temperature;
  same_lattice = reports.lattice;
  same_elements = reports.elements;
  same_phases = reports.phases;
  asked_are = reports.asked_are;
  assemblage = rw reports.entries is.assemblage;
  rising = rw reports.entries is.rising;
  components = rw reports.totals is.components;
  totals_are = λ c lt. rw (reports.totals, reports.entries) (is.totals_are c lt);
  energy_is = rw (reports.energy, reports.entries) is.energy_is;
  not_below = λ c lt. rw (reports.totals, reports.tolerance) (is.tolerance_is.most c lt);
  not_above = λ c lt. rw (reports.totals, reports.tolerance) (omega (arith, ints, is.none_above c lt, tolerance_least system swept asked gap budget found is));
  least = rw (reports.totals, reports.energy, reports.gap) is.least;
}

pub certified_from : (system : System) (swept : List ℤ → ℕ → Swept → Type 0) (asked : List ℤ) (gap budget : ℕ) (found : Found) (report : Report) → IsFound system swept asked gap budget found → Reports system asked found report → IsCertified system gap report
certified_from system swept asked gap budget found report is reports = record {
  one_each = rw reports.potentials is.can_sweep.one_each;
  above = rw reports.potentials is.above;
  gap_low = rw reports.gap is.gap_low;
  gap_allowed = rw (reports.potentials, reports.totals, reports.energy, reports.gap) is.gap_allowed;
  gap_least = λ g low meets. rw reports.gap (is.gap_least g low (rw (reports.potentials, reports.totals, reports.energy) at meets));
  gap_small = rw (reports.totals, reports.gap) is.gap_small;
  none_above = λ c lt. rw (reports.totals, reports.asked_are) (is.none_above c lt);
  tolerance_met = (is.tolerance_is.place, is.tolerance_is.within, rw (reports.totals, reports.asked_are, reports.tolerance) is.tolerance_is.is);
}

pub near_from : (system : System) (swept : List ℤ → ℕ → Swept → Type 0) (asked : List ℤ) (gap budget : ℕ) (found : Found) (report : Report) → IsFound system swept asked gap budget found → Reports system asked found report → IsNear system report
near_from system swept asked gap budget found report is reports = record {
  tolerance_small = rw reports.tolerance is.tolerance_small;
  potentials_small = rw reports.potentials is.can_sweep;
}

-- ---- the entries within the limits of texts

by_recursion : {X : Type 0} (P : X → Type 0) (xs : List X) → All P xs → AllByRecursion P xs
by_recursion P [] all = tt
by_recursion P (x ∷ xs) all = (all 0 x (omega arith), by_recursion P xs (λ k d lt. all (suc k) d (omega arith)))

sum_cons : (k : ℕ) (counts : List ℕ) → sum (k ∷ counts) ≡ k + sum counts
sum_cons k counts = sum_by-cons (λ (x : ℕ). x) k counts

counts_small : (n : ℕ) (counts : List ℕ) → sum counts ≤ n → n ≤ 65535 → AllByRecursion (λ k. k ≤ 65535) counts
counts_small n [] le few = tt
counts_small n (k ∷ counts) le few = (omega (arith, sum_cons k counts, le, few), counts_small n counts (omega (arith, sum_cons k counts, le)) few)

site_counts : (n : ℕ) (sites : List (List (Option ℕ))) (site : List (List ℕ)) → n ≤ 1000 → AllByRecursion (λ row. 1 ≤ length row) sites → HasShape n sites site → AllByRecursion AreCounts site
site_counts n [] [] few some shape = tt
site_counts n [] (ks ∷ site) few some shape = absurd shape
site_counts n (row ∷ sites) [] few some shape = absurd shape
site_counts n (row ∷ sites) (ks ∷ site) few some shape =
    ((omega (arith, shape.0, some.0), counts_small n ks (omega (arith, shape.1)) (omega (arith, few))), site_counts n sites site few some.1 shape.2)

site_length : (n : ℕ) (sites : List (List (Option ℕ))) (site : List (List ℕ)) → HasShape n sites site → length site ≡ length sites
site_length n [] [] shape = refl
site_length n [] (ks ∷ site) shape = absurd shape
site_length n (row ∷ sites) [] shape = absurd shape
site_length n (row ∷ sites) (ks ∷ site) shape = ap suc (site_length n sites site shape.2)

site_places : (n : ℕ) (sites : List (List (Option ℕ))) (site : List (List ℕ)) → HasShape n sites site → length (concat site) ≡ sum (map length sites)
site_places n [] [] shape = refl
site_places n [] (ks ∷ site) shape = absurd shape
site_places n (row ∷ sites) [] shape = absurd shape
site_places n (row ∷ sites) (ks ∷ site) shape = omega (arith, length-append ks (concat site), shape.0, site_places n sites site shape.2, sum_cons (length row) (map length sites))

site_spelled : (system : System) (phase : PhaseAt) (site : List (List ℕ)) → IsSized system → IsPhaseOf system phase → HasShape phase.lattice phase.sites site → IsSpelledSite site
site_spelled system phase site sized is shape = record {
  present = omega (arith, site_length phase.lattice phase.sites site shape, is.fine.keeps.sublattices_low);
  most = omega (arith, site_length phase.lattice phase.sites site shape, is.fine.keeps.sublattices_high);
  counts = site_counts phase.lattice phase.sites site (omega (arith, is.same_lattice, sized.lattice_high)) is.fine.keeps.site_each shape;
  most_counts = omega (arith, site_places phase.lattice phase.sites site shape, is.fine.sites);
}

constitution_of : (system : System) (e : Entry) → IsEntry system e → IsConstitutionOf system e
constitution_of system e is = record { phase = is.phase; is_phase = is.is_phase; constitution = is.constitution }

-- a component of which a sum above 0 holds some
some_below : (n : ℕ) (f : ℕ → ℤ) → pos 1 ≤ℤ sum_to n f → ((c : ℕ) → pos 0 ≤ℤ f c) → (c : ℕ) × (c < n) × (pos 1 ≤ℤ f c)
some_below zero f above least = absurd (omega (arith, ints, above))
some_below (suc n) f above least =
    elim (cases_some (f n) (least n)) [
      | inl some ↦ (n, omega arith, some)
      | inr none ↦ let rest = some_below n f (omega (arith, ints, above, none)) least in (rest.0, omega (arith, rest.1), rest.2)
    ]
  where
    cases_some : (z : ℤ) → pos 0 ≤ℤ z → (pos 1 ≤ℤ z) ⊎ (z ≡ pos 0)
    cases_some (pos zero) p = inr refl
    cases_some (pos (suc k)) p = inl (omega (arith, ints))
    cases_some (negsuc k) p = absurd (omega (arith, ints))

-- an entry's part of a total
part_least : (system : System) (e : Entry) → IsEntry system e → (c : ℕ) → pos 0 ≤ℤ (e.amount *ℤ content_of system e c)
part_least system e is c =
    let some : pos 1 ≤ℤ e.amount = is.present in
    omega (arith, ints, *ℤ-≤ e.amount (pos 0) (content_of system e c) (omega (arith, ints, some)) (content-least system e (constitution_of system e is) c))

total_least : (system : System) (entries : List Entry) → AllByRecursion (IsEntry system) entries → (c : ℕ) → pos 0 ≤ℤ total system entries c
total_least system [] all c = omega (arith, ints)
total_least system (e ∷ entries) all c = omega (arith, ints, part_least system e all.0 c, total_least system entries all.1 c)

-- the amount, which some total contains
amount_small : (system : System) (e : Entry) (entries : List Entry) → IsSized system → IsEntry system e → AllByRecursion (IsEntry system) entries → ((c : ℕ) → c < length system.elements → total system (e ∷ entries) c ≤ℤ pos (2 ^ 50)) → e.amount ≤ℤ pos (2 ^ 50)
amount_small system e entries sized is all small =
    let constitution = constitution_of system e is in
    let found = some_below (length system.elements) (content_of system e) (sized.some e constitution) (content-least system e constitution) in
    let some : pos 1 ≤ℤ e.amount = is.present in
    omega (arith, ints, small found.0 found.1, total_least system entries all found.0, *ℤ-≤ e.amount (pos 1) (content_of system e found.0) (omega (arith, ints, some)) found.2)

entry_spelled : (system : System) (e : Entry) → IsSystem system → IsSized system → IsEntry system e → e.amount ≤ℤ pos (2 ^ 50) → IsSpelledEntry (length system.phases) e
entry_spelled system e is sized entry small = record {
  phase = slice_get_within system.phases e.phase entry.phase entry.is_phase;
  amount_low = entry.present;
  amount_high = small;
  site = site_spelled system entry.phase e.site sized (all_at (IsPhaseOf system) system.phases e.phase entry.phase is.phases entry.is_phase) entry.constitution.shape;
}

entries_spelled : (system : System) (entries : List Entry) → IsSystem system → IsSized system → AllByRecursion (IsEntry system) entries → ((c : ℕ) → c < length system.elements → total system entries c ≤ℤ pos (2 ^ 50)) →
    AllByRecursion (IsSpelledEntry (length system.phases)) entries
entries_spelled system [] is sized all small = tt
entries_spelled system (e ∷ entries) is sized all small = (
  entry_spelled system e is sized all.0 (amount_small system e entries sized all.0 all.1 small),
  entries_spelled system entries is sized all.1 (λ c lt. omega (arith, ints, small c lt, part_least system e all.0 c)),
)

energy_small : (system : System) (entries : List Entry) → IsSized system → AllByRecursion (IsEntry system) entries → ((c : ℕ) → c < length system.elements → total system entries c ≤ℤ pos (2 ^ 50)) →
    unsigned_abs (total_energy system entries) ≤ length entries * 2 ^ 105
energy_small system [] sized all small = omega (arith, ints)
energy_small system (e ∷ entries) sized all small =
    let high : e.amount ≤ℤ pos (2 ^ 50) = amount_small system e entries sized all.0 all.1 small in
    let low : pos 1 ≤ℤ e.amount = all.0.present in
    let cheap : unsigned_abs (energy_of system e) ≤ 2 ^ 55 = omega (arith, sized.cheap e (constitution_of system e all.0), sized.dear) in
    let one : unsigned_abs (e.amount *ℤ energy_of system e) ≤ 2 ^ 50 * 2 ^ 55 = abs-*ℤ-le e.amount (energy_of system e) (2 ^ 50) (2 ^ 55) (omega (arith, ints, low, high)) cheap in
    omega (arith, ints, one, energy_small system entries sized all.1 (λ c lt. omega (arith, ints, small c lt, part_least system e all.0 c)))

-- ---- the other numbers

totals_numbers : (totals : List ℤ) → ((c : ℕ) → c < length totals → (pos 0 ≤ℤ at totals c) × (at totals c ≤ℤ pos (2 ^ 50))) → AllByRecursion IsNumber totals
totals_numbers [] all = tt
totals_numbers (x ∷ totals) all =
    let first = all 0 (omega arith) in
    (omega (arith, ints, first.0, first.1), totals_numbers totals (λ c lt. all (suc c) (omega arith)))

sum_small : (totals : List ℤ) → ((c : ℕ) → c < length totals → (pos 0 ≤ℤ at totals c) × (at totals c ≤ℤ pos (2 ^ 50))) → (pos 0 ≤ℤ sum_of (λ n. n) totals) × (sum_of (λ n. n) totals ≤ℤ pos (length totals * 2 ^ 50))
sum_small [] all = (omega (arith, ints), omega (arith, ints))
sum_small (x ∷ totals) all =
    let first = all 0 (omega arith) in
    let rest = sum_small totals (λ c lt. all (suc c) (omega arith)) in
    (omega (arith, ints, first.0, rest.0), omega (arith, ints, first.1, rest.1))

potentials_numbers : (w : ℕ) (potentials : List ℤ) → 1 ≤ w → All (λ m. unsigned_abs m * w ≤ 2 ^ 116) potentials → AllByRecursion IsNumber potentials
potentials_numbers w [] some all = tt
potentials_numbers w (m ∷ potentials) some all =
    (omega (arith, all 0 m (omega arith), mul-le-mul_left (unsigned_abs m) some), potentials_numbers w potentials some (λ k d lt. all (suc k) d (omega arith)))

gap_high : (gap T : ℤ) (g n : ℕ) → 1 ≤ n → n ≤ 1000 → g ≤ 10 ^ 12 → pos 0 ≤ℤ T → T ≤ℤ pos (2 ^ 53) → gap ≤ℤ int_div_euclid (pos g *ℤ T +ℤ (pos n -ℤ pos 1)) (pos n) → gap ≤ℤ pos (2 ^ 110)
gap_high gap T g n some few gap_few low high small =
    let product : unsigned_abs (pos g *ℤ T) ≤ 10 ^ 12 * 2 ^ 53 = abs-*ℤ-le (pos g) T (10 ^ 12) (2 ^ 53) (omega (arith, ints, gap_few)) (omega (arith, ints, low, high)) in
    let whole : unsigned_abs (pos g *ℤ T +ℤ (pos n -ℤ pos 1)) ≤ 10 ^ 12 * 2 ^ 53 + 1000 = omega (arith, ints, product, some, few) in
    let floor : unsigned_abs (int_div_euclid (pos g *ℤ T +ℤ (pos n -ℤ pos 1)) (pos n)) ≤ 10 ^ 12 * 2 ^ 53 + 1000 = abs-floor-le _ (pos n) (10 ^ 12 * 2 ^ 53 + 1000) (omega (arith, ints, some)) whole in
    omega (arith, ints, small, floor)

pub spelled_from : (system : System) (swept : List ℤ → ℕ → Swept → Type 0) (asked : List ℤ) (gap budget : ℕ) (found : Found) (report : Report) → IsSystem system → IsSized system → AreAsked system asked → gap ≤ 10 ^ 12 →
    IsFound system swept asked gap budget found → length found.trees ≡ length system.phases → AllByRecursion IsSpelledTree found.trees → Reports system asked found report → IsSpelled report
spelled_from system swept asked gap budget found report is sized are gap_few f trees_each trees r =
    let n : ℕ = length system.elements in
    let first = first_phase system is in
    let one : IsPhaseOf system first.phase = all_at (IsPhaseOf system) system.phases 0 first.phase is.phases first.is in
    let all : AllByRecursion (IsEntry system) found.entries = by_recursion (IsEntry system) found.entries f.assemblage in
    let elements : length report.elements ≡ n = ap length r.elements in
    let phases : length report.phases ≡ length system.phases = ap length r.phases ∙ length-map system.phases (λ phase. phase.name) in
    let total_high : (c : ℕ) → c < n → at found.totals c ≤ℤ pos (2 ^ 50) = λ c lt. omega (arith, ints, f.none_above c lt, (at_asked asked c are.within).1) in
    let totals_high : (c : ℕ) → c < n → total system found.entries c ≤ℤ pos (2 ^ 50) = λ c lt. omega (arith, ints, total_high c lt, f.totals_are c lt) in
    let within : (c : ℕ) → c < length found.totals → (pos 0 ≤ℤ at found.totals c) × (at found.totals c ≤ℤ pos (2 ^ 50)) =
    λ c lt. (omega (arith, ints, f.totals_are c (omega (arith, lt, f.components)), total_least system found.entries all c), total_high c (omega (arith, lt, f.components))) in
    let sums = sum_small found.totals within in
    let energy = energy_small system found.entries sized all totals_high in
    let tolerance : found.tolerance <ℤ pos (n * system.widest) = f.tolerance_small in
    let wide : n * system.widest ≤ 8 * 10 ^ 8 = mul-le n system.widest 8 (10 ^ 8) sized.few sized.wide in
    record {
      temperature_low = omega (arith, r.temperature, one.same_temperature, one.fine.keeps.coldest);
      temperature_high = omega (arith, r.temperature, one.same_temperature, one.fine.keeps.hottest);
      lattice = rw (r.lattice, ← one.same_lattice) one.fine.keeps.lattice;
      elements = rw r.elements is.elements;
      few_elements = omega (arith, elements, is.few_elements);
      phases = rw r.phases is.names;
      asked = rw (elements, r.asked_are) (are.one_each, are.within);
      few_entries = rw r.entries (omega (arith, f.few, sized.few));
      entries = rw (phases, r.entries) (entries_spelled system found.entries is sized all totals_high);
      totals = rw (elements, r.totals) (f.components, totals_numbers found.totals within);
      energy = rw (r.energy, f.energy_is) (omega (arith, energy, f.few, sized.few));
      tolerance_low = rw r.tolerance (tolerance_least system swept asked gap budget found f);
      tolerance_high = rw r.tolerance (omega (arith, ints, tolerance, wide));
      gap_low = rw r.gap f.gap_low;
      gap_high = rw r.gap (gap_high found.gap (sum_of (λ k. k) found.totals) gap system.lattice sized.lattice_low sized.lattice_high gap_few sums.0 (omega (arith, ints, sums.1, f.components, sized.few)) f.gap_small);
      potentials = rw (elements, r.potentials) (f.can_sweep.one_each, potentials_numbers system.widest found.potentials sized.wide_some f.can_sweep.small);
      one_tree_each = ap length r.trees ∙ trees_each ∙ sym phases;
      trees = rw r.trees trees;
    }
