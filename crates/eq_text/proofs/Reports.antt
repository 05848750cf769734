-- The reader of reports is exact.
use Rattle.std.proofs.Common.{◌≡◌, ℕ, zero, suc, ◌≤◌, List, [], ◌∷◌, ◌++◌, length, Some, None, Ok, Err, refl, ap, arith}
use Rattle.std.specs.Prelude.{ℤ, codes, IfOk, Result}
use Rattle.std.specs.List.{AllByRecursion}
use Rattle.cef_report.specs.declared.entry.Entry.{Entry}
use Rattle.cef_report.specs.declared.report.Report.{Report}
use Rattle.cal_limits.specs.declared.TheConstants.{MOST_ELEMENTS, MOST_ENTRIES, MOST_NUMBER, MOST_TOLERANCE, MOST_PRINTED_GAP}
use Rattle.cal_scan.specs.Names.{AreNames, AreNamesWithin}
use Rattle.cef_report.specs.Spelled.{IsNumber, AreNumbers, IsSpelledEntry, IsSpelled}
use Rattle.cal_scan.specs.Lines.{Word, Line, line}
use Rattle.cef_report.specs.Texts.{number_words, entry_words, head_lines, entry_lines, sum_lines, tree_lines, end_lines, lines, text}
use Rattle.cal_lines.specs.declared.fault.TextFault.{TextFault}
use Rattle.cal_lines.specs.declared.fault.TextFault.TheVariants as faults
use Rattle.cal_lines.specs.Reading.{both, pair, of_line, many, Runs, Gives, OnLine, lines_of}
use Rattle.cal_lines.specs.Choosing.{each}
use Rattle.cal_lines.specs.Kinds.{names_after, names_words}
use Rattle.cal_lines.proofs.Algebra.{Exact, ExactWhole, exact_both, exact_pair, exact_whole}
use Rattle.cal_lines.proofs.Lines.{spelled, exact_line, exact_many}
use Rattle.cal_lines.proofs.Sorts.{names_kind, plain_from}
use Rattle.cal_lines.proofs.Wholes as wholes
use Rattle.cal_lines.proofs.Wholes.{Seen}
use Rattle.eq_text.specs.Faults.{Reads, IsFaultLine}
use Rattle.eq_text.specs.Kinds.{two_words_of, end_of, temperature_of, lattice_of, count_of, integer_after, size_after, integers_after, asked_of, entry_of}
use Rattle.eq_text.specs.Parsing.{Closing, Bounds, Sums, Body, Named, Whole, entries_next, entries_at, tree_at, closing_at, bounds_at, sums_at, body_at, phases_at, named_at, report_at, all_of, fields}
use Rattle.eq_text.proofs.Sayings.{AnyUnit, two_fixed, two_words_kind, end_words, end_kind, natural_words, IsTemperature, temperature_kind, IsLattice, lattice_kind, count_kind, integer_words, integer_kind, IsSize, size_kind, numbers_kind, AreAsked, asked_kind}
use Rattle.eq_text.proofs.Entries.{entry_kind}
use Rattle.eq_text.proofs.Trees.{AreTrees, exact_trees}

abbrev pub one_line : {A : Type 0} → (A → List Word) → A → List Line
one_line words a = line (words a) ∷ []

-- ---- entries

abbrev pub AreEntries : List Word → List Entry → Type 0
AreEntries phases entries = (length entries ≤ MOST_ENTRIES) × AllByRecursion (IsSpelledEntry (length phases)) entries

abbrev pub entries_lines : List Word → List Entry → List Line
entries_lines phases entries = line (natural_words (codes "entries") (length entries)) ∷ spelled (entry_words phases) entries

abbrev pub EntryRuns : List Word → ℕ → List Entry → Type 0
EntryRuns phases n entries = Runs entries_next (IsSpelledEntry (length phases)) n entries

runs_from : (phases : List Word) (entries : List Entry) → AllByRecursion (IsSpelledEntry (length phases)) entries → EntryRuns phases (length entries) entries
runs_from phases [] all = tt
runs_from phases (e ∷ es) all = (all.0, runs_from phases es all.1)

all_from : (phases : List Word) (n : ℕ) (entries : List Entry) → EntryRuns phases n entries → (length entries ≡ n) × AllByRecursion (IsSpelledEntry (length phases)) entries
all_from phases zero [] runs = (refl, tt)
all_from phases zero (e ∷ es) runs = absurd runs
all_from phases (suc n) [] runs = absurd runs
all_from phases (suc n) (e ∷ es) runs = let r = all_from phases n es runs.1 in (ap suc r.0, (runs.0, r.1))

exact_entries : (phases : List Word) → AreNames phases → Exact (entries_lines phases) (AreEntries phases) (entries_at phases)
unfolding entries_at
exact_entries phases names =
    let kind = entry_kind phases names in
    exact_both (λ n entries. entries) (one_line (natural_words (codes "entries"))) (λ n. n ≤ MOST_ENTRIES) (of_line count_of) (λ n entries. spelled (entry_words phases) entries) (EntryRuns phases) (λ n at. many entries_next (entry_of phases) n at.0 at.1) (entries_lines phases) (AreEntries phases)
    (record {
      parts = λ entries fits. (length entries, entries, fits.0, runs_from phases entries fits.1, refl);
      fits = λ n entries small runs. let r = all_from phases n entries runs in (omega (arith, r.0, small), r.1);
      spells = λ n entries small runs. ap (λ (k : ℕ). line (natural_words (codes "entries") k) ∷ spelled (entry_words phases) entries) (all_from phases n entries runs).0;
    })
    (exact_line (natural_words (codes "entries")) (λ n. n ≤ MOST_ENTRIES) count_of count_kind)
    (λ n small. exact_many entries_next (entry_words phases) (IsSpelledEntry (length phases)) (entry_of phases) kind kind.example.0 kind.example.1 (λ open_lines. refl) n)

-- ---- the parts, from the last to the first

abbrev pub closing_lines : List Word → Closing → List Line
closing_lines phases c = tree_lines phases c.0 ++ one_line end_words c.1

abbrev pub IsClosing : List Word → Closing → Type 0
IsClosing phases c = AreTrees phases c.0 × AnyUnit c.1

exact_closing : (phases : List Word) → AreNames phases → Exact (closing_lines phases) (IsClosing phases) (closing_at phases)
unfolding closing_at
exact_closing phases names = exact_pair (tree_lines phases) (AreTrees phases) (each tree_at phases) (λ trees. one_line end_words) (λ trees. AnyUnit) (λ trees. of_line end_of) (exact_trees phases names.fine) (λ trees fits. exact_line end_words AnyUnit end_of end_kind)

abbrev pub gap_lines : ℤ × List ℤ → List Line
gap_lines x = one_line (integer_words (codes "gap")) x.0 ++ one_line (number_words (codes "potentials")) x.1

abbrev pub IsGap : ℕ → ℤ × List ℤ → Type 0
IsGap n x = IsSize MOST_PRINTED_GAP x.0 × AreNumbers n x.1

abbrev pub bounds_lines : Bounds → List Line
bounds_lines b = one_line (integer_words (codes "tolerance")) b.0 ++ gap_lines b.1

abbrev pub AreBounds : ℕ → Bounds → Type 0
AreBounds n b = IsSize MOST_TOLERANCE b.0 × IsGap n b.1

exact_bounds : (n : ℕ) → Exact bounds_lines (AreBounds n) (bounds_at n)
unfolding bounds_at
exact_bounds n =
    let potentials = of_line (integers_after (codes "potentials") n MOST_NUMBER) in
    let gap = of_line (size_after (codes "gap") MOST_PRINTED_GAP) in
    exact_pair (one_line (integer_words (codes "tolerance"))) (IsSize MOST_TOLERANCE) (of_line (size_after (codes "tolerance") MOST_TOLERANCE)) (λ tolerance. gap_lines) (λ tolerance. IsGap n) (λ tolerance. both pair gap (λ g. potentials))
    (exact_line (integer_words (codes "tolerance")) (IsSize MOST_TOLERANCE) (size_after (codes "tolerance") MOST_TOLERANCE) (size_kind (codes "tolerance") MOST_TOLERANCE (plain_from (codes "tolerance") refl) (omega arith)))
    (λ tolerance fits. exact_pair (one_line (integer_words (codes "gap"))) (IsSize MOST_PRINTED_GAP) gap (λ g. one_line (number_words (codes "potentials"))) (λ g. AreNumbers n) (λ g. potentials)
    (exact_line (integer_words (codes "gap")) (IsSize MOST_PRINTED_GAP) (size_after (codes "gap") MOST_PRINTED_GAP) (size_kind (codes "gap") MOST_PRINTED_GAP (plain_from (codes "gap") refl) (omega arith)))
    (λ g fits. exact_line (number_words (codes "potentials")) (AreNumbers n) (integers_after (codes "potentials") n MOST_NUMBER) (numbers_kind (codes "potentials") n (plain_from (codes "potentials") refl))))

abbrev pub energy_lines : ℤ × Bounds → List Line
energy_lines x = one_line (integer_words (codes "energy")) x.0 ++ bounds_lines x.1

abbrev pub IsEnergy : ℕ → ℤ × Bounds → Type 0
IsEnergy n x = IsNumber x.0 × AreBounds n x.1

abbrev pub sums_lines : Sums → List Line
sums_lines s = one_line (number_words (codes "total")) s.0 ++ energy_lines s.1

abbrev pub AreSums : ℕ → Sums → Type 0
AreSums n s = AreNumbers n s.0 × IsEnergy n s.1

exact_sums : (n : ℕ) → Exact sums_lines (AreSums n) (sums_at n)
unfolding sums_at
exact_sums n =
    let energy = of_line (integer_after (codes "energy") MOST_NUMBER) in
    exact_pair (one_line (number_words (codes "total"))) (AreNumbers n) (of_line (integers_after (codes "total") n MOST_NUMBER)) (λ totals. energy_lines) (λ totals. IsEnergy n) (λ totals. both pair energy (λ e. bounds_at n))
    (exact_line (number_words (codes "total")) (AreNumbers n) (integers_after (codes "total") n MOST_NUMBER) (numbers_kind (codes "total") n (plain_from (codes "total") refl)))
    (λ totals fits. exact_pair (one_line (integer_words (codes "energy"))) IsNumber energy (λ e. bounds_lines) (λ e. AreBounds n) (λ e. bounds_at n)
    (exact_line (integer_words (codes "energy")) IsNumber (integer_after (codes "energy") MOST_NUMBER) (integer_kind (codes "energy") MOST_NUMBER (plain_from (codes "energy") refl) (omega arith)))
    (λ e fits. exact_bounds n))

abbrev pub summed_lines : List Word → Sums × Closing → List Line
summed_lines phases x = sums_lines x.0 ++ closing_lines phases x.1

abbrev pub AreSummed : ℕ → List Word → Sums × Closing → Type 0
AreSummed n phases x = AreSums n x.0 × IsClosing phases x.1

abbrev pub listed_lines : List Word → List Entry × (Sums × Closing) → List Line
listed_lines phases x = entries_lines phases x.0 ++ summed_lines phases x.1

abbrev pub AreListed : ℕ → List Word → List Entry × (Sums × Closing) → Type 0
AreListed n phases x = AreEntries phases x.0 × AreSummed n phases x.1

abbrev pub body_lines : List Word → Body → List Line
body_lines phases b = one_line (number_words (codes "asked")) b.0 ++ listed_lines phases b.1

abbrev pub IsBody : ℕ → List Word → Body → Type 0
IsBody n phases b = AreAsked n b.0 × AreListed n phases b.1

exact_body : (n : ℕ) (phases : List Word) → AreNames phases → Exact (body_lines phases) (IsBody n phases) (body_at n phases)
unfolding body_at
exact_body n phases names =
    exact_pair (one_line (number_words (codes "asked"))) (AreAsked n) (of_line (asked_of n)) (λ asked. listed_lines phases) (λ asked. AreListed n phases) (λ asked. both pair (entries_at phases) (λ entries. both pair (sums_at n) (λ sums. closing_at phases)))
    (exact_line (number_words (codes "asked")) (AreAsked n) (asked_of n) (asked_kind n))
    (λ asked fits. exact_pair (entries_lines phases) (AreEntries phases) (entries_at phases) (λ entries. summed_lines phases) (λ entries. AreSummed n phases) (λ entries. both pair (sums_at n) (λ sums. closing_at phases))
    (exact_entries phases names)
    (λ entries fits. exact_pair sums_lines (AreSums n) (sums_at n) (λ sums. closing_lines phases) (λ sums. IsClosing phases) (λ sums. closing_at phases) (exact_sums n) (λ sums fits. exact_closing phases names)))

abbrev pub phases_lines : List Word × Body → List Line
phases_lines p = one_line (names_words (codes "phases")) p.0 ++ body_lines p.0 p.1

abbrev pub ArePhases : ℕ → List Word × Body → Type 0
ArePhases n p = AreNamesWithin None p.0 × IsBody n p.0 p.1

exact_phases : (n : ℕ) → Exact phases_lines (ArePhases n) (phases_at n)
unfolding phases_at
exact_phases n = exact_pair (one_line (names_words (codes "phases"))) (AreNamesWithin None) (of_line (names_after (codes "phases") None)) body_lines (IsBody n) (λ phases. body_at n phases)
    (exact_line (names_words (codes "phases")) (AreNamesWithin None) (names_after (codes "phases") None) (names_kind (codes "phases") None (plain_from (codes "phases") refl) tt))
    (λ phases names. exact_body n phases names.0)

abbrev pub named_lines : Named → List Line
named_lines e = one_line (names_words (codes "elements")) e.0 ++ phases_lines e.1

abbrev pub IsNamed : Named → Type 0
IsNamed e = AreNamesWithin (Some MOST_ELEMENTS) e.0 × ArePhases (length e.0) e.1

exact_named : Exact named_lines IsNamed named_at
unfolding named_at
exact_named = exact_pair (one_line (names_words (codes "elements"))) (AreNamesWithin (Some MOST_ELEMENTS)) (of_line (names_after (codes "elements") (Some MOST_ELEMENTS))) (λ e. phases_lines) (λ e. ArePhases (length e)) (λ e. phases_at (length e))
    (exact_line (names_words (codes "elements")) (AreNamesWithin (Some MOST_ELEMENTS)) (names_after (codes "elements") (Some MOST_ELEMENTS)) (names_kind (codes "elements") (Some MOST_ELEMENTS) (plain_from (codes "elements") refl) (omega arith)))
    (λ e names. exact_phases (length e))

abbrev pub lattice_lines : ℕ × Named → List Line
lattice_lines x = one_line (natural_words (codes "lattice")) x.0 ++ named_lines x.1

abbrev pub IsOnLattice : ℕ × Named → Type 0
IsOnLattice x = IsLattice x.0 × IsNamed x.1

abbrev pub temperature_lines : ℕ × (ℕ × Named) → List Line
temperature_lines x = one_line (natural_words (codes "temperature")) x.0 ++ lattice_lines x.1

abbrev pub IsAtTemperature : ℕ × (ℕ × Named) → Type 0
IsAtTemperature x = IsTemperature x.0 × IsOnLattice x.1

abbrev pub whole_lines : Whole → List Line
whole_lines w = one_line (two_fixed (codes "equilibrium") (codes "1")) w.0 ++ temperature_lines w.1

abbrev pub IsWhole : Whole → Type 0
IsWhole w = AnyUnit w.0 × IsAtTemperature w.1

pub exact_report : Exact whole_lines IsWhole report_at
unfolding report_at
exact_report =
    let header = two_words_of (codes "equilibrium") (codes "1") in
    exact_pair (one_line (two_fixed (codes "equilibrium") (codes "1"))) AnyUnit (of_line header) (λ u. temperature_lines) (λ u. IsAtTemperature) (λ u. both pair (of_line temperature_of) (λ t. both pair (of_line lattice_of) (λ n. named_at)))
    (exact_line (two_fixed (codes "equilibrium") (codes "1")) AnyUnit header (two_words_kind (codes "equilibrium") (codes "1") (plain_from (codes "equilibrium") refl) (plain_from (codes "1") refl)))
    (λ u fits. exact_pair (one_line (natural_words (codes "temperature"))) IsTemperature (of_line temperature_of) (λ t. lattice_lines) (λ t. IsOnLattice) (λ t. both pair (of_line lattice_of) (λ n. named_at))
    (exact_line (natural_words (codes "temperature")) IsTemperature temperature_of temperature_kind)
    (λ t fits. exact_pair (one_line (natural_words (codes "lattice"))) IsLattice (of_line lattice_of) (λ n. named_lines) (λ n. IsNamed) (λ n. named_at)
    (exact_line (natural_words (codes "lattice")) IsLattice lattice_of lattice_kind)
    (λ n fits. exact_named)))

exact_all : ExactWhole whole_lines IsWhole all_of
unfolding all_of
exact_all = exact_whole whole_lines IsWhole report_at exact_report

-- ---- as records

abbrev pub report_from : Whole → Report
report_from w =
    let named = w.1.1.1 in
    let body = named.1.1 in
    let sums = body.1.1.0 in
    record {
      t = w.1.0;
      lattice = w.1.1.0;
      elements = named.0;
      phases = named.1.0;
      asked = body.0;
      entries = body.1.0;
      totals = sums.0;
      energy = sums.1.0;
      tolerance = sums.1.1.0;
      gap = sums.1.1.1.0;
      potentials = sums.1.1.1.1;
      trees = body.1.1.1.0;
    }

pub is_spelled : (r : Report) → IsWhole (fields r) → IsSpelled r
is_spelled r fits =
    let named = fits.1.1.1 in
    let body = named.1.1 in
    let sums = body.1.1.0 in
    let trees = body.1.1.1.0 in
    record {
      temperature_low = fits.1.0.0;
      temperature_high = fits.1.0.1;
      lattice = fits.1.1.0;
      elements = named.0.0;
      few_elements = named.0.1;
      phases = named.1.0.0;
      asked = body.0;
      few_entries = body.1.0.0;
      entries = body.1.0.1;
      totals = sums.0;
      energy = sums.1.0;
      tolerance_low = sums.1.1.0.0;
      tolerance_high = sums.1.1.0.1;
      gap_low = sums.1.1.1.0.0;
      gap_high = sums.1.1.1.0.1;
      potentials = sums.1.1.1.1;
      one_tree_each = trees.0;
      trees = trees.1;
    }

pub is_whole : (r : Report) → IsSpelled r → IsWhole (fields r)
is_whole r s = (
  tt,
  (
    (s.temperature_low, s.temperature_high),
    (
      s.lattice,
      (
        (s.elements, s.few_elements),
        (
          (s.phases, tt),
          (s.asked, ((s.few_entries, s.entries), ((s.totals, (s.energy, ((s.tolerance_low, s.tolerance_high), ((s.gap_low, s.gap_high), s.potentials)))), ((s.one_tree_each, s.trees), tt)))),
        ),
      ),
    ),
  ),
)

pub seen : Seen fields report_from lines IsSpelled whole_lines IsWhole
unfolding head_lines entry_lines sum_lines end_lines
seen = record { view_back = λ w. refl; back_view = λ r. refl; spells = λ r. refl; to_view = is_whole; from_view = is_spelled }

-- ---- the three clauses

pub is_found : (bytes : List ℕ) (o : Result Report TextFault) → Gives fields o (all_of (1, lines_of bytes)) → IfOk o (λ r. IsSpelled r × (bytes ≡ text r))
unfolding text
is_found bytes o given = wholes.is_found fields report_from lines IsSpelled whole_lines IsWhole all_of seen exact_all bytes o given

pub is_only : (bytes : List ℕ) (o : Result Report TextFault) → Gives fields o (all_of (1, lines_of bytes)) → (r : Report) → IsSpelled r → bytes ≡ text r → Reads o r
unfolding text
is_only bytes o given r fits e = by_result o (wholes.is_only fields report_from lines IsSpelled whole_lines IsWhole all_of seen exact_all bytes o given r fits e)
  where
    made : Report → Result Report ℕ
    made x = Ok x

    inner : (x y : Report) → made x ≡ made y → y ≡ x
    inner x y h = cc

    by_result : (o : Result Report TextFault) → Gives (λ (x : Report). x) o (Ok r) → Reads o r
    by_result (Ok s) h = inner r s h
    by_result (Err faults.Memory) h = tt
    by_result (Err (faults.Line n)) h = absurd cc

pub is_fault : (bytes : List ℕ) (o : Result Report TextFault) → Gives fields o (all_of (1, lines_of bytes)) → OnLine o (λ n. IsFaultLine bytes n)
is_fault bytes o given = wholes.is_fault fields report_from lines IsSpelled whole_lines IsWhole all_of seen exact_all bytes o given
