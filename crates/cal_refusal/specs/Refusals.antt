-- The line of each refusal.
use Rattle.std.specs.Prelude.{ℕ, List, [], ◌∷◌, ◌++◌, slice_index_or, codes, ℤ}
use Rattle.std.specs.List.{flat_map}
use Rattle.std.specs.Fmt.{decimal, signed_decimal}
use Rattle.cal_scan.specs.declared.byte.TheConstants.{LINE_FEED, SPACE}
use Rattle.cal_scan.specs.Lines.{Word, line}
use Rattle.cal_words.specs.declared.rules.Rule.{Rule}
use Rattle.cal_words.specs.Rules.{name_of}
use Rattle.cef_report.specs.Texts.{entry_words}
use Rattle.cal_select.specs.declared.fault.SystemFault.{SystemFault}
use Rattle.cal_select.specs.declared.fault.SystemFault.TheVariants.{UnknownElement, UnknownPhase, NoPhase, Ionic, RatiosTooWide, Missing, Cycle, Unsupported, TooLarge, EnergyTooLarge, LatticeTooLarge, TooFine, Memory}
use Rattle.eq_solve.specs.declared.fault.Open.{Open}

abbrev pub Line : Type 0
Line = List ℕ

abbrev pub usage_line : Line
usage_line = codes "refused usage" ++ LINE_FEED ∷ []

abbrev pub read_line : Line
read_line = codes "refused read" ++ LINE_FEED ∷ []

abbrev pub long_line : Line
long_line = codes "refused long" ++ LINE_FEED ∷ []

-- the first fault of a database: the line of its command, and the rule that it breaks
abbrev pub database_line : ℕ → Rule → Line
database_line n rule = codes "refused database line " ++ decimal n ++ codes " rule " ++ name_of rule ++ LINE_FEED ∷ []

-- ---- causes why there is no system

-- a cause with a name
abbrev pub named_line : List ℕ → List ℕ → Line
named_line cause name = codes "refused system " ++ cause ++ codes " " ++ name ++ LINE_FEED ∷ []

-- a cause that stands on a line of the database
abbrev pub numbered_line : List ℕ → ℕ → Line
numbered_line cause n = codes "refused system " ++ cause ++ codes " line " ++ decimal n ++ LINE_FEED ∷ []

abbrev pub plain_line : List ℕ → Line
plain_line cause = codes "refused system " ++ cause ++ LINE_FEED ∷ []

-- want of memory has no line
abbrev pub system_line : SystemFault → Line
system_line (UnknownElement name) = named_line (codes "unknown-element") name
system_line (UnknownPhase name) = named_line (codes "unknown-phase") name
system_line NoPhase = plain_line (codes "no-phase")
system_line (Ionic n) = numbered_line (codes "ionic") n
system_line (RatiosTooWide n) = numbered_line (codes "ratios") n
system_line (Missing n) = numbered_line (codes "missing") n
system_line (Cycle n) = numbered_line (codes "cycle") n
system_line (Unsupported n) = numbered_line (codes "unsupported") n
system_line (TooLarge n) = numbered_line (codes "too-large") n
system_line (EnergyTooLarge name) = named_line (codes "energy") name
system_line LatticeTooLarge = plain_line (codes "lattice")
system_line TooFine = plain_line (codes "fine")
system_line Memory = []

-- a space and the number
abbrev pub spaced : ℤ → List ℕ
spaced n = SPACE ∷ signed_decimal n

unfoldable pub spaced_all : List ℤ → List ℕ
spaced_all [] = []
spaced_all (n ∷ numbers) = spaced n ++ spaced_all numbers

-- the numbers, one for each element, show that no constitutions give the asked totals
abbrev pub infeasible_line : List ℤ → Line
infeasible_line numbers = codes "refused system infeasible" ++ spaced_all numbers ++ LINE_FEED ∷ []

-- ---- why an equilibrium is left open

-- the phase at which a sweep under these potentials spent its budget of splits
abbrev pub gap_line : List ℕ → ℕ → List ℤ → Line
gap_line phase splits potentials =
    codes "refused gap phase " ++ phase ++ codes " splits " ++ decimal splits ++ codes " potentials" ++ spaced_all potentials ++ LINE_FEED ∷ []

-- The lines of the kept entries, and that of the phase at which the sweep under the kept potentials spent the budget.
abbrev pub open_text : List Word → ℕ → Open → List ℕ
open_text phases budget left =
    flat_map (λ entry. line (entry_words phases entry)) left.entries
    ++ gap_line (slice_index_or phases left.phase []) budget left.potentials
