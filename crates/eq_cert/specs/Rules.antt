-- The rules of a report and its certificate, each at its lines, which are counted from 0.
use Rattle.std.specs.Prelude.{◌≡◌, ℕ, zero, suc, ◌+◌, ◌*◌, ◌<◌, ◌≤◌, ◌⊎◌, List, [], ◌∷◌, Some, length, map, slice_get, ℤ, ◌-ℤ◌, ◌≤ℤ◌, unsigned_abs}
use Rattle.std.specs.List.{AllByRecursion}
use Rattle.cal_limits.specs.declared.TheConstants.{MOST_BOUNDED}
use Rattle.cal_math.specs.Vectors.{at}
use Rattle.cef_core.specs.declared.phase.PhaseAt.{PhaseAt}
use Rattle.cef_core.specs.declared.system.System.{System}
use Rattle.cef_core.specs.Constitutions.{IsConstitution}
use Rattle.cef_tree.specs.declared.tree.Tree.{Tree}
use Rattle.cef_report.specs.declared.entry.Entry.{Entry}
use Rattle.cef_report.specs.declared.report.Report.{Report}
use Rattle.cef_report.specs.Assemblages.{total, total_energy}
use Rattle.cef_report.specs.Certificates.{MeetsGap}
use Rattle.cef_report.specs.Holding.{IsBefore}
use Rattle.eq_cert.specs.Trees.{IsRightAt}
use Rattle.eq_cert.specs.declared.rule.CheckRule.{CheckRule}
use Rattle.eq_cert.specs.declared.rule.CheckRule.TheVariants.{Text as by_text, System as by_system, Entry as by_entry, Total as by_total, Energy as by_energy, Tolerance as by_tolerance, Gap as by_gap, Potentials as by_potentials, Tree as by_tree, Path as by_path}

-- ---- the rules

-- of the system's temperature, lattice and elements
pub record HasElements (system : System) (report : Report) : Type 0 where
  pub temperature : report.t ≡ system.t
  pub lattice : report.lattice ≡ system.lattice
  pub elements : report.elements ≡ system.elements

-- of the system's phases
abbrev pub HasPhases : System → Report → Type 0
HasPhases system report = report.phases ≡ map (λ phase. phase.name) system.phases

-- a constitution of a phase of the system, which comes behind the entry before it
pub record IsRightEntry (phases : List PhaseAt) (entries : List Entry) (k : ℕ) (entry : Entry) : Type 0 where
  pub phase : PhaseAt
  pub is_phase : slice_get phases entry.phase ≡ Some phase
  pub constitution : IsConstitution phase entry.site
  pub rises : (before : Entry) (j : ℕ) → suc j ≡ k → slice_get entries j ≡ Some before →
      IsBefore before entry

abbrev pub IsRightEntryAt : List PhaseAt → List Entry → ℕ → Type 0
IsRightEntryAt phases entries k =
    (entry : Entry) → slice_get entries k ≡ Some entry → IsRightEntry phases entries k entry

-- each total is the sum of amount times content
abbrev pub HasTotals : System → Report → Type 0
HasTotals system report =
    (c : ℕ) → c < length report.totals → at report.totals c ≡ total system report.entries c

-- the energy is the sum of amount times energy
abbrev pub HasEnergy : System → Report → Type 0
HasEnergy system report = report.energy ≡ total_energy system report.entries

-- no total differs from the asked one by more than the tolerance
abbrev pub AreNear : List ℤ → List ℤ → ℤ → Type 0
AreNear asked totals tolerance =
    (c : ℕ) → c < length totals →
    ((at asked c -ℤ at totals c) ≤ℤ tolerance) × ((at totals c -ℤ at asked c) ≤ℤ tolerance)

-- |M_c|*W <= 2^117 for each component
abbrev pub AreSmall : ℕ → List ℤ → Type 0
AreSmall widest potentials = AllByRecursion (λ m. unsigned_abs m * widest ≤ MOST_BOUNDED) potentials

-- the node at a place of the tree of the phase at p is right for its box
abbrev pub IsRightNode : List PhaseAt → List ℤ → List Tree → ℕ → ℕ → Type 0
IsRightNode phases potentials trees p place =
    (phase : PhaseAt) (tree : Tree) →
    slice_get phases p ≡ Some phase → slice_get trees p ≡ Some tree →
    IsRightAt phase potentials tree.nodes place

-- ---- their lines

-- How many lines the trees in front of a place have: one for the name of each phase, and one for each
-- node.
abbrev pub lines_before : List Tree → ℕ → ℕ
lines_before trees zero = 0
lines_before [] (suc p) = 0
lines_before (tree ∷ trees) (suc p) = 1 + length tree.nodes + lines_before trees p

-- the line of the first node of a tree
abbrev pub node_line : Report → ℕ → ℕ
node_line report p = 13 + length report.entries + lines_before report.trees p

-- The rule is kept at the line. The elements stand at line 3 and the phases at line 4, the entries from
-- line 7 on, and behind them the totals, the energy, the tolerance, the gap, the potentials and the
-- trees.
abbrev pub Keeps : System → Report → ℕ → CheckRule → Type 0
Keeps system report line by_text = Unit {0}
Keeps system report line by_system =
    (line ≡ 3 → HasElements system report) × (line ≡ 4 → HasPhases system report)
Keeps system report line by_entry =
    (k : ℕ) → line ≡ 7 + k → IsRightEntryAt system.phases report.entries k
Keeps system report line by_total = line ≡ 7 + length report.entries → HasTotals system report
Keeps system report line by_energy = line ≡ 8 + length report.entries → HasEnergy system report
Keeps system report line by_tolerance =
    line ≡ 9 + length report.entries → AreNear report.asked report.totals report.tolerance
Keeps system report line by_gap =
    line ≡ 10 + length report.entries →
    MeetsGap report.potentials report.totals report.energy report.gap
Keeps system report line by_potentials =
    line ≡ 11 + length report.entries → AreSmall system.widest report.potentials
Keeps system report line by_tree =
    (p place : ℕ) → line ≡ node_line report p + place →
    IsRightNode system.phases report.potentials report.trees p place
Keeps system report line by_path = Unit {0}

-- every rule is kept at every line
abbrev pub MeetsRules : System → Report → Type 0
MeetsRules system report = (line : ℕ) (rule : CheckRule) → Keeps system report line rule

-- ---- the first that is broken

-- the place of a rule in their order
abbrev pub number_of : CheckRule → ℕ
number_of by_text = 0
number_of by_system = 1
number_of by_entry = 2
number_of by_total = 3
number_of by_energy = 4
number_of by_tolerance = 5
number_of by_gap = 6
number_of by_potentials = 7
number_of by_tree = 8
number_of by_path = 9

-- the earlier line, and at one line the earlier rule
abbrev pub Precedes : ℕ → CheckRule → ℕ → CheckRule → Type 0
Precedes k earlier line rule = (k < line) ⊎ ((k ≡ line) × (number_of earlier < number_of rule))

-- the rule is not kept at the line, and all that precede it are kept
pub record IsFirstBroken (Kept : ℕ → CheckRule → Type 0) (line : ℕ) (rule : CheckRule) : Type 0 where
  pub broken : Kept line rule → ⊥
  pub before : (k : ℕ) (earlier : CheckRule) → Precedes k earlier line rule → Kept k earlier
