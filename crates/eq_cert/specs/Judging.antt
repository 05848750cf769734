-- The rules as they are judged one after the other.
use Rattle.std.specs.Prelude.{◌≡◌, ℕ, ◌+◌, ◌^◌, ◌<◌, List, Option, Some, None, length, slice_get, ℤ}
use Rattle.std.specs.List.{AllByRecursion}
use Rattle.cef_core.specs.declared.phase.PhaseAt.{PhaseAt}
use Rattle.cef_core.specs.declared.system.System.{System}
use Rattle.cef_phase.specs.Bounds.{IsPlane}
use Rattle.cef_tree.specs.declared.tree.Node.{Node}
use Rattle.cef_tree.specs.declared.tree.Tree.{Tree}
use Rattle.cef_report.specs.declared.report.Report.{Report}
use Rattle.cef_report.specs.Certificates.{MeetsGap}
use Rattle.eq_cert.specs.Rules.{HasElements, HasPhases, IsRightEntryAt, HasTotals, HasEnergy, AreNear, AreSmall, IsRightNode, lines_before, node_line, IsFirstBroken}
use Rattle.eq_cert.specs.First.{IsVerdict}
use Rattle.eq_cert.specs.Trees.{IsRightAt}
use Rattle.eq_cert.specs.declared.rule.CheckRule.{CheckRule}
use Rattle.eq_cert.specs.declared.broken.BrokenRule.{BrokenRule}

-- potentials of which the bounds of each phase can be asked
abbrev pub ArePlanes : List ℤ → List PhaseAt → Type 0
ArePlanes potentials phases = AllByRecursion (λ phase. IsPlane (2 ^ 117) phase potentials) phases

-- the rules in front of the trees
pub record HeadHolds (s : System) (r : Report) : Type 0 where
  pub elements : HasElements s r
  pub phases : HasPhases s r
  pub entries : (k : ℕ) → IsRightEntryAt s.phases r.entries k
  pub totals : HasTotals s r
  pub energy : HasEnergy s r
  pub tolerance : AreNear r.asked r.totals r.tolerance
  pub gap : MeetsGap r.potentials r.totals r.energy r.gap
  pub potentials : AreSmall s.widest r.potentials

-- the first node of a tree that is wrong, or that none is
abbrev pub IsJudgedTree : PhaseAt → List ℤ → List Node → Option ℕ → Type 0
IsJudgedTree phase potentials nodes found = IsVerdict (IsRightAt phase potentials nodes) found

-- The first node that is wrong: the tree that it is of, and its place there. The line is counted
-- from the first node of the first tree.
pub record IsWrongNodeAt (phases : List PhaseAt) (potentials : List ℤ) (trees : List Tree) (line : ℕ) : Type 0 where
  pub p : ℕ
  pub place : ℕ
  pub tree : Tree
  pub is_tree : slice_get trees p ≡ Some tree
  pub within : place < length tree.nodes
  pub line_is : line ≡ lines_before trees p + place
  pub wrong : IsRightNode phases potentials trees p place → ⊥
  pub earlier : (q k : ℕ) → q < p → IsRightNode phases potentials trees q k
  pub before : (k : ℕ) → k < place → IsRightNode phases potentials trees p k

abbrev pub AreJudgedTrees : List PhaseAt → List ℤ → List Tree → Option ℕ → Type 0
AreJudgedTrees phases potentials trees None =
    (p place : ℕ) → IsRightNode phases potentials trees p place
AreJudgedTrees phases potentials trees (Some line) = IsWrongNodeAt phases potentials trees line

-- a line of the report
abbrev pub IsLineOf : Report → ℕ → Type 0
IsLineOf r line = line < node_line r (length r.trees)

abbrev pub IsJudged : (ℕ → CheckRule → Type 0) → Option BrokenRule → Type 0
IsJudged Kept None = (line : ℕ) (rule : CheckRule) → Kept line rule
IsJudged Kept (Some found) = IsFirstBroken Kept found.line found.rule
