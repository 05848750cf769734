-- What the rules in front of the trees need and give.
use Rattle.std.proofs.Common.{◌≡◌, ℕ, ◌+◌, ◌<◌, ◌≤◌, ◌^◌, List, [], ◌∷◌, length, map, slice_get, Some, refl, arith, ap, sym, ◌∙◌, subst}
use Rattle.std.proofs.lemmas.List.{length-map}
use Rattle.std.specs.Prelude.{ℤ, pos, ◌≤ℤ◌, unsigned_abs}
use Rattle.std.specs.List.{AllByRecursion}
use Rattle.std.proofs.lemmas.Int.{ints}
use Rattle.cef_core.specs.declared.phase.PhaseAt.{PhaseAt}
use Rattle.cef_report.specs.declared.entry.Entry.{Entry}
use Rattle.cef_report.specs.declared.report.Report.{Report}
use Rattle.cef_core.specs.declared.system.System.{System}
use Rattle.cef_tree.specs.declared.tree.Tree.{Tree}
use Rattle.cef_core.specs.Phases.{IsFine}
use Rattle.cef_core.specs.Systems.{IsPhaseOf, IsSystem}
use Rattle.cef_phase.specs.Bounds.{IsPlane}
use Rattle.cef_report.specs.Holding.{Holds}
use Rattle.cef_report.specs.Spelled.{IsSpelledEntry, IsAsked, IsSpelled}
use Rattle.cef_report.specs.Texts.{lines}
use Rattle.eq_cert.specs.declared.rule.CheckRule.TheVariants.{Tree as by_tree}
use Rattle.eq_cert.specs.declared.rule.CheckRule.{CheckRule}
use Rattle.eq_cert.specs.Entries.{IsFineEntry}
use Rattle.eq_cert.specs.Rules.{AreSmall, HasElements, HasPhases, IsRightEntryAt, AreNear, IsFirstBroken, lines_before, node_line, Keeps, IsRightNode, MeetsRules}
use Rattle.eq_cert.specs.Judging.{HeadHolds, IsWrongNodeAt}
use Rattle.eq_cert.proofs.Entered.{IsNear, near_head, near_tail}
use Rattle.eq_cert.proofs.Certified.{IsLawful, holds_from_rules}
use Rattle.eq_cert.proofs.Lines.{lines_within}
use Rattle.eq_cert.proofs.Order.{wrong_node, all_kept}
use Rattle.eq_cert.proofs.Picks.{all_at, all_from, all_map}
use Rattle.eq_cert.proofs.Placed.{length_lines}
use Rattle.eq_cert.proofs.Sized.{plane}

pub fine_entries : (phases : List PhaseAt) → AllByRecursion IsFine phases → (n : ℕ) (entries : List Entry) → ((k : ℕ) → IsRightEntryAt phases entries k) → AllByRecursion (IsSpelledEntry n) entries → AllByRecursion (IsFineEntry phases) entries
fine_entries phases fine n entries right spelled = all_from (IsFineEntry phases) entries one
  where
    one : (k : ℕ) (entry : Entry) → slice_get entries k ≡ Some entry → IsFineEntry phases entry
    one k entry e =
        let r = right k entry e in
        let text : IsSpelledEntry n entry = all_at (IsSpelledEntry n) entries k entry spelled e in
        record { phase = r.phase; is_phase = r.is_phase; fine = all_at IsFine phases entry.phase r.phase fine r.is_phase; constitution = r.constitution; size = omega (arith, ints, text.amount_low, text.amount_high) }

asked_small_one : (a : ℤ) → IsAsked a → unsigned_abs a ≤ 2 ^ 120
asked_small_one a h = omega (arith, ints, h.0, h.1)

pub asked_small : (asked : List ℤ) → AllByRecursion IsAsked asked → AllByRecursion (λ a. unsigned_abs a ≤ 2 ^ 120) asked
asked_small asked h = all_map IsAsked (λ a. unsigned_abs a ≤ 2 ^ 120) asked asked_small_one h

total_small_one : (a b tolerance : ℤ) → IsAsked a → tolerance ≤ℤ pos (2 ^ 60) → IsNear a b tolerance → unsigned_abs b ≤ 2 ^ 61
total_small_one a b tolerance h t near = omega (arith, ints, h.0, h.1, near.0, near.1)

-- |total| <= tolerance + asked
pub totals_small : (asked totals : List ℤ) (tolerance : ℤ) → length asked ≡ length totals → AllByRecursion IsAsked asked → tolerance ≤ℤ pos (2 ^ 60) → AreNear asked totals tolerance → AllByRecursion (λ b. unsigned_abs b ≤ 2 ^ 61) totals
totals_small asked [] tolerance e all t near = tt
totals_small [] (b ∷ totals) tolerance e all t near = absurd (omega arith)
totals_small (a ∷ asked) (b ∷ totals) tolerance e all t near = (
  total_small_one a b tolerance all.0 t (near_head (a ∷ asked) (b ∷ totals) asked totals a b tolerance refl refl near),
  totals_small asked totals tolerance (omega arith) all.1 t (near_tail (a ∷ asked) (b ∷ totals) asked totals a b tolerance refl refl near),
)

pub at_line : (Kept : ℕ → CheckRule → Type 0) (line n : ℕ) (rule : CheckRule) → n ≡ line → IsFirstBroken Kept n rule → IsFirstBroken Kept line rule
at_line Kept line n rule e h = subst (λ (k : ℕ). IsFirstBroken Kept k rule) e h

-- ---- trees

pub node_within : (phases : List PhaseAt) (potentials : List ℤ) (trees : List Tree) (line : ℕ) → IsWrongNodeAt phases potentials trees line → line < lines_before trees (length trees)
node_within phases potentials trees line w = omega (arith, w.within, w.line_is, lines_within trees w.p w.tree w.is_tree)

pub node_broken : (s : System) (r : Report) (phases : List PhaseAt) (potentials : List ℤ) (trees : List Tree) (line n : ℕ) → phases ≡ s.phases → potentials ≡ r.potentials → trees ≡ r.trees → n ≡ 13 + length r.entries + line →
    HeadHolds s r → IsWrongNodeAt phases potentials trees line → IsFirstBroken (Keeps s r) n by_tree
node_broken s r phases potentials trees line n ep em et en head wrong =
    let w : IsWrongNodeAt s.phases r.potentials r.trees line =
    subst (λ (ps : List PhaseAt). IsWrongNodeAt ps r.potentials r.trees line) ep
    (subst (λ (ms : List ℤ). IsWrongNodeAt phases ms r.trees line) em
    (subst (λ (ts : List Tree). IsWrongNodeAt phases potentials ts line) et wrong)) in
    at_line (Keeps s r) n (node_line r w.p + w.place) by_tree (omega (arith, w.line_is)) (wrong_node s r head w.p w.place w.tree w.is_tree w.within w.earlier w.before w.wrong)

pub trees_kept : (s : System) (r : Report) (phases : List PhaseAt) (potentials : List ℤ) (trees : List Tree) → phases ≡ s.phases → potentials ≡ r.potentials → trees ≡ r.trees →
    HeadHolds s r → ((p place : ℕ) → IsRightNode phases potentials trees p place) → MeetsRules s r
trees_kept s r phases potentials trees ep em et head right =
    all_kept s r head (λ p place.
    subst (λ (ps : List PhaseAt). IsRightNode ps r.potentials r.trees p place) ep
    (subst (λ (ms : List ℤ). IsRightNode phases ms r.trees p place) em
    (subst (λ (ts : List Tree). IsRightNode phases potentials ts p place) et (right p place))))

pub holds_from_kept : (s : System) → IsLawful s → (r : Report) → IsSpelled r → IsSystem s → MeetsRules s r → Holds s r.asked r
holds_from_kept s law r spelled is meets = holds_from_rules s law r spelled is meets

-- ---- potentials

pub planes : (s : System) (potentials : List ℤ) → IsSystem s → length potentials ≡ length s.elements → AreSmall s.widest potentials → AllByRecursion (λ phase. IsPlane (2 ^ 117) phase potentials) s.phases
planes s potentials is each small =
    all_from (λ phase. IsPlane (2 ^ 117) phase potentials) s.phases
    (λ k phase at. plane s potentials k phase is each small (all_at (IsPhaseOf s) s.phases k phase is.phases at) at)

pub potentials_each : (s : System) (r : Report) → IsSpelled r → HasElements s r → length r.potentials ≡ length s.elements
potentials_each s r spelled has = spelled.potentials.0 ∙ ap length has.elements

-- ---- models

pub models_each : {T : Type 0} (f : T → PhaseAt) (models : List T) (s : System) (r : Report) → map f models ≡ s.phases → IsSpelled r → HasPhases s r → length r.trees ≡ length models
models_each f models s r e spelled has =
    omega (arith, spelled.one_tree_each, ap length has, length-map s.phases (λ phase. phase.name), ap length e, length-map models f)

-- ---- lines

pub lines_of : (r : Report) → IsSpelled r → length (lines r) ≡ node_line r (length r.trees)
lines_of r spelled = length_lines r (sym spelled.one_tree_each)

pub lines_few : (r : Report) (first : ℕ) → IsSpelled r → first + length (lines r) < 2 ^ 32 → node_line r (length r.trees) < 2 ^ 32
lines_few r first spelled few = omega (arith, few, lines_of r spelled)

pub line_few : (r : Report) (first line : ℕ) → IsSpelled r → first + length (lines r) < 2 ^ 32 → line < node_line r (length r.trees) → first + line < 2 ^ 32
line_few r first line spelled few lt = omega (arith, few, lines_of r spelled, lt)
