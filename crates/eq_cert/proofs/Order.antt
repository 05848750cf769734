-- The rules of a report in the order of their lines.
use Rattle.std.proofs.Common.{ap, sym, ◌∙◌, ◌≡◌, ℕ, zero, suc, ◌+◌, ◌*◌, ◌<◌, ◌≤◌, List, [], ◌∷◌, length, slice_get, Some, refl, arith, inl, inr, subst}
use Rattle.std.specs.Prelude.{◌⊎◌}
use Rattle.std.proofs.lemmas.Bool.{cases_lt}
use Rattle.cef_core.specs.declared.system.System.{System}
use Rattle.cef_report.specs.declared.report.Report.{Report}
use Rattle.cef_tree.specs.declared.tree.Tree.{Tree}
use Rattle.cef_report.specs.Certificates.{MeetsGap}
use Rattle.eq_cert.specs.declared.rule.CheckRule.{CheckRule}
use Rattle.eq_cert.specs.declared.rule.CheckRule.TheVariants.{Text as by_text, System as by_system, Entry as by_entry, Total as by_total, Energy as by_energy, Tolerance as by_tolerance, Gap as by_gap, Potentials as by_potentials, Tree as by_tree, Path as by_path}
use Rattle.eq_cert.specs.Rules.{AreSmall, HasElements, HasPhases, IsRightEntryAt, HasTotals, HasEnergy, AreNear, IsRightNode, lines_before, node_line, Keeps, MeetsRules, number_of, Precedes, IsFirstBroken}
use Rattle.eq_cert.specs.Judging.{HeadHolds}

by_lt : {P : Type 0} (a b : ℕ) → (a < b → P) → (b ≤ a → P) → P
by_lt a b less more = elim (cases_lt a b) [ inl lt ↦ less lt | inr le ↦ more le ]

-- how far the rules are known to be kept: those in front of the rule at the line
pub record KeptUpTo (s : System) (r : Report) (line : ℕ) (rule : CheckRule) : Type 0 where
  pub elements : Precedes 3 by_system line rule → HasElements s r
  pub phases : Precedes 4 by_system line rule → HasPhases s r
  pub entries : (k : ℕ) → Precedes (7 + k) by_entry line rule → IsRightEntryAt s.phases r.entries k
  pub totals : Precedes (7 + length r.entries) by_total line rule → HasTotals s r
  pub energy : Precedes (8 + length r.entries) by_energy line rule → HasEnergy s r
  pub tolerance : Precedes (9 + length r.entries) by_tolerance line rule → AreNear r.asked r.totals r.tolerance
  pub gap : Precedes (10 + length r.entries) by_gap line rule → MeetsGap r.potentials r.totals r.energy r.gap
  pub potentials : Precedes (11 + length r.entries) by_potentials line rule → AreSmall s.widest r.potentials
  pub nodes : (p place : ℕ) → Precedes (node_line r p + place) by_tree line rule → IsRightNode s.phases r.potentials r.trees p place

module _ (s : System) (r : Report) where
  pub kept_before : (line : ℕ) (rule : CheckRule) → KeptUpTo s r line rule → (k : ℕ) (earlier : CheckRule) → Precedes k earlier line rule → Keeps s r k earlier
  kept_before line rule h k by_text p = tt
  kept_before line rule h k by_path p = tt
  kept_before line rule h k by_system p = (λ e. h.elements (subst (λ (n : ℕ). Precedes n by_system line rule) e p), λ e. h.phases (subst (λ (n : ℕ). Precedes n by_system line rule) e p))
  kept_before line rule h k by_entry p = λ i e. h.entries i (subst (λ (n : ℕ). Precedes n by_entry line rule) e p)
  kept_before line rule h k by_total p = λ e. h.totals (subst (λ (n : ℕ). Precedes n by_total line rule) e p)
  kept_before line rule h k by_energy p = λ e. h.energy (subst (λ (n : ℕ). Precedes n by_energy line rule) e p)
  kept_before line rule h k by_tolerance p = λ e. h.tolerance (subst (λ (n : ℕ). Precedes n by_tolerance line rule) e p)
  kept_before line rule h k by_gap p = λ e. h.gap (subst (λ (n : ℕ). Precedes n by_gap line rule) e p)
  kept_before line rule h k by_potentials p = λ e. h.potentials (subst (λ (n : ℕ). Precedes n by_potentials line rule) e p)
  kept_before line rule h k by_tree p = λ i place e. h.nodes i place (subst (λ (n : ℕ). Precedes n by_tree line rule) e p)

  pub first_broken : (line : ℕ) (rule : CheckRule) → KeptUpTo s r line rule → (Keeps s r line rule → ⊥) → IsFirstBroken (Keeps s r) line rule
  first_broken line rule h broken = record { broken = broken; before = kept_before line rule h }

-- ---- the order as one of numbers

number_small : (rule : CheckRule) → number_of rule < 16
number_small by_text = omega arith
number_small by_path = omega arith
number_small by_system = omega arith
number_small by_entry = omega arith
number_small by_total = omega arith
number_small by_energy = omega arith
number_small by_tolerance = omega arith
number_small by_gap = omega arith
number_small by_potentials = omega arith
number_small by_tree = omega arith

rank : (k line : ℕ) (earlier rule : CheckRule) → Precedes k earlier line rule → 16 * k + number_of earlier < 16 * line + number_of rule
rank k line earlier rule (inl lt) = omega (arith, number_small earlier, number_small rule)
rank k line earlier rule (inr p) = omega (arith, p.0, p.1)

-- ---- trees

pub lines_mono : (trees : List Tree) (p q : ℕ) (tree : Tree) → slice_get trees p ≡ Some tree → p < q → lines_before trees p + suc (length tree.nodes) ≤ lines_before trees q
lines_mono [] p q tree e lt = absurd cc
lines_mono (t ∷ trees) zero zero tree e lt = absurd (omega arith)
lines_mono (t ∷ trees) zero (suc q) tree e lt = let same : t ≡ tree = cc in subst (λ (x : Tree). 0 + suc (length x.nodes) ≤ 1 + length t.nodes + lines_before trees q) same (omega arith)
lines_mono (t ∷ trees) (suc p) zero tree e lt = absurd (omega arith)
lines_mono (t ∷ trees) (suc p) (suc q) tree e lt = omega (arith, lines_mono trees p q tree e (omega arith))

-- not in front of the rule at the line, or kept
abbrev Late : ℕ → CheckRule → ℕ → CheckRule → Type 0
Late line rule k other = 16 * line + number_of rule ≤ 16 * k + number_of other

either : (P : Type 0) (line k : ℕ) (rule other : CheckRule) → Late line rule k other ⊎ P → Precedes k other line rule → P
either P line k rule other (inl late) p = absurd (omega (arith, late, rank k line other rule p))
either P line k rule other (inr h) p = h

module _ (s : System) (r : Report) where
  kept : (line : ℕ) (rule : CheckRule) →
      Late line rule 3 by_system ⊎ HasElements s r →
      Late line rule 4 by_system ⊎ HasPhases s r →
      ((k : ℕ) → Late line rule (7 + k) by_entry ⊎ IsRightEntryAt s.phases r.entries k) →
      Late line rule (7 + length r.entries) by_total ⊎ HasTotals s r →
      Late line rule (8 + length r.entries) by_energy ⊎ HasEnergy s r →
      Late line rule (9 + length r.entries) by_tolerance ⊎ AreNear r.asked r.totals r.tolerance →
      Late line rule (10 + length r.entries) by_gap ⊎ MeetsGap r.potentials r.totals r.energy r.gap →
      Late line rule (11 + length r.entries) by_potentials ⊎ AreSmall s.widest r.potentials →
      ((p place : ℕ) → Late line rule (node_line r p + place) by_tree ⊎ IsRightNode s.phases r.potentials r.trees p place) →
      KeptUpTo s r line rule
  kept line rule elements phases entries totals energy tolerance gap potentials nodes = record {
    elements = either _ line 3 rule by_system elements;
    phases = either _ line 4 rule by_system phases;
    entries = λ k. either _ line (7 + k) rule by_entry (entries k);
    totals = either _ line (7 + length r.entries) rule by_total totals;
    energy = either _ line (8 + length r.entries) rule by_energy energy;
    tolerance = either _ line (9 + length r.entries) rule by_tolerance tolerance;
    gap = either _ line (10 + length r.entries) rule by_gap gap;
    potentials = either _ line (11 + length r.entries) rule by_potentials potentials;
    nodes = λ p place. either _ line (node_line r p + place) rule by_tree (nodes p place);
  }

  pub wrong_elements : (HasElements s r → ⊥) → IsFirstBroken (Keeps s r) 3 by_system
  wrong_elements wrong =
      first_broken s r 3 by_system (kept 3 by_system (inl (omega arith)) (inl (omega arith)) (λ k. inl (omega arith)) (inl (omega arith)) (inl (omega arith)) (inl (omega arith)) (inl (omega arith)) (inl (omega arith)) (λ p place. inl (omega arith)))
      (λ h. wrong (h.0 refl))

  pub wrong_phases : HasElements s r → (HasPhases s r → ⊥) → IsFirstBroken (Keeps s r) 4 by_system
  wrong_phases elements wrong =
      first_broken s r 4 by_system (kept 4 by_system (inr elements) (inl (omega arith)) (λ k. inl (omega arith)) (inl (omega arith)) (inl (omega arith)) (inl (omega arith)) (inl (omega arith)) (inl (omega arith)) (λ p place. inl (omega arith)))
      (λ h. wrong (h.1 refl))

  pub wrong_entry : (i : ℕ) → HasElements s r → HasPhases s r → i < length r.entries → ((k : ℕ) → k < i → IsRightEntryAt s.phases r.entries k) → (IsRightEntryAt s.phases r.entries i → ⊥) → IsFirstBroken (Keeps s r) (7 + i) by_entry
  wrong_entry i elements phases lt before wrong =
      first_broken s r (7 + i) by_entry (kept (7 + i) by_entry (inr elements) (inr phases) entries (inl (omega arith)) (inl (omega arith)) (inl (omega arith)) (inl (omega arith)) (inl (omega arith)) (λ p place. inl (omega arith)))
      (λ h. wrong (h i refl))
    where
      entries : (k : ℕ) → Late (7 + i) by_entry (7 + k) by_entry ⊎ IsRightEntryAt s.phases r.entries k
      entries k = by_lt k i (λ lt. inr (before k lt)) (λ le. inl (omega arith))

  pub wrong_totals : HasElements s r → HasPhases s r → ((k : ℕ) → IsRightEntryAt s.phases r.entries k) → (HasTotals s r → ⊥) → IsFirstBroken (Keeps s r) (7 + length r.entries) by_total
  wrong_totals elements phases entries wrong =
      first_broken s r (7 + length r.entries) by_total (kept (7 + length r.entries) by_total (inr elements) (inr phases) (λ k. inr (entries k)) (inl (omega arith)) (inl (omega arith)) (inl (omega arith)) (inl (omega arith)) (inl (omega arith)) (λ p place. inl (omega arith)))
      (λ h. wrong (h refl))

  pub wrong_energy : HasElements s r → HasPhases s r → ((k : ℕ) → IsRightEntryAt s.phases r.entries k) → HasTotals s r → (HasEnergy s r → ⊥) → IsFirstBroken (Keeps s r) (8 + length r.entries) by_energy
  wrong_energy elements phases entries totals wrong =
      first_broken s r (8 + length r.entries) by_energy (kept (8 + length r.entries) by_energy (inr elements) (inr phases) (λ k. inr (entries k)) (inr totals) (inl (omega arith)) (inl (omega arith)) (inl (omega arith)) (inl (omega arith)) (λ p place. inl (omega arith)))
      (λ h. wrong (h refl))

  pub wrong_tolerance : HasElements s r → HasPhases s r → ((k : ℕ) → IsRightEntryAt s.phases r.entries k) → HasTotals s r → HasEnergy s r → (AreNear r.asked r.totals r.tolerance → ⊥) → IsFirstBroken (Keeps s r) (9 + length r.entries) by_tolerance
  wrong_tolerance elements phases entries totals energy wrong =
      first_broken s r (9 + length r.entries) by_tolerance (kept (9 + length r.entries) by_tolerance (inr elements) (inr phases) (λ k. inr (entries k)) (inr totals) (inr energy) (inl (omega arith)) (inl (omega arith)) (inl (omega arith)) (λ p place. inl (omega arith)))
      (λ h. wrong (h refl))

  pub wrong_gap : HasElements s r → HasPhases s r → ((k : ℕ) → IsRightEntryAt s.phases r.entries k) → HasTotals s r → HasEnergy s r → AreNear r.asked r.totals r.tolerance → (MeetsGap r.potentials r.totals r.energy r.gap → ⊥) → IsFirstBroken (Keeps s r) (10 + length r.entries) by_gap
  wrong_gap elements phases entries totals energy tolerance wrong =
      first_broken s r (10 + length r.entries) by_gap (kept (10 + length r.entries) by_gap (inr elements) (inr phases) (λ k. inr (entries k)) (inr totals) (inr energy) (inr tolerance) (inl (omega arith)) (inl (omega arith)) (λ p place. inl (omega arith)))
      (λ h. wrong (h refl))

  pub wrong_potentials : HasElements s r → HasPhases s r → ((k : ℕ) → IsRightEntryAt s.phases r.entries k) → HasTotals s r → HasEnergy s r → AreNear r.asked r.totals r.tolerance → MeetsGap r.potentials r.totals r.energy r.gap → (AreSmall s.widest r.potentials → ⊥) → IsFirstBroken (Keeps s r) (11 + length r.entries) by_potentials
  wrong_potentials elements phases entries totals energy tolerance gap wrong =
      first_broken s r (11 + length r.entries) by_potentials (kept (11 + length r.entries) by_potentials (inr elements) (inr phases) (λ k. inr (entries k)) (inr totals) (inr energy) (inr tolerance) (inr gap) (inl (omega arith)) (λ p place. inl (omega arith)))
      (λ h. wrong (h refl))

  -- the nodes of the trees in front of a place are right
  abbrev pub AreRightBefore : ℕ → Type 0
  AreRightBefore i = (p place : ℕ) → p < i → IsRightNode s.phases r.potentials r.trees p place

  pub wrong_node : HeadHolds s r → (i at : ℕ) (tree : Tree) → slice_get r.trees i ≡ Some tree → at < length tree.nodes → AreRightBefore i → ((k : ℕ) → k < at → IsRightNode s.phases r.potentials r.trees i k) → (IsRightNode s.phases r.potentials r.trees i at → ⊥) →
      IsFirstBroken (Keeps s r) (node_line r i + at) by_tree
  wrong_node head i at tree is lt earlier before wrong =
      first_broken s r (node_line r i + at) by_tree
      (kept (node_line r i + at) by_tree (inr head.elements) (inr head.phases) (λ k. inr (head.entries k)) (inr head.totals) (inr head.energy) (inr head.tolerance) (inr head.gap) (inr head.potentials) nodes)
      (λ h. wrong (h i at refl))
    where
      here : (place : ℕ) → Late (node_line r i + at) by_tree (node_line r i + place) by_tree ⊎ IsRightNode s.phases r.potentials r.trees i place
      here place = by_lt place at (λ lt. inr (before place lt)) (λ le. inl (omega arith))

      nodes : (p place : ℕ) → Late (node_line r i + at) by_tree (node_line r p + place) by_tree ⊎ IsRightNode s.phases r.potentials r.trees p place
      nodes p place =
          by_lt p i (λ less. inr (earlier p place less))
          (λ le. by_lt i p (λ more. inl (omega (arith, lines_mono r.trees i p tree is more)))
          (λ same. let e : i ≡ p = omega arith in subst (λ (q : ℕ). Late (node_line r i + at) by_tree (node_line r q + place) by_tree ⊎ IsRightNode s.phases r.potentials r.trees q place) e (here place)))

  pub all_kept : HeadHolds s r → ((p place : ℕ) → IsRightNode s.phases r.potentials r.trees p place) → MeetsRules s r
  all_kept head nodes line by_text = tt
  all_kept head nodes line by_path = tt
  all_kept head nodes line by_system = (λ e. head.elements, λ e. head.phases)
  all_kept head nodes line by_entry = λ k e. head.entries k
  all_kept head nodes line by_total = λ e. head.totals
  all_kept head nodes line by_energy = λ e. head.energy
  all_kept head nodes line by_tolerance = λ e. head.tolerance
  all_kept head nodes line by_gap = λ e. head.gap
  all_kept head nodes line by_potentials = λ e. head.potentials
  all_kept head nodes line by_tree = λ p place e. nodes p place

-- ---- one first broken rule, and none where all are kept

pub first_is_one : (Kept : ℕ → CheckRule → Type 0) (line line' : ℕ) (rule rule' : CheckRule) → IsFirstBroken Kept line rule → IsFirstBroken Kept line' rule' → (line ≡ line') × (number_of rule ≡ number_of rule')
first_is_one Kept line line' rule rule' h k =
    by_lt line line' (λ lt. absurd (h.broken (k.before line rule (inl lt))))
    (λ le. by_lt line' line (λ lt. absurd (k.broken (h.before line' rule' (inl lt))))
    (λ le'.
    let same : line ≡ line' = omega arith in
    by_lt (number_of rule) (number_of rule') (λ lt. absurd (h.broken (k.before line rule (inr (same, lt)))))
    (λ le. by_lt (number_of rule') (number_of rule) (λ lt. absurd (k.broken (h.before line' rule' (inr (sym same, lt)))))
    (λ le'. (same, omega arith)))))

pub kept_none_broken : (Kept : ℕ → CheckRule → Type 0) (line : ℕ) (rule : CheckRule) → ((k : ℕ) (other : CheckRule) → Kept k other) → IsFirstBroken Kept line rule → ⊥
kept_none_broken Kept line rule all h = h.broken (all line rule)

-- ---- rules of one number are one rule

rule_at : ℕ → List CheckRule → CheckRule
rule_at n [] = by_path
rule_at zero (rule ∷ rules) = rule
rule_at (suc n) (rule ∷ rules) = rule_at n rules

in_order : List CheckRule
in_order = by_text ∷ by_system ∷ by_entry ∷ by_total ∷ by_energy ∷ by_tolerance ∷ by_gap ∷ by_potentials ∷ by_tree ∷ by_path ∷ []

rule_of_number : (rule : CheckRule) → rule_at (number_of rule) in_order ≡ rule
unfolding rule_at in_order
rule_of_number by_text = refl
rule_of_number by_system = refl
rule_of_number by_entry = refl
rule_of_number by_total = refl
rule_of_number by_energy = refl
rule_of_number by_tolerance = refl
rule_of_number by_gap = refl
rule_of_number by_potentials = refl
rule_of_number by_tree = refl
rule_of_number by_path = refl

same_rule : (rule other : CheckRule) → number_of rule ≡ number_of other → rule ≡ other
same_rule rule other e = sym (rule_of_number rule) ∙ ap (λ n. rule_at n in_order) e ∙ rule_of_number other

pub one_first : (s : System) (r : Report) (line other : ℕ) (rule second : CheckRule) → IsFirstBroken (Keeps s r) line rule → IsFirstBroken (Keeps s r) other second → (line ≡ other) × (rule ≡ second)
one_first s r line other rule second h k =
    let one = first_is_one (Keeps s r) line other rule second h k in
    (one.0, same_rule rule second one.1)

pub none_first : (s : System) (r : Report) (line : ℕ) (rule : CheckRule) → MeetsRules s r → IsFirstBroken (Keeps s r) line rule → ⊥
none_first s r line rule meets h = kept_none_broken (Keeps s r) line rule meets h
