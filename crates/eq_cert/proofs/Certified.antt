-- A report that meets the rules holds.
use Rattle.std.proofs.Common.{◌≡◌, ℕ, zero, suc, ◌+◌, ◌<◌, List, [], ◌∷◌, length, map, get_or, slice_get, Some, refl, arith, inl, inr, ap, sym, ◌∙◌, subst}
use Rattle.std.specs.Prelude.{ℤ, pos, ◌-ℤ◌, ◌*ℤ◌, ◌≤ℤ◌, AllPairs}
use Rattle.std.specs.List.{concat}
use Rattle.std.proofs.lemmas.Bool.{cases_lt}
use Rattle.std.proofs.lemmas.Int.{ints}
use Rattle.std.proofs.lemmas.Option.{slice_get-get_or, slice_get_within}
use Rattle.cef_core.specs.declared.phase.PhaseAt.{PhaseAt}
use Rattle.cef_core.specs.declared.system.System.{System}
use Rattle.cef_report.specs.declared.entry.Entry.{Entry}
use Rattle.cef_report.specs.declared.report.Report.{Report}
use Rattle.cef_tree.specs.declared.tree.Tree.{Tree}
use Rattle.cef_core.specs.Constitutions.{content}
use Rattle.cef_core.specs.Energies.{energy}
use Rattle.cef_core.specs.Systems.{IsPhaseOf, IsSystem}
use Rattle.cef_phase.specs.Affine.{affine_bound_of}
use Rattle.cef_phase.specs.Bounds.{bound_of}
use Rattle.cef_report.specs.Assemblages.{IsEntry, IsAssemblage}
use Rattle.cef_core.specs.Worth.{worth}
use Rattle.cef_report.specs.Certificates.{IsAbove}
use Rattle.cef_report.specs.Holding.{AreLess, IsBefore, Holds}
use Rattle.cef_report.specs.Spelled.{Spans, IsSpelled, IsSpelledEntry, IsSpelledTree}
use Rattle.cef_report.proofs.Sound.{IsWithin-from_certificate}
use Rattle.eq_cert.specs.Trees.{Box}
use Rattle.eq_cert.specs.Rules.{IsRightEntryAt, IsRightNode, node_line, MeetsRules}
use Rattle.eq_cert.specs.Judging.{HeadHolds}
use Rattle.eq_cert.specs.declared.rule.CheckRule.TheVariants.{System as by_system, Entry as by_entry, Total as by_total, Energy as by_energy, Tolerance as by_tolerance, Gap as by_gap, Potentials as by_potentials, Tree as by_tree}
use Rattle.eq_cert.proofs.Picks.{all_at, item_at}
use Rattle.eq_cert.proofs.Above.{IsBelow, above_from_right}

-- ---- entries that rise

less_trans : (a b c : List ℕ) → AreLess a b → AreLess b c → AreLess a c
less_trans [] b c h k = absurd h
less_trans (i ∷ a) [] c h k = absurd h
less_trans (i ∷ a) (j ∷ b) [] h k = absurd k
less_trans (i ∷ a) (j ∷ b) (l ∷ c) (inl x) (inl y) = inl (omega arith)
less_trans (i ∷ a) (j ∷ b) (l ∷ c) (inl x) (inr y) = inl (omega (arith, y.0))
less_trans (i ∷ a) (j ∷ b) (l ∷ c) (inr x) (inl y) = inl (omega (arith, x.0))
less_trans (i ∷ a) (j ∷ b) (l ∷ c) (inr x) (inr y) = inr (x.0 ∙ y.0, less_trans a b c x.1 y.1)

before_trans : (a b c : Entry) → IsBefore a b → IsBefore b c → IsBefore a c
before_trans a b c (inl x) (inl y) = inl (omega arith)
before_trans a b c (inl x) (inr y) = inl (omega (arith, y.0))
before_trans a b c (inr x) (inl y) = inl (omega (arith, x.0))
before_trans a b c (inr x) (inr y) = inr (x.0 ∙ y.0, less_trans (concat a.site) (concat b.site) (concat c.site) x.1 y.1)

module _ (phases : List PhaseAt) (entries : List Entry) (right : (k : ℕ) → IsRightEntryAt phases entries k) where
  next_rises : (j : ℕ) (d : Entry) → suc j < length entries → IsBefore (get_or entries j d) (get_or entries (suc j) d)
  next_rises j d lt =
      (right (suc j) (get_or entries (suc j) d) (slice_get-get_or entries (suc j) d lt)).rises (get_or entries j d) j refl (let less : j < length entries = omega arith in slice_get-get_or entries j d less)

  rise : (i j : ℕ) (d : Entry) → i < j → j < length entries → IsBefore (get_or entries i d) (get_or entries j d)
  rise i zero d less lt = absurd (omega arith)
  rise i (suc j) d less lt =
      elim (cases_lt i j) [
        | inl further ↦ before_trans (get_or entries i d) (get_or entries j d) (get_or entries (suc j) d) (rise i j d further (omega arith)) (next_rises j d lt)
        | inr le ↦ let same : j ≡ i = omega arith in subst (λ (k : ℕ). IsBefore (get_or entries k d) (get_or entries (suc j) d)) same (next_rises j d lt)
      ]

  pub all_rise : AllPairs IsBefore entries
  all_rise i j d less lt = rise i j d less lt

pub length-names : (phases : List PhaseAt) → length (map (λ phase. phase.name) phases) ≡ length phases
length-names [] = refl
length-names (phase ∷ phases) = omega (arith, length-names phases)

-- ---- the rules

pub head_from_rules : (s : System) (r : Report) → MeetsRules s r → HeadHolds s r
head_from_rules s r meets = record {
  elements = (meets 3 by_system).0 refl;
  phases = (meets 4 by_system).1 refl;
  entries = λ k. meets (7 + k) by_entry k refl;
  totals = meets (7 + length r.entries) by_total refl;
  energy = meets (8 + length r.entries) by_energy refl;
  tolerance = meets (9 + length r.entries) by_tolerance refl;
  gap = meets (10 + length r.entries) by_gap refl;
  potentials = meets (11 + length r.entries) by_potentials refl;
}

-- a bound of a box is at most 2^16*G - M*b of each member
abbrev pub IsLow : PhaseAt → (List ℤ → Box → List ℤ → ℤ) → Type 0
IsLow phase bound = (potentials : List ℤ) → IsBelow phase (λ site. pos 65536 *ℤ energy phase site -ℤ worth potentials (content phase site)) (bound potentials)

-- both bounds are, for each phase of the system
abbrev pub IsLawful : System → Type 0
IsLawful s = (k : ℕ) (phase : PhaseAt) → slice_get s.phases k ≡ Some phase → IsLow phase (bound_of phase) × IsLow phase (affine_bound_of phase)

model_at : {T : Type 0} (f : T → PhaseAt) (models : List T) (k : ℕ) (phase : PhaseAt) → slice_get (map f models) k ≡ Some phase → (m : T) × (f m ≡ phase)
model_at f [] k phase e = absurd cc
model_at f (m ∷ models) zero phase e = (m, cc)
model_at f (m ∷ models) (suc k) phase e = model_at f models k phase e

-- the laws of the models
pub lawful_from : {T : Type 0} (f : T → PhaseAt) (models : List T) (s : System) → map f models ≡ s.phases →
    ((m : T) → IsLow (f m) (bound_of (f m))) → ((m : T) → IsLow (f m) (affine_bound_of (f m))) → IsLawful s
lawful_from f models s e law affine_law k phase at =
    let found = model_at f models k phase (ap (λ (ps : List PhaseAt). slice_get ps k) e ∙ at) in
    subst (λ (q : PhaseAt). IsLow q (bound_of q) × IsLow q (affine_bound_of q)) found.1 (law found.0, affine_law found.0)

module _ (s : System) (law : IsLawful s) (r : Report) (spelled : IsSpelled r) (is_system : IsSystem s) where
  above : HeadHolds s r → ((p place : ℕ) → IsRightNode s.phases r.potentials r.trees p place) → IsAbove s r.potentials
  above head nodes p phase counts is_phase is =
      let within : p < length r.trees = omega (arith, slice_get_within s.phases p phase is_phase, spelled.one_tree_each, ap length head.phases, length-names s.phases) in
      let found = item_at r.trees p within in
      let tree : Tree = found.0 in
      let one : IsPhaseOf s phase = all_at (IsPhaseOf s) s.phases p phase is_system.phases is_phase in
      let spans : Spans tree.nodes [] = all_at IsSpelledTree r.trees p tree spelled.trees found.1 in
      let height : List (List ℕ) → ℤ = λ site. pos 65536 *ℤ energy phase site -ℤ worth r.potentials (content phase site) in
      let low = law p phase is_phase in
      let above : pos 0 ≤ℤ (pos 65536 *ℤ energy phase counts -ℤ worth r.potentials (content phase counts)) =
      above_from_right phase r.potentials height (low.0 r.potentials) (low.1 r.potentials) tree.nodes one.fine spans (λ place. nodes p place phase tree is_phase found.1) counts is in
      omega (arith, ints, above)

  entry_is : HeadHolds s r → (k : ℕ) (entry : Entry) → slice_get r.entries k ≡ Some entry → IsEntry s entry
  entry_is head k entry is =
      let right = head.entries k entry is in
      let text : IsSpelledEntry (length r.phases) entry = all_at (IsSpelledEntry (length r.phases)) r.entries k entry spelled.entries is in
      record { phase = right.phase; is_phase = right.is_phase; constitution = right.constitution; present = text.amount_low }

  assemblage : HeadHolds s r → IsAssemblage s r.entries
  assemblage head k d lt = entry_is head k (get_or r.entries k d) (slice_get-get_or r.entries k d lt)

  pub holds_from_head : HeadHolds s r → ((p place : ℕ) → IsRightNode s.phases r.potentials r.trees p place) → Holds s r.asked r
  holds_from_head head nodes =
      let components : length r.totals ≡ length s.elements = spelled.totals.0 ∙ ap length head.elements.elements in
      record {
        same_temperature = head.elements.temperature;
        same_lattice = head.elements.lattice;
        same_elements = head.elements.elements;
        same_phases = head.phases;
        asked_are = refl;
        assemblage = assemblage head;
        rising = all_rise s.phases r.entries head.entries;
        components = components;
        totals_are = λ c lt. head.totals c (omega (arith, components));
        energy_is = head.energy;
        not_below = λ c lt. (head.tolerance c (omega (arith, components))).0;
        not_above = λ c lt. (head.tolerance c (omega (arith, components))).1;
        least = IsWithin-from_certificate s r.potentials r.totals r.energy r.gap (spelled.potentials.0 ∙ sym spelled.totals.0) (above head nodes) head.gap;
      }

  pub holds_from_rules : MeetsRules s r → Holds s r.asked r
  holds_from_rules meets = holds_from_head (head_from_rules s r meets) (λ p place. meets (node_line r p + place) by_tree p place refl)
