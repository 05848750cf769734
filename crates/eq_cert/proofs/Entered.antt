-- Entries one by one: whether one is right, and the sums with one more.
use Rattle.std.proofs.Common.{◌≡◌, ℕ, zero, suc, ◌-◌, ◌<◌, List, [], ◌∷◌, length, map, get_or, slice_get, Some, refl, arith, ap, sym, ◌∙◌, subst}
use Rattle.std.specs.Prelude.{ℤ, ◌+ℤ◌, ◌-ℤ◌, ◌*ℤ◌, ◌≤ℤ◌}
use Rattle.std.proofs.lemmas.Option.{slice_get_within}
use Rattle.std.proofs.lemmas.List.{length-map}
use Rattle.std.specs.List.{AllByRecursion}
use Rattle.eq_cert.specs.Entries.{IsFineEntry}
use Rattle.cef_core.specs.declared.phase.PhaseAt.{PhaseAt}
use Rattle.cef_core.specs.declared.system.System.{System}
use Rattle.cef_report.specs.declared.entry.Entry.{Entry}
use Rattle.cef_core.specs.Constitutions.{IsConstitution, content}
use Rattle.cef_core.specs.Energies.{energy}
use Rattle.cef_core.specs.Phases.{IsFine}
use Rattle.cef_report.specs.Assemblages.{total, total_energy, content_of, energy_of}
use Rattle.cef_report.specs.Holding.{IsBefore}
use Rattle.eq_cert.specs.Rules.{IsRightEntryAt, AreNear}

-- the phase of a model
pub phase_at : {T : Type 0} (f : T → PhaseAt) (models : List T) (i : ℕ) (model : T) → i < length models → model ≡ get_or models i model → slice_get (map f models) i ≡ Some (f model)
phase_at f [] i model lt e = absurd (omega arith)
phase_at f (x ∷ models) zero model lt e = ap (λ y. Some (f y)) (sym e)
phase_at f (x ∷ models) (suc i) model lt e = phase_at f models i model (omega arith) e

same_entry : (a b : Entry) → Some a ≡ Some b → a ≡ b
same_entry a b e = cc

same_phase : (a b : PhaseAt) → Some a ≡ Some b → a ≡ b
same_phase a b e = cc

-- ---- whether an entry is right

module _ (phases : List PhaseAt) (entries : List Entry) (k : ℕ) (entry : Entry) (phase : PhaseAt) (is : slice_get entries k ≡ Some entry) (is_phase : slice_get phases entry.phase ≡ Some phase) where
  pub entry_right : IsConstitution phase entry.site → ((before : Entry) (j : ℕ) → suc j ≡ k → slice_get entries j ≡ Some before → IsBefore before entry) → IsRightEntryAt phases entries k
  entry_right constitution rises other at_k =
      let same : entry ≡ other = same_entry entry other (sym is ∙ at_k) in
      record {
        phase = phase;
        is_phase = subst (λ (x : Entry). slice_get phases x.phase ≡ Some phase) same is_phase;
        constitution = subst (λ (x : Entry). IsConstitution phase x.site) same constitution;
        rises = λ before j e b. subst (IsBefore before) same (rises before j e b);
      }

  pub entry_no_constitution : (IsConstitution phase entry.site → ⊥) → IsRightEntryAt phases entries k → ⊥
  entry_no_constitution wrong right =
      let r = right entry is in
      let same : r.phase ≡ phase = same_phase r.phase phase (sym r.is_phase ∙ is_phase) in
      wrong (subst (λ (p : PhaseAt). IsConstitution p entry.site) same r.constitution)

  pub entry_first : k ≡ 0 → IsConstitution phase entry.site → IsRightEntryAt phases entries k
  entry_first e constitution = entry_right constitution (λ before j f b. absurd (omega arith))

  pub entry_behind : (before : Entry) → 0 < k → slice_get entries (k - 1) ≡ Some before → IsConstitution phase entry.site → IsBefore before entry → IsRightEntryAt phases entries k
  entry_behind before some e constitution rises =
      entry_right constitution (λ other j f b.
      let place : k - 1 ≡ j = omega arith in
      let same : before ≡ other = same_entry before other (sym e ∙ ap (slice_get entries) place ∙ b) in
      subst (λ (x : Entry). IsBefore x entry) same rises)

  pub entry_not_behind : (before : Entry) → 0 < k → slice_get entries (k - 1) ≡ Some before → (IsBefore before entry → ⊥) → IsRightEntryAt phases entries k → ⊥
  entry_not_behind before some e wrong right = wrong ((right entry is).rises before (k - 1) (omega arith) e)

-- ---- sums

pub total_step : (phases : List PhaseAt) (s : System) (entries rest : List Entry) (entry : Entry) (phase : PhaseAt) (c : ℕ) (part more : ℤ) → s.phases ≡ phases → entries ≡ entry ∷ rest → slice_get phases entry.phase ≡ Some phase →
    part ≡ entry.amount *ℤ content phase entry.site c → more ≡ total s rest c → part +ℤ more ≡ total s entries c
total_step phases s entries rest entry phase c part more es ee ep e f =
    let at_phase : slice_get s.phases entry.phase ≡ Some phase = ap (λ (ps : List PhaseAt). slice_get ps entry.phase) es ∙ ep in
    let content_is : content_of s entry c ≡ content phase entry.site c = simp at_phase in
    rw (ee, e, f, content_is) refl

pub energy_step : (phases : List PhaseAt) (s : System) (entries rest : List Entry) (entry : Entry) (phase : PhaseAt) (part more : ℤ) → s.phases ≡ phases → entries ≡ entry ∷ rest → slice_get phases entry.phase ≡ Some phase →
    part ≡ entry.amount *ℤ energy phase entry.site → more ≡ total_energy s rest → part +ℤ more ≡ total_energy s entries
energy_step phases s entries rest entry phase part more es ee ep e f =
    let at_phase : slice_get s.phases entry.phase ≡ Some phase = ap (λ (ps : List PhaseAt). slice_get ps entry.phase) es ∙ ep in
    let energy_is : energy_of s entry ≡ energy phase entry.site = simp at_phase in
    rw (ee, e, f, energy_is) refl

-- ---- totals near the asked ones

abbrev pub IsNear : ℤ → ℤ → ℤ → Type 0
IsNear a b tolerance = ((a -ℤ b) ≤ℤ tolerance) × ((b -ℤ a) ≤ℤ tolerance)

pub near_step : (asked totals olds news : List ℤ) (a b tolerance : ℤ) → asked ≡ a ∷ olds → totals ≡ b ∷ news → IsNear a b tolerance → AreNear olds news tolerance → AreNear asked totals tolerance
near_step asked totals olds news a b tolerance ea eb here rest = rw (ea, eb) each
  where
    each : AreNear (a ∷ olds) (b ∷ news) tolerance
    each zero lt = here
    each (suc c) lt = rest c (omega arith)

pub near_head : (asked totals olds news : List ℤ) (a b tolerance : ℤ) → asked ≡ a ∷ olds → totals ≡ b ∷ news → AreNear asked totals tolerance → IsNear a b tolerance
near_head asked totals olds news a b tolerance ea eb near = let h : AreNear (a ∷ olds) (b ∷ news) tolerance = rw (ea, eb) at near in h 0 (omega arith)

pub near_tail : (asked totals olds news : List ℤ) (a b tolerance : ℤ) → asked ≡ a ∷ olds → totals ≡ b ∷ news → AreNear asked totals tolerance → AreNear olds news tolerance
near_tail asked totals olds news a b tolerance ea eb near = let h : AreNear (a ∷ olds) (b ∷ news) tolerance = rw (ea, eb) at near in λ c lt. h (suc c) (omega arith)

-- ---- the first of fine entries

module _ (phases : List PhaseAt) (entries rest : List Entry) (entry : Entry) (e : entries ≡ entry ∷ rest) (fine : AllByRecursion (IsFineEntry phases) entries) where
  pub first_fine : IsFineEntry phases entry
  first_fine = (subst (AllByRecursion (IsFineEntry phases)) e fine).0

  pub first_within : entry.phase < length phases
  first_within = slice_get_within phases entry.phase first_fine.phase first_fine.is_phase

  pub first_phase_fine : (phase : PhaseAt) → slice_get phases entry.phase ≡ Some phase → IsFine phase
  first_phase_fine phase at = subst IsFine (same_phase first_fine.phase phase (sym first_fine.is_phase ∙ at)) first_fine.fine

  pub first_constitution : (phase : PhaseAt) → slice_get phases entry.phase ≡ Some phase → IsConstitution phase entry.site
  first_constitution phase at = subst (λ (p : PhaseAt). IsConstitution p entry.site) (same_phase first_fine.phase phase (sym first_fine.is_phase ∙ at)) first_fine.constitution

-- the place of its model
pub first_model : {T : Type 0} (f : T → PhaseAt) (models : List T) (entries rest : List Entry) (entry : Entry) → entries ≡ entry ∷ rest → AllByRecursion (IsFineEntry (map f models)) entries → entry.phase < length models
first_model f models entries rest entry e fine = omega (arith, first_within (map f models) entries rest entry e fine, length-map models f)
