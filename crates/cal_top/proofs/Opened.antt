-- What is kept of an equilibrium that is left open.
use Rattle.std.proofs.Common.{◌≡◌, ℕ, ◌<◌, List, length, map, subst, sym, ap, ◌∙◌, All}
use Rattle.std.specs.Prelude.{ℤ, Err, IfErr, Result}
use Rattle.std.proofs.lemmas.List.{length-map}
use Rattle.std.proofs.lemmas.Option.{slice_get_within}
use Rattle.cef_core.specs.declared.phase.PhaseAt.{PhaseAt}
use Rattle.cef_core.specs.declared.system.System.{System}
use Rattle.cef_report.specs.declared.entry.Entry.{Entry}
use Rattle.cef_report.specs.declared.report.Report.{Report}
use Rattle.eq_sweep.specs.Sweeps.{IsSweep}
use Rattle.eq_solve.specs.declared.fault.Open.{Open}
use Rattle.eq_solve.specs.declared.fault.SolveFault.{SolveFault}
use Rattle.eq_solve.specs.declared.fault.SolveFault.TheVariants.{GapNotClosed}
use Rattle.eq_solve.specs.Answers.{IsKept, IsFault}
use Rattle.cal_top.specs.Equilibria.{phase_names}

-- the fault of an equilibrium, where it is this one
pub fault_is : (system : System) (asked : List ℤ) (gap budget : ℕ) (found : Result Report SolveFault) (fault : SolveFault) → found ≡ Err fault
    → IfErr found (λ f. IsFault system (IsSweep system.phases) asked gap budget f) → IsFault system (IsSweep system.phases) asked gap budget fault
fault_is system asked gap budget found fault same is =
    subst (λ (r : Result Report SolveFault). IfErr r (λ f. IsFault system (IsSweep system.phases) asked gap budget f)) same is

-- the names of a system's phases are as many as these
pub as_many : (system : System) (names : List (List ℕ)) → names ≡ phase_names system → length system.phases ≡ length names
as_many system names same = sym (ap length same ∙ length-map system.phases (λ (phase : PhaseAt). phase.name))

-- kept entries name phases of the system
kept_within : (system : System) (s : ℕ) (potentials : List ℤ) (entries : List Entry) → All (IsKept system s potentials) entries → All (λ entry. entry.phase < length system.phases) entries
kept_within system s potentials entries all k d lt =
    let is = (all k d lt).is_constitution in
    slice_get_within system.phases _ is.phase is.is_phase

pub phase_named : (system : System) (asked : List ℤ) (gap budget : ℕ) (left : Open) (names : List (List ℕ)) → names ≡ phase_names system
    → IsFault system (IsSweep system.phases) asked gap budget (GapNotClosed left) → left.phase < length names
phase_named system asked gap budget left names same fault = subst (λ (n : ℕ). left.phase < n) (as_many system names same) fault.0.phase_in

pub entries_named : (system : System) (asked : List ℤ) (gap budget : ℕ) (left : Open) (names : List (List ℕ)) → names ≡ phase_names system
    → IsFault system (IsSweep system.phases) asked gap budget (GapNotClosed left) → All (λ entry. entry.phase < length names) left.entries
entries_named system asked gap budget left names same fault =
    subst (λ (n : ℕ). All (λ (entry : Entry). entry.phase < n) left.entries) (as_many system names same) (kept_within system _ _ left.entries fault.0.kept)
