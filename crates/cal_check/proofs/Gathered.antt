-- The system of each step of a path by its temperature.
use Rattle.std.proofs.Common.{◌≡◌, ℕ, zero, suc, ◌<◌, List, [], ◌∷◌, length, slice_get, Some, Ok, refl, sym, ap, ◌∙◌, subst, Bool, true, false, cond}
use Rattle.std.specs.Prelude.{◌==◌}
use Rattle.std.proofs.lemmas.Bool.{eqb-true, eqb-false}
use Rattle.tdb_read.specs.Database.{Database}
use Rattle.cef_core.specs.declared.job.Job.{Job}
use Rattle.cef_core.specs.declared.system.System.{System}
use Rattle.cef_report.specs.declared.report.Report.{Report}
use Rattle.cef_path.specs.declared.step.StepText.{StepText}
use Rattle.cal_select.specs.Causes.{Answers}
use Rattle.cal_select.specs.Chosen.{Word}
use Rattle.cal_check.specs.Systems.{IsSystemFor, HasSystem, job_of}

abbrev job_with : ℕ → ℕ → List Word → List Word → Job
job_with t lattice elements phases = record { t = t; lattice = lattice; elements = elements; phases = Some phases }

pub same_job : (a b : Report) → a.t ≡ b.t → a.lattice ≡ b.lattice → a.elements ≡ b.elements → a.phases ≡ b.phases → job_of a ≡ job_of b
same_job a b t lattice elements phases =
    ap (λ (n : ℕ). job_with n a.lattice a.elements a.phases) t
    ∙ ap (λ (n : ℕ). job_with b.t n a.elements a.phases) lattice
    ∙ ap (λ (names : List Word). job_with b.t b.lattice names a.phases) elements
    ∙ ap (λ (names : List Word). job_with b.t b.lattice b.elements names) phases

abbrev pub HaveSystems : Database → List StepText → Type 0
HaveSystems db steps = (i : ℕ) (s : StepText) → slice_get steps i ≡ Some s → HasSystem db s.report

-- steps of one temperature have one job
abbrev pub HaveJobs : List StepText → Type 0
HaveJobs steps = (i j : ℕ) (a b : StepText) → slice_get steps i ≡ Some a → slice_get steps j ≡ Some b → a.report.t ≡ b.report.t → job_of a.report ≡ job_of b.report

-- the system of the first step at the temperature
abbrev pub chosen : (db : Database) (steps : List StepText) → System → HaveSystems db steps → ℕ → System
chosen db [] other has t = other
chosen db (s ∷ steps) other has t = cond (s.report.t == t) (has 0 s refl).0 (chosen db steps other (λ i x e. has (suc i) x e) t)

same_item : (a b : StepText) → Some a ≡ Some b → a ≡ b
same_item a b e = cc

pub is_chosen : (db : Database) (steps : List StepText) (other : System) (has : HaveSystems db steps) → HaveJobs steps → (i : ℕ) (s : StepText) → slice_get steps i ≡ Some s
    → IsSystemFor db s.report (chosen db steps other has s.report.t)
is_chosen db [] other has same i s e = absurd cc
is_chosen db (x ∷ steps) other has same zero s e = by_test (x.report.t == s.report.t) refl
  where
    here : x ≡ s
    here = same_item x s e

    by_test : (b : Bool) → (x.report.t == s.report.t) ≡ b → IsSystemFor db s.report (cond b (has 0 x refl).0 (chosen db steps other (λ i y f. has (suc i) y f) s.report.t))
    by_test true is = subst (λ (y : StepText). IsSystemFor db y.report (has 0 x refl).0) here (has 0 x refl).1
    by_test false is = absurd (eqb-false x.report.t s.report.t is (ap (λ (y : StepText). y.report.t) here))
is_chosen db (x ∷ steps) other has same (suc i) s e = by_test (x.report.t == s.report.t) refl (is_chosen db steps other (λ j y f. has (suc j) y f) (λ j k a b f g. same (suc j) (suc k) a b f g) i s e)
  where
    by_test : (b : Bool) → (x.report.t == s.report.t) ≡ b → IsSystemFor db s.report (chosen db steps other (λ j y f. has (suc j) y f) s.report.t)
        → IsSystemFor db s.report (cond b (has 0 x refl).0 (chosen db steps other (λ j y f. has (suc j) y f) s.report.t))
    by_test true is rest = subst (λ (job : Job). Answers db job (Ok (has 0 x refl).0)) (same 0 (suc i) x s refl e (eqb-true x.report.t s.report.t is)) (has 0 x refl).1
    by_test false is rest = rest
