-- What can be done of an order can be done of one with the same parts.
use Rattle.std.proofs.Common.{◌≡◌, ℕ, ◌≤◌, List, [], map, subst, sym, ◌∙◌, ap, Option}
use Rattle.std.specs.Prelude.{string_bytes, ℤ, pos, ◌*◌}
use Rattle.cal_base.specs.Outside.{Files}
use Rattle.cal_job.specs.declared.order.Order.{Order}
use Rattle.cal_job.specs.declared.order.Order.TheVariants as order
use Rattle.cal_job.specs.declared.request.Request.{Request}
use Rattle.cal_job.specs.declared.request.PathRequest.{PathRequest}
use Rattle.cal_job.specs.Saying.{SameRequest, SamePath, SameOrder}
use Rattle.cef_core.specs.declared.job.Job.{Job}
use Rattle.cef_report.specs.Feasibility.{IsFeasible}
use Rattle.tdb_read.specs.Database.{Database}
use Rattle.cal_select.specs.Valuations.{Valuation, AreOutcomes}
use Rattle.cal_select.specs.Selection.{system_of}
use Rattle.cal_select.specs.Causes.{causes}
use Rattle.path_text.specs.declared.kind.Document.{Document}
use Rattle.cal_scheil.specs.declared.job.PathJob.{PathJob}
use Rattle.path_run.specs.Steps.{IsNeverRefused}
use Rattle.cal_top.specs.Equilibria.{amount_beside}
use Rattle.cal_top.specs.Paths.{path_job}
use Rattle.cal_top.specs.Complete.{HasDatabase, HasDocument, CanClose, CanSolve, CanFollow, CanAccept, CanTable, CanDo}

-- ---- requests

abbrev Feasible : Database → Valuation → Job → List ℕ → Type 0
Feasible db outcome job amounts =
    IsFeasible (system_of outcome db job) (map (λ name. pos (amount_beside job.elements amounts name * job.lattice)) (system_of outcome db job).elements)

close_same : (db : Database) (request other : Request) → SameRequest other request → CanClose db request → CanClose db other
close_same db request other same can =
    let job : request.job ≡ other.job = sym same.job in
    record {
      outcome = can.outcome;
      outcomes = subst (λ (j : Job). AreOutcomes db.functions j.t can.outcome) job can.outcomes;
      no_cause = subst (λ (j : Job). causes can.outcome db j ≡ []) job can.no_cause;
      feasible = subst (λ (j : Job). Feasible db can.outcome j other.amounts) job (subst (λ (amounts : List ℕ). Feasible db can.outcome request.job amounts) (sym same.amounts) can.feasible);
      enough = subst (λ (j : Job). (system_of can.outcome db j).lists ≤ other.budget) job (subst (λ (b : ℕ). (system_of can.outcome db request.job).lists ≤ b) (sym same.budget) can.enough);
    }

database_same : (told : Option Files) (name other : List ℕ) (db : Database) → other ≡ name → HasDatabase told name db → HasDatabase told other db
database_same told name other db same has = subst (λ (n : List ℕ). HasDatabase told n db) (sym same) has

document_same : (told : Option Files) (name other : List ℕ) (d : Document) → other ≡ name → HasDocument told name d → HasDocument told other d
document_same told name other d same has = subst (λ (n : List ℕ). HasDocument told n d) (sym same) has

-- ---- paths

abbrev of_parts : Job → List ℕ → ℕ → ℕ → ℕ → List ℕ → ℕ → ℕ → PathJob
of_parts job amounts descent floor stop liquid gap budget = record {
  job = job;
  asked = map (λ amount. pos (amount * job.lattice)) amounts;
  descent = descent;
  floor = floor;
  stop = stop;
  liquid = liquid;
  gap = gap;
  budget = budget;
}

path_same : (asked other : PathRequest) → SamePath other asked → path_job asked ≡ path_job other
path_same asked other same =
    ap (λ (j : Job). of_parts j asked.request.amounts asked.descent asked.floor asked.stop asked.liquid asked.request.gap asked.request.budget) (sym same.request.job)
    ∙ ap (λ (a : List ℕ). of_parts other.request.job a asked.descent asked.floor asked.stop asked.liquid asked.request.gap asked.request.budget) (sym same.request.amounts)
    ∙ ap (λ (n : ℕ). of_parts other.request.job other.request.amounts n asked.floor asked.stop asked.liquid asked.request.gap asked.request.budget) (sym same.descent)
    ∙ ap (λ (n : ℕ). of_parts other.request.job other.request.amounts other.descent n asked.stop asked.liquid asked.request.gap asked.request.budget) (sym same.floor)
    ∙ ap (λ (n : ℕ). of_parts other.request.job other.request.amounts other.descent other.floor n asked.liquid asked.request.gap asked.request.budget) (sym same.stop)
    ∙ ap (λ (name : List ℕ). of_parts other.request.job other.request.amounts other.descent other.floor other.stop name asked.request.gap asked.request.budget) (sym same.liquid)
    ∙ ap (λ (n : ℕ). of_parts other.request.job other.request.amounts other.descent other.floor other.stop other.liquid n asked.request.budget) (sym same.request.gap)
    ∙ ap (λ (n : ℕ). of_parts other.request.job other.request.amounts other.descent other.floor other.stop other.liquid other.request.gap n) (sym same.request.budget)

-- ---- orders

pub can_same : (told : Option Files) (asked other : Order) → SameOrder other asked → CanDo told asked → CanDo told other
can_same told (order.Equilibrium request) (order.Equilibrium other) same can =
    record { db = can.db; has = database_same told _ _ can.db same.database can.has; close = close_same can.db request other same can.close }
can_same told (order.Scheil asked) (order.Scheil other) same can =
    record { db = can.db; has = database_same told _ _ can.db same.request.database can.has; never = subst (λ (job : PathJob). IsNeverRefused can.db job) (path_same asked other same) can.never }
can_same told (order.Check asked) (order.Check other) same can =
    record {
      db = can.db;
      has = database_same told _ _ can.db same.database can.has;
      document = can.document;
      has_document = document_same told _ _ can.document same.report can.has_document;
      outcomes = can.outcomes;
      meets = can.meets;
    }
can_same told (order.Table asked) (order.Table other) same can =
    record { document = can.document; has_document = document_same told _ _ can.document same.report can.has_document }
can_same told (order.Equilibrium _) (order.Scheil _) same can = absurd same
can_same told (order.Equilibrium _) (order.Check _) same can = absurd same
can_same told (order.Equilibrium _) (order.Table _) same can = absurd same
can_same told (order.Scheil _) (order.Equilibrium _) same can = absurd same
can_same told (order.Scheil _) (order.Check _) same can = absurd same
can_same told (order.Scheil _) (order.Table _) same can = absurd same
can_same told (order.Check _) (order.Equilibrium _) same can = absurd same
can_same told (order.Check _) (order.Scheil _) same can = absurd same
can_same told (order.Check _) (order.Table _) same can = absurd same
can_same told (order.Table _) (order.Equilibrium _) same can = absurd same
can_same told (order.Table _) (order.Scheil _) same can = absurd same
can_same told (order.Table _) (order.Check _) same can = absurd same
