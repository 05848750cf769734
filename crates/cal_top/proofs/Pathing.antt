-- What is asked of a path's first step is within what a path may be asked.
use Rattle.std.proofs.Common.{◌≡◌, ℕ, ◌+◌, ◌*◌, ◌-◌, ◌≤◌, ◌<◌, List, [], ◌∷◌, length, map, refl, subst, sym, ◌∙◌, arith, All}
use Rattle.std.specs.Prelude.{pos, ◌≤ℤ◌, ℤ, sum}
use Rattle.std.specs.List.{AllByRecursion, Any}
use Rattle.std.proofs.lemmas.List.{length-map}
use Rattle.std.proofs.lemmas.List.Elements.{All-head, All-tail}
use Rattle.std.proofs.lemmas.Int.{ints}
use Rattle.std.proofs.Math.Nat.{mul-le-mul}
use Rattle.cal_limits.specs.declared.TheConstants.{MOST_NANOMOLES, MOST_PARTS, MOST_ASKED}
use Rattle.cal_job.specs.declared.request.PathRequest.{PathRequest}
use Rattle.cal_job.specs.Requests.{IsBetween, IsPathRequest, IsDescent}
use Rattle.cef_path.specs.declared.limit.TheConstants.{MOST_STEPS}
use Rattle.cef_report.specs.Spelled.{IsAsked}
use Rattle.cal_scheil.specs.declared.job.PathJob.{PathJob}
use Rattle.cal_scheil.specs.Walks.{IsPathJob}
use Rattle.cal_top.specs.Paths.{path_job}
use Rattle.cal_top.proofs.Asking.{lattice_small, lattice_some}

each_within : (lattice : ℕ) (amounts : List ℕ) → lattice ≤ MOST_PARTS → All (IsBetween 1 MOST_NANOMOLES) amounts
    → AllByRecursion IsAsked (map (λ amount. pos (amount * lattice)) amounts)
each_within lattice [] small each = tt
each_within lattice (amount ∷ amounts) small each =
    let most = mul-le-mul (All-head (IsBetween 1 MOST_NANOMOLES) amount amounts each).1 small in
    ((omega (arith, ints), omega (arith, ints, most)), each_within lattice amounts small (All-tail (IsBetween 1 MOST_NANOMOLES) amount amounts each))

some_within : (lattice : ℕ) (amounts : List ℕ) → 1 ≤ lattice → 0 < length amounts → All (IsBetween 1 MOST_NANOMOLES) amounts
    → Any (λ x. pos 1 ≤ℤ x) (map (λ amount. pos (amount * lattice)) amounts)
some_within lattice [] some more each = absurd (omega (arith, more))
some_within lattice (amount ∷ amounts) some more each =
    let least = mul-le-mul (All-head (IsBetween 1 MOST_NANOMOLES) amount amounts each).0 some in
    (0, pos (amount * lattice), omega arith, refl, omega (arith, ints, least))

few : (t descent floor : ℕ) → IsDescent t descent floor → t < floor + MOST_STEPS * descent
few t descent floor is = omega (arith, is.high, is.few)

-- amounts that add to something are some
some_amounts : (amounts : List ℕ) → 1 ≤ sum amounts → 0 < length amounts
some_amounts [] least = absurd (omega (arith, least))
some_amounts (amount ∷ amounts) least = omega arith

pub is_path_job : (path : PathRequest) → IsPathRequest path → IsPathJob (path_job path)
is_path_job path is =
    let more = some_amounts path.request.amounts (omega (arith, is.request.amounts.total)) in
    record {
      job_is = is.request.job;
      one_each = length-map path.request.amounts (λ amount. pos (amount * path.request.job.lattice)) ∙ is.request.amounts.one_each;
      within = each_within path.request.job.lattice path.request.amounts (lattice_small _ is.request.job.lattice) is.request.amounts.each;
      positive = some_within path.request.job.lattice path.request.amounts (lattice_some _ is.request.job.lattice) more is.request.amounts.each;
      descent_low = is.descent.0;
      descent_high = is.descent.1;
      floor_low = is.floor.0;
      floor_high = is.steps.high;
      few_steps = few _ _ _ is.steps;
      stop_high = is.stop;
      gap_low = is.request.gap.0;
      gap_high = is.request.gap.1;
    }

-- and so it is with totals that are these
pub keeps : (path : PathRequest) (asked : List ℤ) → IsPathRequest path → asked ≡ map (λ amount. pos (amount * path.request.job.lattice)) path.request.amounts
    → IsPathJob (record {
      job = path.request.job;
      asked = asked;
      descent = path.descent;
      floor = path.floor;
      stop = path.stop;
      liquid = path.liquid;
      gap = path.request.gap;
      budget = path.request.budget;
    })
keeps path asked is same =
    subst (λ (totals : List ℤ). IsPathJob (record {
      job = path.request.job;
      asked = totals;
      descent = path.descent;
      floor = path.floor;
      stop = path.stop;
      liquid = path.liquid;
      gap = path.request.gap;
      budget = path.request.budget;
    })) (sym same) (is_path_job path is)
