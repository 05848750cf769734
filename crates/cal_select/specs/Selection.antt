-- The system that a job selects from a database.
use Rattle.std.specs.Prelude.{ℕ, ◌^◌, List, map, Bool, is_some}
use Rattle.std.specs.Option.{unwrap_or}
use Rattle.cef_core.specs.declared.job.Job.{Job}
use Rattle.cef_core.specs.declared.phase.ParamAt.{ParamAt}
use Rattle.cef_core.specs.declared.phase.PhaseAt.{PhaseAt}
use Rattle.cef_core.specs.declared.system.System.{System}
use Rattle.cef_core.specs.Systems.{all_points, widest_of}
use Rattle.cal_dec.specs.declared.dec.Dec.{Dec}
use Rattle.tdb_read.specs.Database.{Database}
use Rattle.cal_select.specs.Valuations.{Valuation}
use Rattle.cal_select.specs.Chosen.{Word, PhaseEntry, components_of, selected, all_kept_of, sites_at}
use Rattle.cal_select.specs.Wholes.{decimals_of, whole_ratios}
use Rattle.cal_select.specs.Types.{magnetic_of}
use Rattle.cal_select.specs.Parameters.{parameters_of, needed_of, parameter_at}

-- d of the ratios
abbrev pub decimals_in : List Dec → ℕ
decimals_in ratios = unwrap_or (decimals_of ratios) 0

-- 10^d: what makes the ratios whole
abbrev pub scale_of : List Dec → ℕ
scale_of ratios = 10 ^ decimals_in ratios

abbrev pub is_magnetic : Database → PhaseEntry → Bool
is_magnetic db e = is_some (magnetic_of db.types e)

abbrev pub kept_in : List Word → PhaseEntry → List (List Word)
kept_in components e = all_kept_of components e.1.sites

abbrev pub parameters_at : Valuation → Database → List Word → PhaseEntry → List ParamAt
parameters_at outcome db components e =
    map (parameter_at outcome db (scale_of e.1.ratios) (kept_in components e))
    (needed_of (is_magnetic db e) (kept_in components e) (parameters_of db e.0))

abbrev pub phase_at : Valuation → Database → Job → List Word → PhaseEntry → PhaseAt
phase_at outcome db job components e = record {
  name = e.0;
  t = job.t;
  lattice = job.lattice;
  scale = scale_of e.1.ratios;
  ratios = whole_ratios (decimals_in e.1.ratios) e.1.ratios;
  sites = sites_at components (kept_in components e);
  parameters = parameters_at outcome db components e;
  magnetic = magnetic_of db.types e;
}

abbrev pub phases_at : Valuation → Database → Job → List Word → List PhaseEntry → List PhaseAt
phases_at outcome db job components entries = map (phase_at outcome db job components) entries

abbrev pub system_with : Job → List Word → List PhaseAt → System
system_with job components phases = record {
  t = job.t;
  lattice = job.lattice;
  elements = components;
  phases = phases;
  lists = all_points phases;
  widest = widest_of job.lattice phases;
}

abbrev pub system_of : Valuation → Database → Job → System
system_of outcome db job =
    system_with job (components_of db job) (phases_at outcome db job (components_of db job) (selected db job))
