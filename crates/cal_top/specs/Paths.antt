-- What is asked of a path's first step.
use Rattle.std.specs.Prelude.{◌*◌, map, pos}
use Rattle.cal_job.specs.declared.request.PathRequest.{PathRequest}
use Rattle.cal_scheil.specs.declared.job.PathJob.{PathJob}

-- Of each element in the order of the words the amount times the lattice, in units of 1/N nmol; all else as the words say.
abbrev pub path_job : PathRequest → PathJob
path_job path = record {
  job = path.request.job;
  asked = map (λ amount. pos (amount * path.request.job.lattice)) path.request.amounts;
  descent = path.descent;
  floor = path.floor;
  stop = path.stop;
  liquid = path.liquid;
  gap = path.request.gap;
  budget = path.request.budget;
}
