use Rattle.std.proofs.Common.{◌≡◌, take}
use Rattle.cal_select.specs.Chosen.{all_kept_of}
use Rattle.cal_select.proofs.kept.all_kept.Given as goal

abbrev pub invariant-sublattices : goal.invariant-sublattices
invariant-sublattices l = l.all ≡ all_kept_of l.components (take l.sublattice-index l.sites)
