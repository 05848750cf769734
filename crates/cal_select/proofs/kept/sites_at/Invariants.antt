use Rattle.std.proofs.Common.{◌≡◌, take}
use Rattle.cal_select.specs.Chosen.{sites_at}
use Rattle.cal_select.proofs.kept.sites_at.Given as goal

abbrev pub invariant-sublattices : goal.invariant-sublattices
invariant-sublattices l = l.sites ≡ sites_at l.components (take l.names-index l.kept)
