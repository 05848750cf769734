use Rattle.std.proofs.Common.{◌≡◌, take, map}
use Rattle.std.specs.Prelude.{filter}
use Rattle.cal_select.specs.Chosen.{is_in}
use Rattle.cal_select.proofs.chosen.components.Given as goal

abbrev pub invariant-elements : goal.invariant-elements
invariant-elements l = l.names ≡ map (λ e. e.0) (filter (λ e. is_in l.asked e.0) (take l.place l.db.elements))
