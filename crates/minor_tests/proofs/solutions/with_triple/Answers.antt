use Rattle.std.proofs.Common.{ℕ, List, false, ap, ◌∙◌}
use Rattle.minor_tests.specs.Samples.{solution}
use Rattle.minor_tests.proofs.Fine.{plain_fine}
use Rattle.minor_tests.proofs.solutions.with_triple.Goals as goal

pub returns-clause-fine : goal.returns-clause-fine
returns-clause-fine c =
    plain_fine c.in_ok-phase.phase (c.in_ok-phase.ensures ∙ ap (λ (places : List ℕ). solution places 0 false) c.in_ok-above.ensures)
