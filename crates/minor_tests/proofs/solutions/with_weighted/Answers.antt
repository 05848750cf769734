use Rattle.std.proofs.Common.{ℕ, List, true, ap, ◌∙◌}
use Rattle.minor_tests.specs.Samples.{solution}
use Rattle.minor_tests.proofs.Fine.{weighted_fine}
use Rattle.minor_tests.proofs.solutions.with_weighted.Goals as goal

pub returns-clause-fine : goal.returns-clause-fine
returns-clause-fine c =
    weighted_fine c.args.order c.in_ok-phase.phase c.requires (c.in_ok-phase.ensures ∙ ap (λ (places : List ℕ). solution places c.args.order true) c.in_ok-above.ensures)
