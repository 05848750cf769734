use Rattle.std.proofs.Common.{ℕ, List, false, ap, ◌∙◌}
use Rattle.minor_tests.specs.Samples.{solution}
use Rattle.minor_tests.proofs.Fine.{pair_fine}
use Rattle.minor_tests.proofs.solutions.with_pair.Goals as goal

pub returns-clause-fine : goal.returns-clause-fine
returns-clause-fine c =
    pair_fine c.args.order c.in_ok-phase.phase c.requires (c.in_ok-phase.ensures ∙ ap (λ (places : List ℕ). solution places c.args.order false) c.in_ok-above.ensures)
