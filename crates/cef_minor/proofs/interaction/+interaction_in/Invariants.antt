use Rattle.std.proofs.Common.{length}
use Rattle.cef_minor.proofs.interaction.+interaction_in.Given as goal

-- the lists that are left
abbrev pub decreases-interaction_in : goal.decreases-interaction_in
decreases-interaction_in l = length l.array.now
