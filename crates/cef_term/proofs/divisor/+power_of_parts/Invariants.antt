use Rattle.cef_term.proofs.divisor.+power_of_parts.Given as goal

abbrev pub decreases-power_of_parts : goal.decreases-power_of_parts
decreases-power_of_parts l = l.exponent
