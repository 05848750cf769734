use Rattle.cef_minor.proofs.divisor.+power_of.Given as goal

-- the exponent
abbrev pub decreases-power_of : goal.decreases-power_of
decreases-power_of l = l.exponent
