use Rattle.eq_cert.proofs.Blanks.{IsBlank}
use Rattle.eq_cert.proofs.blank.blank_site.Given as goal

abbrev pub invariant-sublattices : goal.invariant-sublattices
invariant-sublattices l = IsBlank l.phase.sites l.sublattice l.site
