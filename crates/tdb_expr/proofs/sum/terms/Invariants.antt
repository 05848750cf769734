use Rattle.std.proofs.Common.{◌≡◌, length}
use Rattle.std.specs.Prelude.{map}
use Rattle.tdb_expr.specs.Parts.{term_of}
use Rattle.tdb_expr.specs.Reading.{all_terms, with_terms}
use Rattle.tdb_expr.proofs.sum.terms.Given as goal

abbrev pub invariant-terms : goal.invariant-terms
invariant-terms l = with_terms (map term_of l.all) (all_terms l.rest) ≡ with_terms (map term_of l.fn.first) (all_terms l.fn.text)

abbrev pub decreases-terms : goal.decreases-terms
decreases-terms l = length l.rest
