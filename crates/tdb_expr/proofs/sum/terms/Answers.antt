use Rattle.std.proofs.Common.{sym, ap, ◌∙◌, arith}
use Rattle.std.specs.Prelude.{map}
use Rattle.std.specs.Option.{option_map}
use Rattle.tdb_expr.specs.Parts.{term_of}
use Rattle.tdb_expr.proofs.Loops.{terms_on, terms_none, terms_done, term_shorter}
use Rattle.tdb_expr.proofs.sum.terms.Goals as goal

pub returns-in-None : goal.returns-in-None
returns-in-None c = terms_none (map term_of c.terms.all) c.terms.rest.now _ (omega arith) (sym c.in_ok-found.ensures ∙ ap (option_map (λ x. (term_of x.0, x.1.now))) c.in-None.is) c.terms.invariant

pub terms-preserved : goal.terms-preserved
terms-preserved c = terms_on c.terms.all _ c.terms.rest.now c.in-Some.after.now c.in-Some.term _ c.in_ok-push-in-Some.ensures.ok (omega arith) (sym c.in_ok-found.ensures ∙ ap (option_map (λ x. (term_of x.0, x.1.now))) c.in-Some.is) c.terms.invariant

pub terms-smaller : goal.terms-smaller
terms-smaller c = term_shorter c.terms.rest.now (term_of c.in-Some.term, c.in-Some.after.now) (sym c.in_ok-found.ensures ∙ ap (option_map (λ x. (term_of x.0, x.1.now))) c.in-Some.is)

pub returns : goal.returns
returns c = terms_done (map term_of c.terms.all) c.terms.rest.now _ (omega arith) c.terms.invariant
