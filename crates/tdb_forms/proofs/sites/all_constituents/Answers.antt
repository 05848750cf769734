use Rattle.std.proofs.Common.{sym, ◌∙◌}
use Rattle.tdb_forms.specs.Lists.{constituents_of}
use Rattle.tdb_forms.proofs.Loops.{each_none, each_on, each_end, each_start}
use Rattle.tdb_forms.proofs.sites.all_constituents.Goals as goal

pub lists-init : goal.lists-init
lists-init c = rw c.new-all.ensures (each_start _)

pub returns-in-None : goal.returns-in-None
returns-in-None c = each_none constituents_of (λ w. w.now) c.args.lists.now c.lists.i _ c.lists.all _ c.lists-test.true (sym c.in_ok-found.ensures ∙ c.in-None.is) c.lists.invariant

pub lists-preserved : goal.lists-preserved
lists-preserved c = rw c.in_ok-push-in-Some.ensures.ok (each_on constituents_of (λ w. w.now) c.args.lists.now c.lists.i _ c.lists.all c.in-Some.list _ c.lists-test.true (sym c.in_ok-found.ensures ∙ c.in-Some.is) c.lists.invariant)

pub returns : goal.returns
returns c = each_end constituents_of (λ w. w.now) c.args.lists.now c.lists.i c.lists.all _ c.lists-test.false c.lists.invariant
