use Rattle.cef_box.proofs.Kept.{tightened_fits}
use Rattle.cef_box.proofs.Tightened.{is_tightened-as}
use Rattle.cef_box.proofs.tightening.tighten.Goals as goal

pub returns-then-has_lists-clause-tight : goal.returns-then-has_lists-clause-tight
returns-then-has_lists-clause-tight c = is_tightened-as c.args.phase.now.lattice c.args.range.now c.tighten_lists.new.self c.if-has_lists.ensures.yes c.tighten_lists.ensures

pub returns-then-has_lists-clause-fits : goal.returns-then-has_lists-clause-fits
returns-then-has_lists-clause-fits c = λ e. tightened_fits c.args.phase.now c.args.range.now c.tighten_lists.new.self c.if-has_lists.ensures.yes c.tighten_lists.ensures e
