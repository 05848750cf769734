use Rattle.std.proofs.Common.{[], refl}
use Rattle.std.proofs.lemmas.Option.{slice_get_read, get_or_from_slice_get}
use Rattle.std.proofs.lemmas.Result.{err_from_is_err_and}
use Rattle.cal_lines.specs.Places.{place}
use Rattle.cal_lines.proofs.Parts.{each_goes_on, each_fails, each_is_done}
use Rattle.eq_text.specs.Parsing.{tree_at}
use Rattle.eq_text.proofs.read.tree.trees.Goals as goal

pub returns-in_err-tree : goal.returns-in_err-tree
returns-in_err-tree c =
    let p = err_from_is_err_and c.from_residual.result c.from_residual.ensures.1 in
    let phase = get_or_from_slice_get c.args.phases.now c.phases.phase-index c.phase-item.result [] (slice_get_read _ _ _ _ refl c.phases-test.true c.phase-item.is) in
    rw (p.1, p.2) (each_fails tree_at c.in_err-tree.field-0.0 c.phases.all c.args.phases.now c.phases.phase-index [] (place c.phases.here) _ c.phases-test.true (rw (phase, ← c.bytes.ensures) c.in_err-tree.ensures) c.phases.invariant)

pub phases-preserved : goal.phases-preserved
phases-preserved c =
    let phase = get_or_from_slice_get c.args.phases.now c.phases.phase-index c.phase-item.result [] (slice_get_read _ _ _ _ refl c.phases-test.true c.phase-item.is) in
    rw c.in_ok-push.ensures.ok (each_goes_on tree_at c.phases.all c.args.phases.now c.phases.phase-index [] (place c.phases.here) (place c.in_ok-tree.after) c.in_ok-tree.tree _ c.phases-test.true (rw (phase, ← c.bytes.ensures) c.in_ok-tree.ensures) c.phases.invariant)

pub returns : goal.returns
returns c = each_is_done tree_at c.phases.all c.args.phases.now c.phases.phase-index (place c.phases.here) _ c.phases-test.false c.phases.invariant
