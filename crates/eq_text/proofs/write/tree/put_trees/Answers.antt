use Rattle.std.proofs.Common.{◌<◌, length, arith, sym, [], refl}
use Rattle.std.proofs.lemmas.Option.{slice_get_read, get_or_from_slice_get}
use Rattle.eq_text.proofs.Joined.{trees-next, trees-none}
use Rattle.eq_text.proofs.write.tree.put_trees.Goals as goal

pub trees-init : goal.trees-init
trees-init c = trees-none c.args.phases.now c.args.trees.now c.args.out.now.items

pub trees-preserved : goal.trees-preserved
trees-preserved c =
    let in_phases : c.trees.place < length c.args.phases.now = omega arith in
    trees-next c.args.phases.now c.args.trees.now c.trees.place c.index-phases-place.result c.index-trees-place.result c.args.out.now.items c.trees.out.items c.put_tree.new.out.items in_phases c.trees-test.true (get_or_from_slice_get c.args.phases.now c.trees.place c.index-phases-place.result [] (slice_get_read _ _ _ _ refl in_phases c.index-phases-place.is)) (sym c.index-trees-place.is) c.trees.invariant c.in_ok-put_tree.ensures
