use Rattle.std.proofs.Common.{rules}
use Rattle.cef_box.specs.Cuts.{IsCut}
use Rattle.cef_box.proofs.Cutting.{cut_parts}
use Rattle.cef_box.proofs.Kept.{part_fits, part_shape}
use Rattle.cef_box.proofs.Parted.{cuttable_within}
use Rattle.cef_box.proofs.splitting.split.Goals as goal

pub range_at-whole-requires : goal.range_at-whole-requires
range_at-whole-requires c = cuttable_within c.args.range.now c.args.place c.args.cut c.requires.cuttable

pub narrow-requires-clause-within : goal.narrow-requires-clause-within
narrow-requires-clause-within c = rw c.copy_from.ensures (cuttable_within c.args.range.now c.args.place c.args.cut c.requires.cuttable)

pub narrow-requires-2-clause-within : goal.narrow-requires-2-clause-within
narrow-requires-2-clause-within c = rw c.copy_from-2.ensures (cuttable_within c.args.range.now c.args.place c.args.cut c.requires.cuttable)

pub returns-clause-parts : goal.returns-clause-parts
returns-clause-parts c =
    let cut : IsCut c.args.phase.now.lattice c.args.range.now c.args.place c.args.cut c.narrow.new.self c.narrow-2.new.self = search rules in
    (cut_parts c.args.phase.now.lattice c.args.range.now c.args.place c.args.cut _ _ c.requires.has_site c.requires.tight cut).0

pub returns-clause-left_tight : goal.returns-clause-left_tight
returns-clause-left_tight c =
    let cut : IsCut c.args.phase.now.lattice c.args.range.now c.args.place c.args.cut c.narrow.new.self c.narrow-2.new.self = search rules in
    (cut_parts c.args.phase.now.lattice c.args.range.now c.args.place c.args.cut _ _ c.requires.has_site c.requires.tight cut).1

pub returns-clause-right_tight : goal.returns-clause-right_tight
returns-clause-right_tight c =
    let cut : IsCut c.args.phase.now.lattice c.args.range.now c.args.place c.args.cut c.narrow.new.self c.narrow-2.new.self = search rules in
    (cut_parts c.args.phase.now.lattice c.args.range.now c.args.place c.args.cut _ _ c.requires.has_site c.requires.tight cut).2

pub returns-clause-left_fits : goal.returns-clause-left_fits
returns-clause-left_fits c =
    let cut : IsCut c.args.phase.now.lattice c.args.range.now c.args.place c.args.cut c.narrow.new.self c.narrow-2.new.self = search rules in
    let parts = cut_parts c.args.phase.now.lattice c.args.range.now c.args.place c.args.cut _ _ c.requires.has_site c.requires.tight cut in
    λ fits. part_fits c.args.phase.now c.args.range.now c.narrow.new.self parts.0.left_has parts.1 (part_shape _ _ _ _ _ cut.left_is) fits

pub returns-clause-right_fits : goal.returns-clause-right_fits
returns-clause-right_fits c =
    let cut : IsCut c.args.phase.now.lattice c.args.range.now c.args.place c.args.cut c.narrow.new.self c.narrow-2.new.self = search rules in
    let parts = cut_parts c.args.phase.now.lattice c.args.range.now c.args.place c.args.cut _ _ c.requires.has_site c.requires.tight cut in
    λ fits. part_fits c.args.phase.now c.args.range.now c.narrow-2.new.self parts.0.right_has parts.2 (part_shape _ _ _ _ _ cut.right_is) fits
