use Rattle.std.specs.List.{concat}
use Rattle.cef_box.proofs.Kept.{phase_member}
use Rattle.cef_box.proofs.Raised.{all_within, corner_same}
use Rattle.cef_box.proofs.Tightened.{corner_is_member}
use Rattle.cef_box.proofs.corner.corner_point.Goals as goal

pub corner_in-requires-clause-within : goal.corner_in-requires-clause-within
corner_in-requires-clause-within c = all_within _ _ _ c.args.range.now c.args.out.now c.flat-flat.ensures.flat c.flat-flat.ensures.exact c.requires.shape

pub returns-clause-of_phase : goal.returns-clause-of_phase
returns-clause-of_phase c =
    let exact = corner_same c.args.phase.now.lattice c.flat-flat.result.ends.now c.flat-flat.result.low.now c.flat-flat.result.high.now (concat c.args.out.now) c.args.range.now c.args.out.now c.corner_in.new.out c.flat-flat.ensures.exact c.requires.shape c.corner_in.ensures.shaped c.corner_in.ensures.counts in
    λ e. phase_member c.args.phase.now c.args.range.now c.corner_in.new.out e (corner_is_member c.args.phase.now.lattice c.args.range.now c.corner_in.new.out c.requires.has_site exact)
