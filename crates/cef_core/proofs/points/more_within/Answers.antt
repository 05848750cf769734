use Rattle.std.proofs.Common.{◌∙◌}
use Rattle.cef_core.proofs.Product.{more-none}
use Rattle.cef_core.proofs.points.more_within.Goals as goal

pub returns-in_err-lists : goal.returns-in_err-lists
returns-in_err-lists c = c.from_residual.ensures ∙ more-none c.args.points c.args.sites c.args.lattice c.requires.one c.in_err-lists.ensures
