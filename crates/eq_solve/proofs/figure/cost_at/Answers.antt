use Rattle.std.proofs.Common.{rules, SFits, sym}
use Rattle.std.specs.Int.{w128}
use Rattle.std.proofs.lemmas.Int.{to_z-of_z}
use Rattle.eq_solve.proofs.Amounts.{cost_read}
use Rattle.eq_solve.proofs.figure.cost_at.Goals as goal

pub returns : goal.returns
returns c =
    let fits : SFits w128 c.index-columns-place.result.cost = search rules in
    simp to_z-of_z (sym (cost_read c.args.columns.now c.args.place c.index-columns-place.result c.requires c.index-columns-place.is))
