use Rattle.std.proofs.Common.{length, ap, sym, ◌∙◌, subst, rules, SFits}
use Rattle.std.specs.Int.{w128}
use Rattle.std.proofs.lemmas.Int.{to_z-of_z}
use Rattle.lp_stage.specs.Stages.{IsKnown, cost_at}
use Rattle.lp_stage.proofs.Moving.{cost_read}
use Rattle.lp_stage.proofs.stage.place_cost.Goals as goal

pub returns-in-Some : goal.returns-in-Some
returns-in-Some c =
    let lt = subst (IsKnown (length c.args.columns.now)) c.in-Some.is c.requires in
    let fits : SFits w128 c.cost_of.result = search rules in
    simp to_z-of_z (c.cost_of.ensures ∙ sym (cost_read c.args.phase c.args.columns.now c.in-Some.k c.index-columns-k.result lt c.index-columns-k.is) ∙ ap (cost_at c.args.phase c.args.columns.now) (sym c.in-Some.is))
