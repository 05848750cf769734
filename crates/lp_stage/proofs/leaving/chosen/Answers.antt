use Rattle.std.proofs.Common.{refl, rules, SFits, inl, inr}
use Rattle.std.specs.Int.{w128}
use Rattle.std.proofs.lemmas.Int.{to_z-of_z}
use Rattle.lp_stage.specs.Leaving.{newer, older, tied}
use Rattle.lp_stage.proofs.leaving.chosen.Goals as goal

pub returns-then-is_before : goal.returns-then-is_before
returns-then-is_before c =
    let fits_old : SFits w128 c.args.old.met = search rules in
    let fits_next : SFits w128 c.args.next.met = search rules in
    newer refl (simp (to_z-of_z, c.deref.ensures.value, c.deref-2.ensures.value) at c.if-is_before.ensures.yes)

pub returns-else-is_before : goal.returns-else-is_before
returns-else-is_before c =
    let fits_old : SFits w128 c.args.old.met = search rules in
    let fits_next : SFits w128 c.args.next.met = search rules in
    elim (simp (to_z-of_z, c.deref.ensures.value, c.deref-2.ensures.value) at c.if-is_before.ensures.no) [
      | inl above ↦ older refl above
      | inr same ↦ tied same
    ]
