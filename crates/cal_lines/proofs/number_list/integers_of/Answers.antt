use Rattle.std.proofs.lemmas.Int.{to_z-of_z}
use Rattle.std.specs.Int.{w128}
use Rattle.std.proofs.Common.{SFits, rules, sym, ◌∙◌}
use Rattle.cal_lines.proofs.Steps.{integer_none, integer_some, integers_end}
use Rattle.cal_lines.proofs.number_list.integers_of.Goals as goal

pub returns-in_default : goal.returns-in_default
returns-in_default c = integer_none (λ w. w.now) c.args.limit c.words.word-index c.words.all c.args.words.now _ _ c.words-test.true (sym c.in_default.is ∙ c.integer_of.ensures.value) c.words.invariant

pub words-preserved : goal.words-preserved
words-preserved c =
    let fits : SFits w128 c.in-Some.value = search rules in
    rw c.in_ok-push.ensures.ok (simp to_z-of_z (integer_some (λ w. w.now) c.args.limit c.words.word-index c.words.all c.args.words.now _ _ _ c.words-test.true (sym c.in-Some.is ∙ c.integer_of.ensures.value) c.words.invariant))

pub returns : goal.returns
returns c = integers_end (λ w. w.now) c.args.limit c.words.word-index c.words.all c.args.words.now _ c.words-test.false c.words.invariant
