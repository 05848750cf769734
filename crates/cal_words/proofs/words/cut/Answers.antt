use Rattle.std.proofs.Common.{rules, ◌≡◌, ◌==◌, ◌+◌, Some, position, take, drop, List, ℕ, ap, ◌∙◌}
use Rattle.std.proofs.lemmas.List.{drop-drop}
use Rattle.cal_words.proofs.Parts.{parts_of-first}
use Rattle.cal_words.proofs.words.cut.Goals as goal

pub returns-in-Some-clause-parts : goal.returns-in-Some-clause-parts
returns-in-Some-clause-parts c =
    let e : position (λ byte. byte == 95) c.args.text.now ≡ Some c.in-Some.at = search rules in
    let front : c.split_at.result.0.now ≡ take c.in-Some.at c.args.text.now = search rules in
    let back : c.split_at-in-Some.result.1.now ≡ drop (c.in-Some.at + 1) c.args.text.now = c.split_at-in-Some.ensures.back ∙ ap (λ (rest : List ℕ). drop 1 rest) c.split_at.ensures.back ∙ drop-drop 1 c.in-Some.at c.args.text.now in
    rw (front, back) (parts_of-first c.args.text.now c.in-Some.at e)
