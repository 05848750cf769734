use Rattle.std.proofs.Common.{◌≡◌, ◌==◌, ◌+◌, Some, position, take, drop, List, ℕ, refl, ap, ◌∙◌, rules}
use Rattle.std.proofs.lemmas.List.{drop-drop}
use Rattle.cal_scan.specs.Cuts.{cut_at}
use Rattle.cal_scan.proofs.cuts.cut_at.Goals as goal

pub returns-in-Some : goal.returns-in-Some
unfolding cut_at
returns-in-Some c =
    let found : position (λ b. b == c.args.mark) c.args.text.now ≡ Some c.in-Some.place = search rules in
    let behind : c.split_at-in-Some.result.1.now ≡ drop (c.in-Some.place + 1) c.args.text.now =
    c.split_at-in-Some.ensures.back ∙ ap (λ (rest : List ℕ). drop 1 rest) c.split_at.ensures.back ∙ drop-drop 1 c.in-Some.place c.args.text.now in
    rw (found, c.split_at.ensures.front, behind) refl
