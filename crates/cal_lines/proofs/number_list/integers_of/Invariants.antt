use Rattle.std.proofs.Common.{◌≡◌, drop, map}
use Rattle.cal_lines.specs.Kinds.{all_integers}
use Rattle.cal_lines.proofs.Steps.{with_front}
use Rattle.cal_lines.proofs.number_list.integers_of.Given as goal

abbrev pub invariant-words : goal.invariant-words
invariant-words l = with_front l.all (all_integers l.limit (map (λ w. w.now) (drop l.word-index l.words))) ≡ all_integers l.limit (map (λ w. w.now) l.words)
