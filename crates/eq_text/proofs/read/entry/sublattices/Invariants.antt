use Rattle.std.proofs.Common.{◌≡◌, ◌+◌, ◌≤◌, drop, map, length, []}
use Rattle.std.specs.List.{concat}
use Rattle.eq_text.specs.Kinds.{parts}
use Rattle.eq_text.proofs.read.entry.sublattices.Given as goal

abbrev pub invariant-words : goal.invariant-words
invariant-words l = record {
  counted : l.counts ≡ length (concat l.site) + length l.part;
  few : l.counts ≤ l.word-index;
  on : parts l.site l.part (map (λ w. w.now) (drop l.word-index l.words)) ≡ parts [] [] (map (λ w. w.now) l.words);
}
