use Rattle.std.proofs.Common.{◌≡◌, ℕ, List, [], ◌∷◌, ◌++◌, Some, sym, ap, ◌∙◌, arith}
use Rattle.eq_text.specs.Kinds.{only_if, is_small}
use Rattle.eq_text.proofs.Counts.{counts_cut_early, counts_cut, counts_none, counts_some, counts_end, counts_in, counts_on}
use Rattle.eq_text.proofs.read.entry.sublattices.Goals as goal
use Rattle.eq_text.proofs.read.entry.sublattices.Goals.{then-is_word+else-len-eq0+in_ok-site, else-is_word+in-Some+in_ok-push}

pub returns-then-len-eq0 : goal.returns-then-len-eq0
returns-then-len-eq0 c = ap (only_if is_small) (counts_cut_early (λ w. w.now) c.words.site c.words.part c.args.words.now c.words.word-index _ c.words-test.true _ (sym c.if-is_word.ensures) (omega arith) c.words.invariant.on)

pub returns-in_default : goal.returns-in_default
returns-in_default c = ap (only_if is_small) (counts_none (λ w. w.now) c.words.site c.words.part c.args.words.now c.words.word-index _ c.words-test.true _ (sym c.if-is_word.ensures) (sym (rw c.from.ensures at c.natural_of.ensures.value) ∙ c.in_default.is) c.words.invariant.on)

pub words-preserved : goal.words-preserved
words-preserved c =
    elim c.if-is_word.branch [
      | then-is_word+else-len-eq0+in_ok-site w ↦
          rw (w.site-is, w.part-is, w.counts-is, w.in_ok-site.ensures, w.as_slice.ensures, w.new-part-then-is_word.ensures)
          (record {
            counted = omega (arith, c.words.invariant.counted, counts_in c.words.site c.words.part);
            few = omega (arith, c.words.invariant.few);
            on = counts_cut (λ w. w.now) c.words.site c.words.part c.args.words.now c.words.word-index _ c.words-test.true _ (sym c.is_word.ensures ∙ w.if-is_word.true) (λ e. omega (arith, e, w.len.ensures, w.if-len-eq0.false)) c.words.invariant.on;
          })
      | else-is_word+in-Some+in_ok-push w ↦
          rw (w.site-is, w.part-is, w.counts-is, w.in_ok-push.ensures.ok)
          (record {
            counted = counts_on c.words.counts c.words.site c.words.part _ c.words.invariant.counted;
            few = omega (arith, c.words.invariant.few);
            on = counts_some (λ w. w.now) c.words.site c.words.part c.args.words.now c.words.word-index _ _ c.words-test.true _ (sym c.is_word.ensures ∙ w.if-is_word.false) (sym (rw w.from.ensures at w.natural_of.ensures.value) ∙ w.in-Some.is) c.words.invariant.on;
          })
    ]

pub returns-then-len-eq0-2 : goal.returns-then-len-eq0-2
returns-then-len-eq0-2 c = ap (only_if is_small) ((counts_end (λ w. w.now) c.words.site c.words.part c.args.words.now c.words.word-index c.words-test.false _ c.words.invariant.on).0 (omega arith))

pub if_small-requires : goal.if_small-requires
if_small-requires c = c.words.invariant.counted ∙ rw (c.in_ok-site-2.ensures, c.as_slice-2.ensures) (sym (counts_in c.words.site c.words.part))

pub returns : goal.returns
returns c =
    let made : List (List ℕ) = c.words.site ++ c.words.part ∷ [] in
    let is : c.in_ok-site-2.site ≡ made = c.in_ok-site-2.ensures ∙ ap (λ (p : List ℕ). c.words.site ++ p ∷ []) c.as_slice-2.ensures in
    c.if_small.ensures ∙ ap (λ (site : List (List ℕ)). only_if is_small (Some site)) is ∙ ap (only_if is_small) ((counts_end (λ w. w.now) c.words.site c.words.part c.args.words.now c.words.word-index c.words-test.false _ c.words.invariant.on).1 (λ e. omega (arith, e)))
