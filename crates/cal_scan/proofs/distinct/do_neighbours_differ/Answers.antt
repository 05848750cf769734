use Rattle.std.proofs.Common.{sym, arith, ◌≡◌, true, false, refl}
use Rattle.cal_scan.proofs.Neighbours.{neighbours_same, neighbours_more}
use Rattle.cal_scan.proofs.distinct.do_neighbours_differ.Goals as goal

pub returns-then-is_word : goal.returns-then-is_word
returns-then-is_word c = (λ h. let bad : false ≡ true = h in absurd cc, λ all. absurd (neighbours_same (λ w. w.1.now) c.args.words.now c.places.place _ _ c.places.auto.place c.places-test.true (sym c.if-is_word.ensures) all))

pub places-preserved : goal.places-preserved
places-preserved c = neighbours_more (λ w. w.1.now) c.args.words.now c.places.place _ _ c.places.auto.place c.places-test.true (sym c.if-is_word.ensures) c.places.invariant

pub returns : goal.returns
returns c = (λ h k d lt. c.places.invariant k d (omega (arith, c.places-test.false, lt)), λ all. refl)
