use Rattle.std.proofs.Common.{rules, SFits, arith, slice_index_or, pos, ◌≡◌, ◌∙◌, ap, ℕ, ◌+◌, List, length}
use Rattle.std.specs.Prelude.{ℤ, ◌+ℤ◌, ◌-ℤ◌}
use Rattle.std.specs.Int.{w128}
use Rattle.std.proofs.lemmas.Int.{to_z-of_z}
use Rattle.std.proofs.lemmas.List.{length_push}
use Rattle.cal_math.specs.Vectors.{at}
use Rattle.cal_scheil.proofs.Numbers.{each_pushed, AreMoved-all}
use Rattle.cal_scheil.proofs.account.moved.Goals as goal

pub places-preserved : goal.places-preserved
places-preserved c =
    let fits_sum : SFits w128 (slice_index_or c.args.sums.now c.places.place (pos 0)) = search rules in
    let fits_more : SFits w128 (slice_index_or c.args.more.now c.places.place (pos 0)) = search rules in
    let fits_less : SFits w128 (slice_index_or c.args.less.now c.places.place (pos 0)) = search rules in
    let fits : SFits w128 c.moved_one-sum.result = search rules in
    let is = simp to_z-of_z at c.moved_one-sum.ensures in
    let items = simp to_z-of_z at c.in_ok-push.ensures.ok in
    record {
      same = ap (λ (l : List ℤ). length l) items ∙ length_push c.places.all c.moved_one-sum.result ∙ ap (λ (n : ℕ). n + 1) c.places.invariant.same;
      is = each_pushed (λ b v. v ≡ at c.args.sums.now b +ℤ (at c.args.more.now b -ℤ at c.args.less.now b)) c.places.all c.push.new.self c.moved_one-sum.result c.places.place c.places.invariant.same items c.places.invariant.is is;
    }

pub returns : goal.returns
returns c = AreMoved-all c.args.sums.now c.args.more.now c.args.less.now c.places.all c.places.place c.places-test.false c.requires.more_each c.requires.less_each (omega (arith, c.places.invariant.same, c.places-test.false, c.places.auto.place-end)) c.places.invariant.is
