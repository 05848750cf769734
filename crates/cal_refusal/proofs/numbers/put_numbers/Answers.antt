use Rattle.std.proofs.Common.{rules, ◌≡◌, get_or}
use Rattle.std.specs.Prelude.{pos}
use Rattle.cal_refusal.specs.Refusals.{spaced}
use Rattle.cal_refusal.proofs.Spacing.{spaced_none, spaced_on, spaced_end}
use Rattle.cal_refusal.proofs.numbers.put_numbers.Goals as goal

pub numbers-init : goal.numbers-init
numbers-init c = spaced_none c.args.text.now.items c.args.numbers.now

pub numbers-preserved : goal.numbers-preserved
numbers-preserved c =
    let word : c.as_bytes.result.now ≡ spaced (get_or c.args.numbers.now c.numbers.number-index (pos 0)) = search rules in
    spaced_on c.args.text.now.items c.numbers.text.items c.extend_from_slice.new.self.items c.as_bytes.result.now c.args.numbers.now c.numbers.number-index _
    c.numbers-test.true word c.in_ok-extend_from_slice.ensures.items c.numbers.invariant
