use Rattle.std.proofs.Common.{[], refl}
use Rattle.cal_job.specs.declared.order.Order.TheVariants as order
use Rattle.cal_top.proofs.Replying.{loaded_is, first_refused, begins_reply}
use Rattle.cal_top.proofs.orders.follow.Goals as goal

pub returns-in-Refused-clause-reply : goal.returns-in-Refused-clause-reply
returns-in-Refused-clause-reply g c =
    first_refused _ (order.Scheil c.args.asked) _ [] c.in-Refused.reply refl (loaded_is _ _ _ _ c.in-Refused.is (rw c.as_str.ensures.value at c.in_ok-found.ensures.loaded))

pub begun-requires-clause-limit : goal.begun-requires-clause-limit
begun-requires-clause-limit g c =
    let is = loaded_is _ _ _ _ c.in-Bytes.is (rw c.as_str.ensures.value at c.in_ok-found.ensures.loaded) in
    rw c.as_slice.ensures.value is.are.short

pub returns-in_ok-answer-in-Bytes-clause-reply : goal.returns-in_ok-answer-in-Bytes-clause-reply
returns-in_ok-answer-in-Bytes-clause-reply g c =
    let is = loaded_is _ _ _ _ c.in-Bytes.is (rw c.as_str.ensures.value at c.in_ok-found.ensures.loaded) in
    begins_reply _ c.args.asked c.in-Bytes.bytes.items c.in_ok-answer-in-Bytes.answer is.are (rw c.as_slice.ensures.value at c.in_ok-answer-in-Bytes.ensures)
