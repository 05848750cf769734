use Rattle.std.proofs.Common.{[], refl}
use Rattle.cal_job.specs.declared.order.Order.TheVariants as order
use Rattle.cal_top.specs.Replies.{equilibrium}
use Rattle.cal_top.proofs.Replying.{loaded_is, first_refused, over_one}
use Rattle.cal_top.proofs.orders.solve.Goals as goal

pub returns-in-Refused-clause-reply : goal.returns-in-Refused-clause-reply
returns-in-Refused-clause-reply g c =
    first_refused _ (order.Equilibrium c.args.asked.now) _ [] c.in-Refused.reply refl (loaded_is _ _ _ _ c.in-Refused.is (rw c.as_str.ensures.value at c.in_ok-found.ensures.loaded))

pub over_bytes-requires-clause-limit : goal.over_bytes-requires-clause-limit
over_bytes-requires-clause-limit g c =
    let is = loaded_is _ _ _ _ c.in-Bytes.is (rw c.as_str.ensures.value at c.in_ok-found.ensures.loaded) in
    rw c.as_slice.ensures.value is.are.short

pub returns-in_ok-reply-in-Bytes-clause-reply : goal.returns-in_ok-reply-in-Bytes-clause-reply
returns-in_ok-reply-in-Bytes-clause-reply g c =
    let is = loaded_is _ _ _ _ c.in-Bytes.is (rw c.as_str.ensures.value at c.in_ok-found.ensures.loaded) in
    over_one _ (order.Equilibrium c.args.asked.now) _ c.in-Bytes.bytes.items _ _ refl is.are
    (equilibrium c.args.asked.now c.in-Bytes.bytes.items (rw c.as_slice.ensures.value at c.in_ok-reply-in-Bytes.ensures))
