use Rattle.std.proofs.Common.{◌≡◌, ◌∷◌, [], refl}
use Rattle.cal_job.specs.declared.order.Order.TheVariants as order
use Rattle.cal_top.proofs.Replying.{loaded_is, first_refused, second}
use Rattle.cal_top.proofs.orders.check.Goals as goal

pub returns-in-Refused-clause-reply : goal.returns-in-Refused-clause-reply
returns-in-Refused-clause-reply g c =
    first_refused _ (order.Check c.args.asked.now) _ _ c.in-Refused.reply refl (loaded_is _ _ _ _ c.in-Refused.is (rw c.as_str.ensures.value at c.in_ok-found.ensures.loaded))

pub check_over-requires : goal.check_over-requires
check_over-requires g c =
    let is = loaded_is _ _ _ _ c.in-Bytes.is (rw c.as_str.ensures.value at c.in_ok-found.ensures.loaded) in
    rw c.as_slice.ensures.value is.are.short

pub returns-in_ok-reply-in-Bytes-clause-reply : goal.returns-in_ok-reply-in-Bytes-clause-reply
returns-in_ok-reply-in-Bytes-clause-reply g c =
    let is = loaded_is _ _ _ _ c.in-Bytes.is (rw c.as_str.ensures.value at c.in_ok-found.ensures.loaded) in
    second (g.L.Library.told c.args.files.now) _ _ _ _ _ _ c.args.asked.now c.in-Bytes.database.items _ c.in_ok-found.ensures.later is
    (rw (c.as_slice.ensures.value, c.in_ok-found.ensures.told) at c.in_ok-reply-in-Bytes.ensures.second)
