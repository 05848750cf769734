use Rattle.std.proofs.Common.{inl, inr}
use Rattle.cal_top.proofs.Replying.{loaded_is}
use Rattle.cal_top.proofs.orders.check_over.Goals as goal

pub returns-in-Refused-clause-second : goal.returns-in-Refused-clause-second
returns-in-Refused-clause-second g c = inl (loaded_is _ _ _ _ c.in-Refused.is (rw c.as_str.ensures.value at c.in_ok-found.ensures.loaded))

pub checked-requires-clause-report : goal.checked-requires-clause-report
checked-requires-clause-report g c =
    let is = loaded_is _ _ _ _ c.in-Bytes.is (rw c.as_str.ensures.value at c.in_ok-found.ensures.loaded) in
    rw c.as_slice.ensures.value is.are.short

pub returns-in_ok-reply-in-Bytes-clause-second : goal.returns-in_ok-reply-in-Bytes-clause-second
returns-in_ok-reply-in-Bytes-clause-second g c =
    let is = loaded_is _ _ _ _ c.in-Bytes.is (rw c.as_str.ensures.value at c.in_ok-found.ensures.loaded) in
    inr (record { report = c.in-Bytes.report.items; are = is.are; over = rw c.as_slice.ensures.value at c.in_ok-reply-in-Bytes.ensures })
