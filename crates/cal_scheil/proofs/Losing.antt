-- What a step loses of an element is small.
use Rattle.std.proofs.Common.{◌≡◌, ℕ, ◌*◌, ◌<◌, List, length, ap, arith}
use Rattle.std.specs.Prelude.{ℤ, pos, ◌-ℤ◌, ◌≤ℤ◌, ◌<ℤ◌}
use Rattle.std.proofs.lemmas.Int.{ints}
use Rattle.cal_math.specs.Vectors.{at}
use Rattle.cef_report.specs.declared.report.Report.{Report}
use Rattle.tdb_read.specs.Database.{Database}
use Rattle.cal_scheil.specs.declared.account.Account.{Account}
use Rattle.cal_scheil.specs.declared.job.PathJob.{PathJob}
use Rattle.cal_scheil.specs.Steps.{Makes, LossIsSmall}

pub loss_is_small : LossIsSmall
loss_is_small db job before after report left makes c lt =
    let same = ap (λ (xs : List ℤ). at xs c) makes.answers.holds.asked_are in
    let above = makes.answers.certified.none_above c lt in
    let below = makes.answers.holds.not_below c lt in
    let small = makes.answers.near.tolerance_small in
    (omega (arith, ints, above), omega (arith, ints, same, below, small))
