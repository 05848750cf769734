use Rattle.std.proofs.Common.{length, ap, arith}
use Rattle.eq_cert.specs.First.{IsFirstWrong}
use Rattle.eq_cert.specs.Rules.{IsRightEntryAt, HasPhases}
use Rattle.eq_cert.proofs.Order.{wrong_entry}
use Rattle.eq_cert.proofs.Sized.{widest_some}
use Rattle.eq_cert.proofs.head.broken_head.Goals as goal

pub returns-in-Some-clause-some : goal.returns-in-Some-clause-some
returns-in-Some-clause-some g c =
    let first : IsFirstWrong (IsRightEntryAt c.args.system.now.phases c.args.report.now.entries) c.in-Some.place = rw (← c.as_slice-4.ensures, ← c.as_slice-3.ensures) c.in-Some.ensures.exact in
    let phases : HasPhases c.args.system.now c.args.report.now = rw (← c.as_slice.ensures, ← c.as_slice-2.ensures) c.if-not-are_names_of.ensures.yes in
    wrong_entry c.args.system.now c.args.report.now c.in-Some.place c.if-not-has_elements.ensures.yes phases (omega (arith, c.in-Some.ensures.within, ap length c.as_slice-4.ensures)) first.before first.wrong

pub broken_numbers-requires-clause-widest : goal.broken_numbers-requires-clause-widest
broken_numbers-requires-clause-widest g c = widest_some c.args.system.now c.requires.system
