use Rattle.std.proofs.Common.{rules}
use Rattle.eq_cert.specs.Rules.{Keeps}
use Rattle.eq_cert.specs.Faults.{IsFault}
use Rattle.eq_cert.specs.declared.fault.CertFault.TheVariants.{Broken}
use Rattle.cal_check.proofs.Judged.{broken_first}
use Rattle.cal_check.proofs.reporting.judge_report.Goals as goal

pub returns-in-Err-Broken-clause-fault : goal.returns-in-Err-Broken-clause-fault
returns-in-Err-Broken-clause-fault c =
    let is : IsFault (Keeps c.in-Ok.system c.args.report.now) c.args.first_line (Broken c.in-Err-Broken.rule c.in-Err-Broken.line) = search rules in
    broken_first c.args.db.now c.args.first_line c.args.report.now c.in-Ok.system c.in-Err-Broken.rule c.in-Err-Broken.line is.0
    c.some_outcome.ensures c.requires.functions c.in-Ok.ensures.given is.1 is.2
