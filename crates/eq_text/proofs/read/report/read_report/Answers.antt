use Rattle.eq_text.proofs.Reports.{is_found, is_only, is_fault}
use Rattle.eq_text.proofs.read.report.read_report.Goals as goal

pub returns-clause-found : goal.returns-clause-found
returns-clause-found c = is_found c.args.bytes.now c.all.result c.all.ensures

pub returns-clause-only : goal.returns-clause-only
returns-clause-only c = λ r fits e. is_only c.args.bytes.now c.all.result c.all.ensures r fits e

pub returns-clause-line : goal.returns-clause-line
returns-clause-line c = is_fault c.args.bytes.now c.all.result c.all.ensures
