use Rattle.path_text.proofs.Documents.{is_found, is_only, is_fault}
use Rattle.path_text.proofs.document.read_document.Goals as goal

pub returns-clause-found : goal.returns-clause-found
returns-clause-found c = is_found c.args.bytes.now c.all.result c.all.ensures.reads c.all.ensures.stands

pub returns-clause-only : goal.returns-clause-only
returns-clause-only c = λ d fits e. is_only c.args.bytes.now c.all.result c.all.ensures.reads c.all.ensures.stands d fits e

pub returns-clause-line : goal.returns-clause-line
returns-clause-line c = is_fault c.args.bytes.now c.all.result c.all.ensures.reads
