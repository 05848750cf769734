use Rattle.path_text.proofs.Documents as documents
use Rattle.path_text.proofs.law.one_document.Goals as goal

pub returns : goal.returns
returns c = documents.one_document
