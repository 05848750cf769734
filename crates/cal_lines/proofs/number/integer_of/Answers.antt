use Rattle.cal_lines.proofs.Spelled.{integer_found, integer_all}
use Rattle.cal_lines.proofs.number.integer_of.Goals as goal

pub returns-clause-found : goal.returns-clause-found
returns-clause-found c = integer_found c.args.limit c.args.word.now _ c.requires c.signed_number.ensures

pub returns-clause-all : goal.returns-clause-all
returns-clause-all c = integer_all c.args.limit c.args.word.now _ c.requires c.signed_number.ensures
