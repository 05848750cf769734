use Rattle.cal_lines.proofs.Spelled.{natural_found, natural_all}
use Rattle.cal_lines.proofs.number.natural_of.Goals as goal

pub returns-clause-found : goal.returns-clause-found
returns-clause-found c = natural_found c.args.limit c.args.word.now _ c.requires c.plain_number.ensures

pub returns-clause-all : goal.returns-clause-all
returns-clause-all c = natural_all c.args.limit c.args.word.now _ c.requires c.plain_number.ensures
