use Rattle.std.proofs.Common.{map}
use Rattle.cal_lines.proofs.Spelled.{integers_found, integers_all}
use Rattle.cal_lines.proofs.number_list.all_integers.Goals as goal

pub returns-clause-found : goal.returns-clause-found
returns-clause-found c = integers_found c.args.limit (map (λ w. w.now) c.args.words.now) _ c.requires c.in_ok-found.ensures

pub returns-clause-all : goal.returns-clause-all
returns-clause-all c = integers_all c.args.limit (map (λ w. w.now) c.args.words.now) _ c.requires c.in_ok-found.ensures
