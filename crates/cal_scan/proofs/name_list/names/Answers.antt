use Rattle.std.proofs.Common.{map}
use Rattle.cal_scan.proofs.NameLists.{names_found, names_all}
use Rattle.cal_scan.proofs.name_list.names.Goals as goal

pub returns-clause-found : goal.returns-clause-found
returns-clause-found c = names_found c.args.most (map (λ w. w.now) c.args.words.now) _ c.in_ok-names.ensures

pub returns-clause-all : goal.returns-clause-all
returns-clause-all c = names_all c.args.most (map (λ w. w.now) c.args.words.now) _ c.in_ok-names.ensures
