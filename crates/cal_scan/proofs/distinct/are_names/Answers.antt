use Rattle.std.proofs.Common.{sym}
use Rattle.cal_scan.proofs.Neighbours.{no_names, names_once}
use Rattle.cal_scan.proofs.distinct.are_names.Goals as goal

pub returns-then-not-are_all_names : goal.returns-then-not-are_all_names
returns-then-not-are_all_names c = no_names (λ w. w.now) c.args.words.now (sym c.if-not-are_all_names.ensures)

pub returns : goal.returns
returns c = names_once (λ w. w.now) c.args.words.now c.in_ok-distinct.distinct (sym c.if-not-are_all_names.ensures) c.in_ok-distinct.ensures
