use Rattle.std.proofs.Common.{map, string_bytes}
use Rattle.cal_args.proofs.Building.{free_from, held_from, not_taken, taken}
use Rattle.cal_args.proofs.Required.{each_required}
use Rattle.cal_args.proofs.matching.matched.Goals as goal

pub returns-in-Ok-clause-held : goal.returns-in-Ok-clause-held
returns-in-Ok-clause-held c = held_from _ _ _ c.in-Ok.matches _ c.in_ok-command.ensures c.in-Ok.ensures.matches

pub returns-in-Ok-clause-given : goal.returns-in-Ok-clause-given
returns-in-Ok-clause-given c = each_required _ _ _ c.in_ok-command.ensures c.in-Ok.matches c.in-Ok.ensures.parsed c.requires.table

pub returns-in-Ok-clause-taken : goal.returns-in-Ok-clause-taken
returns-in-Ok-clause-taken c =
    taken _ _ _ (map (λ word. string_bytes word) c.args.words.now) c.in_ok-command.ensures (c.in-Ok.ensures.kinds (free_from _ _ _ c.in_ok-command.ensures))

pub returns-in-Err-clause-usage : goal.returns-in-Err-clause-usage
returns-in-Err-clause-usage c usage =
    not_taken _ _ _ (map (λ word. string_bytes word) c.args.words.now) c.in-Err.error c.in_ok-command.ensures
    (c.in-Err.ensures.kinds (free_from _ _ _ c.in_ok-command.ensures)) (c.fault.ensures (cc))
