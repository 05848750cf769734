use Rattle.eq_text.proofs.Spaced.{names_written}
use Rattle.eq_text.proofs.write.line.put_names_line.Goals as goal

pub returns : goal.returns
returns c = names_written c.args.key.now c.args.names.now c.names.name-index _ _ _ c.names-test.false c.names.invariant c.in_ok-push.ensures.items
