use Rattle.std.proofs.Common.{sym, ap, ◌∙◌}
use Rattle.std.specs.Prelude.{map}
use Rattle.std.specs.Option.{option_map}
use Rattle.tdb_expr.specs.Parts.{term_of}
use Rattle.tdb_expr.proofs.Readings.{sum_reading, sum_form, no_sum_reading}
use Rattle.tdb_expr.proofs.sum.read_expr.Goals as goal

pub returns-in-None-clause-reading : goal.returns-in-None-clause-reading
returns-in-None-clause-reading c = no_sum_reading c.args.text.now (sym (ap (option_map (map term_of)) c.in-None.is) ∙ c.in_ok-found.ensures)

pub returns-in-Some-clause-reading : goal.returns-in-Some-clause-reading
returns-in-Some-clause-reading c = rw c.compact.ensures (sum_reading c.args.text.now c.in-Some.products (sym (ap (option_map (map term_of)) c.in-Some.is) ∙ c.in_ok-found.ensures))

pub returns-in-Some-clause-form : goal.returns-in-Some-clause-form
returns-in-Some-clause-form c = rw c.compact.ensures (sum_form c.args.text.now c.in-Some.products (sym (ap (option_map (map term_of)) c.in-Some.is) ∙ c.in_ok-found.ensures))
