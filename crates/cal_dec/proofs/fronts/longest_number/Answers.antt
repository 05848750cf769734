use Rattle.std.proofs.Common.{sym, ap, ◌∙◌}
use Rattle.std.specs.Option.{option_map}
use Rattle.cal_dec.proofs.Longest.{none_found, found_shorter, longest_found}
use Rattle.cal_dec.proofs.fronts.longest_number.Goals as goal

pub returns-in-None-clause-none : goal.returns-in-None-clause-none
returns-in-None-clause-none c = none_found c.args.text.now (sym c.behind_number.ensures ∙ ap (option_map (λ r. r.now)) c.in-None.is)

pub overflow_sub-text : goal.overflow_sub-text
overflow_sub-text c = found_shorter c.args.text.now c.in-Some.rest.now (sym c.behind_number.ensures ∙ ap (option_map (λ r. r.now)) c.in-Some.is)

pub returns-in-Some-clause-found : goal.returns-in-Some-clause-found
returns-in-Some-clause-found c = longest_found c.args.text.now c.in-Some.rest.now _ _ (sym c.behind_number.ensures ∙ ap (option_map (λ r. r.now)) c.in-Some.is) c.split_at.ensures.front c.split_at.ensures.back
