use Rattle.std.proofs.Common.{◌∙◌, sym}
use Rattle.cal_scan.specs.Cuts.{parts_at}
use Rattle.cal_lines.proofs.Feeds.{line_none, line_taken}
use Rattle.cal_lines.proofs.words.words_at.Goals as goal

pub returns-in-None-clause-reads : goal.returns-in-None-clause-reads
returns-in-None-clause-reads c = line_none c.args.at.number c.args.at.rest.now (sym c.line_end.ensures ∙ c.in-None.is)

pub returns-in_ok-words-in-Some-clause-reads : goal.returns-in_ok-words-in-Some-clause-reads
unfolding parts_at
returns-in_ok-words-in-Some-clause-reads c = line_taken c.args.at.number c.in-Some.end c.args.at.rest.now c.split_at.result.0.now c.split_at.result.1.now c.split_at-in-Some.result.1.now _ (sym c.line_end.ensures ∙ c.in-Some.is) c.split_at.ensures.front c.split_at.ensures.back c.split_at-in-Some.ensures.back c.in_ok-words-in-Some.ensures
