-- The lines of a judged report.
use Rattle.std.specs.Prelude.{ℕ, List, [], ◌∷◌, ◌++◌, codes}
use Rattle.std.specs.Fmt.{decimal}
use Rattle.cal_scan.specs.declared.byte.TheConstants.{LINE_FEED}
use Rattle.eq_cert.specs.declared.rule.CheckRule.{CheckRule}
use Rattle.eq_cert.specs.Words.{rule_word}
use Rattle.cal_refusal.specs.Refusals.{Line}

-- the first line of a report at which a rule is broken, and the rule
abbrev pub report_line : ℕ → CheckRule → Line
report_line n rule = codes "refused report line " ++ decimal n ++ codes " rule " ++ rule_word rule ++ LINE_FEED ∷ []

-- so many reports meet every rule
abbrev pub accepted_line : ℕ → Line
accepted_line n = codes "accepted " ++ decimal n ++ LINE_FEED ∷ []
