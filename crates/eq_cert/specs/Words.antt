-- The names of the rules.
use Rattle.std.specs.Prelude.{ℕ, List, codes}
use Rattle.eq_cert.specs.declared.rule.CheckRule.{CheckRule}
use Rattle.eq_cert.specs.declared.rule.CheckRule.TheVariants.{Text, System, Entry, Total, Energy, Tolerance, Gap, Potentials, Tree, Path}

abbrev pub rule_word : CheckRule → List ℕ
rule_word Text = codes "text"
rule_word System = codes "system"
rule_word Entry = codes "entry"
rule_word Total = codes "total"
rule_word Energy = codes "energy"
rule_word Tolerance = codes "tolerance"
rule_word Gap = codes "gap"
rule_word Potentials = codes "potentials"
rule_word Tree = codes "tree"
rule_word Path = codes "path"
