-- The `clap` command of a table of options, and the values that it holds for them.
use Rattle.std.specs.Prelude.{List, map, Bool, true, Option, Some}
use Rattle.cal_args.specs.Plain.{Choice}
use Rattle.cal_scan.specs.Lines.{Word}
use Rattle.clap.specs.Walk.{Rule, first_of, is_empty}
use Rattle.clap.specs.Simple.{App, matches_of, new_app, new_rule, on_top}
use Rattle.clap.specs.Faults.{fault_of}
use Rattle.clap.specs.declared.builder.action.ArgAction.TheVariants.{Set}

-- a long option that takes one value
abbrev pub rule_for : Choice → Rule
rule_for choice = record (new_rule choice.name) {
  long = Some choice.name;
  action = Some Set;
  required = choice.is_required;
}

-- the command with exactly these options, whose first word is its name; it has no help and no
-- version
abbrev pub app_for : Word → List Choice → App
app_for command choices = on_top (λ shape. record shape {
  rules = map rule_for choices;
  disable_help_flag = true;
  disable_version_flag = true;
}) (new_app command)

-- `clap` takes the words: it finds no fault in them
unfoldable pub is_taken : Word → List Choice → List Word → Bool
is_taken command choices words = is_empty (fault_of (app_for command choices) words)

-- the value that `clap` holds for an option, at words that it takes
unfoldable pub held_value : Word → List Choice → List Word → Word → Option Word
held_value command choices words name = first_of name (matches_of (app_for command choices) words)
