-- What the texts of a command take from the values of its options, and when words are read.
use Rattle.std.specs.Prelude.{◌≡◌, List, [], ◌∷◌, codes, Bool, true, false, Option, Some, option_map, slice_get}
use Rattle.std.specs.Option.{option_map_or}
use Rattle.cal_args.specs.declared.command.Command.{Command}
use Rattle.cal_args.specs.declared.command.Command.TheVariants as command
use Rattle.cal_args.specs.declared.texts.CommandTexts.{CommandTexts}
use Rattle.cal_args.specs.declared.texts.CommandTexts.TheVariants as texts
use Rattle.cal_args.specs.declared.texts.EquilibriumTexts.{EquilibriumTexts}
use Rattle.cal_args.specs.declared.texts.ScheilTexts.{ScheilTexts}
use Rattle.cal_args.specs.declared.texts.CheckTexts.{CheckTexts}
use Rattle.cal_args.specs.declared.texts.TableTexts.{TableTexts}
use Rattle.cal_scan.specs.Lines.{Word}
use Rattle.cal_args.specs.Held.{held_value, is_taken}
use Rattle.cal_args.specs.Program.{choices_of, command_at, word_of}

pub record GivesEquilibrium (values : Word → Option Word) (asked : EquilibriumTexts) : Type 0 where
  pub db : values (codes "db") ≡ Some asked.db.now
  pub t : values (codes "t") ≡ Some asked.t.now
  pub amounts : values (codes "amounts") ≡ Some asked.amounts.now
  pub lattice : values (codes "lattice") ≡ Some asked.lattice.now
  pub gap : values (codes "gap") ≡ Some asked.gap.now
  pub budget : values (codes "budget") ≡ Some asked.budget.now
  pub phases : values (codes "phases") ≡ option_map (λ text. text.now) asked.phases

pub record GivesScheil (values : Word → Option Word) (asked : ScheilTexts) : Type 0 where
  pub first : GivesEquilibrium values asked.first
  pub step : values (codes "step") ≡ Some asked.step.now
  pub end : values (codes "end") ≡ Some asked.end.now
  pub stop : values (codes "stop") ≡ Some asked.stop.now
  pub liquid : values (codes "liquid") ≡ Some asked.liquid.now

pub record GivesCheck (values : Word → Option Word) (asked : CheckTexts) : Type 0 where
  pub db : values (codes "db") ≡ Some asked.db.now
  pub report : values (codes "report") ≡ Some asked.report.now

pub record GivesTable (values : Word → Option Word) (asked : TableTexts) : Type 0 where
  pub report : values (codes "report") ≡ Some asked.report.now

-- the texts are the values of its options
abbrev pub Gives : (Word → Option Word) → CommandTexts → Type 0
Gives values (texts.Equilibrium asked) = GivesEquilibrium values asked
Gives values (texts.Scheil asked) = GivesScheil values asked
Gives values (texts.Check asked) = GivesCheck values asked
Gives values (texts.Table asked) = GivesTable values asked

abbrev pub command_of : CommandTexts → Command
command_of (texts.Equilibrium asked) = command.Equilibrium
command_of (texts.Scheil asked) = command.Scheil
command_of (texts.Check asked) = command.Check
command_of (texts.Table asked) = command.Table

-- the first word is the word of the command, `clap` takes the words by the options of that command,
-- and the texts are the values that it holds
pub record Holds (words : List Word) (asked : CommandTexts) : Type 0 where
  pub command : slice_get words 0 ≡ Some (word_of (command_of asked))
  pub taken : is_taken (word_of (command_of asked)) (choices_of (command_of asked)) words ≡ true
  pub values :
      Gives (held_value (word_of (command_of asked)) (choices_of (command_of asked)) words) asked

-- the first word is that of a command, and `clap` takes the words by the options of that command
abbrev pub is_read : List Word → Bool
is_read [] = false
is_read (word ∷ words) =
    option_map_or
    (λ command. is_taken (word_of command) (choices_of command) (word ∷ words))
    (command_at word) false
