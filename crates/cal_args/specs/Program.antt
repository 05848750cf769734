-- The commands of the program, their words and their options.
use Rattle.std.specs.Prelude.{List, [], ◌∷◌, ◌++◌, codes, true, false, Option, find}
use Rattle.std.specs.Str.{bytes_eq}
use Rattle.cal_args.specs.declared.command.Command.{Command}
use Rattle.cal_args.specs.declared.command.Command.TheVariants.{Check, Equilibrium, Scheil, Table}
use Rattle.cal_args.specs.Plain.{Choice}
use Rattle.cal_scan.specs.Lines.{Word}

abbrev pub required : Word → Choice
required name = record { name = name; is_required = true }

abbrev pub optional : Word → Choice
optional name = record { name = name; is_required = false }

abbrev pub commands : List Command
commands = Equilibrium ∷ Scheil ∷ Check ∷ Table ∷ []

abbrev pub word_of : Command → Word
word_of Equilibrium = codes "equilibrium"
word_of Scheil = codes "scheil"
word_of Check = codes "check"
word_of Table = codes "table"

abbrev pub equilibrium_choices : List Choice
equilibrium_choices =
    required (codes "db") ∷ required (codes "t") ∷ required (codes "amounts")
    ∷ required (codes "lattice") ∷ required (codes "gap") ∷ required (codes "budget")
    ∷ optional (codes "phases") ∷ []

abbrev pub choices_of : Command → List Choice
choices_of Equilibrium = equilibrium_choices
choices_of Scheil =
    equilibrium_choices
    ++ (required (codes "step") ∷ required (codes "end") ∷ required (codes "stop")
    ∷ required (codes "liquid") ∷ [])
choices_of Check = required (codes "db") ∷ required (codes "report") ∷ []
choices_of Table = required (codes "report") ∷ []

-- the command of a word
abbrev pub command_at : Word → Option Command
command_at word = find (λ command. bytes_eq (word_of command) word) commands
