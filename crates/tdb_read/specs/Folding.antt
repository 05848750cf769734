-- The database of a text, which holds the entries of its commands in order, and a text's first fault.
use Rattle.std.specs.Prelude.{◌≡◌, ℕ, ◌⊎◌, List, [], ◌∷◌, Option, Some, None, Result, Ok, Err}
use Rattle.cal_words.specs.declared.rules.Rule.{Rule}
use Rattle.cal_words.specs.declared.rules.Rule.TheVariants.{Unfinished}
use Rattle.tdb_lex.specs.declared.command.Command.{Command}
use Rattle.tdb_lex.specs.Commands.{parts, finished, unfinished}
use Rattle.tdb_read.specs.declared.fault.DbFault.{DbFault}
use Rattle.tdb_read.specs.declared.fault.DbFault.TheVariants.{Bad, Memory}
use Rattle.tdb_read.specs.Database.{Database, empty}
use Rattle.tdb_read.specs.Commands.{Makes}

-- all commands, one after the other, make e of d
abbrev pub IsFolded : Database → List Command → Database → Type 0
IsFolded d [] e = e ≡ d
IsFolded d (c ∷ cs) e = (next : Database) × Makes d c (Ok next) × IsFolded next cs e

-- the first command that breaks a rule is at this line, and else unfinished text behind all commands
abbrev pub IsFirstFault : Database → List Command → Option ℕ → ℕ → Rule → Type 0
IsFirstFault d [] open_line line rule = (open_line ≡ Some line) × (rule ≡ Unfinished)
IsFirstFault d (c ∷ cs) open_line line rule =
    ((line ≡ c.line) × Makes d c (Err rule)) ⊎ ((next : Database) × Makes d c (Ok next) × IsFirstFault next cs open_line line rule)

-- the database of commands behind which text may be unfinished
pub record IsDatabaseOf (cs : List Command) (open_line : Option ℕ) (d : Database) : Type 0 where
  pub folded : IsFolded empty cs d
  pub closed : open_line ≡ None

-- the database of commands, or their first fault; want of memory says nothing
abbrev pub ReadsCommands : List Command → Option ℕ → Result Database DbFault → Type 0
ReadsCommands cs open_line (Ok d) = IsDatabaseOf cs open_line d
ReadsCommands cs open_line (Err (Bad line rule)) = IsFirstFault empty cs open_line line rule
ReadsCommands cs open_line (Err Memory) = Unit {0}

-- no command of the text breaks a rule, no text is unfinished, and this is its database
abbrev pub IsDatabase : List ℕ → Database → Type 0
IsDatabase bytes d = IsDatabaseOf (finished (parts bytes)) (unfinished (parts bytes)) d

-- the first fault of the text is at this line, where this rule is broken
abbrev pub IsFault : List ℕ → ℕ → Rule → Type 0
IsFault bytes line rule = IsFirstFault empty (finished (parts bytes)) (unfinished (parts bytes)) line rule

-- what is answered for a text
abbrev pub Reads : List ℕ → Result Database DbFault → Type 0
Reads bytes answer = ReadsCommands (finished (parts bytes)) (unfinished (parts bytes)) answer
