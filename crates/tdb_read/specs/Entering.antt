-- What one command makes of a database: the next database, or the rule that the command breaks.
use Rattle.std.specs.Prelude.{◌≡◌, ℕ, Result, Ok, Err}
use Rattle.cal_words.specs.declared.rules.Rule.{Rule}
use Rattle.tdb_read.specs.declared.fault.DbFault.{DbFault}
use Rattle.tdb_read.specs.declared.fault.DbFault.TheVariants.{Bad, Memory}
use Rattle.tdb_read.specs.Database.{Database}

-- the value that the command gives is entered; the rule is broken where it gives none
abbrev pub Enters : {A : Type 0} → (A → Type 0) → (A → Database) → Rule → Result Database Rule → Type 0
Enters {A = A} Form entered rule (Ok d) = (v : A) × Form v × (d ≡ entered v)
Enters {A = A} Form entered rule (Err broken) = ((v : A) → Form v → ⊥) × (broken ≡ rule)

-- what is answered for a command at a line; want of memory says nothing
abbrev pub Answers : ℕ → (Result Database Rule → Type 0) → Result Database DbFault → Type 0
Answers line Outcome (Ok d) = Outcome (Ok d)
Answers line Outcome (Err (Bad n rule)) = (n ≡ line) × Outcome (Err rule)
Answers line Outcome (Err Memory) = Unit {0}
