-- A text has one database, or one first fault, and not both.
use Rattle.std.specs.Prelude.{◌≡◌, ℕ, List}
use Rattle.cal_words.specs.declared.rules.Rule.{Rule}
use Rattle.tdb_read.specs.Database.{Database}
use Rattle.tdb_read.specs.Folding.{IsDatabase, IsFault}

abbrev pub OneDatabase : Type 0
OneDatabase = (bytes : List ℕ) (d e : Database) → IsDatabase bytes d → IsDatabase bytes e → d ≡ e

abbrev pub OneFault : Type 0
OneFault = (bytes : List ℕ) (m n : ℕ) (rule other : Rule) → IsFault bytes m rule → IsFault bytes n other → (m ≡ n) × (rule ≡ other)

abbrev pub DatabaseOrFault : Type 0
DatabaseOrFault = (bytes : List ℕ) (d : Database) (line : ℕ) (rule : Rule) → IsDatabase bytes d → IsFault bytes line rule → ⊥
