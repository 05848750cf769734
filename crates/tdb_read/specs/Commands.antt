-- What a command makes of a database, by its word.
use Rattle.std.specs.Prelude.{◌≡◌, ℕ, ◌⊎◌, List, Some, Result, Ok, Err}
use Rattle.cal_words.specs.declared.rules.Rule.{Rule}
use Rattle.cal_words.specs.declared.rules.Rule.TheVariants as rules
use Rattle.cal_words.specs.declared.vocabulary.CommandWord.{CommandWord}
use Rattle.cal_words.specs.declared.vocabulary.CommandWord.TheVariants as words
use Rattle.cal_words.specs.Commands.{IsCommandWord}
use Rattle.cal_scan.specs.Copies.{with_byte}
use Rattle.cal_scan.specs.FrontTokens.{first_token, behind_token}
use Rattle.tdb_lex.specs.declared.command.Command.{Command}
use Rattle.tdb_read.specs.Database.{Database, with_element, with_function, with_phase, with_parameter, with_type}
use Rattle.tdb_read.specs.Entering.{Enters}
use Rattle.tdb_read.specs.Element.{IsElement}
use Rattle.tdb_read.specs.Function.{IsFunction}
use Rattle.tdb_read.specs.Phase.{IsPhase}
use Rattle.tdb_read.specs.Constituent.{constituent_of}
use Rattle.tdb_read.specs.Parameter.{IsParameter}
use Rattle.tdb_read.specs.TypeDefinition.{IsTypeDefinition}

-- a command that has no effect, whatever it says
abbrev pub HasNoEffect : Database → Result Database Rule → Type 0
HasNoEffect d outcome = outcome ≡ Ok d

abbrev pub IsLeftOut : Result Database Rule → Type 0
IsLeftOut outcome = outcome ≡ Err rules.LeftOut

-- what the text behind a command word makes of a database
abbrev pub Obeys : Database → ℕ → List ℕ → CommandWord → Result Database Rule → Type 0
Obeys d line text words.Element outcome = Enters (IsElement text) (λ name. with_element d name line) rules.Element outcome
Obeys d line text words.Function outcome = Enters (IsFunction line text) (λ f. with_function d f.0 f.1) rules.Function outcome
Obeys d line text words.Phase outcome = Enters (IsPhase line text) (λ p. with_phase d p.0 p.1) rules.Phase outcome
Obeys d line text words.Constituent outcome = Enters (λ p. constituent_of d text ≡ Some p) (λ p. with_phase d p.0 p.1) rules.Constituent outcome
Obeys d line text words.Parameter outcome = Enters (IsParameter line text) (λ p. with_parameter d p.0 p.1) rules.Parameter outcome
Obeys d line text words.TypeDefinition outcome = Enters (IsTypeDefinition line text) (with_type d) rules.TypeDef outcome
Obeys d line text words.DefineSystemDefault outcome = HasNoEffect d outcome
Obeys d line text words.DefaultCommand outcome = HasNoEffect d outcome
Obeys d line text words.TemperatureLimits outcome = HasNoEffect d outcome
Obeys d line text words.DatabaseInformation outcome = HasNoEffect d outcome
Obeys d line text words.AssessedSystems outcome = HasNoEffect d outcome
Obeys d line text words.VersionDate outcome = HasNoEffect d outcome
Obeys d line text words.ReferenceFile outcome = HasNoEffect d outcome
Obeys d line text words.ListOfReferences outcome = HasNoEffect d outcome
Obeys d line text words.AddReferences outcome = HasNoEffect d outcome
Obeys d line text words.Diffusion outcome = HasNoEffect d outcome
Obeys d line text words.ZeroVolumeSpecies outcome = HasNoEffect d outcome
Obeys d line text words.ZerovolumeSpecies outcome = HasNoEffect d outcome
Obeys d line text words.Species outcome = IsLeftOut outcome
Obeys d line text words.FtpFile outcome = IsLeftOut outcome
Obeys d line text words.AddConstituent outcome = IsLeftOut outcome
Obeys d line text words.CompoundPhase outcome = IsLeftOut outcome
Obeys d line text words.AllotropicPhase outcome = IsLeftOut outcome
Obeys d line text words.Case outcome = IsLeftOut outcome
Obeys d line text words.Table outcome = IsLeftOut outcome

-- the first token as a command word, where `-` counts as `_`
abbrev pub IsWordOf : Command → CommandWord → Type 0
IsWordOf c word = IsCommandWord (with_byte 45 95 (first_token c.text)) word

-- what a command makes of a database; a first token that is no command word breaks the rule of words
abbrev pub Makes : Database → Command → Result Database Rule → Type 0
Makes d c outcome =
    ((word : CommandWord) × IsWordOf c word × Obeys d c.line (behind_token c.text) word outcome)
    ⊎ (((word : CommandWord) → ¬ IsWordOf c word) × (outcome ≡ Err rules.Word))
