-- the command words of a database
use Rattle.std.specs.Prelude.{ℕ, ◌≤◌, List, [], ◌∷◌, length, codes}
use Rattle.cal_words.specs.Found.{FitsOne}
use Rattle.cal_words.specs.declared.vocabulary.CommandWord.{CommandWord}
use Rattle.cal_words.specs.declared.vocabulary.CommandWord.TheVariants.{Element, Species, Function, Phase, Constituent, Parameter, TypeDefinition, DefineSystemDefault, DefaultCommand, TemperatureLimits, DatabaseInformation, AssessedSystems, VersionDate, ReferenceFile, ListOfReferences, AddReferences, Diffusion, ZeroVolumeSpecies, ZerovolumeSpecies, FtpFile, AddConstituent, CompoundPhase, AllotropicPhase, Case, Table}

abbrev pub command_entries : List (List ℕ)
command_entries =
    codes "ELEMENT" ∷ codes "SPECIES" ∷ codes "FUNCTION" ∷ codes "PHASE" ∷ codes "CONSTITUENT" ∷ codes "PARAMETER"
    ∷ codes "TYPE_DEFINITION" ∷ codes "DEFINE_SYSTEM_DEFAULT" ∷ codes "DEFAULT_COMMAND" ∷ codes "TEMPERATURE_LIMITS"
    ∷ codes "DATABASE_INFORMATION" ∷ codes "ASSESSED_SYSTEMS" ∷ codes "VERSION_DATE" ∷ codes "REFERENCE_FILE"
    ∷ codes "LIST_OF_REFERENCES" ∷ codes "ADD_REFERENCES" ∷ codes "DIFFUSION" ∷ codes "ZERO_VOLUME_SPECIES"
    ∷ codes "ZEROVOLUME_SPECIES" ∷ codes "FTP_FILE" ∷ codes "ADD_CONSTITUENT" ∷ codes "COMPOUND_PHASE"
    ∷ codes "ALLOTROPIC_PHASE" ∷ codes "CASE" ∷ codes "TABLE" ∷ []

-- the place of a command word in the table
abbrev pub place_of : CommandWord → ℕ
place_of Element = 0
place_of Species = 1
place_of Function = 2
place_of Phase = 3
place_of Constituent = 4
place_of Parameter = 5
place_of TypeDefinition = 6
place_of DefineSystemDefault = 7
place_of DefaultCommand = 8
place_of TemperatureLimits = 9
place_of DatabaseInformation = 10
place_of AssessedSystems = 11
place_of VersionDate = 12
place_of ReferenceFile = 13
place_of ListOfReferences = 14
place_of AddReferences = 15
place_of Diffusion = 16
place_of ZeroVolumeSpecies = 17
place_of ZerovolumeSpecies = 18
place_of FtpFile = 19
place_of AddConstituent = 20
place_of CompoundPhase = 21
place_of AllotropicPhase = 22
place_of Case = 23
place_of Table = 24

-- the word has at least three bytes, and fits this command word and no other
pub record IsCommandWord (word : List ℕ) (command : CommandWord) : Type 0 where
  pub long : 3 ≤ length word
  pub fits : FitsOne command_entries word (place_of command)
