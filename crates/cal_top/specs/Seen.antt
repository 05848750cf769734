-- What a run sees of the outside: the library's files where it tells them, and its counts.
use Rattle.std.specs.Prelude.{◌≡◌, ℕ, ◌+◌, ◌≤◌, ◌<◌, ◌⊎◌, List, [], ◌∷◌, length, Option}
use Rattle.cal_base.specs.Outside.{Files, TellsFile, LacksFile, Rose, Raised}

-- What the library told before the run, and its counts of faults and of bytes given before the run and after it.
pub record Seen : Type 0 where
  pub told : Option Files
  pub faults : ℕ
  pub faults_now : ℕ
  pub given : ℕ
  pub given_now : ℕ

abbrev pub seen : Option Files → ℕ → ℕ → ℕ → ℕ → Seen
seen told faults faults_now given given_now =
    record { told = told; faults = faults; faults_now = faults_now; given = given; given_now = given_now }

-- A file that a run reads: its name, and how many bytes it may have.
pub record File : Type 0 where
  pub name : List ℕ
  pub limit : ℕ

-- reading failed, or the library lacks the file
abbrev pub IsUnread : Seen → File → Type 0
IsUnread seen file = Rose seen.faults seen.faults_now ⊎ LacksFile seen.told file.name

-- The file is longer than its limit, where its bytes are told; and so many bytes were given behind those of the earlier files.
pub record IsTooLong (seen : Seen) (earlier : ℕ) (file : File) : Type 0 where
  pub longer : (bytes : List ℕ) → TellsFile seen.told file.name bytes → file.limit < length bytes
  pub read_on : Raised seen.given seen.given_now (earlier + (file.limit + 1))

-- The bytes of a file that was read: where they are told, these, and no more than its limit.
pub record AreBytesOf (seen : Seen) (file : File) (bytes : List ℕ) : Type 0 where
  pub told_are : (all : List ℕ) → TellsFile seen.told file.name all → bytes ≡ all
  pub there : ¬ LacksFile seen.told file.name
  pub short : length bytes ≤ file.limit

-- the bytes of each of the files
pub data AreRead (seen : Seen) : List File → List (List ℕ) → Type 0 where
  none : AreRead seen [] []
  more : (file : File) (files : List File) (bytes : List ℕ) (texts : List (List ℕ)) →
      AreBytesOf seen file bytes → AreRead seen files texts → AreRead seen (file ∷ files) (bytes ∷ texts)

-- It is so of one of the files, behind so many bytes of earlier ones, and those in front of it were read.
pub data First (seen : Seen) (IsSo : ℕ → File → Type 0) : ℕ → List File → Type 0 where
  here : (earlier : ℕ) (file : File) (files : List File) → IsSo earlier file → First seen IsSo earlier (file ∷ files)
  behind : (earlier : ℕ) (file : File) (files : List File) (bytes : List ℕ) → AreBytesOf seen file bytes →
      First seen IsSo (earlier + length bytes) files → First seen IsSo earlier (file ∷ files)
