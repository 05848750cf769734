-- What the words of some kinds of lines say: whole numbers, and a key with names.
use Rattle.std.specs.Prelude.{◌≡◌, ℕ, ◌≤◌, List, [], ◌∷◌, map, Option, Some, None, cond, ℤ, unsigned_abs}
use Rattle.std.specs.Fmt.{decimal, signed_decimal}
use Rattle.std.specs.List.{AllByRecursion}
use Rattle.cal_scan.specs.Words.{same_word}
use Rattle.cal_scan.specs.Lines.{Word}
use Rattle.cal_scan.specs.Names.{AreNamesWithin, names_of}
use Rattle.cal_lines.specs.Words.{integer_of}

-- ---- relations of words to what they say

-- the word is the digits of the number, which is within the limit
abbrev pub IsNatural : ℕ → Word → ℕ → Type 0
IsNatural limit word n = (n ≤ limit) × (word ≡ decimal n)

-- of a magnitude within the limit
abbrev pub IsUpTo : ℕ → ℤ → Type 0
IsUpTo limit v = unsigned_abs v ≤ limit

-- the word is the digits of the number, behind `-` if it is below 0
abbrev pub IsInteger : ℕ → Word → ℤ → Type 0
IsInteger limit word v = IsUpTo limit v × (word ≡ signed_decimal v)

-- a number for each word
abbrev pub AreIntegers : ℕ → List Word → List ℤ → Type 0
AreIntegers limit words vs = AllByRecursion (IsUpTo limit) vs × (words ≡ map signed_decimal vs)

-- a key and names
abbrev pub names_words : Word → List Word → List Word
names_words key names = key ∷ names

abbrev pub AreNamesBehind : Word → Option ℕ → List Word → List Word → Type 0
AreNamesBehind key most words names = AreNamesWithin most names × (words ≡ names_words key names)

-- ---- the same as functions of the words

-- the names that the words behind the key are
abbrev pub names_after : Word → Option ℕ → List Word → Option (List Word)
names_after key most [] = None
names_after key most (w ∷ ws) = cond (same_word w key) (names_of most ws) None

-- a value in front of others, where all are there
abbrev pub with_value : {A : Type 0} → Option A → Option (List A) → Option (List A)
with_value None vs = None
with_value (Some v) None = None
with_value (Some v) (Some vs) = Some (v ∷ vs)

-- a whole number for each word
unfoldable pub all_integers : ℕ → List Word → Option (List ℤ)
all_integers limit [] = Some []
all_integers limit (w ∷ ws) = with_value (integer_of limit w) (all_integers limit ws)

-- what follows from a value, where it is there
abbrev pub with_count : {A B : Type 0} → Option A → (A → Option B) → Option B
with_count None f = None
with_count (Some n) f = f n

-- an answer that stands only where the list is not empty
abbrev pub if_some : {A B : Type 0} → List A → Option B → Option B
if_some [] o = None
if_some (x ∷ xs) o = o
