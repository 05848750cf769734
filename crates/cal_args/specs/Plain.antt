-- The options of a command, and what plain words give each of them.
use Rattle.std.specs.Prelude.{◌≡◌, List, [], ◌∷◌, map, filter, length, Bool, true, false, not, cond, ◌&&◌, ◌==◌, nat_lt, Option, slice_get, codes, is_some, ⊤}
use Rattle.std.specs.List.{list_all, list_any}
use Rattle.std.specs.Str.{bytes_eq}
use Rattle.cal_scan.specs.Lines.{Word}
use Rattle.cal_scan.specs.declared.byte.TheConstants.{EQUALS, MINUS}

-- an option of a command: the name that stands behind `--`, and whether the option has to stand
pub record Choice : Type 0 where
  pub name : Word
  pub is_required : Bool

abbrev pub is_name_of : Word → Choice → Bool
is_name_of name choice = bytes_eq choice.name name

-- not empty, and without `=`
abbrev pub is_option_name : Word → Bool
is_option_name [] = false
is_option_name (b ∷ bs) = not (list_any (λ b. b == EQUALS) (b ∷ bs))

-- not empty, and no `-` in front
abbrev pub is_value : Word → Bool
is_value [] = false
is_value (b ∷ _) = not (b == MINUS)

-- the words of pairs of an option's name and a value, in order: `--` and the name, then the value
unfoldable pub spelling : List (Word × Word) → List Word
spelling [] = []
spelling (pair ∷ pairs) = (MINUS ∷ MINUS ∷ pair.0) ∷ pair.1 ∷ spelling pairs

-- the values behind an option
unfoldable pub values_of : Word → List (Word × Word) → List Word
values_of name pairs = map (λ pair. pair.1) (filter (λ pair. bytes_eq pair.0 name) pairs)

-- the value of an option that stands at most once
abbrev pub value_of : Word → List (Word × Word) → Option Word
value_of name pairs = slice_get (values_of name pairs) 0

-- an option of the command, and a plain value
abbrev pub is_plain : List Choice → Word × Word → Bool
is_plain choices pair = list_any (is_name_of pair.0) choices && is_value pair.1

-- a required option stands once, each other option at most once
abbrev pub stands : List (Word × Word) → Choice → Bool
stands pairs choice =
    cond choice.is_required
    (length (values_of choice.name pairs) == 1)
    (nat_lt (length (values_of choice.name pairs)) 2)

pub record ArePlain (choices : List Choice) (pairs : List (Word × Word)) : Type 0 where
  pub options : list_all (is_plain choices) pairs ≡ true
  pub times : list_all (stands pairs) choices ≡ true

-- plain words of a command: the command word, and then its options and their values, two words each,
-- in any order
pub record IsSpelledBy (command : Word) (choices : List Choice) (words : List Word)
    (pairs : List (Word × Word)) : Type 0 where
  pub spelled : words ≡ command ∷ spelling pairs
  pub plain : ArePlain choices pairs

-- the names of options can be told from their values: none is empty or has a `=`
abbrev pub are_option_names : List Choice → Bool
are_option_names choices = list_all (λ choice. is_option_name choice.name) choices

-- no two options have one name
unfoldable pub are_apart : List Choice → Bool
are_apart [] = true
are_apart (choice ∷ choices) = not (list_any (is_name_of choice.name) choices) && are_apart choices

-- a table that `clap` reads as it stands: names that are no values, each once, and none of the two
-- that `clap` has of its own
abbrev pub is_table : List Choice → Bool
is_table choices = are_option_names choices && (are_apart choices
    && (not (list_any (is_name_of (codes "help")) choices) && not (list_any (is_name_of (codes "version")) choices)))

-- each required option has a value
abbrev pub HasRequired : List Choice → (Word → Option Word) → Type 0
HasRequired [] values = ⊤
HasRequired (choice ∷ choices) values =
    (choice.is_required ≡ true → is_some (values choice.name) ≡ true) × HasRequired choices values
