-- The names of elements and constituents, and words of letters.
use Rattle.std.specs.Prelude.{ℕ, List, [], ◌∷◌, length, codes, Bool, false, ◌&&◌, ◌||◌, ◌==◌, nat_lt}
use Rattle.std.specs.List.{list_all}
use Rattle.cal_scan.specs.Bytes.{is_letter, is_name_byte}
use Rattle.cal_scan.specs.Words.{same_word, is_name}

-- a letter, a digit or one of `_ + - / .`
abbrev pub is_constituent_byte : ℕ → Bool
is_constituent_byte b = is_name_byte b || (b == 43 || (b == 45 || (b == 47 || b == 46)))

-- a letter, and then such bytes; at most 40 bytes
unfoldable pub is_species_name : List ℕ → Bool
is_species_name [] = false
is_species_name (b ∷ bs) = is_letter b && (nat_lt (length (b ∷ bs)) 41 && list_all is_constituent_byte (b ∷ bs))

-- such a name, or the electron `/-`
unfoldable pub is_constituent : List ℕ → Bool
is_constituent text = is_species_name text || same_word text (codes "/-")

-- a name, or the electron `/-`
unfoldable pub is_element_name : List ℕ → Bool
is_element_name text = is_name text || same_word text (codes "/-")

-- one letter or more
unfoldable pub is_letters : List ℕ → Bool
is_letters [] = false
is_letters (b ∷ bs) = list_all is_letter (b ∷ bs)
