-- When a word fits an entry: cut at each `_`, the word has no more parts than the entry, and each part of the word
-- is not empty and a front of the entry's part at its place.
use Rattle.std.specs.Prelude.{ℕ, List, [], ◌∷◌, Bool, true, false, not, ◌&&◌, ◌==◌, nat_eq, length}
use Rattle.std.specs.List.{slice_split, starts_with}

-- the parts of a text between its `_`, which is the byte 95
abbrev pub parts_of : List ℕ → List (List ℕ)
parts_of text = slice_split (λ byte. byte == 95) text

-- the part is not empty and a front of the whole one
abbrev pub is_abbreviation : List ℕ → List ℕ → Bool
is_abbreviation part whole = not (length part == 0) && starts_with nat_eq whole part

abbrev pub fits_parts : List (List ℕ) → List (List ℕ) → Bool
fits_parts [] wholes = true
fits_parts (part ∷ parts) [] = false
fits_parts (part ∷ parts) (whole ∷ wholes) = is_abbreviation part whole && fits_parts parts wholes

abbrev pub fits_entry : List ℕ → List ℕ → Bool
fits_entry word entry = fits_parts (parts_of word) (parts_of entry)
