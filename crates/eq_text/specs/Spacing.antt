-- Words behind a space each.
use Rattle.std.specs.Prelude.{ℕ, zero, suc, List, [], ◌∷◌, map, codes, slice_index_or}
use Rattle.std.specs.List.{flat_map}
use Rattle.std.specs.Fmt.{decimal}
use Rattle.cal_scan.specs.Lines.{Word}

abbrev pub spaced : Word → List ℕ
spaced word = 32 ∷ word

abbrev pub spelled : List Word → List ℕ
spelled words = flat_map spaced words

-- the words of the sublattice at a place, behind the word : but for the first
abbrev pub sublattice_words : List (List ℕ) → ℕ → List Word
sublattice_words lists zero = map decimal (slice_index_or lists 0 [])
sublattice_words lists (suc place) = codes ":" ∷ map decimal (slice_index_or lists (suc place) [])
