-- The tokens of a text, what stands behind or before a word, and names.
use Rattle.std.specs.Prelude.{ℕ, ◌+◌, ◌-◌, List, [], ◌∷◌, length, take, drop, filter, Bool, false, not, cond, ◌&&◌, ◌==◌, nat_lt, nat_eq, Option, Some, None}
use Rattle.std.specs.List.{list_all, slice_split}
use Rattle.std.specs.Cmp.Lexicographic.{pointwise}
use Rattle.cal_limits.specs.declared.TheConstants.{MOST_NAME_BYTES}
use Rattle.cal_scan.specs.Bytes.{is_letter, is_name_byte}
use Rattle.cal_scan.specs.declared.byte.TheConstants.{SPACE}

unfoldable pub same_word : List ℕ → List ℕ → Bool
same_word v w = pointwise nat_eq v w

abbrev pub is_full : List ℕ → Bool
is_full text = not (length text == 0)

-- the runs of bytes that are no spaces
unfoldable pub tokens : List ℕ → List (List ℕ)
tokens text = filter is_full (slice_split (λ b. b == SPACE) text)

-- a letter, and then letters, digits and `_`; at most 40 bytes
unfoldable pub is_name : List ℕ → Bool
is_name [] = false
is_name (b ∷ bs) = is_letter b && (nat_lt (length (b ∷ bs)) (MOST_NAME_BYTES + 1) && list_all is_name_byte (b ∷ bs))

-- what is behind the word, where the text begins with it
unfoldable pub behind : List ℕ → List ℕ → Option (List ℕ)
behind word text = cond (same_word (take (length word) text) word) (Some (drop (length word) text)) None

-- what is before the word, where the text ends with it
unfoldable pub before : List ℕ → List ℕ → Option (List ℕ)
before word text = cond (same_word (drop (length text - length word) text) word) (Some (take (length text - length word) text)) None
