-- the first part of a text
use Rattle.std.proofs.Common.{◌≡◌, ◌==◌, ℕ, List, [], ◌∷◌, length, Some, None, ◌≤◌, ◌+◌, refl, arith, take, drop, position, false}
use Rattle.std.specs.List.{position_or_len}
use Rattle.std.proofs.lemmas.Grind.{common_steps}
use Rattle.std.proofs.lemmas.List.Splits.{slice_split_first}
use Rattle.cal_words.specs.Words.{parts_of, fits_parts}

pub parts_of-first : (text : List ℕ) (at : ℕ) → position (λ byte. byte == 95) text ≡ Some at → parts_of text ≡ take at text ∷ parts_of (drop (at + 1) text)
parts_of-first text at e = grind (arith, common_steps, slice_split_first (λ byte. byte == 95) text 0)

parts_of-lack : (text : List ℕ) → length text ≤ position_or_len (λ byte. byte == 95) text → parts_of text ≡ text ∷ []
parts_of-lack [] h = refl
parts_of-lack (x ∷ xs) h = grind (arith, common_steps, parts_of-lack xs)

pub parts_of-only : (text : List ℕ) → position (λ byte. byte == 95) text ≡ None → parts_of text ≡ text ∷ []
parts_of-only text e = grind (arith, common_steps, parts_of-lack text)

pub fits_parts_none : (text : List ℕ) → fits_parts (parts_of text) [] ≡ false
fits_parts_none [] = refl
fits_parts_none (x ∷ xs) = grind (arith, common_steps, fits_parts_none xs)

pub ruleset cuts = (parts_of-first, parts_of-only, fits_parts_none)
