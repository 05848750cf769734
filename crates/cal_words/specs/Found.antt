-- What a table of entries has of a word.
use Rattle.std.specs.Prelude.{◌≡◌, ℕ, ◌<◌, List, true, Some, map, slice_get}
use Rattle.std.specs.Borrow.{Bor}
use Rattle.cal_words.specs.Words.{fits_entry}
use Rattle.cal_words.specs.declared.words.Found.{Found}
use Rattle.cal_words.specs.declared.words.Found.TheVariants.{One, Nothing, Several}

-- the word fits the entry at this place
pub record FitsAt (entries : List (List ℕ)) (word : List ℕ) (place : ℕ) : Type 0 where
  pub entry : List ℕ
  pub is : slice_get entries place ≡ Some entry
  pub fits : fits_entry word entry ≡ true

-- the word fits the entry at this place and no other
pub record FitsOne (entries : List (List ℕ)) (word : List ℕ) (place : ℕ) : Type 0 where
  pub fits : FitsAt entries word place
  pub only : (other : ℕ) → FitsAt entries word other → other ≡ place

-- the word fits two entries
pub record FitsTwo (entries : List (List ℕ)) (word : List ℕ) : Type 0 where
  pub first : ℕ
  pub second : ℕ
  pub apart : first < second
  pub fits_first : FitsAt entries word first
  pub fits_second : FitsAt entries word second

-- the word fits no entry
abbrev pub FitsNone : List (List ℕ) → List ℕ → Type 0
FitsNone entries word = (place : ℕ) → ¬ FitsAt entries word place

-- what a table has of a word, without a limit on its length
abbrev pub Finds : List (List ℕ) → List ℕ → Found → Type 0
Finds entries word (One place) = FitsOne entries word place
Finds entries word Nothing = FitsNone entries word
Finds entries word Several = FitsTwo entries word

-- what was found with one more entry that fits
abbrev pub with_place : Found → ℕ → Found
with_place (One other) place = Several
with_place Nothing place = One place
with_place Several place = Several

-- the bytes of each text
abbrev pub texts_of : List (Bor (List ℕ)) → List (List ℕ)
texts_of texts = map (λ text. text.now) texts
