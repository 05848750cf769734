-- The longest number at the front of a text.
use Rattle.std.specs.Prelude.{◌≡◌, ℕ, ◌≤◌, List, ◌++◌, length}
use Rattle.cal_dec.specs.Numerals.{IsNumber}

-- the text is a number and what stands behind it, and no longer front of it is a number
pub record IsLongestNumber (text front rest : List ℕ) : Type 0 where
  pub text_is : text ≡ front ++ rest
  pub number : IsNumber front
  pub longest : (a b : List ℕ) → text ≡ a ++ b → IsNumber a → length a ≤ length front

-- no front of the text is a number
abbrev pub HasNoNumber : List ℕ → Type 0
HasNoNumber text = (a b : List ℕ) → text ≡ a ++ b → IsNumber a → ⊥
