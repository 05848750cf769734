-- What is read at the front of a text, and what is behind it.
use Rattle.std.specs.Prelude.{ℕ, zero, suc, ◌-◌, List, [], ◌∷◌, ◌++◌, length, take, codes, Bool, true, false, not, cond, ◌&&◌, ◌||◌, ◌==◌, nat_lt, Option, Some, None, unsigned_abs}
use Rattle.std.specs.Str.Parse.{digits_value}
use Rattle.cal_dec.specs.Decimals.{Decimal}
use Rattle.cal_dec.specs.Signs.{signed}
use Rattle.cal_dec.specs.Numerals.{Numeral, value_of}
use Rattle.cal_dec.specs.Scanning.{digits_in, after_digits, numeral_in, after_number}
use Rattle.cal_scan.specs.Bytes.{is_letter}
use Rattle.cal_scan.specs.Words.{same_word}
use Rattle.cal_scan.specs.Fronts.{behind_spaces, name_bytes_at}
use Rattle.tdb_expr.specs.Grammar.{is_function_name}
use Rattle.tdb_expr.specs.Parts.{Part, Number, T, Power, LnT, Name, Term}

infixl 10 ◌>>=◌
abbrev pub ◌>>=◌ : {A B : Type 0} → Option A → (A → Option B) → Option B
None >>= k = None
(Some x) >>= k = k x

abbrev pub Read : Type 0
Read = Part × List ℕ

-- ---- marks

-- what is behind the byte where the text begins with it
abbrev pub byte_at : ℕ → List ℕ → Option (List ℕ)
byte_at b [] = None
byte_at b (c ∷ cs) = cond (c == b) (Some cs) None

-- and where spaces stand before it
abbrev pub mark_at : ℕ → List ℕ → Option (List ℕ)
mark_at b text = byte_at b (behind_spaces text)

abbrev pub stars_at : List ℕ → Option (List ℕ)
stars_at text = mark_at 42 text >>= byte_at 42

-- ---- powers of the temperature

abbrev pub magnitude_if : List ℕ → List ℕ → Option (ℕ × List ℕ)
magnitude_if [] rest = None
magnitude_if (d ∷ ds) rest = cond (nat_lt 20 (digits_value 10 (d ∷ ds))) None (Some (digits_value 10 (d ∷ ds), rest))

unfoldable pub magnitude_at : List ℕ → Option (ℕ × List ℕ)
magnitude_at text = magnitude_if (digits_in (behind_spaces text)) (after_digits (behind_spaces text))

abbrev pub plain_of : ℕ × List ℕ → Option Read
plain_of m = Some (Power (signed false m.0), m.1)

abbrev pub plain_at : List ℕ → Option Read
plain_at text = magnitude_at text >>= plain_of

abbrev pub closed_of : Bool → ℕ × List ℕ → Option Read
closed_of negative m = mark_at 41 m.1 >>= λ rest. Some (Power (signed negative m.0), rest)

abbrev pub closed_at : Bool → List ℕ → Option Read
closed_at negative text = magnitude_at text >>= closed_of negative

abbrev pub unless_minus : List ℕ → Option (List ℕ) → Option Read
unless_minus text None = closed_at false text
unless_minus text (Some rest) = closed_at true rest

abbrev pub unless_plus : List ℕ → Option (List ℕ) → Option Read
unless_plus text None = unless_minus text (mark_at 45 text)
unless_plus text (Some rest) = closed_at false rest

-- a sign, digits and ')'
abbrev pub bracketed_at : List ℕ → Option Read
bracketed_at text = unless_plus text (mark_at 43 text)

abbrev pub unless_bracket : List ℕ → Option (List ℕ) → Option Read
unless_bracket text None = plain_at text
unless_bracket text (Some rest) = bracketed_at rest

unfoldable pub exponent_at : List ℕ → Option Read
exponent_at text = unless_bracket text (mark_at 40 text)

-- ---- factors

abbrev pub unless_stars : List ℕ → Option (List ℕ) → Option Read
unless_stars text None = Some (T, text)
unless_stars text (Some rest) = exponent_at rest

-- behind T
unfoldable pub temperature_at : List ℕ → Option Read
temperature_at text = unless_stars text (stars_at text)

-- behind LN
unfoldable pub logarithm_at : List ℕ → Option Read
logarithm_at text = mark_at 40 text >>= mark_at 84 >>= mark_at 41 >>= λ rest. Some (LnT, rest)

abbrev pub unless_hash : List ℕ → Option (List ℕ) → List ℕ
unless_hash text None = text
unless_hash text (Some rest) = rest

-- behind a name
unfoldable pub behind_hash : List ℕ → List ℕ
behind_hash text = unless_hash text (mark_at 35 text)

abbrev pub called_at : List ℕ → List ℕ → Option Read
called_at name rest = cond (is_function_name name) (Some (Name name, behind_hash rest)) None

unfoldable pub named_at : List ℕ → List ℕ → Option Read
named_at name rest =
    cond (same_word name (codes "T")) (temperature_at rest) (cond (same_word name (codes "LN")) (logarithm_at rest) (called_at name rest))

-- a number of at most 64 bytes and of an exponent from -200 to 200
abbrev pub is_readable : List ℕ → Numeral → Bool
is_readable w n = nat_lt (length w) 65 && nat_lt (unsigned_abs (value_of n).exponent) 201

abbrev pub value_if : List ℕ → Option Numeral → Option Decimal
value_if w None = None
value_if w (Some n) = cond (is_readable w n) (Some (value_of n)) None

unfoldable pub value_in : List ℕ → Option Decimal
value_in w = value_if w (numeral_in w)

abbrev pub number_up_to : List ℕ → Option (List ℕ) → Option Read
number_up_to text None = None
number_up_to text (Some rest) = value_in (take (length text - length rest) text) >>= λ d. Some (Number d, rest)

unfoldable pub number_at : List ℕ → Option Read
number_at text = number_up_to text (after_number text)

abbrev pub is_sign : ℕ → Bool
is_sign b = (b == 43) || (b == 45)

abbrev pub factor_from : List ℕ → Option Read
factor_from [] = None
factor_from (b ∷ bs) =
    cond (is_letter b) (named_at (name_bytes_at (b ∷ bs)).0 (name_bytes_at (b ∷ bs)).1) (cond (is_sign b) None (number_at (b ∷ bs)))

unfoldable pub factor_at : List ℕ → Option Read
factor_at text = factor_from (behind_spaces text)

-- ---- products

abbrev pub Parts : Type 0
Parts = List Part × List ℕ

abbrev pub product_on : (List ℕ → Option Parts) → Read → Option (List ℕ) → Option Parts
product_on more x None = Some (x.0 ∷ [], x.1)
product_on more x (Some rest) = more rest >>= λ y. Some (x.0 ∷ y.0, y.1)

abbrev pub product_behind : (List ℕ → Option Parts) → Read → Option Parts
product_behind more x = product_on more x (mark_at 42 x.1)

-- at most so many factors
unfoldable pub product_at : ℕ → List ℕ → Option Parts
product_at zero text = None
product_at (suc k) text = factor_at text >>= product_behind (product_at k)

-- ---- signs

abbrev pub turned : Bool × List ℕ → Bool × List ℕ
turned s = (not s.0, s.1)

-- signs and spaces, and whether they make it negative
unfoldable pub signs_at : List ℕ → Bool × List ℕ
signs_at [] = (false, [])
signs_at (b ∷ bs) =
    cond (b == 32) (signs_at bs) (cond (b == 43) (signs_at bs) (cond (b == 45) (turned (signs_at bs)) (false, b ∷ bs)))

-- whether a byte at which signs go on turns the sign
abbrev pub sign_of : ℕ → Option Bool
sign_of b = cond (b == 32) (Some false) (cond (b == 43) (Some false) (cond (b == 45) (Some true) None))

abbrev pub turned_if : Bool → Bool → Bool
turned_if true b = not b
turned_if false b = b

-- ---- sums

abbrev pub term : Bool → List Part → Term
term negative parts = record { negative = negative; parts = parts }

abbrev pub begins_signed : List ℕ → Bool
begins_signed [] = false
begins_signed (b ∷ bs) = is_sign b

-- at most so many terms, each behind its signs, up to the end of the text
unfoldable pub terms_at : ℕ → List ℕ → Option (List Term)
terms_at k [] = Some []
terms_at zero (b ∷ bs) = None
terms_at (suc k) (b ∷ bs) =
    cond (is_sign b) (product_at 16 (signs_at (b ∷ bs)).1 >>= λ p. terms_at k (behind_spaces p.1) >>= λ xs. Some (term (signs_at (b ∷ bs)).0 p.0 ∷ xs)) None

abbrev pub all_terms : List ℕ → Option (List Term)
all_terms text = terms_at (length text) text

unfoldable pub sum_at : List ℕ → Option (List Term)
sum_at text =
    product_at 16 (signs_at text).1 >>= λ p. all_terms (behind_spaces p.1) >>= λ xs. Some (term (signs_at text).0 p.0 ∷ xs)

abbrev pub term_behind : Bool → Option Parts → Option (Term × List ℕ)
term_behind negative None = None
term_behind negative (Some p) = Some (term negative p.0, behind_spaces p.1)

-- signs and a product, and what is behind the spaces behind them
unfoldable pub term_at : List ℕ → Option (Term × List ℕ)
term_at text = cond (begins_signed text) (term_behind (signs_at text).0 (product_at 16 (signs_at text).1)) None

abbrev pub with_terms : List Term → Option (List Term) → Option (List Term)
with_terms front None = None
with_terms front (Some xs) = Some (front ++ xs)
