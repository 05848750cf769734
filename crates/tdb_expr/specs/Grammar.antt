-- Expressions as they are written.
--
--   expression = signs? product (signs product)*    signs = one or more of + and -
--   product    = factor ('*' factor)*               at most 16 factors
--   factor     = number without a sign | T | T '**' exponent | LN '(' T ')' | name '#'?
--   exponent   = digits | '(' sign? digits ')'      a magnitude of at most 20
--
-- Numbers, names, runs of digits and all that is quoted here are words. Any spaces may stand before each word and behind the last one.
use Rattle.std.specs.Prelude.{◌≡◌, ℕ, zero, suc, ◌<◌, ◌≤◌, ◌⊎◌, List, [], ◌∷◌, ◌++◌, length, codes, Bool, true, false, not, ◌&&◌, ◌||◌, ℤ, pos, unsigned_abs}
use Rattle.std.specs.Str.Parse.{AllDigits, digits_value}
use Rattle.cal_dec.specs.Decimals.{Decimal, decimal_of}
use Rattle.cal_dec.specs.Signs.{signed}
use Rattle.cal_dec.specs.Numerals.{Sign, Absent, Plus, Minus, is_minus, Numeral, Spells, value_of}
use Rattle.cal_scan.specs.Words.{same_word, is_name}
use Rattle.tdb_expr.specs.declared.factor.Factor.{Factor}
use Rattle.tdb_expr.specs.declared.factor.Factor.TheVariants.{Number, T, Power, LnT, Name}
use Rattle.tdb_expr.specs.declared.product.Product.{Product}
use Rattle.tdb_expr.specs.declared.expression.Expr.{Expr}
use Rattle.tdb_expr.specs.declared.expression.Expr.TheVariants.{Sum, Unsupported}

-- ---- words and spaces

abbrev pub Word : Type 0
Word = List ℕ

abbrev pub spaces : ℕ → List ℕ
spaces zero = []
spaces (suc n) = 32 ∷ spaces n

-- the text begins with these words, each behind any spaces, and goes on with the rest
abbrev pub Begins : List Word → List ℕ → List ℕ → Type 0
Begins [] text rest = text ≡ rest
Begins (w ∷ ws) text rest = (n : ℕ) × (behind : List ℕ) × (text ≡ spaces n ++ (w ++ behind)) × Begins ws behind rest

-- the text is these words
abbrev pub AreWords : List Word → List ℕ → Type 0
AreWords ws text = (n : ℕ) × Begins ws text (spaces n)

-- ---- factors

-- a number without a sign, read as d: at most 64 bytes, and an exponent from -200 to 200
pub record IsNumberWord (w : Word) (d : Decimal) : Type 0 where
  pub numeral : Numeral
  pub spells : Spells numeral w
  pub unsigned : numeral.sign ≡ Absent
  pub short : length w ≤ 64
  pub value : value_of numeral ≡ d
  pub within : unsigned_abs d.exponent ≤ 200

-- one digit or more, which write n
pub record WritesDigits (w : Word) (n : ℕ) : Type 0 where
  pub filled : 0 < length w
  pub digits : AllDigits 10 w
  pub value : digits_value 10 w ≡ n

abbrev pub sign_words : Sign → List Word
sign_words Absent = []
sign_words Plus = codes "+" ∷ []
sign_words Minus = codes "-" ∷ []

-- digits
pub record SpellsPlain (n : ℤ) (ws : List Word) : Type 0 where
  pub digits : Word
  pub magnitude : ℕ
  pub writes : WritesDigits digits magnitude
  pub words : ws ≡ digits ∷ []
  pub value : n ≡ pos magnitude

-- '(' sign? digits ')'
pub record SpellsBracketed (n : ℤ) (ws : List Word) : Type 0 where
  pub sign : Sign
  pub digits : Word
  pub magnitude : ℕ
  pub writes : WritesDigits digits magnitude
  pub words : ws ≡ codes "(" ∷ (sign_words sign ++ digits ∷ codes ")" ∷ [])
  pub value : n ≡ signed (is_minus sign) magnitude

abbrev pub SpellsExponent : ℤ → List Word → Type 0
SpellsExponent n ws = (unsigned_abs n ≤ 20) × (SpellsPlain n ws ⊎ SpellsBracketed n ws)

-- T '**' exponent
pub record SpellsPower (n : ℤ) (ws : List Word) : Type 0 where
  pub exponent : List Word
  pub spells : SpellsExponent n exponent
  pub words : ws ≡ codes "T" ∷ codes "**" ∷ exponent

-- the names T, LN, P, EXP and LOG are no names of functions
abbrev pub is_taken : Word → Bool
is_taken w =
    same_word w (codes "T")
    || (same_word w (codes "LN") || (same_word w (codes "P") || (same_word w (codes "EXP") || same_word w (codes "LOG"))))

abbrev pub is_function_name : Word → Bool
is_function_name w = is_name w && not (is_taken w)

-- name '#'?
pub record SpellsName (name : Word) (ws : List Word) : Type 0 where
  pub fine : is_function_name name ≡ true
  pub words : (ws ≡ name ∷ []) ⊎ (ws ≡ name ∷ codes "#" ∷ [])

abbrev pub SpellsFactor : Factor → List Word → Type 0
SpellsFactor (Number d) ws = (w : Word) × (ws ≡ w ∷ []) × IsNumberWord w (decimal_of d)
SpellsFactor T ws = ws ≡ codes "T" ∷ []
SpellsFactor (Power n) ws = SpellsPower n ws
SpellsFactor LnT ws = ws ≡ codes "LN" ∷ codes "(" ∷ codes "T" ∷ codes ")" ∷ []
SpellsFactor (Name name) ws = SpellsName name ws

-- ---- products and sums

abbrev pub SpellsProduct : List Factor → List Word → Type 0
SpellsProduct [] ws = ⊥
SpellsProduct (x ∷ []) ws = SpellsFactor x ws
SpellsProduct (x ∷ y ∷ xs) ws =
    (a : List Word) × (b : List Word) × (ws ≡ a ++ codes "*" ∷ b) × SpellsFactor x a × SpellsProduct (y ∷ xs) b

-- any number of signs; negative where an odd number of them is -
abbrev pub SpellsSigns : Bool → List Word → Type 0
SpellsSigns negative [] = negative ≡ false
SpellsSigns negative (w ∷ ws) =
    ((w ≡ codes "+") × SpellsSigns negative ws) ⊎ ((w ≡ codes "-") × SpellsSigns (not negative) ws)

-- signs and a product of at most 16 factors
pub record SpellsTerm (p : Product) (signs factors : List Word) : Type 0 where
  pub sign : SpellsSigns p.negative signs
  pub product : SpellsProduct p.factors factors
  pub few : length p.factors ≤ 16

-- (signs product)*
abbrev pub SpellsTerms : List Product → List Word → Type 0
SpellsTerms [] ws = ws ≡ []
SpellsTerms (p ∷ ps) ws =
    (a : List Word) × (b : List Word) × (c : List Word) × (ws ≡ a ++ (b ++ c)) × (0 < length a) × SpellsTerm p a b × SpellsTerms ps c

-- signs? product (signs product)*
abbrev pub SpellsSum : List Product → List Word → Type 0
SpellsSum [] ws = ⊥
SpellsSum (p ∷ ps) ws =
    (a : List Word) × (b : List Word) × (c : List Word) × (ws ≡ a ++ (b ++ c)) × SpellsTerm p a b × SpellsTerms ps c

-- the expression that a text is; Unsupported where no sum is spelled like that
abbrev pub IsReading : List ℕ → Expr → Type 0
IsReading text (Sum products) = (ws : List Word) × SpellsSum products ws × AreWords ws text
IsReading text Unsupported = (products : List Product) (ws : List Word) → SpellsSum products ws → AreWords ws text → ⊥
