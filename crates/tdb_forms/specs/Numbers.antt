-- Numbers of a command outside its expressions.
use Rattle.std.specs.Prelude.{◌≡◌, ℕ, ◌≤◌, List, length, unsigned_abs}
use Rattle.cal_dec.specs.declared.dec.Dec.{Dec}
use Rattle.cal_dec.specs.Decimals.{decimal_of}
use Rattle.cal_dec.specs.Numerals.{Numeral, Spells, value_of}
use Rattle.cal_dec.specs.Fronts.{IsLongestNumber}

-- the token is a number that is read as d: at most 64 bytes, and an exponent from -200 to 200
pub record IsReadable (token : List ℕ) (d : Dec) : Type 0 where
  pub numeral : Numeral
  pub spells : Spells numeral token
  pub short : length token ≤ 64
  pub value : decimal_of d ≡ value_of numeral
  pub within : unsigned_abs d.exponent ≤ 200

-- the longest number at the front of the text is read as d, and `rest` stands behind it
pub record BeginsWithNumber (text : List ℕ) (d : Dec) (rest : List ℕ) : Type 0 where
  pub front : List ℕ
  pub longest : IsLongestNumber text front rest
  pub readable : IsReadable front d
