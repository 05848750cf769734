-- The rows that pairs of an option and its value give.
use Rattle.std.proofs.Common.{◌≡◌, ◌∙◌, ◌++◌, ◌+◌, ◌||◌, ap, refl, arith, ℕ, Bool, true, false, cond, List, [], ◌∷◌, map, length, Some, None}
use Rattle.std.specs.Prelude.{fold}
use Rattle.std.specs.Str.{bytes_eq}
use Rattle.std.proofs.lemmas.List.{append-nil}
use Rattle.clap.specs.Walk.{Row, at_row, first_of, has_row, more_values, used, with_default, without}
use Rattle.clap.specs.Takes.{is_given}
use Rattle.clap.specs.declared.builder.value_parser.Reading.TheVariants as reading
use Rattle.clap.specs.declared.parser.matches.ValueSource.TheVariants.{CommandLine}
use Rattle.cal_args.specs.Plain.{Choice, values_of, value_of}
use Rattle.cal_scan.specs.Lines.{Word}
use Rattle.cal_args.proofs.Tables.{ready}

-- the row of a pair: its value alone, from the command line
abbrev pub row_for : Word × Word → Row
row_for pair = record {
  id = pair.0;
  values = pair.1 ∷ [];
  count = None;
  source = Some CommandLine;
  reading = reading.AsWritten;
}

unfoldable pub number_of : Bool → ℕ
number_of b = cond b 1 0

-- how often an option stands in pairs, and in rows
abbrev pub times : Word → List (Word × Word) → ℕ
times name [] = 0
times name (pair ∷ pairs) = number_of (bytes_eq pair.0 name) + times name pairs

abbrev pub times_in : Word → List Row → ℕ
times_in name [] = 0
times_in name (row ∷ rows) = number_of (bytes_eq row.id name) + times_in name rows

pub times_push : (rows : List Row) (pair : Word × Word) (name : Word) → times_in name (rows ++ row_for pair ∷ []) ≡ times_in name rows + number_of (bytes_eq pair.0 name)
times_push [] pair name = omega arith
times_push (row ∷ rows) pair name = omega (arith, times_push rows pair name)

pub lacks_row : (rows : List Row) (name : Word) → times_in name rows ≡ 0 → has_row name rows ≡ false
unfolding number_of
lacks_row [] name e = refl
lacks_row (row ∷ rows) name e = go (bytes_eq row.id name) refl e (lacks_row rows name)
  where
    go : (b : Bool) → bytes_eq row.id name ≡ b → times_in name (row ∷ rows) ≡ 0 → (times_in name rows ≡ 0 → has_row name rows ≡ false) → has_row name (row ∷ rows) ≡ false
    go true t e more = let bad = rw t at e in absurd (omega arith)
    go false t e more = let rest = rw t at e in rw t (more (omega (arith, rest)))

at_end : (name : Word) (change : Row → List Row) (missing rows : List Row) → has_row name rows ≡ false → at_row name change missing rows ≡ rows ++ missing
at_end name change missing [] e = refl
at_end name change missing (row ∷ rows) e = go (bytes_eq row.id name) refl e (at_end name change missing rows)
  where
    go : (b : Bool) → bytes_eq row.id name ≡ b → (b || has_row name rows) ≡ false → (has_row name rows ≡ false → at_row name change missing rows ≡ rows ++ missing)
        → at_row name change missing (row ∷ rows) ≡ (row ∷ rows) ++ missing
    go true t e more = cc
    go false t e more = rw t (ap (λ rest. row ∷ rest) (more e))

-- an option that has no row gets one, the last
pub used_new : (choice : Choice) (value : Word) (rows : List Row) → has_row choice.name rows ≡ false
    → used (ready choice) (value ∷ []) rows ≡ rows ++ row_for (choice.name, value) ∷ []
used_new choice value rows e =
    let left : without choice.name rows ≡ rows = at_end choice.name (λ _. []) [] rows e ∙ append-nil rows in
    rw left (at_end choice.name (more_values CommandLine (value ∷ [])) (row_for (choice.name, value) ∷ []) rows e)

-- no option has a default
pub no_more : (choices : List Choice) (rows : List Row) → fold with_default rows (map ready choices) ≡ rows
no_more [] rows = refl
no_more (choice ∷ choices) rows = go (has_row choice.name rows) (no_more choices rows)
  where
    go : (b : Bool) → fold with_default rows (map ready choices) ≡ rows → fold with_default (cond b rows rows) (map ready choices) ≡ rows
    go true e = e
    go false e = e

-- the first value of an option, in the rows as in the pairs
pub first_is : (name : Word) (pairs : List (Word × Word)) → first_of name (map row_for pairs) ≡ value_of name pairs
unfolding values_of
first_is name [] = refl
first_is name (pair ∷ pairs) = go (bytes_eq pair.0 name) refl (first_is name pairs)
  where
    go : (b : Bool) → bytes_eq pair.0 name ≡ b → first_of name (map row_for pairs) ≡ value_of name pairs → first_of name (map row_for (pair ∷ pairs)) ≡ value_of name (pair ∷ pairs)
    go true t e = rw t refl
    go false t e = rw t e

pub is_there : (name : Word) (pairs : List (Word × Word)) → times name pairs ≡ 1 → is_given name (map row_for pairs) ≡ true
unfolding number_of
is_there name [] e = absurd (omega arith)
is_there name (pair ∷ pairs) e = go (bytes_eq pair.0 name) refl e (is_there name pairs)
  where
    go : (b : Bool) → bytes_eq pair.0 name ≡ b → times name (pair ∷ pairs) ≡ 1 → (times name pairs ≡ 1 → is_given name (map row_for pairs) ≡ true)
        → is_given name (map row_for (pair ∷ pairs)) ≡ true
    go true t e more = rw t refl
    go false t e more = let rest = rw t at e in rw t (more (omega (arith, rest)))

pub times_is : (name : Word) (pairs : List (Word × Word)) → length (values_of name pairs) ≡ times name pairs
unfolding values_of number_of
times_is name [] = refl
times_is name (pair ∷ pairs) = go (bytes_eq pair.0 name) refl (times_is name pairs)
  where
    go : (b : Bool) → bytes_eq pair.0 name ≡ b → length (values_of name pairs) ≡ times name pairs → length (values_of name (pair ∷ pairs)) ≡ times name (pair ∷ pairs)
    go true t e = rw t (omega (arith, e))
    go false t e = rw t (omega (arith, e))
