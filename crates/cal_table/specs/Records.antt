-- What a writer of records into memory holds between two of them, and which fields need no quotes.
use Rattle.std.specs.Prelude.{◌≡◌, ℕ, ◌≤◌, List, ◌++◌, length, false, Vec}
use Rattle.std.specs.List.{AllByRecursion}
use Rattle.csv.specs.Writing.{default_writer, needs_quotes, writer_setup, writer_under, writer_pending, fields_written, has_written}
use Rattle.csv.specs.declared.writer.Writer.{Writer}
use Rattle.cal_table.specs.Tables.{Field}

-- all that was written
abbrev pub text_in : {A : Type 0} → Writer (Vec ℕ A) → List ℕ
text_in writer = (writer_under writer).items ++ writer_pending writer

-- with commas, line feeds and quotes where they are needed, and no field of the next record yet
pub record IsBetween {A : Type 0} (writer : Writer (Vec ℕ A)) : Type 0 where
  pub setup : writer_setup writer ≡ default_writer
  pub fields : fields_written writer ≡ 0
  pub wrote : has_written writer ≡ false

-- a field that needs no quotes: it has no comma, no quote and no end of a line
abbrev pub IsPlain : Field → Type 0
IsPlain field = needs_quotes default_writer field ≡ false

-- more than one field, each without quotes
pub record ArePlain (fields : List Field) : Type 0 where
  pub several : 2 ≤ length fields
  pub plain : AllByRecursion IsPlain fields
