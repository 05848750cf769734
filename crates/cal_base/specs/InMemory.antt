-- A library and a sink in memory as contracts see them.
use Rattle.std.specs.Prelude.{ℕ, List, Option, find, bytes_eq}
use Rattle.std.specs.Option.{option_map}

-- files by name, the numbers of the calls that fail, and the counts
pub record LibraryState : Type 0 where
  pub files : List (List ℕ × List ℕ)
  pub failing : List ℕ
  pub calls : ℕ
  pub given : ℕ
  pub faults : ℕ

-- the bytes of the file of a name
abbrev pub file_of : List (List ℕ × List ℕ) → List ℕ → Option (List ℕ)
file_of files name = option_map (λ f. f.1) (find (λ f. bytes_eq f.0 name) files)

-- the most bytes of a put, the most of all, what was taken, the numbers of the puts that fail, and the counts
pub record SinkState : Type 0 where
  pub room : ℕ
  pub most : ℕ
  pub taken : List ℕ
  pub failing : List ℕ
  pub calls : ℕ
  pub faults : ℕ
