-- The lines of a text: words with one space between them, and a line feed at the end.
use Rattle.std.specs.Prelude.{ℕ, List, [], ◌∷◌, ◌++◌, map}
use Rattle.std.specs.Borrow.{Bor}
use Rattle.std.specs.List.{join_with_byte}
use Rattle.cal_scan.specs.declared.byte.TheConstants.{SPACE, LINE_FEED}

abbrev pub Word : Type 0
Word = List ℕ

abbrev pub Line : Type 0
Line = List ℕ

-- the words behind references
abbrev pub texts : List (Bor Word) → List Word
texts words = map (λ w. w.now) words

unfoldable pub line : List Word → Line
line words = join_with_byte SPACE words ++ LINE_FEED ∷ []
