-- The commands of a database text: its comment lines left out, its letters made capitals, and cut at each `!`.
use Rattle.std.specs.Prelude.{ℕ, ◌+◌, ◌-◌, List, [], ◌∷◌, ◌++◌, map, Bool, false, cond, ◌&&◌, ◌||◌, ◌==◌, nat_lt, Option, Some, None}
use Rattle.std.specs.List.{slice_split}
use Rattle.tdb_lex.specs.declared.command.Command.{Command}

-- the bytes below 33, and 127
abbrev pub is_space : ℕ → Bool
is_space b = nat_lt b 33 || b == 127

-- a space byte as byte 32, and a letter as its capital
abbrev pub cleaned : ℕ → ℕ
cleaned b = cond (is_space b) 32 (cond (nat_lt 96 b && nat_lt b 123) (b - 32) b)

-- a line whose first byte that is no space is a dollar sign
unfoldable pub is_comment : List ℕ → Bool
is_comment [] = false
is_comment (b ∷ bs) = cond (is_space b) (is_comment bs) (b == 36)

-- a comment line shows nothing
abbrev pub visible : List ℕ → List ℕ
visible line = cond (is_comment line) [] line

-- a byte, behind the number of its line
abbrev pub Cell : Type 0
Cell = ℕ × ℕ

abbrev pub cell : ℕ → ℕ → Cell
cell n b = (n, b)

unfoldable pub cells : ℕ → List ℕ → List Cell
cells n [] = []
cells n (b ∷ bs) = cell n (cleaned b) ∷ cells n bs

-- lines numbered from n, and a space for the end of each
unfoldable pub cells_of_lines : ℕ → List (List ℕ) → List Cell
cells_of_lines n [] = []
cells_of_lines n (l ∷ ls) = cells n (visible l) ++ (cell n 32 ∷ cells_of_lines (n + 1) ls)

abbrev pub is_mark : Cell → Bool
is_mark c = c.1 == 33

-- the cells between the marks
abbrev pub split_at_marks : List Cell → List (List Cell)
split_at_marks cs = slice_split is_mark cs

-- the text between the marks; lines end with byte 10
unfoldable pub parts : List ℕ → List (List Cell)
parts bytes = split_at_marks (cells_of_lines 1 (slice_split (λ b. b == 10) bytes))

abbrev pub or_else : Option ℕ → Option ℕ → Option ℕ
or_else None o = o
or_else (Some n) o = Some n

-- the line of a byte that is no space
abbrev pub solid_line : Cell → Option ℕ
solid_line c = cond (c.1 == 32) None (Some c.0)

-- the line of the first byte that is no space
unfoldable pub first_solid_line : List Cell → Option ℕ
first_solid_line [] = None
first_solid_line (c ∷ cs) = or_else (solid_line c) (first_solid_line cs)

abbrev pub made : Option ℕ → List ℕ → List Command
made None text = []
made (Some n) text = record { line = n; text = text } ∷ []

-- a part of spaces alone is no command
abbrev pub command_of : List Cell → List Command
command_of cs = made (first_solid_line cs) (map (λ c. c.1) cs)

-- the commands: every part but the last
unfoldable pub finished : List (List Cell) → List Command
finished [] = []
finished (p ∷ []) = []
finished (p ∷ q ∷ ps) = command_of p ++ finished (q ∷ ps)

-- where the last part has a byte that is no space
unfoldable pub unfinished : List (List Cell) → Option ℕ
unfinished [] = None
unfinished (p ∷ []) = first_solid_line p
unfinished (p ∷ q ∷ ps) = unfinished (q ∷ ps)
