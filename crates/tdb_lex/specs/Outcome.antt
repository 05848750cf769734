-- What a cutter ends with, if these cells follow.
use Rattle.std.specs.Prelude.{ℕ, List, [], ◌∷◌, ◌++◌, map, Option, None}
use Rattle.tdb_lex.specs.declared.command.Command.{Command}
use Rattle.tdb_lex.specs.declared.cutter.Cutter.{Cutter}
use Rattle.tdb_lex.specs.Commands.{Cell, or_else, first_solid_line, made, split_at_marks, finished, unfinished}

unfoldable pub continued : List Command → List ℕ → Option ℕ → List (List Cell) → List Command × Option ℕ
continued list text first [] = (list, first)
continued list text first (p ∷ []) = (list, or_else first (first_solid_line p))
continued list text first (p ∷ q ∷ ps) = continued (list ++ made (or_else first (first_solid_line p)) (text ++ map (λ c. c.1) p)) [] None (q ∷ ps)

abbrev pub outcome : Cutter → List Cell → List Command × Option ℕ
outcome c cs = continued c.list c.text c.first (split_at_marks cs)

abbrev pub cut_of : List Cell → List Command × Option ℕ
cut_of cs = (finished (split_at_marks cs), unfinished (split_at_marks cs))
