-- How a cut goes on by a byte.
use Rattle.std.proofs.Common.{◌≡◌, ℕ, ◌+◌, ◌≤◌, ◌<◌, Bool, true, false, cond, List, [], ◌∷◌, ◌++◌, length, map, drop, get_or, Option, Some, None, refl, sym, ap, ◌∙◌, append_assoc, arith, rules}
use Rattle.std.specs.Prelude.{◌==◌}
use Rattle.std.specs.List.{slice_split}
use Rattle.std.proofs.lemmas.List.{at_drop_more, at_drop_all, append-nil, length-map}
use Rattle.std.proofs.lemmas.List.Sums.{count_by-le-length}
use Rattle.std.proofs.lemmas.Bool.{eq-eqb, ne_eqb}
use Rattle.std.proofs.lemmas.List.Splits.{slice_split-cons_yes, slice_split-cons_no, slice_split_none, length-slice_split}
use Rattle.tdb_lex.specs.declared.command.Command.{Command}
use Rattle.tdb_lex.specs.declared.cutter.Cutter.{Cutter}
use Rattle.tdb_lex.specs.Commands.{is_space, cleaned, is_comment, visible, Cell, cell, cells, cells_of_lines, is_mark, split_at_marks, or_else, solid_line, first_solid_line, made, command_of, finished, unfinished}
use Rattle.tdb_lex.specs.Outcome.{continued, outcome, cut_of}

comment_opened : (line : List ℕ) (i : ℕ) → i < length line → is_comment (drop i line) ≡ cond (is_space (get_or line i 0)) (is_comment (drop (i + 1) line)) (get_or line i 0 == 36)
unfolding is_comment
comment_opened line i lt = at_drop_more is_comment line i 0 lt

pub comment_decided : (line : List ℕ) (i : ℕ) (total : Bool) → i < length line → is_space (get_or line i 0) ≡ false → is_comment (drop i line) ≡ total → (get_or line i 0 == 36) ≡ total
comment_decided line i total lt off so_far = sym (sym so_far ∙ comment_opened line i lt ∙ rw off refl)

pub comment_on : (line : List ℕ) (i : ℕ) (total : Bool) → i < length line → is_space (get_or line i 0) ≡ true → is_comment (drop i line) ≡ total → is_comment (drop (i + 1) line) ≡ total
comment_on line i total lt on so_far = sym (sym so_far ∙ comment_opened line i lt ∙ rw on refl)

pub comment_end : (line : List ℕ) (i : ℕ) (total : Bool) → length line ≤ i → is_comment (drop i line) ≡ total → false ≡ total
unfolding is_comment
comment_end line i total le so_far = sym (at_drop_all is_comment line i le) ∙ so_far

or_none : (o : Option ℕ) → or_else o None ≡ o
or_none None = refl
or_none (Some n) = refl

or_assoc : (a b c : Option ℕ) → or_else a (or_else b c) ≡ or_else (or_else a b) c
or_assoc None b c = refl
or_assoc (Some n) b c = refl

-- a cut has a first part
record Cut (cs : List Cell) : Type 0 where
  first : List Cell
  others : List (List Cell)
  parts : split_at_marks cs ≡ first ∷ others

none_cut : split_at_marks [] ≡ [] ∷ []
none_cut = slice_split_none is_mark [] (search rules)

first_part : (cs : List Cell) → Cut cs
first_part [] = record { first = []; others = []; parts = none_cut }
first_part (c ∷ cs) = by_mark (is_mark c) refl (first_part cs)
  where
    by_mark : (b : Bool) → is_mark c ≡ b → Cut cs → Cut (c ∷ cs)
    by_mark true on rest = record { first = []; others = split_at_marks cs; parts = slice_split-cons_yes is_mark c cs on }
    by_mark false off rest = record { first = c ∷ rest.first; others = rest.others; parts = slice_split-cons_no is_mark c cs off ∙ rw rest.parts refl }

abbrev continued_at : List Command → List ℕ → Option ℕ → List (List Cell) → List Command × Option ℕ
continued_at list text first ps = continued list text first ps

mark_parts : (list : List Command) (text : List ℕ) (first : Option ℕ) (q : List Cell) (ps : List (List Cell)) → continued (list ++ made first text) [] None (q ∷ ps) ≡ continued list text first ([] ∷ q ∷ ps)
unfolding continued first_solid_line
mark_parts list text None q ps = refl
mark_parts list text (Some n) q ps = ap (λ (t : List ℕ). continued (list ++ made (Some n) t) [] None (q ∷ ps)) (sym (append-nil text))

pub mark_yes : (n b : ℕ) → b ≡ 33 → is_mark (cell n b) ≡ true
mark_yes n b e = eq-eqb b 33 e

pub mark_no : (n b : ℕ) → (b ≡ 33 → ⊥) → is_mark (cell n b) ≡ false
mark_no n b e = ne_eqb b 33 e

pub at_mark : (list : List Command) (text : List ℕ) (first : Option ℕ) (c : Cell) (rest : List Cell) → is_mark c ≡ true → continued (list ++ made first text) [] None (split_at_marks rest) ≡ continued list text first (split_at_marks (c ∷ rest))
at_mark list text first c rest on =
    let cut = first_part rest in
    let whole : split_at_marks (c ∷ rest) ≡ [] ∷ cut.first ∷ cut.others = slice_split-cons_yes is_mark c rest on ∙ ap (λ (ps : List (List Cell)). [] ∷ ps) cut.parts in
    ap (continued_at (list ++ made first text) [] None) cut.parts ∙ mark_parts list text first cut.first cut.others ∙ sym (ap (continued_at list text first) whole)

plain_parts : (list : List Command) (text : List ℕ) (first : Option ℕ) (c : Cell) (q : List Cell) (ps : List (List Cell)) → continued list (text ++ c.1 ∷ []) (or_else first (solid_line c)) (q ∷ ps) ≡ continued list text first ((c ∷ q) ∷ ps)
unfolding continued first_solid_line
plain_parts list text first c q [] = ap (λ (o : Option ℕ). (list, o)) (sym (or_assoc first (solid_line c) (first_solid_line q)))
plain_parts list text first c q (p ∷ ps) = rw (or_assoc first (solid_line c) (first_solid_line q), append_assoc text (c.1 ∷ []) (map (λ c. c.1) q)) refl

pub at_plain : (list : List Command) (text : List ℕ) (first : Option ℕ) (c : Cell) (rest : List Cell) → is_mark c ≡ false → continued list (text ++ c.1 ∷ []) (or_else first (solid_line c)) (split_at_marks rest) ≡ continued list text first (split_at_marks (c ∷ rest))
at_plain list text first c rest off =
    let cut = first_part rest in
    let whole : split_at_marks (c ∷ rest) ≡ (c ∷ cut.first) ∷ cut.others = slice_split-cons_no is_mark c rest off ∙ rw cut.parts refl in
    ap (continued_at list (text ++ c.1 ∷ []) (or_else first (solid_line c))) cut.parts ∙ plain_parts list text first c cut.first cut.others ∙ sym (ap (continued_at list text first) whole)

-- ---- the bytes of a line

pub bytes_on : (before now next : Cutter) (n i b : ℕ) (bytes : List ℕ) → i < length bytes → b ≡ cleaned (get_or bytes i 0)
    → ((rest : List Cell) → outcome next rest ≡ outcome now (cell n b ∷ rest))
    → ((rest : List Cell) → outcome now (cells n (drop i bytes) ++ rest) ≡ outcome before (cells n bytes ++ rest))
    → (rest : List Cell) → outcome next (cells n (drop (i + 1) bytes) ++ rest) ≡ outcome before (cells n bytes ++ rest)
unfolding cells
bytes_on before now next n i b bytes lt is put so_far rest =
    put (cells n (drop (i + 1) bytes) ++ rest) ∙ ap (λ (b : ℕ). outcome now (cell n b ∷ (cells n (drop (i + 1) bytes) ++ rest))) is ∙ sym (at_drop_more (λ bs. outcome now (cells n bs ++ rest)) bytes i 0 lt) ∙ so_far rest

pub bytes_end : (before now : Cutter) (n i : ℕ) (bytes : List ℕ) → length bytes ≤ i
    → ((rest : List Cell) → outcome now (cells n (drop i bytes) ++ rest) ≡ outcome before (cells n bytes ++ rest))
    → (rest : List Cell) → outcome now rest ≡ outcome before (cells n bytes ++ rest)
unfolding cells
bytes_end before now n i bytes le so_far rest = sym (at_drop_all (λ bs. outcome now (cells n bs ++ rest)) bytes i le) ∙ so_far rest

-- ---- lines

gone_start : (list : List Command) (ps : List (List Cell)) → continued list [] None ps ≡ (list ++ finished ps, unfinished ps)
unfolding continued finished unfinished
gone_start list [] = ap (λ (l : List Command). (l, None)) (sym (append-nil list))
gone_start list (p ∷ []) = ap (λ (l : List Command). (l, first_solid_line p)) (sym (append-nil list))
gone_start list (p ∷ q ∷ ps) = gone_start (list ++ command_of p) (q ∷ ps) ∙ ap (λ (l : List Command). (l, unfinished (q ∷ ps))) (append_assoc list (command_of p) (finished (q ∷ ps)))

pub at_start : (cs : List Cell) → continued [] [] None (split_at_marks cs) ≡ cut_of cs
at_start cs = gone_start [] (split_at_marks cs)

pub lines_on : {X : Type 0} (view : X → List ℕ) (now next : Cutter) (i : ℕ) (lines : List X) (d : X) (total : List Command × Option ℕ) → i < length lines
    → ((rest : List Cell) → outcome next rest ≡ outcome now (cells (i + 1) (visible (view (get_or lines i d))) ++ (cell (i + 1) 32 ∷ rest)))
    → outcome now (cells_of_lines (i + 1) (map view (drop i lines))) ≡ total
    → outcome next (cells_of_lines (i + 1 + 1) (map view (drop (i + 1) lines))) ≡ total
unfolding cells_of_lines
lines_on view now next i lines d total lt put so_far =
    put (cells_of_lines (i + 1 + 1) (map view (drop (i + 1) lines))) ∙ sym (at_drop_more (λ ls. outcome now (cells_of_lines (i + 1) (map view ls))) lines i d lt) ∙ so_far

pub lines_end : {X : Type 0} (view : X → List ℕ) (now : Cutter) (i : ℕ) (lines : List X) (total : List Command × Option ℕ) → length lines ≤ i
    → outcome now (cells_of_lines (i + 1) (map view (drop i lines))) ≡ total → outcome now [] ≡ total
unfolding cells_of_lines
lines_end view now i lines total le so_far = sym (at_drop_all (λ ls. outcome now (cells_of_lines (i + 1) (map view ls))) lines i le) ∙ so_far

pub at_end : (s : Cutter) → outcome s [] ≡ (s.list, s.first)
unfolding continued first_solid_line
at_end s = ap (continued_at s.list s.text s.first) none_cut ∙ ap (λ (o : Option ℕ). (s.list, o)) (or_none s.first)

pub comment_line : (s : Cutter) (n : ℕ) (line : List ℕ) → is_comment line ≡ true → (rest : List Cell) → outcome s (cell n 32 ∷ rest) ≡ outcome s (cells n (visible line) ++ (cell n 32 ∷ rest))
unfolding cells
comment_line s n line on rest = rw on refl

pub whole : {X : Type 0} (view : X → List ℕ) (xs ys : List X) (bytes : List ℕ) (s : Cutter) → ys ≡ xs → map view xs ≡ slice_split (λ b. b == 10) bytes
    → outcome s [] ≡ cut_of (cells_of_lines 1 (map view ys)) → (s.list, s.first) ≡ cut_of (cells_of_lines 1 (slice_split (λ b. b == 10) bytes))
whole view xs ys bytes s same cut so_far = sym (at_end s) ∙ so_far ∙ ap (λ (ls : List (List ℕ)). cut_of (cells_of_lines 1 ls)) (ap (map view) same ∙ cut)

pub few_lines : {X : Type 0} (view : X → List ℕ) (xs ys : List X) (bytes : List ℕ) → ys ≡ xs → map view xs ≡ slice_split (λ b. b == 10) bytes → length ys ≤ length bytes + 1
few_lines view xs ys bytes same cut = omega (arith, ap length same, ap length cut, length-map xs view, length-slice_split (λ b. b == 10) bytes, count_by-le-length (λ b. b == 10) bytes)
