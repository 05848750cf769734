-- Reading lines from the first on, with the line of the first fault.
use Rattle.std.specs.Prelude.{◌≡◌, ℕ, zero, suc, ◌+◌, ◌≤◌, List, [], ◌∷◌, ◌++◌, length, Option, Some, None, Result, Ok, Err, cond, ◌==◌}
use Rattle.std.specs.List.{slice_split}
use Rattle.cal_scan.specs.Lines.{Word, Line}
use Rattle.cal_scan.specs.declared.byte.TheConstants.{SPACE, LINE_FEED}
use Rattle.cal_lines.specs.declared.fault.TextFault.{TextFault}
use Rattle.cal_lines.specs.declared.fault.TextFault.TheVariants as faults

-- The lines of the bytes, each with its line feed, which the last may lack.
abbrev pub before_lines : ℕ → List Line → List Line
before_lines b [] = (b ∷ []) ∷ []
before_lines b (l ∷ ls) = (b ∷ l) ∷ ls

abbrev pub lines_of : List ℕ → List Line
lines_of [] = []
lines_of (b ∷ bs) = cond (b == LINE_FEED) ((LINE_FEED ∷ []) ∷ lines_of bs) (before_lines b (lines_of bs))

-- The texts spell values of A, each as some lines. Of these lines, the first of which has the number n, those before
-- the number k are the first lines of some text, and no more of them are.
pub record Stops {A : Type 0} (spell : A → List Line) (Fits : A → Type 0) (n : ℕ) (ls : List Line) (k : ℕ) : Type 0 where
  pub front : List Line
  pub rest : List Line
  pub cut : ls ≡ front ++ rest
  pub count : n + length front ≡ k
  pub goes : (a : A) × Fits a × (more : List Line) × (spell a ≡ front ++ more)
  pub ends : (longer others more : List Line) (a : A) → ls ≡ longer ++ others → Fits a → spell a ≡ longer ++ more → n + length longer ≤ k

-- the number of the next line, and the lines from there on
abbrev pub Lines : Type 0
Lines = ℕ × List Line

-- a value and what is behind it, or the line of the first fault
abbrev pub Read : Type 0 → Type 0
Read A = Lines → Result (A × Lines) ℕ

infixl 10 ◌>>=◌
abbrev pub ◌>>=◌ : {A B : Type 0} → Result A ℕ → (A → Result B ℕ) → Result B ℕ
(Ok x) >>= f = f x
(Err e) >>= f = Err e

-- What a function returned, seen by view, is what reading gives, unless memory ran out.
abbrev pub Fails : {Y : Type 0} → TextFault → Result Y ℕ → Type 0
Fails faults.Memory read = Unit {0}
Fails (faults.Line n) read = read ≡ Err n

abbrev pub Gives : {X Y : Type 0} → (X → Y) → Result X TextFault → Result Y ℕ → Type 0
Gives view (Ok x) read = read ≡ Ok (view x)
Gives view (Err e) read = Fails e read

-- one part of a text behind another
unfoldable pub both : {A B C : Type 0} → (A → B → C) → Read A → (A → Read B) → Read C
both join f g at = do
  x ← f at
  y ← g x.0 x.1
  Ok (join x.0 y.0, y.1)

-- a line without its line feed
abbrev pub with_front : ℕ → Option (List ℕ) → Option (List ℕ)
with_front b None = None
with_front b (Some bs) = Some (b ∷ bs)

unfoldable pub without_feed : Line → Option (List ℕ)
without_feed [] = None
without_feed (b ∷ []) = cond (b == LINE_FEED) (Some []) None
without_feed (b ∷ c ∷ bs) = with_front b (without_feed (c ∷ bs))

abbrev pub all_words : Option (List ℕ) → Option (List Word)
all_words None = None
all_words (Some bs) = Some (slice_split (λ b. b == SPACE) bs)

abbrev pub words_of : Line → Option (List Word)
words_of l = all_words (without_feed l)

-- the value that is there, or a fault
abbrev pub taken : {A B : Type 0} → ℕ → Option A → (A → Result B ℕ) → Result B ℕ
taken n None f = Err n
taken n (Some a) f = f a

unfoldable pub line_at : Read (List Word)
line_at (n, []) = Err n
line_at (n, l ∷ ls) = taken n (words_of l) (λ ws. Ok (ws, (n + 1, ls)))

-- a line that parse understands
unfoldable pub of_line : {A : Type 0} → (List Word → Option A) → Read A
of_line parse at = line_at at >>= λ x. taken at.0 (parse x.0) (λ a. Ok (a, x.1))

-- Such lines, until none is open: behind a line of the value a, with o lines open beside it, next a o are open.
unfoldable pub many : {A : Type 0} → (A → ℕ → ℕ) → (List Word → Option A) → ℕ → ℕ → List Line → Result (List A × Lines) ℕ
many next parse zero n ls = Ok ([], (n, ls))
many next parse (suc o) n [] = Err n
many next parse (suc o) n (l ∷ ls) = taken n (words_of l) (λ ws. taken n (parse ws) (λ a. many next parse (next a o) (n + 1) ls >>= λ x. Ok (a ∷ x.0, x.1)))

abbrev pub Runs : {A : Type 0} → (A → ℕ → ℕ) → (A → Type 0) → ℕ → List A → Type 0
Runs next Fits zero [] = Unit {0}
Runs next Fits zero (a ∷ vs) = ⊥
Runs next Fits (suc o) [] = ⊥
Runs next Fits (suc o) (a ∷ vs) = Fits a × Runs next Fits (next a o) vs

abbrev pub pair : {A B : Type 0} → A → B → A × B
pair a b = (a, b)

-- nothing may follow
abbrev pub only : {A : Type 0} → A × Lines → Result A ℕ
only (a, (n, [])) = Ok a
only (a, (n, l ∷ ls)) = Err n

abbrev pub ended : Lines → Result (Unit {0}) ℕ
ended at = only (tt, at)

-- what holds of the line of a fault
abbrev pub OnLine : {X : Type 0} → Result X TextFault → (ℕ → Type 0) → Type 0
OnLine (Ok x) P = Unit {0}
OnLine (Err faults.Memory) P = Unit {0}
OnLine (Err (faults.Line n)) P = P n
