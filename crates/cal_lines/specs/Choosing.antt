-- One format or another, by its first line; a list of parts, one for each of some keys; and a list of parts that an end closes.
use Rattle.std.specs.Prelude.{ℕ, zero, suc, List, [], ◌∷◌, Option, Some, None, Ok, Err, Bool, false, cond, ◌⊎◌}
use Rattle.std.proofs.Common.{inl, inr}
use Rattle.cal_scan.specs.Words.{same_word}
use Rattle.cal_scan.specs.Lines.{Word, Line}
use Rattle.cal_lines.specs.Reading.{Read, ◌>>=◌, both, pair, words_of}

-- by the test on the first line, one format or the other
unfoldable pub either : {A B : Type 0} → (Line → Bool) → Read A → Read B → Read (A ⊎ B)
either test f g (n, []) = Err n
either test f g (n, l ∷ ls) = cond (test l) (f (n, l ∷ ls) >>= λ x. Ok (inl x.0, x.1)) (g (n, l ∷ ls) >>= λ x. Ok (inr x.0, x.1))

-- a part for each key, one behind the other
unfoldable pub each : {K A : Type 0} → (K → Read A) → List K → Read (List A)
each f [] at = Ok ([], at)
each f (k ∷ ks) at = both (λ a vs. a ∷ vs) (f k) (λ a. each f ks) at

-- no line
unfoldable pub nothing : Read (Unit {0})
nothing at = Ok (tt, at)

-- what a part and those behind it make, or the end
abbrev pub in_front : {A B : Type 0} → (A × (List A × B)) ⊎ B → Unit {0} → List A × B
in_front (inl x) u = (x.0 ∷ x.1.0, x.1.1)
in_front (inr b) u = ([], b)

abbrev pub at_end : {A B : Type 0} → B → Unit {0} → List A × B
at_end b u = ([], b)

-- parts while the next line passes the test, at most so many, and then an end
unfoldable pub until : {A B : Type 0} → (Line → Bool) → Read A → Read B → ℕ → Read (List A × B)
until test f g zero = both at_end g (λ b. nothing)
until test f g (suc k) = both in_front (either test (both pair f (λ a. until test f g k)) g) (λ x. nothing)

-- whether the first word of a line is the key
abbrev pub is_first : Word → Option (List Word) → Bool
is_first key None = false
is_first key (Some []) = false
is_first key (Some (w ∷ ws)) = same_word w key

abbrev pub begins_with : Word → Line → Bool
begins_with key l = is_first key (words_of l)

-- whether the next line passes the test
abbrev pub next_passes : (Line → Bool) → List Line → Bool
next_passes test [] = false
next_passes test (l ∷ ls) = test l
