-- Reading many lines one after the other, as a loop does.
use Rattle.std.proofs.Common.{◌≡◌, ℕ, zero, suc, ◌+◌, ◌<◌, List, [], ◌∷◌, ◌++◌, Result, Ok, Err, Option, Some, None, refl, sym, ap, ◌∙◌, append_assoc, arith}
use Rattle.std.proofs.lemmas.List.{append-nil}
use Rattle.cal_lines.specs.declared.fault.TextFault.{TextFault}
use Rattle.cal_lines.specs.declared.fault.TextFault.TheVariants as faults
use Rattle.cal_scan.specs.Lines.{Word, Line}
use Rattle.cal_lines.specs.Reading.{Lines, ◌>>=◌, Fails, words_of, taken, line_at, of_line, many}

-- what was read before, and what is still read
abbrev pub with_before : {A : Type 0} → List A → Result (List A × Lines) ℕ → Result (List A × Lines) ℕ
with_before front read = read >>= λ x. Ok (front ++ x.0, x.1)

abbrev many_at : {A : Type 0} → (A → ℕ → ℕ) → (List Word → Option A) → ℕ → Lines → Result (List A × Lines) ℕ
many_at next parse o at = many next parse o at.0 at.1

abbrev onward : {A : Type 0} → (A → ℕ → ℕ) → (List Word → Option A) → ℕ → A × Lines → Result (List A × Lines) ℕ
onward next parse o x = many_at next parse (next x.0 o) x.1 >>= λ y. Ok (x.0 ∷ y.0, y.1)

by_line : {A : Type 0} (next : A → ℕ → ℕ) (parse : List Word → Option A) (o n : ℕ) (ls : List Line) → many next parse (suc o) n ls ≡ of_line parse (n, ls) >>= onward next parse o
unfolding many of_line line_at
by_line next parse o n [] = refl
by_line {A = A} next parse o n (l ∷ ls) = by_words (words_of l)
  where
    by_value : (v : Option A) → taken n v (λ a. onward next parse o (a, (n + 1, ls))) ≡ taken n v (λ a. Ok (a, (n + 1, ls))) >>= onward next parse o
    by_value None = refl
    by_value (Some a) = refl

    to_words : List Word → Result (List Word × Lines) ℕ
    to_words ws = Ok (ws, (n + 1, ls))

    from_words : List Word × Lines → Result (A × Lines) ℕ
    from_words x = taken n (parse x.0) (λ a. Ok (a, x.1))

    by_words : (w : Option (List Word)) → taken n w (λ ws. taken n (parse ws) (λ a. onward next parse o (a, (n + 1, ls)))) ≡ taken n w to_words >>= from_words >>= onward next parse o
    by_words None = refl
    by_words (Some ws) = by_value (parse ws)

regroup : {A : Type 0} (front : List A) (v : A) (read : Result (List A × Lines) ℕ) → with_before front (read >>= λ y. Ok (v ∷ y.0, y.1)) ≡ with_before (front ++ v ∷ []) read
regroup front v (Ok x) = ap (λ vs. Ok (vs, x.1)) (sym (append_assoc front (v ∷ []) x.0))
regroup front v (Err f) = refl

pub goes_on : {A : Type 0} (next : A → ℕ → ℕ) (parse : List Word → Option A) (front : List A) (m o : ℕ) (at after : Lines) (v : A) (total : Result (List A × Lines) ℕ) → m ≡ suc o → of_line parse at ≡ Ok (v, after)
    → with_before front (many next parse m at.0 at.1) ≡ total → with_before (front ++ v ∷ []) (many next parse (next v o) after.0 after.1) ≡ total
goes_on next parse front m o at after v total more h so_far =
    sym (sym so_far ∙ ap (λ (k : ℕ). with_before front (many next parse k at.0 at.1)) more ∙ ap (with_before front) (by_line next parse o at.0 at.1) ∙ rw h (regroup front v (many next parse (next v o) after.0 after.1)))

pub ends : {A : Type 0} (next : A → ℕ → ℕ) (parse : List Word → Option A) (e : TextFault) (front : List A) (m : ℕ) (at : Lines) (total : Result (List A × Lines) ℕ) → 0 < m → Fails e (of_line parse at)
    → with_before front (many next parse m at.0 at.1) ≡ total → Fails e total
ends next parse faults.Memory front m at total more h so_far = tt
ends next parse (faults.Line k) front zero at total more h so_far = absurd (omega arith)
ends next parse (faults.Line k) front (suc o) at total more h so_far = sym so_far ∙ ap (with_before front) (by_line next parse o at.0 at.1) ∙ rw h refl

pub is_done : {A : Type 0} (next : A → ℕ → ℕ) (parse : List Word → Option A) (front : List A) (m : ℕ) (at : Lines) (total : Result (List A × Lines) ℕ) → m ≡ 0 → with_before front (many next parse m at.0 at.1) ≡ total → total ≡ Ok (front, at)
unfolding many
is_done next parse front m at total none so_far = sym so_far ∙ ap (λ (k : ℕ). with_before front (many next parse k at.0 at.1)) none ∙ ap (λ vs. Ok (vs, at)) (append-nil front)
