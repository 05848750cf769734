-- Reading parts one after the other, as a loop does: one for each of some keys, or until an end.
use Rattle.std.proofs.Common.{◌≡◌, ℕ, zero, suc, ◌+◌, ◌≤◌, ◌<◌, Bool, true, false, ◌⊎◌, inl, inr, List, [], ◌∷◌, ◌++◌, length, map, drop, get_or, Option, Result, Ok, Err, refl, sym, ap, ◌∙◌, append_assoc, arith}
use Rattle.std.proofs.lemmas.List.{at_drop_more, at_drop_all, append-nil}
use Rattle.cal_scan.specs.Lines.{Word, Line}
use Rattle.cal_lines.specs.declared.fault.TextFault.{TextFault}
use Rattle.cal_lines.specs.declared.fault.TextFault.TheVariants as faults
use Rattle.cal_lines.specs.Reading.{of_line, line_at, Lines, Read, ◌>>=◌, Fails, both}
use Rattle.cal_lines.specs.Choosing.{either, each, nothing, in_front, until, next_passes}
use Rattle.cal_lines.proofs.Many.{with_before}

-- ---- one for each key

abbrev behind_value : {A : Type 0} → A → List A × Lines → Result (List A × Lines) ℕ
behind_value a y = Ok (a ∷ y.0, y.1)

abbrev others : {K A : Type 0} → (K → Read A) → List K → A × Lines → Result (List A × Lines) ℕ
others f ks x = each f ks x.1 >>= behind_value x.0

pub each_map : {X K A : Type 0} (view : X → K) (f : K → Read A) (xs : List X) (at : Lines) → each f (map view xs) at ≡ each (λ x. f (view x)) xs at
unfolding each both
each_map view f [] at = refl
each_map {A = A} view f (x ∷ xs) at = by_first (f (view x) at) (λ after. each_map view f xs after)
  where
    by_first : (r : Result (A × Lines) ℕ) → ((after : Lines) → each f (map view xs) after ≡ each (λ x. f (view x)) xs after) → (r >>= others f (map view xs)) ≡ (r >>= others (λ x. f (view x)) xs)
    by_first (Ok x) rest = ap (λ (r : Result (List A × Lines) ℕ). r >>= behind_value x.0) (rest x.1)
    by_first (Err e) rest = refl

regroup : {A : Type 0} (front : List A) (v : A) (read : Result (List A × Lines) ℕ) → with_before front (read >>= behind_value v) ≡ with_before (front ++ v ∷ []) read
regroup front v (Ok x) = ap (λ vs. Ok (vs, x.1)) (sym (append_assoc front (v ∷ []) x.0))
regroup front v (Err f) = refl

opened : {K A : Type 0} (f : K → Read A) (front : List A) (ks : List K) (i : ℕ) (d : K) (at : Lines) → i < length ks
    → with_before front (each f (drop i ks) at) ≡ with_before front (f (get_or ks i d) at >>= others f (drop (i + 1) ks))
unfolding each both
opened f front ks i d at lt = at_drop_more (λ ks. with_before front (each f ks at)) ks i d lt

pub each_goes_on : {K A : Type 0} (f : K → Read A) (front : List A) (ks : List K) (i : ℕ) (d : K) (at after : Lines) (v : A) (total : Result (List A × Lines) ℕ) → i < length ks → f (get_or ks i d) at ≡ Ok (v, after)
    → with_before front (each f (drop i ks) at) ≡ total → with_before (front ++ v ∷ []) (each f (drop (i + 1) ks) after) ≡ total
each_goes_on f front ks i d at after v total lt h so_far = sym (sym so_far ∙ opened f front ks i d at lt ∙ rw h (regroup front v (each f (drop (i + 1) ks) after)))

pub each_fails : {K A : Type 0} (f : K → Read A) (e : TextFault) (front : List A) (ks : List K) (i : ℕ) (d : K) (at : Lines) (total : Result (List A × Lines) ℕ) → i < length ks → Fails e (f (get_or ks i d) at)
    → with_before front (each f (drop i ks) at) ≡ total → Fails e total
each_fails f faults.Memory front ks i d at total lt h so_far = tt
each_fails f (faults.Line k) front ks i d at total lt h so_far = sym so_far ∙ opened f front ks i d at lt ∙ rw h refl

pub each_is_done : {K A : Type 0} (f : K → Read A) (front : List A) (ks : List K) (i : ℕ) (at : Lines) (total : Result (List A × Lines) ℕ) → length ks ≤ i → with_before front (each f (drop i ks) at) ≡ total → total ≡ Ok (front, at)
unfolding each
each_is_done {A = A} f front ks i at total le so_far =
    let done : with_before front (each f (drop i ks) at) ≡ Ok (front ++ [], at) = at_drop_all (λ ks. with_before front (each f ks at)) ks i le in
    sym so_far ∙ done ∙ ap (λ (vs : List A). Ok (vs, at)) (append-nil front)

-- ---- until an end

-- what was read before, and what is still read
abbrev pub with_parts_before : {A B : Type 0} → List A → Result ((List A × B) × Lines) ℕ → Result ((List A × B) × Lines) ℕ
with_parts_before front read = read >>= λ x. Ok ((front ++ x.0.0, x.0.1), x.1)

abbrev ended_parts : {A B : Type 0} → B × Lines → Result ((List A × B) × Lines) ℕ
ended_parts x = Ok (([], x.0), x.1)

abbrev behind_part : {A B : Type 0} → A → (List A × B) × Lines → Result ((List A × B) × Lines) ℕ
behind_part a y = Ok ((a ∷ y.0.0, y.0.1), y.1)

abbrev paired : {A B : Type 0} → A → (List A × B) × Lines → Result ((A × (List A × B)) × Lines) ℕ
paired a y = Ok ((a, y.0), y.1)

abbrev others_until : {A B : Type 0} → (Line → Bool) → Read A → Read B → ℕ → A × Lines → Result ((List A × B) × Lines) ℕ
others_until test f g k x = until test f g k x.1 >>= behind_part x.0

abbrev paired_until : {A B : Type 0} → (Line → Bool) → Read A → Read B → ℕ → A × Lines → Result ((A × (List A × B)) × Lines) ℕ
paired_until test f g k x = until test f g k x.1 >>= paired x.0

abbrev pub left : {A B : Type 0} → A × Lines → Result ((A ⊎ B) × Lines) ℕ
left x = Ok (inl x.0, x.1)

abbrev pub right : {A B : Type 0} → B × Lines → Result ((A ⊎ B) × Lines) ℕ
right x = Ok (inr x.0, x.1)

abbrev closed : {A B : Type 0} → ((A × (List A × B)) ⊎ B) × Lines → Result ((List A × B) × Lines) ℕ
closed x = Ok (in_front x.0 tt, x.1)

-- a part in front, and the others behind it
part_first : {A B : Type 0} (test : Line → Bool) (f : Read A) (g : Read B) (k : ℕ) (n : ℕ) (l : Line) (ls : List Line) → test l ≡ true
    → until test f g (suc k) (n, l ∷ ls) ≡ f (n, l ∷ ls) >>= others_until test f g k
unfolding until either both nothing
part_first {A = A} {B = B} test f g k n l ls is = rw is (by_first (f (n, l ∷ ls)))
  where
    by_rest : (a : A) (r : Result ((List A × B) × Lines) ℕ) → (r >>= paired a >>= left {B = B} >>= closed) ≡ r >>= behind_part a
    by_rest a (Ok y) = refl
    by_rest a (Err e) = refl

    by_first : (r : Result (A × Lines) ℕ) → (r >>= paired_until test f g k >>= left {B = B} >>= closed) ≡ r >>= others_until test f g k
    by_first (Ok x) = by_rest x.0 (until test f g k x.1)
    by_first (Err e) = refl

-- the end in front
end_first : {A B : Type 0} (test : Line → Bool) (f : Read A) (g : Read B) (k : ℕ) (n : ℕ) (l : Line) (ls : List Line) → (0 < k → test l ≡ false)
    → until test f g k (n, l ∷ ls) ≡ g (n, l ∷ ls) >>= ended_parts {A = A}
unfolding until either both nothing
end_first {A = A} {B = B} test f g zero n l ls is = refl
end_first {A = A} {B = B} test f g (suc k) n l ls is = let off : test l ≡ false = is (omega arith) in rw off (by_end (g (n, l ∷ ls)))
  where
    by_end : (r : Result (B × Lines) ℕ) → (r >>= right {A = A × (List A × B)} >>= closed) ≡ r >>= ended_parts {A = A}
    by_end (Ok x) = refl
    by_end (Err e) = refl

regroup_parts : {A B : Type 0} (front : List A) (v : A) (read : Result ((List A × B) × Lines) ℕ) → with_parts_before front (read >>= behind_part v) ≡ with_parts_before (front ++ v ∷ []) read
regroup_parts front v (Ok x) = ap (λ vs. Ok ((vs, x.0.1), x.1)) (sym (append_assoc front (v ∷ []) x.0.0))
regroup_parts front v (Err f) = refl

-- The next line decides: at Lines of which it passes the test a part is read, and else the end. The end is to be a reader that needs a line.
abbrev pub NeedsLine : {B : Type 0} → Read B → Type 0
NeedsLine g = (n : ℕ) → g (n, []) ≡ Err n

part_at : {A B : Type 0} (test : Line → Bool) (f : Read A) (g : Read B) (k : ℕ) (at : Lines) → next_passes test at.1 ≡ true → until test f g (suc k) at ≡ f at >>= others_until test f g k
part_at test f g k (n, []) is = absurd cc
part_at test f g k (n, l ∷ ls) is = part_first test f g k n l ls is

end_at : {A B : Type 0} (test : Line → Bool) (f : Read A) (g : Read B) (k : ℕ) (at : Lines) → NeedsLine g → (0 < k → next_passes test at.1 ≡ false) → until test f g k at ≡ g at >>= ended_parts {A = A}
unfolding until either both nothing
end_at test f g zero (n, []) needs is = refl
end_at test f g (suc k) (n, []) needs is = rw (needs n) refl
end_at test f g k (n, l ∷ ls) needs is = end_first test f g k n l ls is

pub until_goes_on : {A B : Type 0} (test : Line → Bool) (f : Read A) (g : Read B) (front : List A) (m k : ℕ) (at after : Lines) (v : A) (total : Result ((List A × B) × Lines) ℕ)
    → m ≡ suc k → next_passes test at.1 ≡ true → f at ≡ Ok (v, after) → with_parts_before front (until test f g m at) ≡ total → with_parts_before (front ++ v ∷ []) (until test f g k after) ≡ total
until_goes_on test f g front m k at after v total more is h so_far =
    sym (sym so_far ∙ ap (λ (j : ℕ). with_parts_before front (until test f g j at)) more ∙ ap (with_parts_before front) (part_at test f g k at is) ∙ rw h (regroup_parts front v (until test f g k after)))

pub until_fails : {A B : Type 0} (test : Line → Bool) (f : Read A) (g : Read B) (e : TextFault) (front : List A) (m : ℕ) (at : Lines) (total : Result ((List A × B) × Lines) ℕ)
    → 0 < m → next_passes test at.1 ≡ true → Fails e (f at) → with_parts_before front (until test f g m at) ≡ total → Fails e total
until_fails test f g faults.Memory front m at total more is h so_far = tt
until_fails test f g (faults.Line k) front zero at total more is h so_far = absurd (omega arith)
until_fails test f g (faults.Line k) front (suc j) at total more is h so_far = sym so_far ∙ ap (with_parts_before front) (part_at test f g j at is) ∙ rw h refl

pub until_ends : {A B : Type 0} (test : Line → Bool) (f : Read A) (g : Read B) (front : List A) (m : ℕ) (at after : Lines) (w : B) (total : Result ((List A × B) × Lines) ℕ)
    → NeedsLine g → (0 < m → next_passes test at.1 ≡ false) → g at ≡ Ok (w, after) → with_parts_before front (until test f g m at) ≡ total → total ≡ Ok ((front, w), after)
until_ends {A = A} test f g front m at after w total needs is h so_far =
    sym so_far ∙ ap (with_parts_before front) (end_at test f g m at needs is) ∙ rw h (ap (λ (vs : List A). Ok ((vs, w), after)) (append-nil front))

pub until_end_fails : {A B : Type 0} (test : Line → Bool) (f : Read A) (g : Read B) (e : TextFault) (front : List A) (m : ℕ) (at : Lines) (total : Result ((List A × B) × Lines) ℕ)
    → NeedsLine g → (0 < m → next_passes test at.1 ≡ false) → Fails e (g at) → with_parts_before front (until test f g m at) ≡ total → Fails e total
until_end_fails test f g faults.Memory front m at total needs is h so_far = tt
until_end_fails test f g (faults.Line k) front m at total needs is h so_far = sym so_far ∙ ap (with_parts_before front) (end_at test f g m at needs is) ∙ rw h refl

-- ---- one or the other

pub either_first : {A B : Type 0} (test : Line → Bool) (f : Read A) (g : Read B) (at : Lines) → next_passes test at.1 ≡ true → either test f g at ≡ f at >>= left
unfolding either
either_first test f g (n, []) is = absurd cc
either_first test f g (n, l ∷ ls) is = rw is refl

pub either_second : {A B : Type 0} (test : Line → Bool) (f : Read A) (g : Read B) (at : Lines) → NeedsLine g → next_passes test at.1 ≡ false → either test f g at ≡ g at >>= right
unfolding either
either_second test f g (n, []) needs is = rw (needs n) refl
either_second test f g (n, l ∷ ls) needs is = rw is refl

-- ---- readers that need a line

pub of_line-needs : {A : Type 0} (parse : List Word → Option A) → NeedsLine (of_line parse)
unfolding of_line line_at
of_line-needs parse n = refl

pub both-needs : {A B C : Type 0} (join : A → B → C) (f : Read A) (g : A → Read B) → NeedsLine f → NeedsLine (both join f g)
unfolding both
both-needs join f g needs n = rw (needs n) refl
