-- bytes that are written or read piece by piece
use Rattle.std.proofs.Common.{◌≡◌, ℕ, List, [], ◌∷◌, ◌++◌, take, drop, length, Option, Some, None, ◌≤◌, ◌+◌, length-append, refl, arith, ap, sym, ◌∙◌, append_assoc, append-nil}
use Rattle.std.proofs.lemmas.List.{take-append-drop}
use Rattle.std.proofs.Math.Seq.{drop-append_seam}
use Rattle.std.specs.Option.{option_map}
use Rattle.cal_base.specs.Outside.{AppendsAllBut, IsFront, Reads}

option_map-id : (o : Option (List ℕ)) → o ≡ option_map (λ before. before ++ []) o
option_map-id None = refl
option_map-id (Some x) = ap Some (sym (append-nil x))

pub AppendsAllBut_none : (o : Option (List ℕ)) (bytes : List ℕ) → AppendsAllBut bytes o o bytes
AppendsAllBut_none o bytes = record { done = []; parts = refl; taken = option_map-id o }

appended_twice : (o : Option (List ℕ)) (a b : List ℕ) → option_map (λ before. before ++ b) (option_map (λ before. before ++ a) o) ≡ option_map (λ before. before ++ (a ++ b)) o
appended_twice None a b = refl
appended_twice (Some x) a b = ap Some (append_assoc x a b)

pub AppendsAllBut_more : (old mid new : Option (List ℕ)) (bytes rest : List ℕ) (n : ℕ) → AppendsAllBut rest old mid bytes →
    new ≡ option_map (λ before. before ++ take n rest) mid → AppendsAllBut (drop n rest) old new bytes
AppendsAllBut_more old mid new bytes rest n so more = record {
  done = so.done ++ take n rest;
  parts = append_assoc so.done (take n rest) (drop n rest) ∙ ap (λ r. so.done ++ r) (take-append-drop n rest) ∙ so.parts;
  taken = more ∙ ap (λ o. option_map (λ before. before ++ take n rest) o) so.taken ∙ appended_twice old so.done (take n rest);
}

pub AppendsAllBut_all : (old new : Option (List ℕ)) (bytes rest : List ℕ) → length rest ≡ 0 → AppendsAllBut rest old new bytes → new ≡ option_map (λ before. before ++ bytes) old
AppendsAllBut_all old new bytes [] e so = so.taken ∙ ap (λ (bs : List ℕ). option_map (λ before. before ++ bs) old) (sym (append-nil so.done) ∙ so.parts)
AppendsAllBut_all old new bytes (x ∷ xs) e so = absurd (omega arith)

drop_front : (all front rest : List ℕ) → front ++ rest ≡ all → drop (length front) all ≡ rest
drop_front all front rest e = rw (← e) (drop-append_seam front rest)

pub IsFront_more : (all old new buf : List ℕ) (from n : ℕ) → from ≡ length old → IsFront all old → Reads all from n buf → new ≡ old ++ take n buf → IsFront all new
IsFront_more all old new buf from n f front read e = record {
  rest = drop n front.rest;
  parts = rw (e, read.read, f, drop_front all old front.rest front.parts) (append_assoc old (take n front.rest) (drop n front.rest) ∙ ap (λ r. old ++ r) (take-append-drop n front.rest) ∙ front.parts);
}

nothing : (xs : List ℕ) → length xs ≡ 0 → xs ≡ []
nothing [] e = refl
nothing (x ∷ xs) e = absurd (omega arith)

pub IsFront_end : (all old new buf : List ℕ) (from n : ℕ) → from ≡ length old → IsFront all old → Reads all from n buf → new ≡ old ++ take n buf → n ≡ 0 → new ≡ all
IsFront_end all old new buf from n f front read e z =
    let short : length all ≤ from = read.none z in
    let long : length old + length front.rest ≡ length all = sym (length-append old front.rest) ∙ ap length front.parts in
    let none : front.rest ≡ [] = nothing front.rest (omega arith) in
    e ∙ rw z (ap (λ r. old ++ r) (sym none)) ∙ front.parts

pub ruleset pieces = (AppendsAllBut_none, AppendsAllBut_more, AppendsAllBut_all, IsFront_more, IsFront_end)

pub IsFront-none : (all : List ℕ) → IsFront all []
IsFront-none all = record { rest = all; parts = refl }

pub length-IsFront-le : (all front : List ℕ) → IsFront all front → length front ≤ length all
length-IsFront-le all front is = omega (arith, length-append front is.rest, ap length is.parts)

pub ruleset loads = (IsFront-none, length-IsFront-le)
