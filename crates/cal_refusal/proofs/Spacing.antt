-- Numbers with a space before each.
use Rattle.std.proofs.Common.{◌≡◌, ℕ, ◌+◌, ◌<◌, ◌≤◌, List, [], ◌∷◌, ◌++◌, length, take, get_or, refl, sym, ap, ◌∙◌, append_assoc}
use Rattle.std.specs.Prelude.{ℤ}
use Rattle.std.proofs.lemmas.List.{take_more, take_all, append-nil}
use Rattle.cal_refusal.specs.Refusals.{spaced, spaced_all}

spaced_push : (numbers : List ℤ) (n : ℤ) → spaced_all (numbers ++ n ∷ []) ≡ spaced_all numbers ++ spaced n
unfolding spaced_all
spaced_push [] n = append-nil (spaced n)
spaced_push (m ∷ numbers) n = ap (λ (text : List ℕ). spaced m ++ text) (spaced_push numbers n) ∙ sym (append_assoc (spaced m) (spaced_all numbers) (spaced n))

pub spaced_none : (front : List ℕ) (numbers : List ℤ) → front ≡ front ++ spaced_all (take 0 numbers)
unfolding spaced_all
spaced_none front numbers = sym (append-nil front)

pub spaced_on : (front text more word : List ℕ) (numbers : List ℤ) (i : ℕ) (d : ℤ) → i < length numbers → word ≡ spaced (get_or numbers i d) → more ≡ text ++ word
    → text ≡ front ++ spaced_all (take i numbers) → more ≡ front ++ spaced_all (take (i + 1) numbers)
spaced_on front text more word numbers i d lt is pushed so_far =
    pushed ∙ ap (λ (w : List ℕ). text ++ w) is ∙ ap (λ (t : List ℕ). t ++ spaced (get_or numbers i d)) so_far
    ∙ append_assoc front (spaced_all (take i numbers)) (spaced (get_or numbers i d))
    ∙ ap (λ (t : List ℕ). front ++ t) (sym (ap spaced_all (take_more numbers i d lt) ∙ spaced_push (take i numbers) (get_or numbers i d)))

pub spaced_end : (front text : List ℕ) (numbers : List ℤ) (i : ℕ) → length numbers ≤ i → text ≡ front ++ spaced_all (take i numbers) → text ≡ front ++ spaced_all numbers
spaced_end front text numbers i le so_far = so_far ∙ ap (λ (ns : List ℤ). front ++ spaced_all ns) (take_all i numbers le)
