-- Sums over lists, and lists that are made number by number.
use Rattle.std.proofs.Common.{◌≡◌, ℕ, zero, suc, ◌+◌, ◌*◌, ◌^◌, ◌<◌, ◌≤◌, List, [], ◌∷◌, ◌++◌, length, take, get_or, refl, sym, ap, ◌∙◌, subst, arith, Bool, true, false, cond, not, filter, inl, inr, below_more, All, replicate}
use Rattle.std.specs.Prelude.{ℤ, pos, negsuc, ◌+ℤ◌, ◌-ℤ◌, ◌*ℤ◌, ◌≤ℤ◌, ◌⊎◌, unsigned_abs}
use Rattle.std.specs.List.{AllByRecursion, Any}
use Rattle.std.proofs.lemmas.Int.{ints}
use Rattle.std.proofs.lemmas.List.{take_more, take_all, get_or_push, get_or_past, get_or_append_left, length_push}
use Rattle.std.proofs.lemmas.List.Elements.{All-cons}
use Rattle.std.proofs.lemmas.Bool.{cases_lt}
use Rattle.cal_math.specs.Sums.{sum_of}
use Rattle.cal_math.specs.Vectors.{at}
use Rattle.cef_path.specs.Finishing.{IsNone}
use Rattle.cef_report.specs.Spelled.{IsAsked}

pub sum_of-push : {A : Type 0} (f : A → ℤ) (xs : List A) (x : A) → sum_of f (xs ++ x ∷ []) ≡ sum_of f xs +ℤ f x
sum_of-push f [] x = omega (arith, ints)
sum_of-push f (y ∷ xs) x = omega (arith, ints, sum_of-push f xs x)

pub sum_of-more : (xs : List ℤ) (i : ℕ) (s : ℤ) → i < length xs → s ≡ sum_of (λ n. n) (take i xs) → s +ℤ at xs i ≡ sum_of (λ n. n) (take (i + 1) xs)
sum_of-more xs i s within is =
    let e = ap (λ (l : List ℤ). sum_of (λ n. n) l) (take_more xs i (pos 0) within) in
    let p = sum_of-push (λ (n : ℤ). n) (take i xs) (get_or xs i (pos 0)) in
    omega (arith, ints, e, p, is)

pub sum_of-counted : (xs : List ℤ) (i n m : ℕ) → i < length xs → pos n ≡ at xs i → pos m ≡ sum_of (λ n. n) (take i xs) → pos (m + n) ≡ sum_of (λ n. n) (take (i + 1) xs)
sum_of-counted xs i n m within is sum = let e = sum_of-more xs i (pos m) within sum in omega (arith, ints, e, is)

pub fraction_both : (rest first stop : ℕ) (left asked : ℤ) → pos rest ≡ left → pos first ≡ asked →
    ((rest * 1000000 ≤ stop * first) → (left *ℤ pos 1000000) ≤ℤ (pos stop *ℤ asked)) × ((left *ℤ pos 1000000) ≤ℤ (pos stop *ℤ asked) → (rest * 1000000 ≤ stop * first))
fraction_both rest first stop left asked l a = rw (← l, ← a) (both rest first stop)
  where
    both : (rest first stop : ℕ) → ((rest * 1000000 ≤ stop * first) → (pos rest *ℤ pos 1000000) ≤ℤ (pos stop *ℤ pos first)) × ((pos rest *ℤ pos 1000000) ≤ℤ (pos stop *ℤ pos first) → (rest * 1000000 ≤ stop * first))
    both rest first stop = ((λ h. omega (arith, ints, h)), (λ h. omega (arith, ints, h)))

pub pos-abs : (z : ℤ) → pos 0 ≤ℤ z → pos (unsigned_abs z) ≡ z
pos-abs z low = omega (arith, ints)

pub asked_at : (numbers : List ℤ) → AllByRecursion IsAsked numbers → (c : ℕ) → IsAsked (at numbers c)
asked_at [] all c = (omega (arith, ints), omega (arith, ints))
asked_at (x ∷ numbers) all zero = all.0
asked_at (x ∷ numbers) all (suc c) = asked_at numbers all.1 c
