-- Sums over lists, and lists that are made number by number.
use Rattle.std.proofs.Common.{◌≡◌, ℕ, zero, suc, ◌+◌, ◌*◌, ◌^◌, ◌<◌, ◌≤◌, List, [], ◌∷◌, ◌++◌, length, take, get_or, refl, sym, ap, ◌∙◌, subst, arith, Bool, true, false, cond, not, filter, inl, inr, below_more, All, replicate}
use Rattle.std.specs.Prelude.{ℤ, pos, negsuc, ◌+ℤ◌, ◌-ℤ◌, ◌*ℤ◌, ◌≤ℤ◌, ◌⊎◌, unsigned_abs}
use Rattle.std.specs.List.{AllByRecursion, Any}
use Rattle.std.proofs.lemmas.Int.{ints}
use Rattle.std.proofs.lemmas.List.{take_more, take_all, get_or_push, get_or_past, get_or_append_left, length_push}
use Rattle.std.proofs.lemmas.List.Elements.{All-cons}
use Rattle.std.proofs.lemmas.Bool.{cases_lt}
use Rattle.cal_math.specs.Sums.{sum_of}
use Rattle.cal_math.specs.Vectors.{at}
use Rattle.cef_path.specs.Finishing.{IsNone}
use Rattle.cef_report.specs.Spelled.{IsAsked}
use Rattle.cal_scheil.specs.Workings.{AreMoved}

pub sum_of-push : {A : Type 0} (f : A → ℤ) (xs : List A) (x : A) → sum_of f (xs ++ x ∷ []) ≡ sum_of f xs +ℤ f x
sum_of-push f [] x = omega (arith, ints)
sum_of-push f (y ∷ xs) x = omega (arith, ints, sum_of-push f xs x)

pub sum_of-more : (xs : List ℤ) (i : ℕ) (s : ℤ) → i < length xs → s ≡ sum_of (λ n. n) (take i xs) → s +ℤ at xs i ≡ sum_of (λ n. n) (take (i + 1) xs)
sum_of-more xs i s within is =
    let e = ap (λ (l : List ℤ). sum_of (λ n. n) l) (take_more xs i (pos 0) within) in
    let p = sum_of-push (λ (n : ℤ). n) (take i xs) (get_or xs i (pos 0)) in
    omega (arith, ints, e, p, is)

pub each_pushed : (P : ℕ → ℤ → Type 0) (all new : List ℤ) (x : ℤ) (i : ℕ) → length all ≡ i → new ≡ all ++ x ∷ [] → ((c : ℕ) → c < i → P c (at all c)) → P i x → (c : ℕ) → c < i + 1 → P c (at new c)
each_pushed P all new x i same is before now = below_more _ _ (λ c lt. subst (λ (v : ℤ). P c v) (old c lt) (before c lt)) (subst (λ (v : ℤ). P i v) this now)
  where
    old : (c : ℕ) → c < i → at all c ≡ at new c
    old c lt = let within : c < length all = omega (arith, same) in sym (ap (λ (l : List ℤ). at l c) is ∙ get_or_append_left all (x ∷ []) (pos 0) c within)

    this : x ≡ at new i
    this = sym (ap (λ (l : List ℤ). at l i) is ∙ get_or_push all x (pos 0) i same)

pub sum_of-counted : (xs : List ℤ) (i n m : ℕ) → i < length xs → pos n ≡ at xs i → pos m ≡ sum_of (λ n. n) (take i xs) → pos (m + n) ≡ sum_of (λ n. n) (take (i + 1) xs)
sum_of-counted xs i n m within is sum = let e = sum_of-more xs i (pos m) within sum in omega (arith, ints, e, is)

pub AreMoved-all : (sums more less all : List ℤ) (n : ℕ) → length sums ≤ n → length more ≡ length sums → length less ≡ length sums → length all ≡ length sums → ((c : ℕ) → c < n → at all c ≡ at sums c +ℤ (at more c -ℤ at less c)) → AreMoved sums more less all
AreMoved-all sums more less all n end m l a each = record { same_length = a; numbers_are = λ c. by c (cases_lt c n) }
  where
    by : (c : ℕ) → (c < n) ⊎ (n ≤ c) → at all c ≡ at sums c +ℤ (at more c -ℤ at less c)
    by c (inl lt) = each c lt
    by c (inr ge) =
        let s = get_or_past sums c (pos 0) (omega (arith, ge, end)) in
        let m0 = get_or_past more c (pos 0) (omega (arith, ge, end, m)) in
        let l0 = get_or_past less c (pos 0) (omega (arith, ge, end, l)) in
        let a0 = get_or_past all c (pos 0) (omega (arith, ge, end, a)) in
        omega (arith, ints, s, m0, l0, a0)

pub fraction_both : (rest first stop : ℕ) (left asked : ℤ) → pos rest ≡ left → pos first ≡ asked →
    ((rest * 1000000 ≤ stop * first) → (left *ℤ pos 1000000) ≤ℤ (pos stop *ℤ asked)) × ((left *ℤ pos 1000000) ≤ℤ (pos stop *ℤ asked) → (rest * 1000000 ≤ stop * first))
fraction_both rest first stop left asked l a = rw (← l, ← a) (both rest first stop)
  where
    both : (rest first stop : ℕ) → ((rest * 1000000 ≤ stop * first) → (pos rest *ℤ pos 1000000) ≤ℤ (pos stop *ℤ pos first)) × ((pos rest *ℤ pos 1000000) ≤ℤ (pos stop *ℤ pos first) → (rest * 1000000 ≤ stop * first))
    both rest first stop = ((λ h. omega (arith, ints, h)), (λ h. omega (arith, ints, h)))

pub pos-abs : (z : ℤ) → pos 0 ≤ℤ z → pos (unsigned_abs z) ≡ z
pos-abs z low = omega (arith, ints)

-- a number above 0 at a place
pub record IsSome (numbers : List ℤ) : Type 0 where
  pub place : ℕ
  pub within : place < length numbers
  pub above : pos 1 ≤ℤ at numbers place

zero_or_more : (x : ℤ) → pos 0 ≤ℤ x → (x ≡ pos 0) ⊎ (pos 1 ≤ℤ x)
zero_or_more (pos zero) low = inl refl
zero_or_more (pos (suc n)) low = inr (omega (arith, ints))
zero_or_more (negsuc n) low = absurd (omega (arith, ints, low))

-- numbers of which none is below 0 and not all are 0
pub some_above : (numbers : List ℤ) → ((c : ℕ) → pos 0 ≤ℤ at numbers c) → ¬ IsNone numbers → IsSome numbers
some_above [] low some = absurd (some (λ k d lt. absurd (omega (arith, lt))))
some_above (x ∷ xs) low some = elim (zero_or_more x (low 0)) [
  | inl is ↦
      let behind = some_above xs (λ c. low (suc c)) (λ none. some (All-cons (λ n. n ≡ pos 0) x xs is none)) in
      record { place = suc behind.place; within = omega (arith, behind.within); above = behind.above }
  | inr more ↦ record { place = 0; within = omega arith; above = more }
]

pub not_none : (numbers : List ℤ) → Any (λ x. pos 1 ≤ℤ x) numbers → ¬ IsNone numbers
not_none numbers some none =
    let is = none some.0 some.1 some.2 in
    omega (arith, ints, is, some.3, some.4)

pub asked_at : (numbers : List ℤ) → AllByRecursion IsAsked numbers → (c : ℕ) → IsAsked (at numbers c)
asked_at [] all c = (omega (arith, ints), omega (arith, ints))
asked_at (x ∷ numbers) all zero = all.0
asked_at (x ∷ numbers) all (suc c) = asked_at numbers all.1 c

pub zeros_at : (n c : ℕ) → at (replicate n (pos 0)) c ≡ pos 0
zeros_at zero c = refl
zeros_at (suc n) zero = refl
zeros_at (suc n) (suc c) = zeros_at n c
