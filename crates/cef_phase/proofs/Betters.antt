-- The multipliers between which a better one lies.
use Rattle.std.proofs.Common.{◌≡◌, ℕ, zero, suc, ◌+◌, ◌*◌, ◌<◌, ◌≤◌, ◌^◌, List, [], ◌∷◌, Some, slice_get, arith, refl, inl, inr, subst}
use Rattle.std.specs.Prelude.{ℤ, pos, ◌+ℤ◌, ◌-ℤ◌, ◌*ℤ◌, ◌≤ℤ◌, ◌<ℤ◌, ◌⊎◌, unsigned_abs}
use Rattle.std.specs.Int.Signed.{≤ℤ_refl}
use Rattle.std.proofs.lemmas.Int.{ints, by_lt_z, to_z-of_z}
use Rattle.std.proofs.lemmas.Nat.{mul-le}
use Rattle.cal_math.specs.Whole.{*ℤ-≤, *ℤ_comm}
use Rattle.cef_phase.specs.Choosing.{IsFirstGreatest}
use Rattle.cef_phase.specs.Firsts.{first_greatest, IsBest}
use Rattle.cef_phase.proofs.Secants.{better_taken, better_left}

-- ---- the sign of a product tells the side

right_of : (d : ℤ) (n counts : ℕ) → counts ≤ n → pos 0 <ℤ (d *ℤ (pos n -ℤ pos counts)) → pos 0 <ℤ d
right_of d n counts le up = by_lt_z (pos 0) d (λ lt. lt) (λ no. absurd (omega (arith, ints, up, *ℤ-≤ (pos n -ℤ pos counts) d (pos 0) (omega (arith, ints)) no, *ℤ_comm d (pos n -ℤ pos counts))))

left_of : (d : ℤ) (n counts : ℕ) → n ≤ counts → pos 0 <ℤ (d *ℤ (pos n -ℤ pos counts)) → d <ℤ pos 0
left_of d n counts le up = by_lt_z d (pos 0) (λ lt. lt) (λ no. absurd (omega (arith, ints, up, *ℤ-≤ d (pos n -ℤ pos counts) (pos 0) no (omega (arith, ints)))))

pub is_right : (x o : ℤ) (n counts : ℕ) → counts ≤ n → pos 0 <ℤ ((o -ℤ x) *ℤ (pos n -ℤ pos counts)) → x <ℤ o
is_right x o n counts le up = omega (arith, ints, right_of (o -ℤ x) n counts le up)

pub is_left : (x o : ℤ) (n counts : ℕ) → n ≤ counts → pos 0 <ℤ ((o -ℤ x) *ℤ (pos n -ℤ pos counts)) → o <ℤ x
is_left x o n counts le up = omega (arith, ints, left_of (o -ℤ x) n counts le up)

-- and the side the sign
pub lower_left : (x o : ℤ) (n counts : ℕ) → counts < n → o <ℤ x → ((o -ℤ x) *ℤ (pos n -ℤ pos counts)) <ℤ pos 0
lower_left x o n counts lt less =
    omega (arith, ints, *ℤ-≤ (pos n -ℤ pos counts) (o -ℤ x) (pos 0 -ℤ pos 1) (omega (arith, ints)) (omega (arith, ints)), *ℤ_comm (o -ℤ x) (pos n -ℤ pos counts), lt)

pub lower_right : (x o : ℤ) (n counts : ℕ) → n < counts → x <ℤ o → ((o -ℤ x) *ℤ (pos n -ℤ pos counts)) <ℤ pos 0
lower_right x o n counts lt more =
    omega (arith, ints, *ℤ-≤ (o -ℤ x) (pos n -ℤ pos counts) (pos 0 -ℤ pos 1) (omega (arith, ints)) (omega (arith, ints)), more)

pub ruleset narrowing = (is_right, is_left, lower_left, lower_right, to_z-of_z)

-- ---- what better ones a bracket leaves

-- where the part is at most a line through x, better ones are where the line rises, and it is worse where the line falls
rises_to : (f : ℤ → ℤ) (x value o d : ℤ) → value ≡ f x → f o ≤ℤ (value +ℤ d) → f x <ℤ f o → pos 0 <ℤ d
rises_to f x value o d e le lt = omega (arith, ints, e, le, lt)

falls_to : (f : ℤ → ℤ) (x value o d : ℤ) → value ≡ f x → f o ≤ℤ (value +ℤ d) → d <ℤ pos 0 → f o <ℤ f x
falls_to f x value o d e le lt = omega (arith, ints, e, le, lt)

near : (o : ℤ) (n : ℕ) → 1 ≤ n → unsigned_abs o * n ≤ 2 ^ 117 → unsigned_abs o ≤ 2 ^ 117
near o n one small = omega (arith, small, mul-le (unsigned_abs o) 1 (unsigned_abs o) n (omega arith) one)

-- the part is at most the line through its value at x
abbrev pub Line : (ℤ → ℤ) → ℕ → ℕ → ℤ → ℤ → Type 0
Line f n counts x value = (o : ℤ) → f o ≤ℤ (value +ℤ (o -ℤ x) *ℤ (pos n -ℤ pos counts))

-- what is known of the numbers inside and outside of first and last, which lie in low and high
pub record IsNarrowed (n counts : ℕ) (x low high first last : ℤ) : Type 0 where
  pub inside : (o : ℤ) → low <ℤ o → o <ℤ high → pos 0 <ℤ ((o -ℤ x) *ℤ (pos n -ℤ pos counts)) → (first <ℤ o) × (o <ℤ last)
  pub left : first <ℤ last → (o : ℤ) → low ≤ℤ o → o <ℤ first → ((o -ℤ x) *ℤ (pos n -ℤ pos counts)) <ℤ pos 0
  pub right : first <ℤ last → (o : ℤ) → o ≤ℤ high → last <ℤ o → ((o -ℤ x) *ℤ (pos n -ℤ pos counts)) <ℤ pos 0

pub first_best : (n counts : ℕ) (f : ℤ → ℤ) (x value low high first last : ℤ) → 1 ≤ n → unsigned_abs x * n ≤ 2 ^ 117 → value ≡ f x → Line f n counts x value →
    ((o : ℤ) → unsigned_abs o ≤ 2 ^ 117 → (low <ℤ o) × (o <ℤ high)) → IsNarrowed n counts x low high first last → IsBest n f x value first last
first_best n counts f x value low high first last one small e line all narrow = record {
  small = small;
  exact = e;
  above = λ o s lt. (both o s lt).0;
  below = λ o s lt. (both o s lt).1;
  left = λ wide o s lt. falls_to f x value o _ e (line o) (narrow.left wide o (omega (arith, ints, (all o (near o n one s)).0)) lt);
  right = λ wide o s lt. falls_to f x value o _ e (line o) (narrow.right wide o (omega (arith, ints, (all o (near o n one s)).1)) lt);
}
  where
    both : (o : ℤ) → unsigned_abs o * n ≤ 2 ^ 117 → f x <ℤ f o → (first <ℤ o) × (o <ℤ last)
    both o s lt = narrow.inside o (all o (near o n one s)).0 (all o (near o n one s)).1 (rises_to f x value o _ e (line o) lt)

pub past_low : (n : ℕ) (f : ℤ → ℤ) (x value low high o : ℤ) → IsBest n f x value low high → unsigned_abs o * n ≤ 2 ^ 117 → o ≤ℤ low → x ≡ first_greatest f x (o ∷ [])
past_low n f x value low high o best small le =
    better_left f x o (f x) (f o) refl refl (by_lt_z (f x) (f o) (λ lt. absurd (omega (arith, ints, le, best.above o small lt))) (λ more. more))

pub past_high : (n : ℕ) (f : ℤ → ℤ) (x value low high o : ℤ) → IsBest n f x value low high → unsigned_abs o * n ≤ 2 ^ 117 → high ≤ℤ o → x ≡ first_greatest f x (o ∷ [])
past_high n f x value low high o best small le =
    better_left f x o (f x) (f o) refl refl (by_lt_z (f x) (f o) (λ lt. absurd (omega (arith, ints, le, best.below o small lt))) (λ more. more))

-- a number outside of a narrowed bracket is worse than x or than o
outside_left : (n counts : ℕ) (f : ℤ → ℤ) (x value low high o other first last y : ℤ) → IsBest n f x value low high → low <ℤ high → other ≡ f o → Line f n counts o other → IsNarrowed n counts o low high first last →
    first <ℤ last → unsigned_abs y * n ≤ 2 ^ 117 → y <ℤ first → (f y <ℤ f x) ⊎ (f y <ℤ f o)
outside_left n counts f x value low high o other first last y best wide e line narrow apart s lt =
    by_lt_z y low (λ less. inl (best.left wide y s less)) (λ more. inr (falls_to f o other y _ e (line y) (narrow.left apart y more lt)))

outside_right : (n counts : ℕ) (f : ℤ → ℤ) (x value low high o other first last y : ℤ) → IsBest n f x value low high → low <ℤ high → other ≡ f o → Line f n counts o other → IsNarrowed n counts o low high first last →
    first <ℤ last → unsigned_abs y * n ≤ 2 ^ 117 → last <ℤ y → (f y <ℤ f x) ⊎ (f y <ℤ f o)
outside_right n counts f x value low high o other first last y best wide e line narrow apart s lt =
    by_lt_z high y (λ more. inl (best.right wide y s more)) (λ less. inr (falls_to f o other y _ e (line y) (narrow.right apart y less lt)))

worse_than : (f : ℤ → ℤ) (x o y top : ℤ) → f x ≤ℤ f top → f o ≤ℤ f top → (f y <ℤ f x) ⊎ (f y <ℤ f o) → f y <ℤ f top
worse_than f x o y top a b either = elim either [
  | inl lt ↦ omega (arith, ints, lt, a)
  | inr lt ↦ omega (arith, ints, lt, b)
]

-- the bracket that is left where the part at another multiplier is known
pub taken_best : (n counts : ℕ) (f : ℤ → ℤ) (x value low high o other first last : ℤ) → IsBest n f x value low high → unsigned_abs o * n ≤ 2 ^ 117 → low <ℤ o → o <ℤ high → other ≡ f o → Line f n counts o other →
    IsNarrowed n counts o low high first last → value <ℤ other → IsBest n f o other first last
taken_best n counts f x value low high o other first last best small lo hi e line narrow better = record {
  small = small;
  exact = e;
  above = λ y s lt. (both y s lt).0;
  below = λ y s lt. (both y s lt).1;
  left = λ apart y s lt. worse_than f x o y o top (≤ℤ_refl _) (outside_left n counts f x value low high o other first last y best wide e line narrow apart s lt);
  right = λ apart y s lt. worse_than f x o y o top (≤ℤ_refl _) (outside_right n counts f x value low high o other first last y best wide e line narrow apart s lt);
}
  where
    wide : low <ℤ high
    wide = omega (arith, ints, lo, hi)

    top : f x ≤ℤ f o
    top = omega (arith, ints, better, e, best.exact)

    both : (y : ℤ) → unsigned_abs y * n ≤ 2 ^ 117 → f o <ℤ f y → (first <ℤ y) × (y <ℤ last)
    both y s lt =
        let more : f x <ℤ f y = omega (arith, ints, better, e, best.exact, lt) in
        narrow.inside y (best.above y s more) (best.below y s more) (rises_to f o other y _ e (line y) lt)

pub kept_best : (n counts : ℕ) (f : ℤ → ℤ) (x value low high o other first last : ℤ) → IsBest n f x value low high → low <ℤ o → o <ℤ high → other ≡ f o → Line f n counts o other →
    IsNarrowed n counts o low high first last → other ≤ℤ value → IsBest n f x value first last
kept_best n counts f x value low high o other first last best lo hi e line narrow worse = record {
  small = best.small;
  exact = best.exact;
  above = λ y s lt. (both y s lt).0;
  below = λ y s lt. (both y s lt).1;
  left = λ apart y s lt. worse_than f x o y x (≤ℤ_refl _) top (outside_left n counts f x value low high o other first last y best wide e line narrow apart s lt);
  right = λ apart y s lt. worse_than f x o y x (≤ℤ_refl _) top (outside_right n counts f x value low high o other first last y best wide e line narrow apart s lt);
}
  where
    wide : low <ℤ high
    wide = omega (arith, ints, lo, hi)

    top : f o ≤ℤ f x
    top = omega (arith, ints, worse, e, best.exact)

    both : (y : ℤ) → unsigned_abs y * n ≤ 2 ^ 117 → f x <ℤ f y → (first <ℤ y) × (y <ℤ last)
    both y s lt =
        let more : f o <ℤ f y = omega (arith, ints, worse, e, best.exact, lt) in
        narrow.inside y (best.above y s lt) (best.below y s lt) (rises_to f o other y _ e (line y) more)

pub ruleset first = (first_best, to_z-of_z)

pub ruleset comparing = (better_taken, better_left, past_low, past_high, taken_best, kept_best, to_z-of_z)

-- ---- 0 before the others

pub zero_worse : (n : ℕ) (f : ℤ → ℤ) (x value low high : ℤ) → IsBest n f x value low high → (low <ℤ high) × ((pos 0 <ℤ low) ⊎ (high <ℤ pos 0)) → f (pos 0) <ℤ f x
zero_worse n f x value low high best out = elim out.1 [
  | inl lt ↦ best.left out.0 (pos 0) (omega arith) lt
  | inr lt ↦ best.right out.0 (pos 0) (omega arith) lt
]

some_is : (x y : ℤ) → Some x ≡ Some y → x ≡ y
some_is x y e = cc

-- where 0 is worse than the first greatest, that stays so
pub zero_behind : (f : ℤ → ℤ) (z x : ℤ) (ys : List ℤ) → IsFirstGreatest f ys x → f z <ℤ f x → IsFirstGreatest f (z ∷ ys) x
zero_behind f z x ys is lt = record { place = suc is.place; there = is.there; greatest = greatest; first = first }
  where
    greatest : (i : ℕ) (y : ℤ) → slice_get (z ∷ ys) i ≡ Some y → f y ≤ℤ f x
    greatest zero y e = let same : z ≡ y = some_is z y e in rw (← same) (omega (arith, ints, lt))
    greatest (suc i) y e = is.greatest i y e

    first : (i : ℕ) (y : ℤ) → slice_get (z ∷ ys) i ≡ Some y → i < suc is.place → f y <ℤ f x
    first zero y e l = let same : z ≡ y = some_is z y e in rw (← same) lt
    first (suc i) y e l = is.first i y e (omega arith)

-- and else it is 0
pub zero_before : (f : ℤ → ℤ) (z x : ℤ) (ys : List ℤ) → IsFirstGreatest f ys x → f x ≤ℤ f z → IsFirstGreatest f (z ∷ ys) z
zero_before f z x ys is le = record { place = 0; there = refl; greatest = greatest; first = λ i y e l. absurd (omega arith) }
  where
    greatest : (i : ℕ) (y : ℤ) → slice_get (z ∷ ys) i ≡ Some y → f y ≤ℤ f z
    greatest zero y e = let same : z ≡ y = some_is z y e in rw (← same) (≤ℤ_refl _)
    greatest (suc i) y e = omega (arith, ints, le, is.greatest i y e)

pub ruleset zeros = (zero_worse, zero_behind, zero_before, to_z-of_z)
