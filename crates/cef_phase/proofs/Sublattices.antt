-- The energy of mixing of the sublattices from a place on, and its size.
use Rattle.std.proofs.Common.{◌≡◌, ℕ, zero, suc, ◌+◌, ◌*◌, ◌<◌, ◌≤◌, List, [], ◌∷◌, Some, length, drop, slice_get, slice_index, refl, arith, ap, sym, subst}
use Rattle.std.specs.Prelude.{ℤ, pos, ◌+ℤ◌, unsigned_abs, sum, FitsSigned}
use Rattle.std.specs.Int.{w128}
use Rattle.std.proofs.Math.Nat.{mul-le-mul_left}
use Rattle.std.proofs.lemmas.Int.{ints}
use Rattle.std.proofs.lemmas.List.Sums.{sum_by-cons}
use Rattle.cal_limits.specs.declared.TheConstants.{MOST_ENERGY}
use Rattle.cef_core.specs.Mixing.{mixing_at, mixing_of_counts, mixing_over}
use Rattle.cef_mix.specs.Mixes.{Mixing}
use Rattle.cef_phase.specs.Sizes.{AddUpTo, row_size, mixing_size, plus_small}
use Rattle.cef_phase.specs.Sums.{IsMixable}

index-le-sum : (xs : List ℕ) (k : ℕ) → slice_index xs k ≤ sum xs
index-le-sum [] k = omega arith
index-le-sum (x ∷ xs) zero = omega (arith, sum_by-cons (λ (y : ℕ). y) x xs)
index-le-sum (x ∷ xs) (suc k) = omega (arith, sum_by-cons (λ (y : ℕ). y) x xs, index-le-sum xs k)

drop-sum : (k : ℕ) (xs : List ℕ) → sum (drop k xs) ≤ sum xs
drop-sum zero xs = omega arith
drop-sum (suc k) [] = omega arith
drop-sum (suc k) (x ∷ xs) = omega (arith, sum_by-cons (λ (y : ℕ). y) x xs, drop-sum k xs)

drop-adds : (n k : ℕ) (site : List (List ℕ)) → AddUpTo n site → AddUpTo n (drop k site)
drop-adds n zero site h = h
drop-adds n (suc k) [] h = tt
drop-adds n (suc k) (row ∷ site) h = drop-adds n k site h.1

-- the counts of one sublattice
pub counts_size : (m : Mixing) (s : ℕ) (counts : List ℕ) → IsMixable m → sum counts ≤ m.lattice → unsigned_abs (mixing_of_counts m.t m.lattice (slice_index m.ratios s) counts) ≤ MOST_ENERGY
counts_size m s counts mixable h =
    omega (arith, mixable.room, mul-le-mul_left (600000 * m.t) (index-le-sum m.ratios s), row_size m.t m.lattice (slice_index m.ratios s) counts mixable.some mixable.few h)

pub first_within : (count : ℕ) (rest counts : List ℕ) (n : ℕ) → counts ≡ count ∷ rest → sum counts ≤ n → count ≤ n
first_within count rest counts n e h = omega (arith, ap sum e, sum_by-cons (λ (y : ℕ). y) count rest)

pub rest_within : (count : ℕ) (rest counts : List ℕ) (n : ℕ) → counts ≡ count ∷ rest → sum counts ≤ n → sum rest ≤ n
rest_within count rest counts n e h = omega (arith, ap sum e, sum_by-cons (λ (y : ℕ). y) count rest)

-- one count alone
pub count_size : (m : Mixing) (s count : ℕ) → IsMixable m → count ≤ m.lattice → unsigned_abs (mixing_at m.t m.lattice (slice_index m.ratios s) count) ≤ MOST_ENERGY
count_size m s count mixable h =
    let one : sum (count ∷ []) ≡ count = omega (arith, sum_by-cons (λ (y : ℕ). y) count []) in
    omega (arith, ints, counts_size m s (count ∷ []) mixable (omega (arith, one)))

pub sum_fits : (a b : ℤ) → unsigned_abs a ≤ MOST_ENERGY → unsigned_abs b ≤ MOST_ENERGY → FitsSigned w128 (a +ℤ b)
sum_fits a b h k = omega (arith, ints, plus_small a b MOST_ENERGY MOST_ENERGY h k)

pub ruleset counts_rules = (counts_size, first_within, rest_within, count_size, sum_fits)

-- the sublattices from a place on
pub from_size : (m : Mixing) (s : ℕ) (site : List (List ℕ)) → IsMixable m → AddUpTo m.lattice site → unsigned_abs (mixing_over m.t m.lattice (drop s m.ratios) (drop s site)) ≤ MOST_ENERGY
from_size m s site mixable h =
    omega (arith, mixable.room, mul-le-mul_left (600000 * m.t) (drop-sum s m.ratios), mixing_size m.t m.lattice (drop s m.ratios) (drop s site) mixable.some mixable.few (drop-adds m.lattice s site h))

pub row_adds : (n s : ℕ) (site : List (List ℕ)) (row : List ℕ) → AddUpTo n site → slice_get site s ≡ Some row → sum row ≤ n
row_adds n s [] row h e = absurd cc
row_adds n zero (x ∷ site) row h e = let same : x ≡ row = cc in subst (λ (r : List ℕ). sum r ≤ n) same h.0
row_adds n (suc s) (x ∷ site) row h e = row_adds n s site row h.1 e

mixing_cut : (t n s : ℕ) (ratios : List ℕ) (site : List (List ℕ)) (row : List ℕ) → s < length ratios → slice_get site s ≡ Some row →
    mixing_over t n (drop s ratios) (drop s site) ≡ mixing_of_counts t n (slice_index ratios s) row +ℤ mixing_over t n (drop (suc s) ratios) (drop (suc s) site)
mixing_cut t n s [] site row lt e = absurd (omega arith)
mixing_cut t n s (a ∷ ratios) [] row lt e = absurd cc
mixing_cut t n zero (a ∷ ratios) (x ∷ site) row lt e = let same : x ≡ row = cc in ap (λ (r : List ℕ). mixing_of_counts t n a r +ℤ mixing_over t n ratios site) same
mixing_cut t n (suc s) (a ∷ ratios) (x ∷ site) row lt e = mixing_cut t n s ratios site row (omega arith) e

pub mixing_step : (m : Mixing) (s next : ℕ) (site : List (List ℕ)) (row : List ℕ) → next ≡ s + 1 → s < length m.ratios → slice_get site s ≡ Some row →
    mixing_of_counts m.t m.lattice (slice_index m.ratios s) row +ℤ mixing_over m.t m.lattice (drop next m.ratios) (drop next site) ≡ mixing_over m.t m.lattice (drop s m.ratios) (drop s site)
mixing_step m s next site row e lt is =
    let same : next ≡ suc s = omega arith in
    rw same (sym (mixing_cut m.t m.lattice s m.ratios site row lt is))

drop-all : {X : Type 0} (s : ℕ) (xs : List X) → s ≡ length xs → drop s xs ≡ []
drop-all zero [] e = refl
drop-all (suc s) [] e = refl
drop-all zero (x ∷ xs) e = absurd (omega arith)
drop-all (suc s) (x ∷ xs) e = drop-all s xs (omega arith)

pub mixing_end : (m : Mixing) (s : ℕ) (site : List (List ℕ)) → s ≡ length site → length m.ratios ≡ length site → pos 0 ≡ mixing_over m.t m.lattice (drop s m.ratios) (drop s site)
mixing_end m s site e f = rw (drop-all s m.ratios (omega arith)) refl

pub ruleset from_rules = (from_size, row_adds, mixing_step, mixing_end, sum_fits)
