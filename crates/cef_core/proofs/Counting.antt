-- how many lists of counts there are, which they are, and that none is twice
use Rattle.std.proofs.Common.{◌≡◌, ◌≢◌, ℕ, zero, suc, ◌+◌, ◌*◌, ◌-◌, ◌≤◌, ◌<◌, min, List, [], ◌∷◌, ◌++◌, length, map, sum, refl, ap, sym, ◌∙◌, subst, arith, length-append, add-one}
use Rattle.std.proofs.lemmas.List.{length-map}
use Rattle.cef_core.specs.Points.{in_front_of, with_first, counts_of, in_front, lists_of, number_of}

pub length-in_front : (xs : List (List ℕ)) (others : List (List (List ℕ))) → length (in_front xs others) ≡ length xs * length others
length-in_front [] others = omega arith
length-in_front (x ∷ xs) others = omega (arith, length-append (map (λ more. x ∷ more) others) (in_front xs others), length-map others (λ (more : List (List ℕ)). x ∷ more), length-in_front xs others)

length-in_front_of : (k : ℕ) (lists : List (List ℕ)) → length (in_front_of k lists) ≡ length lists
length-in_front_of k lists = length-map lists (λ (counts : List ℕ). k ∷ counts)

-- the number of lists with a first count of at most k
length-with_first : (others : ℕ → List (List ℕ)) (total k : ℕ) → length (with_first others total (suc k)) ≡ length (with_first others total k) + length (others (total - suc k))
length-with_first others total k = length-append (with_first others total k) (in_front_of (suc k) (others (total - suc k))) ∙ ap (λ (n : ℕ). length (with_first others total k) + n) (length-in_front_of (suc k) (others (total - suc k)))

-- a greater total by one, and a first count of up to one more: the lists with a first count of 0 are new
shifted : (others : ℕ → List (List ℕ)) (total k : ℕ) → length (with_first others (suc total) (suc k)) ≡ length (others (suc total)) + length (with_first others total k)
shifted others total zero =
    let e : suc total - suc zero ≡ total = omega arith in
    length-with_first others (suc total) zero ∙ rw (e, length-in_front_of zero (others (suc total)), length-in_front_of zero (others total)) refl
shifted others total (suc k) =
    let e : suc total - suc (suc k) ≡ total - suc k = omega arith in
    let at_e : length (others (suc total - suc (suc k))) ≡ length (others (total - suc k)) = ap (λ (n : ℕ). length (others n)) e in
    omega (arith, at_e, length-with_first others (suc total) (suc k), length-with_first others total k, shifted others total k)

-- Pascal's rule
pub number_of-both : (n total : ℕ) → number_of (suc n) (suc total) ≡ number_of n (suc total) + number_of (suc n) total
unfolding number_of
number_of-both n total = shifted (counts_of n) total total

pub number_of-zero : (n : ℕ) → number_of n zero ≡ 1
unfolding number_of
number_of-zero zero = refl
number_of-zero (suc n) = length-in_front_of zero (counts_of n zero) ∙ number_of-zero n

pub number_of-none : (total : ℕ) → number_of zero (suc total) ≡ 0
unfolding number_of
number_of-none total = refl

-- one more part: (total + 1) * c(n, total + 1) = (total + n) * c(n, total)
-- one more site: n * c(n + 1, total) = (total + n) * c(n, total)
part_step : (a b d e n t : ℕ) → suc t * b ≡ (t + n) * a → n * d ≡ (t + n) * a → e ≡ b + d → suc t * e ≡ (t + suc n) * d
part_step a b d e n t part site both = grind arith

site_step : (a b d e n t : ℕ) → suc t * b ≡ (t + n) * a → n * d ≡ (t + n) * a → e ≡ b + d → n * e ≡ (suc t + n) * b
site_step a b d e n t part site both = grind arith

-- for a number of sites: what one more part does for each total gives what one more site does
sites_from : (n : ℕ) → ((total : ℕ) → suc total * number_of n (suc total) ≡ (total + n) * number_of n total) → (total : ℕ) → n * number_of (suc n) total ≡ (total + n) * number_of n total
sites_from n parts zero = rw (number_of-zero n, number_of-zero (suc n)) (omega arith)
sites_from n parts (suc total) = site_step (number_of n total) (number_of n (suc total)) (number_of (suc n) total) (number_of (suc n) (suc total)) n total (parts total) (sites_from n parts total) (number_of-both n total)

parts_from : (n total : ℕ) → suc total * number_of n (suc total) ≡ (total + n) * number_of n total
parts_from zero zero = rw (number_of-none zero) (omega arith)
parts_from zero (suc total) = rw (number_of-none total, number_of-none (suc total)) (omega arith)
parts_from (suc n) total = part_step (number_of n total) (number_of n (suc total)) (number_of (suc n) total) (number_of (suc n) (suc total)) n total (parts_from n total) (sites_from n (parts_from n) total) (number_of-both n total)

pub one_more_site : (n total : ℕ) → n * number_of (suc n) total ≡ (total + n) * number_of n total
one_more_site n total = sites_from n (parts_from n) total

-- no fewer with one more site
pub number_of-le : (n total : ℕ) → number_of n total ≤ number_of (suc n) total
number_of-le n zero = omega (arith, number_of-zero n, number_of-zero (suc n))
number_of-le n (suc total) = omega (arith, number_of-both n total)
