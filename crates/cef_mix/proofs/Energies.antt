-- Room for the products of mixing, and their size.
use Rattle.std.proofs.Common.{◌≡◌, ℕ, List, [], ◌∷◌, ◌++◌, length, zero, suc, inl, inr, ◌+◌, ◌-◌, ◌*◌, ◌/◌, ◌<◌, ◌≤◌, arith, refl, sym, ap, ◌∙◌}
use Rattle.std.specs.Prelude.{ℤ, pos, neg_ℤ, unsigned_abs}
use Rattle.std.proofs.lemmas.Nat.{mul-le, div_below}
use Rattle.std.proofs.Math.Nat.{div-le_self}
use Rattle.std.proofs.lemmas.Int.{ints, to_z-of_z}
use Rattle.std.proofs.lemmas.Bool.{cases_lt}
use Rattle.std.proofs.lemmas.Grind.{common_steps}
use Rattle.cal_limits.specs.declared.TheConstants.{MOST_ENERGY}
use Rattle.cef_mix.specs.Tables.{entry, AreEnergies}
use Rattle.cal_math.specs.Logarithm.{log_of}
use Rattle.cal_log.specs.Laws.{log_of-le, log_of-1000}
use Rattle.cef_core.specs.Mixing.{mixing_at}

pub spent_room : (t ratio k log : ℕ) → t ≤ 600000 → ratio ≤ 100000 → k ≤ 1000 → log ≤ 7216000000000000 →
    (831451 * t * ratio ≤ 831451 * 600000 * 100000) × (831451 * t * ratio * k ≤ 831451 * 600000 * 100000 * 1000) × (831451 * t * ratio * k * log ≤ 831451 * 600000 * 100000 * 1000 * 7216000000000000)
spent_room t ratio k log ht hr hk hl =
    let a : 831451 * t * ratio ≤ 831451 * 600000 * 100000 = mul-le (831451 * t) ratio (831451 * 600000) 100000 (omega arith) hr in
    let b : 831451 * t * ratio * k ≤ 831451 * 600000 * 100000 * 1000 = mul-le (831451 * t * ratio) k (831451 * 600000 * 100000) 1000 a hk in
    (a, b, mul-le (831451 * t * ratio * k) log (831451 * 600000 * 100000 * 1000) 7216000000000000 b hl)

pub spent_size : (t ratio n k log : ℕ) → 1 ≤ k → k ≤ n → log ≤ 7216000000000000 → 831451 * t * ratio * k * log / (n * 10000000000000000) ≤ 600000 * t * ratio
spent_size t ratio n k log hs hk hl =
    let x : ℕ = t * ratio in
    let a : x * k ≤ x * n = mul-le x k x n (omega arith) hk in
    let b : x * k * log ≤ x * n * 7216000000000000 = mul-le (x * k) log (x * n) 7216000000000000 a hl in
    let left : 831451 * t * ratio * k * log ≡ 831451 * (x * k * log) = omega arith in
    let right : (600000 * t * ratio + 1) * (n * 10000000000000000) ≡ 600000 * 10000000000000000 * (x * n) + n * 10000000000000000 = omega arith in
    let lt : 831451 * t * ratio * k * log / (n * 10000000000000000) < 600000 * t * ratio + 1 =
    div_below (831451 * t * ratio * k * log) (n * 10000000000000000) (600000 * t * ratio + 1) (omega arith) (omega (arith, left, right, b)) in
    omega arith

pub log_room : (n k : ℕ) → n ≤ 1000 → log_of n - log_of k ≤ 7216000000000000
log_room n k h = omega (arith, log_of-le n 1000 h, log_of-1000)

pub mixing_is : (t n ratio k number : ℕ) → number ≡ 831451 * t * ratio * k * (log_of n - log_of k) / (n * 10000000000000000) → neg_ℤ (pos number) ≡ mixing_at t n ratio k
unfolding mixing_at
mixing_is t n ratio k number e = rw e refl

pub ruleset spent_rules = (spent_room, spent_size)

pub ruleset mixing_rules = (log_room, log_of-le, mixing_is, to_z-of_z)

mixing_of_none : (t n a : ℕ) → mixing_at t n a 0 ≡ pos 0
unfolding mixing_at
mixing_of_none t n a =
    let none : 831451 * t * a * 0 * (log_of n - log_of 0) ≡ 0 = omega arith in
    ap (λ (x : ℕ). neg_ℤ (pos x)) (zero_over (831451 * t * a * 0 * (log_of n - log_of 0)) (n * 10000000000000000) none)
  where
    zero_over : (x d : ℕ) → x ≡ 0 → x / d ≡ 0
    zero_over x d e = omega (arith, e, div-le_self x d)

pub entries-none : (t n a : ℕ) (j : ℕ) → j < 1 → entry (pos 0 ∷ []) j ≡ mixing_at t n a j
entries-none t n a zero lt = sym (mixing_of_none t n a)
entries-none t n a (suc j) lt = absurd (omega arith)

pub entries-more : (t n a k : ℕ) (list : List ℤ) (x : ℤ) → length list ≡ k → ((j : ℕ) → j < k → entry list j ≡ mixing_at t n a j) → x ≡ mixing_at t n a k → (j : ℕ) → j < k + 1 → entry (list ++ x ∷ []) j ≡ mixing_at t n a j
entries-more t n a k list x e are here = λ j lt.
    elim (cases_lt j k) [
      | inl before ↦ grind (arith, common_steps, are j before)
      | inr top ↦ let same : j ≡ k = omega arith in rw same (grind (arith, common_steps, here))
    ]

pub small-none : (n : ℕ) (j : ℕ) → unsigned_abs (entry (pos 0 ∷ []) j) ≤ n
small-none n zero = omega arith
small-none n (suc j) = omega arith

pub small-more : (n : ℕ) (list : List ℤ) (x : ℤ) → ((j : ℕ) → unsigned_abs (entry list j) ≤ n) → unsigned_abs x ≤ n → (j : ℕ) → unsigned_abs (entry (list ++ x ∷ []) j) ≤ n
small-more n [] x are here zero = here
small-more n [] x are here (suc j) = omega arith
small-more n (y ∷ list) x are here zero = are zero
small-more n (y ∷ list) x are here (suc j) = small-more n list x (λ i. are (suc i)) here j

-- energies that have room
pub energies_small : (t n a : ℕ) (energies : List ℤ) → AreEnergies t n a energies → (k : ℕ) → unsigned_abs (entry energies k) ≤ MOST_ENERGY
energies_small t n a energies are k = omega (arith, are.small k, are.room)

pub ruleset sized = (energies_small)
