-- Numbers of which each is at most a limit, so that its product with a factor is.
use Rattle.std.proofs.Common.{◌≡◌, ℕ, ◌*◌, ◌≤◌, ◌<◌, List, [], ◌∷◌, Bool, true, false, arith, inl, inr, refl}
use Rattle.std.specs.Prelude.{ℤ, unsigned_abs, ◌||◌, ◌==◌}
use Rattle.std.specs.List.{AllByRecursion, list_any}
use Rattle.std.proofs.lemmas.Bool.{cases_lt, eqb-true}
use Rattle.cef_core.specs.declared.lattice.TheConstants.{LATTICES}
use Rattle.cef_core.specs.declared.phase.PhaseAt.{PhaseAt}
use Rattle.cef_core.specs.Lattices.{is_lattice}
use Rattle.cef_core.specs.Phases.{IsFine}

pub small_from : (numbers : List ℤ) (limit factor most : ℕ) → ((x : ℕ) → x ≤ limit → x * factor ≤ most) → AllByRecursion (λ x. unsigned_abs x ≤ limit) numbers → AllByRecursion (λ x. unsigned_abs x * factor ≤ most) numbers
small_from [] limit factor most h all = tt
small_from (x ∷ numbers) limit factor most h all = (h (unsigned_abs x) all.0, small_from numbers limit factor most h all.1)

within_from : (numbers : List ℤ) (limit factor most : ℕ) → ((x : ℕ) → limit < x → most < x * factor) → AllByRecursion (λ x. unsigned_abs x * factor ≤ most) numbers → AllByRecursion (λ x. unsigned_abs x ≤ limit) numbers
within_from [] limit factor most h all = tt
within_from (x ∷ numbers) limit factor most h all = (
  elim (cases_lt limit (unsigned_abs x)) [
    | inl lt ↦ absurd (omega (arith, h (unsigned_abs x) lt, all.0))
    | inr le ↦ le
  ],
  within_from numbers limit factor most h all.1,
)

pub not_small_from : (numbers : List ℤ) (limit factor most : ℕ) → ((x : ℕ) → limit < x → most < x * factor) → (AllByRecursion (λ x. unsigned_abs x ≤ limit) numbers → ⊥) → AllByRecursion (λ x. unsigned_abs x * factor ≤ most) numbers → ⊥
not_small_from numbers limit factor most h wrong all = wrong (within_from numbers limit factor most h all)

pub ruleset scaled = (small_from, not_small_from)

-- ---- lattices

one_of : (n : ℕ) (ls : List ℕ) → list_any (λ l. n == l) ls ≡ true → AllByRecursion (λ l. 1 ≤ l) ls → 1 ≤ n
one_of n [] is all = absurd cc
one_of n (l ∷ ls) is all = by_test (n == l) refl is (one_of n ls)
  where
    by_test : (b : Bool) → (n == l) ≡ b → (b || list_any (λ l. n == l) ls) ≡ true → (list_any (λ l. n == l) ls ≡ true → AllByRecursion (λ l. 1 ≤ l) ls → 1 ≤ n) → 1 ≤ n
    by_test true here is behind = rw (eqb-true n l here) all.0
    by_test false here is behind = behind is all.1

pub lattice_some : (n : ℕ) → is_lattice n ≡ true → 1 ≤ n
lattice_some n is = one_of n LATTICES is within
  where
    within : AllByRecursion (λ l. 1 ≤ l) LATTICES
    within = search (arith)

pub phase_lattice : (phase : PhaseAt) → IsFine phase → 1 ≤ phase.lattice
phase_lattice phase fine = lattice_some phase.lattice fine.keeps.lattice

pub ruleset lattices = (phase_lattice)
