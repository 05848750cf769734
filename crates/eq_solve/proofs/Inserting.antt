-- An element that is inserted at its place leaves an ordered list ordered.
use Rattle.std.proofs.Common.{◌≡◌, ℕ, zero, suc, ◌+◌, ◌<◌, ◌≤◌, List, [], ◌∷◌, length, get_or, refl, arith, sym, subst, inl, inr}
use Rattle.std.specs.Prelude.{AllPairs}
use Rattle.std.specs.List.{insert}
use Rattle.std.proofs.lemmas.Bool.{cases_lt}
use Rattle.std.proofs.lemmas.List.Edits.{length-insert, get_or-insert_below, get_or-insert_at, get_or-insert_above}

-- what stands at a place of the longer list
data Stands {X : Type 0} (xs : List X) (p : ℕ) (y d : X) (k : ℕ) : Type 0 where
  before : k < p → get_or (insert xs p y) k d ≡ get_or xs k d → Stands xs p y d k
  here : k ≡ p → get_or (insert xs p y) k d ≡ y → Stands xs p y d k
  behind : (j : ℕ) → k ≡ suc j → p ≤ j → get_or (insert xs p y) k d ≡ get_or xs j d → Stands xs p y d k

stands : {X : Type 0} (xs : List X) (p : ℕ) (y d : X) (k : ℕ) → p ≤ length xs → Stands xs p y d k
stands xs p y d k le =
    elim (cases_lt k p) [
      | inl lt ↦ before lt (get_or-insert_below xs p y d k lt le)
      | inr ge ↦ by_place k ge
    ]
  where
    by_place : (k : ℕ) → p ≤ k → Stands xs p y d k
    by_place zero ge = let e : p ≡ zero = omega (arith, ge) in here (sym e) (subst (λ (q : ℕ). get_or (insert xs p y) q d ≡ y) e (get_or-insert_at xs p y d le))
    by_place (suc j) ge =
        elim (cases_lt j p) [
          | inl lt ↦ let e : p ≡ suc j = omega (arith, ge, lt) in here (sym e) (subst (λ (q : ℕ). get_or (insert xs p y) q d ≡ y) e (get_or-insert_at xs p y d le))
          | inr more ↦ let e : j + 1 ≡ suc j = omega arith in behind j refl more (subst (λ (q : ℕ). get_or (insert xs p y) q d ≡ get_or xs j d) e (get_or-insert_above xs p y d j more le))
        ]

pub all_pairs_insert : {X : Type 0} (R : X → X → Type 0) (xs : List X) (p : ℕ) (y : X) → p ≤ length xs → AllPairs R xs →
    ((k : ℕ) (d : X) → k < p → R (get_or xs k d) y) → ((k : ℕ) (d : X) → p ≤ k → k < length xs → R y (get_or xs k d)) → AllPairs R (insert xs p y)
all_pairs_insert {X = X} R xs p y le pairs first last i j d lt less =
    let n : length (insert xs p y) ≡ length xs + 1 = length-insert xs p y le in
    elim (stands xs p y d i le) [
      | before bi ei ↦ elim (stands xs p y d j le) [
        | before bj ej ↦ rw (ei, ej) (pairs i j d lt (omega (arith, bj, le)))
        | here hj ej ↦ rw (ei, ej) (first i d bi)
        | behind k sj aj ej ↦ rw (ei, ej) (pairs i k d (omega (arith, bi, aj)) (omega (arith, sj, less, n)))
      ]
      | here hi ei ↦ elim (stands xs p y d j le) [
        | before bj ej ↦ absurd (omega (arith, hi, bj, lt))
        | here hj ej ↦ absurd (omega (arith, hi, hj, lt))
        | behind k sj aj ej ↦ rw (ei, ej) (last k d aj (omega (arith, sj, less, n)))
      ]
      | behind h si ai ei ↦ elim (stands xs p y d j le) [
        | before bj ej ↦ absurd (omega (arith, si, ai, bj, lt))
        | here hj ej ↦ absurd (omega (arith, si, ai, hj, lt))
        | behind k sj aj ej ↦ rw (ei, ej) (pairs h k d (omega (arith, si, sj, lt)) (omega (arith, sj, less, n)))
      ]
    ]
