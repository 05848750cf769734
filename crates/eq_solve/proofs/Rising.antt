-- Amounts of known constitutions in rising order are entries in rising order.
use Rattle.std.proofs.Common.{◌≡◌, ℕ, zero, suc, ◌<◌, ◌≤◌, List, [], ◌∷◌, length, map, get_or, refl, arith}
use Rattle.std.specs.Prelude.{ℤ, pos, All, AllPairs, filter}
use Rattle.std.specs.List.{AllByRecursion}
use Rattle.std.proofs.lemmas.List.Kept.{AllPairs-cons, AllPairs-filter}
use Rattle.lp_core.specs.Plans.{Weight}
use Rattle.cef_report.specs.declared.entry.Entry.{Entry}
use Rattle.cef_report.specs.Holding.{IsBefore}
use Rattle.eq_solve.specs.Prices.{floored}
use Rattle.eq_solve.specs.Figures.{is_some, entry_at}

-- the columns rise
abbrev pub AreRising : List Weight → Type 0
AreRising weights = AllPairs (λ v w. v.0 < w.0) weights

later : (w : Weight) (weights : List Weight) → AreRising (w ∷ weights) → AllByRecursion (λ v. w.0 < v.0) weights
later w [] rising = tt
later w (v ∷ weights) rising = (rising 0 1 w (omega arith) (omega arith), later w weights (λ i j d lt less. skipped i j d lt less))
  where
    skipped : (i j : ℕ) (d : Weight) → i < j → j < length (w ∷ weights) → (get_or (w ∷ weights) i d).0 < (get_or (w ∷ weights) j d).0
    skipped zero zero d lt less = absurd (omega (arith, lt))
    skipped zero (suc j) d lt less = rising 0 (suc (suc j)) d (omega arith) (omega (arith, less))
    skipped (suc i) zero d lt less = absurd (omega (arith, lt))
    skipped (suc i) (suc j) d lt less = rising (suc (suc i)) (suc (suc j)) d (omega (arith, lt)) (omega (arith, less))

rest : (w : Weight) (weights : List Weight) → AreRising (w ∷ weights) → AreRising weights
rest w weights rising i j d lt less = rising (suc i) (suc j) d (omega (arith, lt)) (omega (arith, less))

floored_later : (parts : ℤ) (w : Weight) (weights : List Weight) → AllByRecursion (λ v. w.0 < v.0) weights → All (λ v. (floored parts w).0 < v.0) (map (floored parts) weights)
floored_later parts w [] all k d lt = absurd (omega arith)
floored_later parts w (v ∷ weights) all zero d lt = all.0
floored_later parts w (v ∷ weights) all (suc k) d lt = floored_later parts w weights all.1 k d (omega arith)

pub floored_rising : (parts : ℤ) (weights : List Weight) → AreRising weights → AreRising (map (floored parts) weights)
floored_rising parts [] rising = λ i j d lt less. absurd (omega (arith, less))
floored_rising parts (w ∷ weights) rising =
    AllPairs-cons (λ v w. v.0 < w.0) (floored parts w) (map (floored parts) weights) (floored_later parts w weights (later w weights rising)) (floored_rising parts weights (rest w weights rising))

abbrev none : Entry
none = record { phase = 0; amount = pos 0; site = [] }

entries_later : (known : List Entry) (w : Weight) (weights : List Weight) → AllPairs IsBefore known → AllByRecursion (λ v. w.0 < v.0) weights → AllByRecursion (λ v. v.0 < length known) weights →
    All (IsBefore (entry_at known w)) (map (entry_at known) weights)
entries_later known w [] order all within k d lt = absurd (omega arith)
entries_later known w (v ∷ weights) order all within zero d lt = order w.0 v.0 none all.0 within.0
entries_later known w (v ∷ weights) order all within (suc k) d lt = entries_later known w weights order all.1 within.1 k d (omega arith)

pub entries_rising : (known : List Entry) (weights : List Weight) → AllPairs IsBefore known → AreRising weights → AllByRecursion (λ v. v.0 < length known) weights → AllPairs IsBefore (map (entry_at known) weights)
entries_rising known [] order rising within = λ i j d lt less. absurd (omega (arith, less))
entries_rising known (w ∷ weights) order rising within =
    AllPairs-cons IsBefore (entry_at known w) (map (entry_at known) weights) (entries_later known w weights order (later w weights rising) within.1) (entries_rising known weights order (rest w weights rising) within.1)

pub some_rising : (weights : List Weight) → AreRising weights → AreRising (filter is_some weights)
some_rising weights rising = AllPairs-filter (λ v w. v.0 < w.0) is_some weights rising
