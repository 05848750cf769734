-- Terms that add to a Curie temperature or to a moment, and the magnetic energy of their sums.
use Rattle.std.proofs.Common.{◌≡◌, ℕ, ◌+◌, ◌≤◌, List, [], ◌∷◌, Some, slice_get}
use Rattle.std.specs.Prelude.{ℤ}
use Rattle.cal_math.specs.Sums.{sum_of}
use Rattle.cef_core.specs.declared.phase.MagneticAt.{MagneticAt}
use Rattle.cef_core.specs.declared.phase.PhaseAt.{PhaseAt}
use Rattle.cef_core.specs.Magnetism.{magnetic_at}
use Rattle.cef_box.specs.declared.range.Range.{Range}
use Rattle.cef_box.specs.Terms.{Shape}
use Rattle.cef_mag.specs.Ranges.{magnetic_low, magnetic_high}

-- the sum of the greatest magnitudes of the list
abbrev pub most_of : {A : Type 0} → (A → ℕ) → List A → ℕ
most_of most [] = 0
most_of most (x ∷ xs) = most x + most_of most xs

-- terms of one shape, whose greatest magnitudes add to no more than a limit
pub record AreSummands {A : Type 0} (shape : A → Shape) (most : A → ℕ) (s : Shape) (limit : ℕ) (terms : List A) : Type 0 where
  pub shapes : (k : ℕ) (x : A) → slice_get terms k ≡ Some x → shape x ≡ s
  pub small : most_of most terms ≤ limit

abbrev pub Box : Type 0
Box = List (List Range)

abbrev pub Counts : Type 0
Counts = List (List ℕ)

-- the magnetic energy of counts, and its low and high over a box, by the sums of the terms of a phase
abbrev pub value_of_terms : {A : Type 0} → (A → Counts → ℤ) → PhaseAt → MagneticAt → List A → List A → Counts → ℤ
value_of_terms value phase m curie moment site =
    magnetic_at phase.t phase.scale m.factor m.p4 (sum_of (λ x. value x site) curie) (sum_of (λ x. value x site) moment)

abbrev pub low_of_terms : {A : Type 0} → (A → Box → ℤ) → (A → Box → ℤ) → PhaseAt → MagneticAt → List A → List A → Box → ℤ
low_of_terms low high phase m curie moment box =
    magnetic_low phase.t phase.scale m.factor m.p4
    (sum_of (λ x. low x box) curie) (sum_of (λ x. high x box) curie)
    (sum_of (λ x. low x box) moment) (sum_of (λ x. high x box) moment)

abbrev pub high_of_terms : {A : Type 0} → (A → Box → ℤ) → (A → Box → ℤ) → PhaseAt → MagneticAt → List A → List A → Box → ℤ
high_of_terms low high phase m curie moment box =
    magnetic_high phase.t phase.scale m.factor m.p4
    (sum_of (λ x. low x box) curie) (sum_of (λ x. high x box) curie)
    (sum_of (λ x. low x box) moment) (sum_of (λ x. high x box) moment)
