-- Workings: the laws of terms carry over to sums of them, and to the magnetic energy of the sums.
use Rattle.std.proofs.Common.{◌≡◌, ℕ, suc, ◌≤◌, List, [], ◌∷◌, Some, slice_get, refl, arith}
use Rattle.std.specs.Prelude.{ℤ, ◌+ℤ◌}
use Rattle.std.proofs.lemmas.Int.{ints}
use Rattle.cal_limits.specs.declared.TheConstants.{MOST_CURIE, MOST_MOMENT}
use Rattle.cal_math.specs.Sums.{sum_of}
use Rattle.cef_core.specs.declared.phase.MagneticAt.{MagneticAt}
use Rattle.cef_core.specs.declared.phase.PhaseAt.{PhaseAt}
use Rattle.cef_box.specs.Boxes.{IsMember, IsSingle}
use Rattle.cef_box.specs.Terms.{Shape, FitsBox, IsBetween, AreOne, shape_of_phase}
use Rattle.cef_mag.specs.Laws.{magnetic_between, magnetic_same}
use Rattle.cef_mag.specs.Sums.{Box, Counts, AreSummands, value_of_terms, low_of_terms, high_of_terms}

-- what the laws need of a phase and its magnetism
pub record HasMagnetism (phase : PhaseAt) (m : MagneticAt) : Type 0 where
  pub coldest : 1 ≤ phase.t
  pub factor : 1 ≤ m.factor
  pub least_p : 1000 ≤ m.p4
  pub greatest_p : m.p4 ≤ 10000

-- a sum lies between the sum of the lows and the sum of the highs
sum_between : {A : Type 0} (low value high : A → ℤ) (xs : List A) → ((k : ℕ) (x : A) → slice_get xs k ≡ Some x → IsBetween (low x) (value x) (high x)) →
    IsBetween (sum_of low xs) (sum_of value xs) (sum_of high xs)
sum_between low value high [] h = record { below = omega (arith, ints); above = omega (arith, ints) }
sum_between low value high (x ∷ xs) h = joined _ _ _ _ _ _ (h 0 x refl) (sum_between low value high xs (λ k y e. h (suc k) y e))
  where
    joined : (a b c d e f : ℤ) → IsBetween a b c → IsBetween d e f → IsBetween (a +ℤ d) (b +ℤ e) (c +ℤ f)
    joined a b c d e f p q = record { below = omega (arith, ints, p.below, q.below); above = omega (arith, ints, p.above, q.above) }

sum_same : {A : Type 0} (f g : A → ℤ) (xs : List A) → ((k : ℕ) (x : A) → slice_get xs k ≡ Some x → f x ≡ g x) → sum_of f xs ≡ sum_of g xs
sum_same f g [] h = refl
sum_same f g (x ∷ xs) h = rw (h 0 x refl, sum_same f g xs (λ k y e. h (suc k) y e)) refl

-- the law of bounds, and that of one member, as a trait's bound has them
abbrev pub AllBetween : {A : Type 0} → (A → Shape) → (A → Box → ℤ) → (A → Counts → ℤ) → (A → Box → ℤ) → Type 0
AllBetween {A} shape low value high = (x : A) (box : Box) (site : Counts) → FitsBox (shape x) box → IsMember (shape x).lattice box site → IsBetween (low x box) (value x site) (high x box)

abbrev pub AllOne : {A : Type 0} → (A → Shape) → (A → Box → ℤ) → (A → Counts → ℤ) → (A → Box → ℤ) → Type 0
AllOne {A} shape low value high = (x : A) (box : Box) (site : Counts) → FitsBox (shape x) box → IsMember (shape x).lattice box site → IsSingle box → AreOne (low x box) (value x site) (high x box)

summands_between : {A : Type 0} (shape : A → Shape) (most : A → ℕ) (low : A → Box → ℤ) (value : A → Counts → ℤ) (high : A → Box → ℤ) → AllBetween shape low value high →
    (s : Shape) (limit : ℕ) (terms : List A) → AreSummands shape most s limit terms → (box : Box) (site : Counts) → FitsBox s box → IsMember s.lattice box site →
    IsBetween (sum_of (λ x. low x box) terms) (sum_of (λ x. value x site) terms) (sum_of (λ x. high x box) terms)
summands_between shape most low value high law s limit terms h box site fits member =
    sum_between _ _ _ terms (λ k x e. law x box site (rw (h.shapes k x e) fits) (rw (h.shapes k x e) member))

-- the magnetic energy of a member, for sums of terms
pub terms_between : {A : Type 0} (shape : A → Shape) (most : A → ℕ) (low : A → Box → ℤ) (value : A → Counts → ℤ) (high : A → Box → ℤ) → AllBetween shape low value high →
    (phase : PhaseAt) (m : MagneticAt) (curie moment : List A) → HasMagnetism phase m →
    AreSummands shape most (shape_of_phase phase) MOST_CURIE curie → AreSummands shape most (shape_of_phase phase) MOST_MOMENT moment →
    (box : Box) (site : Counts) → FitsBox (shape_of_phase phase) box → IsMember phase.lattice box site →
    IsBetween (low_of_terms low high phase m curie moment box) (value_of_terms value phase m curie moment site)
    (high_of_terms low high phase m curie moment box)
terms_between shape most low value high law phase m curie moment has curies moments box site fits member =
    let x = summands_between shape most low value high law (shape_of_phase phase) MOST_CURIE curie curies box site fits member in
    let y = summands_between shape most low value high law (shape_of_phase phase) MOST_MOMENT moment moments box site fits member in
    magnetic_between phase.t phase.scale m.factor m.p4 _ _ _ _ _ _ has.coldest has.factor (omega (arith, has.least_p)) x.below x.above y.below y.above

-- and the three of a box of one member
pub terms_same : {A : Type 0} (shape : A → Shape) (most : A → ℕ) (low : A → Box → ℤ) (value : A → Counts → ℤ) (high : A → Box → ℤ) → AllOne shape low value high →
    (phase : PhaseAt) (m : MagneticAt) (curie moment : List A) →
    AreSummands shape most (shape_of_phase phase) MOST_CURIE curie → AreSummands shape most (shape_of_phase phase) MOST_MOMENT moment →
    (box : Box) (site : Counts) → FitsBox (shape_of_phase phase) box → IsMember phase.lattice box site → IsSingle box →
    AreOne (low_of_terms low high phase m curie moment box) (value_of_terms value phase m curie moment site)
    (high_of_terms low high phase m curie moment box)
terms_same {A} shape most low value high law phase m curie moment curies moments box site fits member single =
    rw (lows MOST_CURIE curie curies, highs MOST_CURIE curie curies, lows MOST_MOMENT moment moments, highs MOST_MOMENT moment moments)
    (magnetic_same phase.t phase.scale m.factor m.p4 (sum_of (λ x. value x site) curie) (sum_of (λ x. value x site) moment))
  where
    lows : (limit : ℕ) (terms : List A) → AreSummands shape most (shape_of_phase phase) limit terms → sum_of (λ x. low x box) terms ≡ sum_of (λ x. value x site) terms
    lows limit terms h = sum_same _ _ terms (λ k x e. (law x box site (rw (h.shapes k x e) fits) (rw (h.shapes k x e) member) single).below)

    highs : (limit : ℕ) (terms : List A) → AreSummands shape most (shape_of_phase phase) limit terms → sum_of (λ x. high x box) terms ≡ sum_of (λ x. value x site) terms
    highs limit terms h = sum_same _ _ terms (λ k x e. (law x box site (rw (h.shapes k x e) fits) (rw (h.shapes k x e) member) single).above)
