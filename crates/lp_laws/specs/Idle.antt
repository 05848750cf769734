-- Columns of weight 0, and columns that keep a weight and a cost. The weight of a place is its row's product with the target x.
use Rattle.std.specs.Prelude.{◌≡◌, ℕ, ◌<◌, ◌≢◌}
use Rattle.std.specs.Prelude.{ℤ, pos, ◌≤ℤ◌}
use Rattle.cal_math.specs.Vectors.{dot}
use Rattle.lp_laws.specs.Bases.{IsBasis, IsPriced}
use Rattle.lp_laws.specs.Descents.{IsStep}

-- where u kills all columns of a basis but the one of place i, the row of that place kills whatever u kills
abbrev pub OneRowIsLeft : Type 0
OneRowIsLeft = (n m i : ℕ) (columns rows : ℕ → ℕ → ℤ) (own u : ℕ → ℤ) → i < m →
    IsBasis n m columns rows own →
    ((j : ℕ) → j < m → j ≢ i → dot n u (columns j) ≡ pos 0) → pos 1 ≤ℤ dot n u (columns i) →
    (x : ℕ → ℤ) → dot n u x ≡ pos 0 → dot n (rows i) x ≡ pos 0

-- where the column that goes has the weight 0, a weight of at least 0 stays at least 0
abbrev pub WeightsStayAbove : Type 0
WeightsStayAbove = (n m i : ℕ) (columns rows columns' rows' : ℕ → ℕ → ℤ) (own own' x : ℕ → ℤ) →
    IsBasis n m columns rows own → IsBasis n m columns' rows' own' → IsStep n m i columns columns' →
    dot n (rows i) x ≡ pos 0 →
    (l : ℕ) → l < m → pos 0 ≤ℤ dot n (rows l) x → pos 0 ≤ℤ dot n (rows' l) x

-- and a weight of 0 stays 0
abbrev pub IdlePlacesStay : Type 0
IdlePlacesStay = (n m i : ℕ) (columns rows columns' rows' : ℕ → ℕ → ℤ) (own own' x : ℕ → ℤ) →
    IsBasis n m columns rows own → IsBasis n m columns' rows' own' → IsStep n m i columns columns' →
    dot n (rows i) x ≡ pos 0 →
    (l : ℕ) → l < m → dot n (rows l) x ≡ pos 0 → dot n (rows' l) x ≡ pos 0

-- with costs and weights of at least 0, and both above 0 at place l, the potentials ask more than 0 for the target
abbrev pub DearWeightsHaveAPrice : Type 0
DearWeightsHaveAPrice = (n m l : ℕ) (columns rows : ℕ → ℕ → ℤ) (own costs numbers x : ℕ →
    ℤ) (denominator : ℕ) → l < m →
    IsBasis n m columns rows own → IsPriced n m columns costs numbers denominator →
    ((j : ℕ) → j < m → pos 0 ≤ℤ costs j) → ((j : ℕ) → j < m → pos 0 ≤ℤ dot n (rows j) x) →
    pos 1 ≤ℤ costs l → pos 1 ≤ℤ dot n (rows l) x → pos 1 ≤ℤ dot n numbers x
