-- What a step from one basis to the next does: a column that costs less than its price comes in where the lexicographic rule says.
use Rattle.std.specs.Prelude.{◌≡◌, ℕ, ◌<◌, ◌≢◌}
use Rattle.std.specs.Prelude.{ℤ, pos, ◌-ℤ◌, ◌*ℤ◌, ◌≤ℤ◌, ◌<ℤ◌}
use Rattle.cal_math.specs.Vectors.{sum_to, dot}
use Rattle.lp_laws.specs.Bases.{IsBasis, IsPriced}
use Rattle.lp_laws.specs.Orders.{IsLexAbove}

-- two bases that differ at place i alone
pub record IsStep (n m i : ℕ) (columns columns' : ℕ → ℕ → ℤ) : Type 0 where
  pub within : i < m
  pub stays : (j : ℕ) → j < m → j ≢ i → (c : ℕ) → c < n → columns' j c ≡ columns j c

-- Where the row of place i meets the new column above 0 and its list over that product comes before that of every other such row,
-- the lists of all rows stay above 0. A row's list is its product with each of the starts.
abbrev pub ListsStayAbove : Type 0
ListsStayAbove = (n m i : ℕ) (columns rows : ℕ → ℕ → ℤ) (own : ℕ → ℤ) (columns' rows' : ℕ → ℕ →
    ℤ) (own' : ℕ → ℤ) →
    IsBasis n m columns rows own → IsBasis n m columns' rows' own' →
    IsStep n m i columns columns' → pos 1 ≤ℤ dot n (rows i) (columns' i) →
    (size : ℕ) (starts : ℕ → ℕ → ℤ) →
    ((j : ℕ) → j < m → IsLexAbove size (λ k. dot n (rows j) (starts k))) →
    ((j : ℕ) → j < m → j ≢ i → pos 1 ≤ℤ dot n (rows j) (columns' i) →
    IsLexAbove size (λ k. dot n (rows i) (columns' i) *ℤ dot n (rows j) (starts k) -ℤ dot n (rows j) (columns' i) *ℤ dot n (rows i) (starts k))) →
    (j : ℕ) → j < m → IsLexAbove size (λ k. dot n (rows' j) (starts k))

-- The list of what a basis costs at each of the starts, over its denominator, falls in lexicographic order with such a step: so no basis
-- comes twice.
abbrev pub CostsFall : Type 0
CostsFall = (n m i : ℕ) (columns columns' rows' : ℕ → ℕ →
    ℤ) (own' costs costs' numbers numbers' : ℕ → ℤ) (d d' : ℕ) →
    IsBasis n m columns' rows' own' → IsStep n m i columns columns' →
    ((j : ℕ) → j < m → j ≢ i → costs' j ≡ costs j) →
    IsPriced n m columns costs numbers d → IsPriced n m columns' costs' numbers' d' →
    (pos d *ℤ costs' i) <ℤ dot n numbers (columns' i) →
    (size : ℕ) (starts : ℕ → ℕ → ℤ) → IsLexAbove size (λ k. dot n (rows' i) (starts k)) →
    IsLexAbove size (λ k. pos d' *ℤ dot n numbers (starts k) -ℤ pos d *ℤ dot n numbers' (starts k))

-- a column with an amount above 0 meets some row of a basis of columns of at least 0 above 0: there is a place for it
abbrev pub SomePlaceIsLeft : Type 0
SomePlaceIsLeft = (n m : ℕ) (columns rows : ℕ → ℕ → ℤ) (own x : ℕ → ℤ) →
    IsBasis n m columns rows own → ((j c : ℕ) → j < m → c < n → pos 0 ≤ℤ columns j c) →
    ((j : ℕ) → j < m → dot n (rows j) x ≤ℤ pos 0) → (c : ℕ) → c < n → x c ≤ℤ pos 0

-- the weights of a basis, (row * target) / own at each place, give the target
abbrev pub WeightsGiveTarget : Type 0
WeightsGiveTarget = (n m : ℕ) (columns rows : ℕ → ℕ → ℤ) (own target weights : ℕ → ℤ) (parts : ℤ) →
    IsBasis n m columns rows own →
    ((j : ℕ) → j < m → weights j *ℤ own j ≡ parts *ℤ dot n (rows j) target) →
    (c : ℕ) → c < n → sum_to m (λ j. weights j *ℤ columns j c) ≡ parts *ℤ target c

-- where v is at most 0 at every column and above 0 at the target, no weights of at least 0 give a multiple of the target
abbrev pub ProofExcludesWeights : Type 0
ProofExcludesWeights = (n m : ℕ) (columns : ℕ → ℕ → ℤ) (target v weights : ℕ → ℤ) (parts : ℤ) →
    ((j : ℕ) → j < m → dot n v (columns j) ≤ℤ pos 0) → pos 1 ≤ℤ dot n v target →
    pos 1 ≤ℤ parts → ((j : ℕ) → j < m → pos 0 ≤ℤ weights j) →
    ((c : ℕ) → c < n → sum_to m (λ j. weights j *ℤ columns j c) ≡ parts *ℤ target c) → ⊥
