-- The value of a parameter at a constitution: reference energies, binary interactions by Redlich and Kister, ternary and
-- reciprocal interactions.
use Rattle.std.specs.Prelude.{ℕ, zero, suc, ◌+◌, ◌*◌, ◌^◌, nat_lt, List, [], ◌∷◌, length, sum, map, filter, slice_index, Bool, true, ℤ, pos, ◌-ℤ◌, ◌*ℤ◌}
use Rattle.std.specs.Int.{int_div_euclid}
use Rattle.cef_core.specs.declared.phase.ParamAt.{ParamAt}

-- the counts at the places of each list of an array
abbrev pub picked : List (List ℕ) → List (List ℕ) → List (List ℕ)
picked (places ∷ array) (counts ∷ more) = map (λ p. slice_index counts p) places ∷ picked array more
picked [] counts = []
picked (places ∷ array) [] = []

abbrev pub product_of : List ℕ → ℕ
product_of [] = 1
product_of (k ∷ counts) = k * product_of counts

-- K: the product of the counts of all constituents of the array
abbrev pub product_over : List (List ℕ) → ℕ
product_over [] = 1
product_over (counts ∷ more) = product_of counts * product_over more

abbrev pub power : ℤ → ℕ → ℤ
power x zero = pos 1
power x (suc v) = x *ℤ power x v

-- the lists of two or more constituents
abbrev pub interacting : List (List ℕ) → List (List ℕ)
interacting counts = filter (λ ks. nat_lt 1 (length ks)) counts

-- The factor behind K:
--   (k_i - k_j)^v for one list of two and the order v,
--   3*k_o + N - k_i - k_j - k_k for one list of three that is weighted, o being the one at place v,
--   and 1 otherwise.
abbrev pub factor_of : ℕ → ℕ → Bool → List (List ℕ) → ℤ
factor_of n v weighted ((i ∷ j ∷ []) ∷ []) = power (pos i -ℤ pos j) v
factor_of n v true ((i ∷ j ∷ k ∷ []) ∷ []) = pos (3 * slice_index (i ∷ j ∷ k ∷ []) v + n) -ℤ pos (i + j + k)
factor_of n v weighted lists = pos 1

-- the divisor behind N^n: N^v, or 3*N, or 1
abbrev pub factor_divisor : ℕ → ℕ → Bool → List (List ℕ) → ℕ
factor_divisor n v weighted ((i ∷ j ∷ []) ∷ []) = n ^ v
factor_divisor n v true ((i ∷ j ∷ k ∷ []) ∷ []) = 3 * n
factor_divisor n v weighted lists = 1

-- The value of a parameter: floor (micro * K * factor / (N^n * divisor)), with n the number of constituents of the array.
unfoldable pub parameter_value : ℕ → ParamAt → List (List ℕ) → ℤ
parameter_value n p counts =
    let ks = picked p.array counts in
    let mixed = interacting ks in
    int_div_euclid
    (p.micro *ℤ (pos (product_over ks) *ℤ factor_of n p.order p.weighted mixed))
    (pos (n ^ sum (map length ks) * factor_divisor n p.order p.weighted mixed))
