-- The low and the high of a parameter's value over a box.
use Rattle.std.specs.Prelude.{ℕ, zero, suc, ◌+◌, ◌-◌, ◌*◌, ◌^◌, ◌%◌, min, max, List, [], ◌∷◌, length, sum, map, slice_index, slice_index_or, Bool, true, ℤ, pos, negsuc, ◌-ℤ◌, ◌*ℤ◌, unsigned_abs}
use Rattle.std.specs.Int.{int_div_euclid}
use Rattle.cef_core.specs.declared.phase.ParamAt.{ParamAt}
use Rattle.cef_box.specs.declared.range.Range.{Range}
use Rattle.cef_box.specs.Boxes.{lows_of, highs_of}
use Rattle.cef_core.specs.Parameters.{picked, product_over, power, interacting, factor_divisor}

-- floor (micro * q / den)
unfoldable pub value_of : ℤ → ℕ → ℤ → ℤ
value_of micro den q = int_div_euclid (micro *ℤ q) (pos den)

-- the least and the greatest product of a number from k to l with a number from d up, or up to d
unfoldable pub least_product : ℕ → ℕ → ℤ → ℤ
least_product k l (pos d) = pos k *ℤ pos d
least_product k l (negsuc d) = pos l *ℤ negsuc d

unfoldable pub greatest_product : ℕ → ℕ → ℤ → ℤ
greatest_product k l (pos d) = pos l *ℤ pos d
greatest_product k l (negsuc d) = pos k *ℤ negsuc d

-- the low and the high of the value for a q from the least to the greatest: they change places where micro is below 0
unfoldable pub low_of : ℤ → ℕ → ℤ → ℤ → ℤ
low_of (pos m) den least greatest = value_of (pos m) den least
low_of (negsuc m) den least greatest = value_of (negsuc m) den greatest

unfoldable pub high_of : ℤ → ℕ → ℤ → ℤ → ℤ
high_of (pos m) den least greatest = value_of (pos m) den greatest
high_of (negsuc m) den least greatest = value_of (negsuc m) den least

-- even powers above 0 of a base from low to high: the least is 0 where the base may be 0, and the lesser power of the ends
-- otherwise; the greatest is the greater power of the ends
unfoldable pub least_even : ℤ → ℤ → ℕ → ℕ
least_even (pos a) high v = min (a ^ v) (unsigned_abs high ^ v)
least_even (negsuc a) (negsuc b) v = min (suc a ^ v) (suc b ^ v)
least_even (negsuc a) (pos b) v = 0

unfoldable pub greatest_even : ℤ → ℤ → ℕ → ℕ
greatest_even low high v = max (unsigned_abs low ^ v) (unsigned_abs high ^ v)

-- by the rest of the order by 2: odd powers are least and greatest at the ends
unfoldable pub least_by : ℕ → ℤ → ℤ → ℕ → ℤ
least_by zero low high v = pos (least_even low high v)
least_by (suc r) low high v = power low v

unfoldable pub greatest_by : ℕ → ℤ → ℤ → ℕ → ℤ
greatest_by zero low high v = pos (greatest_even low high v)
greatest_by (suc r) low high v = power high v

-- the least and the greatest power of a base from low to high
unfoldable pub least_power : ℤ → ℤ → ℕ → ℤ
least_power low high zero = pos 1
least_power low high (suc u) = least_by (suc u % 2) low high (suc u)

unfoldable pub greatest_power : ℤ → ℤ → ℕ → ℤ
greatest_power low high zero = pos 1
greatest_power low high (suc u) = greatest_by (suc u % 2) low high (suc u)

-- a count of the first list
abbrev pub count : List (List ℕ) → ℕ → ℕ
count lists k = slice_index (slice_index_or lists 0 []) k

-- The least of the factor behind K, by the lows and the highs of the lists of two or more constituents:
--   of (k_i - k_j)^v for k_i - k_j from low_i - high_j to high_i - low_j,
--   the greater of 0 and N + 2*low_o - (the two other highs) for a weighted ternary, whose counts add to N at most,
--   and 1 otherwise.
abbrev pub least_factor : ℕ → ℕ → Bool → List (List ℕ) → List (List ℕ) → ℤ
least_factor n v weighted ((i ∷ j ∷ []) ∷ []) highs = least_power (pos i -ℤ pos (count highs 1)) (pos (count highs 0) -ℤ pos j) v
least_factor n v true ((i ∷ j ∷ k ∷ []) ∷ []) highs =
    pos (n + 2 * slice_index (i ∷ j ∷ k ∷ []) v - (count highs 0 + count highs 1 + count highs 2 - count highs v))
least_factor n v weighted lows highs = pos 1

-- the greatest of it: for a weighted ternary N + 2*high_o - (the two other lows)
abbrev pub greatest_factor : ℕ → ℕ → Bool → List (List ℕ) → List (List ℕ) → ℤ
greatest_factor n v weighted ((i ∷ j ∷ []) ∷ []) highs = greatest_power (pos i -ℤ pos (count highs 1)) (pos (count highs 0) -ℤ pos j) v
greatest_factor n v true ((i ∷ j ∷ k ∷ []) ∷ []) highs =
    pos (n + 2 * count highs v) -ℤ pos (i + j + k - slice_index (i ∷ j ∷ k ∷ []) v)
greatest_factor n v weighted lows highs = pos 1

-- the divisor of a parameter's value, by the counts of its array
abbrev pub divisor : ℕ → ParamAt → List (List ℕ) → ℕ
divisor n p ks = n ^ sum (map length ks) * factor_divisor n p.order p.weighted (interacting ks)

-- the least and the greatest K times factor
abbrev pub least_q : ℕ → ParamAt → List (List ℕ) → List (List ℕ) → ℤ
least_q n p lows highs =
    least_product (product_over lows) (product_over highs) (least_factor n p.order p.weighted (interacting lows) (interacting highs))

abbrev pub greatest_q : ℕ → ParamAt → List (List ℕ) → List (List ℕ) → ℤ
greatest_q n p lows highs =
    greatest_product (product_over lows) (product_over highs) (greatest_factor n p.order p.weighted (interacting lows) (interacting highs))

-- The low of a parameter over a box of the lattice n: its value at the least K times factor, or at the greatest where the
-- parameter is below 0.
unfoldable pub parameter_low : ℕ → ParamAt → List (List Range) → ℤ
parameter_low n p box =
    let lows = picked p.array (lows_of box) in
    let highs = picked p.array (highs_of box) in
    low_of p.micro (divisor n p lows) (least_q n p lows highs) (greatest_q n p lows highs)

-- and its high
unfoldable pub parameter_high : ℕ → ParamAt → List (List Range) → ℤ
parameter_high n p box =
    let lows = picked p.array (lows_of box) in
    let highs = picked p.array (highs_of box) in
    high_of p.micro (divisor n p lows) (least_q n p lows highs) (greatest_q n p lows highs)
