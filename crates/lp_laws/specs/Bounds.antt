-- How large the numbers of a basis are, by counting: two whole vectors are alike where they differ by a whole combination of the
-- columns, and at most as many of which no two are alike exist as a box of the columns' sums has places.
-- Throughout a basis of C columns of C numbers of at least 0, whose sums are at most w. Where a bound has a power C - 1, C is suc b.
use Rattle.std.specs.Prelude.{ℕ, suc, ◌*◌, ◌^◌, ◌<◌, ◌≤◌}
use Rattle.std.specs.Prelude.{ℤ, pos, ◌≤ℤ◌, unsigned_abs}
use Rattle.lp_laws.specs.Bases.{IsBasis, IsPrimitive, IsPlain, IsPriced, IsReduced, IsWholeAt}

-- a number of a primitive row: at most w^(C-1)
abbrev pub RowNumbersAreBounded : Type 0
RowNumbersAreBounded = (b w : ℕ) (columns rows : ℕ → ℕ → ℤ) (own : ℕ → ℤ) →
    IsBasis (suc b) (suc b) columns rows own → IsPlain (suc b) (suc b) w columns →
    (j c : ℕ) → j < suc b → c < suc b → IsPrimitive (suc b) (rows j) →
    unsigned_abs (rows j c) ≤ w ^ b

-- the product of a primitive row with the column of its place: at most w^C
abbrev pub OwnProductsAreBounded : Type 0
OwnProductsAreBounded = (b w : ℕ) (columns rows : ℕ → ℕ → ℤ) (own : ℕ → ℤ) →
    IsBasis (suc b) (suc b) columns rows own → IsPlain (suc b) (suc b) w columns →
    (j : ℕ) → j < suc b → IsPrimitive (suc b) (rows j) → own j ≤ℤ pos (w ^ suc b)

-- the least common denominator of the weights of a target: at most w^C
abbrev pub PartsAreBounded : Type 0
PartsAreBounded = (n w : ℕ) (columns rows : ℕ → ℕ → ℤ) (own target : ℕ → ℤ) (parts : ℕ) →
    IsBasis n n columns rows own → IsPlain n n w columns →
    ((h : ℕ) → 1 ≤ h → IsWholeAt n n rows own target h → parts ≤ h) → parts ≤ w ^ n

-- the least denominator of potentials: at most w^C
abbrev pub DenominatorsAreBounded : Type 0
DenominatorsAreBounded = (n w : ℕ) (columns rows : ℕ → ℕ → ℤ) (own costs numbers : ℕ →
    ℤ) (denominator : ℕ) →
    IsBasis n n columns rows own → IsPlain n n w columns →
    IsPriced n n columns costs numbers denominator → IsReduced n numbers denominator →
    denominator ≤ w ^ n

-- a potential over that denominator, with costs of magnitudes at most s and C at most 8: at most 3*C*s*w^(C-1)
abbrev pub PotentialsAreBounded : Type 0
PotentialsAreBounded = (b w s : ℕ) (columns rows : ℕ → ℕ → ℤ) (own costs numbers : ℕ →
    ℤ) (denominator : ℕ) → b < 8 →
    IsBasis (suc b) (suc b) columns rows own → IsPlain (suc b) (suc b) w columns →
    IsPriced (suc b) (suc b) columns costs numbers denominator →
    IsReduced (suc b) numbers denominator →
    ((j : ℕ) → j < suc b → unsigned_abs (costs j) ≤ s) →
    (k : ℕ) → k < suc b → unsigned_abs (numbers k) ≤ 3 * suc b * s * w ^ b
