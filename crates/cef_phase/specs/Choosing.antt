-- The multipliers that are chosen for a box.
use Rattle.std.specs.Prelude.{◌≡◌, ℕ, ◌-◌, ◌<◌, List, [], ◌∷◌, Some, slice_get, ltb, cond, length, ℤ, pos, ◌-ℤ◌, ◌≤ℤ◌, ◌<ℤ◌}
use Rattle.std.specs.Int.{int_div_euclid}
use Rattle.cal_math.specs.Vectors.{at}
use Rattle.cef_core.specs.declared.phase.PhaseAt.{PhaseAt}
use Rattle.cef_box.specs.declared.range.Range.{Range}
use Rattle.cef_mix.specs.Mixes.{height}
use Rattle.cef_phase.specs.Bounds.{mixing_in, slopes_in, row_in, part_in}

-- How a site's height changes over its range for each count: floor ((F(high) - F(low)) / (high - low)) with
-- F(k) = 2^16*h(k) - m*k.
abbrev pub secant : (ℕ → ℤ) → ℤ → Range → ℤ
secant h m r = int_div_euclid (height h m r.high -ℤ height h m r.low) (pos (r.high - r.low))

-- of each site in order whose low is below its high
abbrev pub secants : (ℕ → ℤ) → List ℤ → List Range → List ℤ
secants h (m ∷ slopes) (r ∷ row) = cond (ltb r.low r.high) (secant h m r ∷ secants h slopes row) (secants h slopes row)
secants h [] row = []
secants h (m ∷ slopes) [] = []

-- the candidates for the multiplier of sublattice s
abbrev pub candidates : PhaseAt → List ℤ → List (List Range) → ℕ → List ℤ
candidates phase potentials box s = pos 0 ∷ secants (mixing_in phase s) (slopes_in phase potentials s) (row_in box s)

-- x is the first of the list at which f is greatest
pub record IsFirstGreatest (f : ℤ → ℤ) (xs : List ℤ) (x : ℤ) : Type 0 where
  pub place : ℕ
  pub there : slice_get xs place ≡ Some x
  pub greatest : (i : ℕ) (y : ℤ) → slice_get xs i ≡ Some y → f y ≤ℤ f x
  pub first : (i : ℕ) (y : ℤ) → slice_get xs i ≡ Some y → i < place → f y <ℤ f x

-- The chosen multipliers: for each sublattice the first candidate that makes its part of the bound greatest.
pub record AreChosen (phase : PhaseAt) (potentials : List ℤ) (box : List (List Range)) (multipliers : List ℤ) : Type 0 where
  pub each : length multipliers ≡ length phase.sites
  pub chosen : (s : ℕ) → s < length phase.sites →
      IsFirstGreatest (part_in phase potentials box s) (candidates phase potentials box s) (at multipliers s)
