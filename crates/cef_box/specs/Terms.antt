-- Parts of an energy, each with its bounds over boxes: what their sites and boxes are, and what a value between bounds is.
use Rattle.std.specs.Prelude.{◌≡◌, ℕ, ◌≤◌, List, ℤ, ◌≤ℤ◌}
use Rattle.std.specs.List.{AllByRecursion}
use Rattle.cef_box.specs.declared.range.Range.{Range}
use Rattle.cef_core.specs.declared.phase.PhaseAt.{PhaseAt}
use Rattle.cef_core.specs.Shapes.{shape}
use Rattle.cef_box.specs.Boxes.{IsRange}

-- a lattice, and how many sites each sublattice has
pub record Shape : Type 0 where
  pub lattice : ℕ
  pub widths : List ℕ

-- the shape of a phase
abbrev pub shape_of_phase : PhaseAt → Shape
shape_of_phase phase = record { lattice = phase.lattice; widths = shape phase.sites }

-- counts of a shape: a count for each site, none above the lattice's number
pub record FitsSite (s : Shape) (site : List (List ℕ)) : Type 0 where
  pub widths : shape site ≡ s.widths
  pub counts : AllByRecursion (AllByRecursion (λ k. k ≤ s.lattice)) site

-- a box of a shape: a range for each site, no low above its high, and no high above the lattice's number
pub record FitsBox (s : Shape) (box : List (List Range)) : Type 0 where
  pub widths : shape box ≡ s.widths
  pub ranges : AllByRecursion (AllByRecursion (IsRange s.lattice)) box

pub record IsBetween (low value high : ℤ) : Type 0 where
  pub below : low ≤ℤ value
  pub above : value ≤ℤ high

-- all three are one number
pub record AreOne (low value high : ℤ) : Type 0 where
  pub below : low ≡ value
  pub above : high ≡ value
