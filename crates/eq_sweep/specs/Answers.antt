-- What each answer of a sweep tells.
use Rattle.std.specs.Prelude.{◌≡◌, ℕ, ◌<◌, List, Some, length, slice_get, ℤ, pos, ◌*ℤ◌, ◌<ℤ◌}
use Rattle.cef_core.specs.declared.phase.PhaseAt.{PhaseAt}
use Rattle.cef_tree.specs.declared.tree.Tree.{Tree}
use Rattle.cef_core.specs.Constitutions.{IsConstitution, content}
use Rattle.cef_core.specs.Energies.{energy}
use Rattle.cef_core.specs.Systems.{all_points}
use Rattle.cef_core.specs.Worth.{worth}
use Rattle.eq_sweep.specs.declared.swept.Swept.{Swept}
use Rattle.eq_sweep.specs.declared.swept.Swept.TheVariants.{Closed, Below, Out}

-- a fact for one answer
abbrev pub IfClosed : Swept → (List Tree → Type 0) → Type 0
IfClosed (Closed trees) P = P trees
IfClosed (Below place counts) P = Unit {0}
IfClosed (Out place) P = Unit {0}

abbrev pub IfBelow : Swept → (ℕ → List (List ℕ) → Type 0) → Type 0
IfBelow (Closed trees) P = Unit {0}
IfBelow (Below place counts) P = P place counts
IfBelow (Out place) P = Unit {0}

abbrev pub IfOut : Swept → (ℕ → Type 0) → Type 0
IfOut (Closed trees) P = Unit {0}
IfOut (Below place counts) P = Unit {0}
IfOut (Out place) P = P place

-- a constitution of the phase at a place, strictly below the plane of the potentials: 2^16*G < M*b
pub record IsPointBelow (potentials : List ℤ) (phases : List PhaseAt) (place : ℕ) (counts : List (List ℕ)) : Type 0 where
  pub phase : PhaseAt
  pub phase_is : slice_get phases place ≡ Some phase
  pub constitution : IsConstitution phase counts
  pub below : (pos 65536 *ℤ energy phase counts) <ℤ worth potentials (content phase counts)

-- the place of a phase, where the budget is less than the number of all lists of the phases
pub record IsShort (budget : ℕ) (phases : List PhaseAt) (place : ℕ) : Type 0 where
  pub within : place < length phases
  pub short : budget < all_points phases
