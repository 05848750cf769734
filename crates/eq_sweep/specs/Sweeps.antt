-- The sweep of phases under potentials, with one budget of splits for all: the box of all lists of each phase is visited in
-- order, until a visit stops the sweep.
use Rattle.std.specs.Prelude.{◌≡◌, ℕ, zero, suc, List, [], ◌∷◌, ℤ}
use Rattle.cef_core.specs.declared.phase.PhaseAt.{PhaseAt}
use Rattle.cef_tree.specs.declared.tree.Node.{Node}
use Rattle.cef_tree.specs.declared.tree.Tree.{Tree}
use Rattle.cef_box.specs.Tight.{full_box}
use Rattle.eq_sweep.specs.declared.swept.Swept.{Swept}
use Rattle.eq_sweep.specs.declared.swept.Swept.TheVariants.{Closed, Below, Out}
use Rattle.eq_sweep.specs.Visits.{Visits, Stops, End, below, out}

-- no visit stops the sweep: each phase has its tree
abbrev pub Closes : List ℤ → ℕ → List PhaseAt → ℕ → List Tree → ℕ → Type 0
Closes potentials budget [] splits [] after = splits ≡ after
Closes potentials budget [] splits (tree ∷ trees) after = ⊥
Closes potentials budget (phase ∷ phases) splits [] after = ⊥
Closes potentials budget (phase ∷ phases) splits (tree ∷ trees) after =
    (between : ℕ)
    × Visits phase potentials budget (full_box phase) splits tree.nodes [] between
    × Closes potentials budget phases between trees after

-- that of the phase at this place stops it
abbrev pub StopsAt : List ℤ → ℕ → List PhaseAt → ℕ → ℕ → End → Type 0
StopsAt potentials budget [] splits place end = ⊥
StopsAt potentials budget (phase ∷ phases) splits zero end = Stops phase potentials budget (full_box phase) splits end
StopsAt potentials budget (phase ∷ phases) splits (suc place) end =
    (nodes : List Node)
    × (between : ℕ)
    × Visits phase potentials budget (full_box phase) splits nodes [] between
    × StopsAt potentials budget phases between place end

-- The answer of the sweep, with no split made before it.
abbrev pub IsSweep : List PhaseAt → List ℤ → ℕ → Swept → Type 0
IsSweep phases potentials budget (Closed trees) = (splits : ℕ) × Closes potentials budget phases 0 trees splits
IsSweep phases potentials budget (Below place counts) = StopsAt potentials budget phases 0 place (below counts)
IsSweep phases potentials budget (Out place) = StopsAt potentials budget phases 0 place out
