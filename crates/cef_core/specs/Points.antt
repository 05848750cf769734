-- The lists of counts of a phase on a lattice, one by one.
use Rattle.std.specs.Prelude.{ℕ, zero, suc, ◌+◌, ◌*◌, ◌-◌, List, [], ◌∷◌, ◌++◌, length, map}
use Rattle.cef_core.specs.declared.phase.PhaseAt.{PhaseAt}
use Rattle.cef_core.specs.Shapes.{shape}

abbrev pub in_front_of : ℕ → List (List ℕ) → List (List ℕ)
in_front_of k lists = map (λ counts. k ∷ counts) lists

-- one more count k from 0 to total, in front of the counts that add to the rest: the greatest k last
abbrev pub with_first : (ℕ → List (List ℕ)) → ℕ → ℕ → List (List ℕ)
with_first others total zero = in_front_of zero (others total)
with_first others total (suc k) = with_first others total k ++ in_front_of (suc k) (others (total - suc k))

-- The lists of n counts that add to total, in rising order:
--   a first count k from 0 to total, and then those of n - 1 counts that add to total - k.
abbrev pub counts_of : ℕ → ℕ → List (List ℕ)
counts_of zero zero = [] ∷ []
counts_of zero (suc total) = []
counts_of (suc n) total = with_first (counts_of n) total total

-- each list of the first sublattice in front of each list of the others
abbrev pub in_front : List (List ℕ) → List (List (List ℕ)) → List (List (List ℕ))
in_front [] others = []
in_front (counts ∷ rest) others = map (λ more. counts ∷ more) others ++ in_front rest others

-- The lists of counts of sublattices with these numbers of sites, each sublattice adding to N.
abbrev pub lists_of : ℕ → List ℕ → List (List (List ℕ))
lists_of n [] = [] ∷ []
lists_of n (sites ∷ rest) = in_front (counts_of sites n) (lists_of n rest)

-- how many lists of n counts add to total
unfoldable pub number_of : ℕ → ℕ → ℕ
number_of n total = length (counts_of n total)

-- how many lists of counts of these sublattices there are
abbrev pub points_of : ℕ → List ℕ → ℕ
points_of n [] = 1
points_of n (sites ∷ rest) = number_of sites n * points_of n rest

-- how many lists of counts a phase has
abbrev pub points_in : PhaseAt → ℕ
points_in phase = points_of phase.lattice (shape phase.sites)
