-- Constitutions of a phase on its lattice, and what they hold of each component.
use Rattle.std.specs.Prelude.{◌≡◌, ℕ, ◌+◌, ◌*◌, ◌<◌, nat_eq, List, [], ◌∷◌, Option, Some, None, length, sum, slice_index, slice_index_or, if◌then◌else◌, ℤ, pos}
use Rattle.cef_core.specs.declared.phase.PhaseAt.{PhaseAt}

-- a count for each site, the counts of each sublattice adding to the lattice's number
abbrev pub HasShape : ℕ → List (List (Option ℕ)) → List (List ℕ) → Type 0
HasShape n [] [] = Unit {0}
HasShape n (sites ∷ rest) (counts ∷ more) = (length counts ≡ length sites) × (sum counts ≡ n) × HasShape n rest more
HasShape n [] (counts ∷ more) = ⊥
HasShape n (sites ∷ rest) [] = ⊥

-- how much one count at a site adds to component c: the ratio of its sublattice where the site is of that component
abbrev pub weight_of : ℕ → ℕ → Option ℕ → ℕ
weight_of c ratio None = 0
weight_of c ratio (Some d) = if nat_eq c d then ratio else 0

-- that of a site of a phase
abbrev pub weight_at : PhaseAt → ℕ → ℕ → ℕ → ℕ
weight_at phase s p c = weight_of c (slice_index phase.ratios s) (slice_index_or (slice_index_or phase.sites s []) p None)

-- the counts of one sublattice, each times its weight
abbrev pub content_of_counts : ℕ → ℕ → List (Option ℕ) → List ℕ → ℕ
content_of_counts c ratio (site ∷ sites) (k ∷ counts) = k * weight_of c ratio site + content_of_counts c ratio sites counts
content_of_counts c ratio [] counts = 0
content_of_counts c ratio (site ∷ sites) [] = 0

-- the sum of that over the sublattices
abbrev pub content_over : ℕ → List ℕ → List (List (Option ℕ)) → List (List ℕ) → ℕ
content_over c (ratio ∷ ratios) (sites ∷ rest) (counts ∷ more) = content_of_counts c ratio sites counts + content_over c ratios rest more
content_over c [] rest more = 0
content_over c (ratio ∷ ratios) [] more = 0
content_over c (ratio ∷ ratios) (sites ∷ rest) [] = 0

-- The content of component c in a formula unit, in units of 1/N:
--   b_c = sum over all sites of the count there times the weight of the site for c.
unfoldable pub content : PhaseAt → List (List ℕ) → ℕ → ℤ
content phase counts c = pos (content_over c phase.ratios phase.sites counts)

-- the counts hold some component
abbrev pub HasContent : PhaseAt → List (List ℕ) → Type 0
HasContent phase counts = (c : ℕ) × (0 < content_over c phase.ratios phase.sites counts)

-- a list of counts that holds some component
pub record IsConstitution (phase : PhaseAt) (counts : List (List ℕ)) : Type 0 where
  pub shape : HasShape phase.lattice phase.sites counts
  pub some : HasContent phase counts
