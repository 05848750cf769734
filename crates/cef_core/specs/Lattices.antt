-- The numbers N of parts that a sublattice may have: a site fraction is a whole multiple of 1/N.
use Rattle.std.specs.Prelude.{ℕ, Bool, ◌==◌}
use Rattle.std.specs.List.{list_any}
use Rattle.cef_core.specs.declared.lattice.TheConstants.{LATTICES}

abbrev pub is_lattice : ℕ → Bool
is_lattice parts = list_any (λ lattice. parts == lattice) LATTICES
