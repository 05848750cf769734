-- The phases that tests are made of.
use Rattle.std.specs.Prelude.{ℕ, ◌^◌, ◌≤◌, List, [], ◌∷◌, Option, Some, None, Bool, true, false, ℤ, pos, negsuc, unsigned_abs}
use Rattle.cef_kind.specs.declared.kind.Kind.{Kind}
use Rattle.cef_kind.specs.declared.kind.Kind.TheVariants.{G, Tc, Beta}
use Rattle.cef_core.specs.declared.phase.ParamAt.{ParamAt}
use Rattle.cef_core.specs.declared.phase.PhaseAt.{PhaseAt}
use Rattle.cef_phase.specs.Bounds.{IsPlane}

abbrev pub energy_parameter : ℤ → List (List ℕ) → ℕ → Bool → ParamAt
energy_parameter micro array order weighted = record { kind = G; micro = micro; array = array; order = order; weighted = weighted }

-- interactions of 10^9 µJ: two of order 1, which differ in the order of the elements, a ternary one alone, and a weighted one
abbrev pub solution_parameters : List ParamAt
solution_parameters =
    energy_parameter (pos 1000000000) ((0 ∷ 1 ∷ []) ∷ []) 1 false
    ∷ energy_parameter (pos 1000000000) ((1 ∷ 0 ∷ []) ∷ []) 1 false
    ∷ energy_parameter (pos 1000000000) ((0 ∷ 1 ∷ 2 ∷ []) ∷ []) 0 false
    ∷ energy_parameter (pos 1000000000) ((0 ∷ 1 ∷ 2 ∷ []) ∷ []) 0 true
    ∷ []

-- one sublattice of three elements, with these interactions
unfoldable pub solution : ℕ → PhaseAt
solution lattice = record {
  name = 83 ∷ [];
  t = 100000;
  lattice = lattice;
  scale = 1;
  ratios = 1 ∷ [];
  sites = (Some 0 ∷ Some 1 ∷ Some 2 ∷ []) ∷ [];
  parameters = solution_parameters;
  magnetic = None;
}

-- the parameters of the cementite (CR, FE)3 C at 1273.15 K
abbrev pub cementite_parameters : List ParamAt
cementite_parameters =
    energy_parameter (negsuc 239364429315) ((0 ∷ []) ∷ (0 ∷ []) ∷ []) 0 false
    ∷ energy_parameter (negsuc 209559442551) ((1 ∷ []) ∷ (0 ∷ []) ∷ []) 0 false
    ∷ energy_parameter (pos 2997875000) ((0 ∷ 1 ∷ []) ∷ (0 ∷ []) ∷ []) 0 false
    ∷ []

-- the cementite, on a lattice of 100
unfoldable pub cementite : PhaseAt
cementite = record {
  name = 83 ∷ [];
  t = 127315;
  lattice = 100;
  scale = 1;
  ratios = 3 ∷ 1 ∷ [];
  sites = (Some 1 ∷ Some 2 ∷ []) ∷ (Some 0 ∷ []) ∷ [];
  parameters = cementite_parameters;
  magnetic = None;
}

-- one sublattice with ideal mixing alone, on a lattice of 10
unfoldable pub ideal : List (Option ℕ) → PhaseAt
ideal row = record {
  name = 83 ∷ [];
  t = 100000;
  lattice = 10;
  scale = 1;
  ratios = 1 ∷ [];
  sites = row ∷ [];
  parameters = [];
  magnetic = None;
}

-- a parameter of one sublattice
abbrev pub parameter_of : Kind → ℤ → List ℕ → ParamAt
parameter_of kind micro places = record { kind = kind; micro = micro; array = places ∷ []; order = 0; weighted = false }

-- energies, Curie temperatures of either sign, and a moment
abbrev pub magnetic_parameters : List ParamAt
magnetic_parameters =
    parameter_of G (negsuc 19999999999) (0 ∷ [])
    ∷ parameter_of G (pos 15000000000) (0 ∷ 1 ∷ [])
    ∷ parameter_of Tc (negsuc 311499999) (0 ∷ [])
    ∷ parameter_of Tc (pos 1043000000) (1 ∷ [])
    ∷ parameter_of Beta (pos 2220000) (1 ∷ [])
    ∷ []

-- two elements on one sublattice at 800 K, with magnetism
unfoldable pub magnetic_solution : PhaseAt
magnetic_solution = record {
  name = 83 ∷ [];
  t = 80000;
  lattice = 10;
  scale = 1;
  ratios = 1 ∷ [];
  sites = (Some 0 ∷ Some 1 ∷ []) ∷ [];
  parameters = magnetic_parameters;
  magnetic = Some (record { factor = 1; p4 = 4000 });
}

-- the same potential of two elements, whichever within 2^60, is a plane for the phase
abbrev pub HasPlanes : PhaseAt → Type 0
HasPlanes phase = (m : ℤ) → unsigned_abs m ≤ 2 ^ 60 → IsPlane (2 ^ 116) phase (m ∷ m ∷ [])
