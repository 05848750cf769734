-- Systems of two compounds of A and B, at 1000 K on a lattice of 10.
use Rattle.std.specs.Prelude.{ℕ, List, [], ◌∷◌, Some, None, false, ℤ}
use Rattle.cef_kind.specs.declared.kind.Kind.TheVariants.{G}
use Rattle.cef_core.specs.declared.phase.ParamAt.{ParamAt}
use Rattle.cef_core.specs.declared.phase.PhaseAt.{PhaseAt}
use Rattle.cef_core.specs.declared.system.System.{System}

-- the reference energy of their one constitution
abbrev pub reference_of : ℤ → List ParamAt
reference_of micro = record { kind = G; micro = micro; array = (0 ∷ []) ∷ (0 ∷ []) ∷ []; order = 0; weighted = false } ∷ []

-- one constituent on each of two sublattices of these ratios, and its energy in µJ/mol
abbrev pub compound : List ℕ → ℕ → ℕ → ℕ → ℤ → PhaseAt
compound name scale a b micro = record {
  name = name;
  t = 100000;
  lattice = 10;
  scale = scale;
  ratios = a ∷ b ∷ [];
  sites = (Some 0 ∷ []) ∷ (Some 1 ∷ []) ∷ [];
  parameters = reference_of micro;
  magnetic = None;
}

abbrev pub of_two : PhaseAt → PhaseAt → ℕ → System
of_two first second widest = record {
  t = 100000;
  lattice = 10;
  elements = (65 ∷ []) ∷ (66 ∷ []) ∷ [];
  phases = first ∷ second ∷ [];
  lists = 2;
  widest = widest;
}
