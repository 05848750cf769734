-- The phase of the tests.
use Rattle.std.specs.Prelude.{ℕ, zero, suc, List, [], ◌∷◌, Some, false, ℤ, pos, negsuc, unsigned_abs}
use Rattle.cef_kind.specs.declared.kind.Kind.{Kind}
use Rattle.cef_kind.specs.declared.kind.Kind.TheVariants.{Tc, Beta}
use Rattle.cef_core.specs.declared.phase.ParamAt.{ParamAt}
use Rattle.cef_core.specs.declared.phase.PhaseAt.{PhaseAt}
use Rattle.cef_box.specs.Terms.{shape_of_phase}
use Rattle.cef_term.specs.declared.param_term.ParamTerm.{ParamTerm}
use Rattle.cef_mag.specs.Sums.{AreSummands}

abbrev pub parameter : Kind → ℤ → List (List ℕ) → ParamAt
parameter kind micro array = record { kind = kind; micro = micro; array = array; order = 0; weighted = false }

abbrev pub curie_parameter : ParamAt
curie_parameter = parameter Tc (pos 1043000000) ((0 ∷ []) ∷ [])

abbrev pub curie_interaction : ParamAt
curie_interaction = parameter Tc (pos 1650000000) ((0 ∷ 1 ∷ []) ∷ [])

abbrev pub moment_parameter : ParamAt
moment_parameter = parameter Beta (pos 2220000) ((0 ∷ []) ∷ [])

abbrev pub moment_interaction : ParamAt
moment_interaction = parameter Beta (negsuc 849999) ((0 ∷ 1 ∷ []) ∷ [])

-- two elements on one sublattice, with magnetism, at 1000 K on a lattice of 10
unfoldable pub alloy : PhaseAt
alloy = record {
  name = 65 ∷ [];
  t = 100000;
  lattice = 10;
  scale = 1;
  ratios = 1 ∷ [];
  sites = (Some 0 ∷ Some 1 ∷ []) ∷ [];
  parameters = curie_parameter ∷ curie_interaction ∷ moment_parameter ∷ moment_interaction ∷ [];
  magnetic = Some (record { factor = 1; p4 = 4000 });
}

-- the magnitude of the parameter at a place
abbrev pub magnitude_at : List ParamAt → ℕ → ℕ
magnitude_at [] k = 0
magnitude_at (p ∷ ps) zero = unsigned_abs p.micro
magnitude_at (p ∷ ps) (suc k) = magnitude_at ps k

-- terms of a phase, whose parameters have magnitudes up to a limit together
abbrev pub AreSummandsOf : PhaseAt → ℕ → List ParamTerm → Type 0
AreSummandsOf phase limit terms =
    AreSummands {A = ParamTerm} (λ t. shape_of_phase t.phase.now) (λ t. unsigned_abs t.parameter.now.micro) (shape_of_phase phase) limit terms
