-- Solutions of three elements with one interaction, once above and once below 0.
use Rattle.std.specs.Prelude.{ℕ, List, [], ◌∷◌, Some, None, Bool, ℤ, pos, negsuc}
use Rattle.cef_kind.specs.declared.kind.Kind.TheVariants.{G}
use Rattle.cef_core.specs.declared.phase.ParamAt.{ParamAt}
use Rattle.cef_core.specs.declared.phase.PhaseAt.{PhaseAt}

abbrev pub energy_parameter : ℤ → List ℕ → ℕ → Bool → ParamAt
energy_parameter micro places order weighted = record { kind = G; micro = micro; array = places ∷ []; order = order; weighted = weighted }

-- 10^9 µJ and -10^9 µJ
abbrev pub both_signs : List ℕ → ℕ → Bool → List ParamAt
both_signs places order weighted =
    energy_parameter (pos 1000000000) places order weighted
    ∷ energy_parameter (negsuc 999999999) places order weighted
    ∷ []

unfoldable pub solution : List ℕ → ℕ → Bool → PhaseAt
solution places order weighted = record {
  name = 83 ∷ [];
  t = 100000;
  lattice = 10;
  scale = 1;
  ratios = 1 ∷ [];
  sites = (Some 0 ∷ Some 1 ∷ Some 2 ∷ []) ∷ [];
  parameters = both_signs places order weighted;
  magnetic = None;
}
