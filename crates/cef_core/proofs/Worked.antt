-- The definitions at worked examples, by computing.
use Rattle.std.proofs.Common.{◌≡◌, ℕ, List, [], ◌∷◌, Some, None, refl, true, false, map}
use Rattle.std.specs.Prelude.{ℤ, pos, negsuc}
use Rattle.cal_math.specs.Logarithm.{log_of, log_step, log_summand, log_between}
use Rattle.cef_kind.specs.declared.kind.Kind.{Kind}
use Rattle.cef_kind.specs.declared.kind.Kind.TheVariants.{G, Tc, Beta}
use Rattle.cef_core.specs.declared.phase.ParamAt.{ParamAt}
use Rattle.cef_core.specs.declared.phase.PhaseAt.{PhaseAt}
use Rattle.cef_core.specs.Constitutions.{content}
use Rattle.cef_core.specs.Parameters.{parameter_value}
use Rattle.cef_core.specs.Mixing.{mixing_at}
use Rattle.cef_core.specs.Magnetism.{g_at, moment_of, magnetic_at}
use Rattle.cef_core.specs.Energies.{energy}

-- a binary interaction of order 1 changes its sign with the order of its constituents
first_order : parameter_value 100 (record { kind = G; micro = pos 1000000000; array = (0 ∷ 1 ∷ []) ∷ []; order = 1; weighted = false }) ((30 ∷ 70 ∷ []) ∷ []) ≡ negsuc 83999999
unfolding parameter_value
first_order = refl

first_order_turned : parameter_value 100 (record { kind = G; micro = pos 1000000000; array = (1 ∷ 0 ∷ []) ∷ []; order = 1; weighted = false }) ((30 ∷ 70 ∷ []) ∷ []) ≡ pos 84000000
unfolding parameter_value
first_order_turned = refl

first_order_of_ten : parameter_value 10 (record { kind = G; micro = pos 1000000000; array = (0 ∷ 1 ∷ []) ∷ []; order = 1; weighted = false }) ((3 ∷ 7 ∷ []) ∷ []) ≡ negsuc 83999999
unfolding parameter_value
first_order_of_ten = refl

-- a ternary interaction alone, and weighted
ternary : parameter_value 100 (record { kind = G; micro = pos 1000000000; array = (0 ∷ 1 ∷ 2 ∷ []) ∷ []; order = 0; weighted = false }) ((20 ∷ 30 ∷ 50 ∷ []) ∷ []) ≡ pos 30000000
unfolding parameter_value
ternary = refl

ternary_weighted : parameter_value 100 (record { kind = G; micro = pos 1000000000; array = (0 ∷ 1 ∷ 2 ∷ []) ∷ []; order = 0; weighted = true }) ((20 ∷ 30 ∷ 50 ∷ []) ∷ []) ≡ pos 6000000
unfolding parameter_value
ternary_weighted = refl

-- magnetism at and below the Curie temperature, and a sum below 0
g_at_curie : g_at 100000 1000000000 4000 ≡ negsuc 66638182
unfolding g_at
g_at_curie = refl

g_below_curie : g_at 100000 2000000000 4000 ≡ negsuc 829738135
unfolding g_at
g_below_curie = refl

g_above_curie : g_at 127315 1043000000 4000 ≡ negsuc 23785014
unfolding g_at
g_above_curie = refl

g_far_below : g_at 100 10000000000 10000 ≡ negsuc 12254239945639
unfolding g_at
g_far_below = refl

curie_of_factor_three : moment_of 3 (negsuc 200999999) ≡ 67000000
curie_of_factor_three = refl

curie_of_factor_one : moment_of 1 (negsuc 200999999) ≡ 201000000
curie_of_factor_one = refl

-- the logarithm of 2 and of 3
log_two : log_of 2 ≡ 693147180559937
unfolding log_of log_step log_summand
log_two = refl

log_three : log_of 3 ≡ 1098612288668098
unfolding log_of log_step log_summand
log_three = refl

-- two lists of two: 10^9 * 30 * 70 * 20 * 80 / 100^4
reciprocal : parameter_value 100 (record { kind = G; micro = pos 1000000000; array = (0 ∷ 1 ∷ []) ∷ (0 ∷ 1 ∷ []) ∷ []; order = 0; weighted = false }) ((30 ∷ 70 ∷ []) ∷ (20 ∷ 80 ∷ []) ∷ []) ≡ pos 33600000
unfolding parameter_value
reciprocal = refl

-- mixing of 0 to 10 of 10 parts at 1000 K
mixing_of_ten : map (λ k. mixing_at 100000 10 1 k) (0 ∷ 1 ∷ 2 ∷ 3 ∷ 4 ∷ 5 ∷ 6 ∷ 7 ∷ 8 ∷ 9 ∷ 10 ∷ [])
    ≡ pos 0 ∷ negsuc 1914486677 ∷ negsuc 2676337522 ∷ negsuc 3003133175 ∷ negsuc 3047403380 ∷ negsuc 2881589581 ∷ negsuc 2548358853 ∷ negsuc 2075904170 ∷ negsuc 1484263430 ∷ negsuc 788418953 ∷ pos 0 ∷ []
unfolding mixing_at log_of log_step log_summand
mixing_of_ten = refl

-- iron with chromium and carbon, body centred: (CR, FE) (C, VA)3 at 1273.15 K on a lattice of 100
parameter : Kind → ℤ → List (List ℕ) → ℕ → ParamAt
parameter kind micro array order = record { kind = kind; micro = micro; array = array; order = order; weighted = false }

body_centred : PhaseAt
body_centred = record {
  name = 66 ∷ 67 ∷ 67 ∷ [];
  t = 127315;
  lattice = 100;
  scale = 1;
  ratios = 1 ∷ 3 ∷ [];
  sites = (Some 1 ∷ Some 2 ∷ []) ∷ (Some 0 ∷ None ∷ []) ∷ [];
  parameters =
      parameter G (negsuc 53148210482) ((0 ∷ []) ∷ (1 ∷ []) ∷ []) 0
      ∷ parameter G (negsuc 61950661451) ((1 ∷ []) ∷ (1 ∷ []) ∷ []) 0
      ∷ parameter G (pos 302570503070) ((0 ∷ []) ∷ (0 ∷ []) ∷ []) 0
      ∷ parameter G (pos 296153493150) ((1 ∷ []) ∷ (0 ∷ []) ∷ []) 0
      ∷ parameter G (pos 8175908000) ((0 ∷ 1 ∷ []) ∷ (1 ∷ []) ∷ []) 0
      ∷ parameter Tc (negsuc 311499999) ((0 ∷ []) ∷ (1 ∷ []) ∷ []) 0
      ∷ parameter Tc (pos 1043000000) ((1 ∷ []) ∷ (1 ∷ []) ∷ []) 0
      ∷ parameter Tc (pos 1650000000) ((0 ∷ 1 ∷ []) ∷ (1 ∷ []) ∷ []) 0
      ∷ parameter Tc (pos 550000000) ((0 ∷ 1 ∷ []) ∷ (1 ∷ []) ∷ []) 1
      ∷ parameter Beta (negsuc 9999) ((0 ∷ []) ∷ (1 ∷ []) ∷ []) 0
      ∷ parameter Beta (pos 2220000) ((1 ∷ []) ∷ (1 ∷ []) ∷ []) 0
      ∷ parameter Beta (negsuc 849999) ((0 ∷ 1 ∷ []) ∷ (1 ∷ []) ∷ []) 0
      ∷ [];
  magnetic = Some (record { factor = 1; p4 = 4000 });
}

body_centred_content : map (λ c. content body_centred ((20 ∷ 80 ∷ []) ∷ (1 ∷ 99 ∷ []) ∷ []) c) (0 ∷ 1 ∷ 2 ∷ []) ≡ pos 3 ∷ pos 20 ∷ pos 80 ∷ []
unfolding content body_centred
body_centred_content = refl

body_centred_energy : energy body_centred ((20 ∷ 80 ∷ []) ∷ (1 ∷ 99 ∷ []) ∷ []) ≡ negsuc 62565819187
unfolding energy body_centred parameter parameter_value mixing_at magnetic_at g_at log_of log_step log_summand log_between
body_centred_energy = refl
