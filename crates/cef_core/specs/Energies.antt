-- The energy of a constitution, in µJ per mol of formula units.
use Rattle.std.specs.Prelude.{ℕ, List, filter, Bool, true, false, Option, Some, None, ℤ, pos, ◌+ℤ◌}
use Rattle.cal_math.specs.Sums.{sum_of}
use Rattle.cef_kind.specs.declared.kind.Kind.{Kind}
use Rattle.cef_kind.specs.declared.kind.Kind.TheVariants.{G, Tc, Beta, Unread, Other}
use Rattle.cef_core.specs.declared.phase.MagneticAt.{MagneticAt}
use Rattle.cef_core.specs.declared.phase.PhaseAt.{PhaseAt}
use Rattle.cef_core.specs.Parameters.{parameter_value}
use Rattle.cef_core.specs.Mixing.{mixing_over}
use Rattle.cef_core.specs.Magnetism.{magnetic_at}

abbrev pub is_energy : Kind → Bool
is_energy G = true
is_energy Tc = false
is_energy Beta = false
is_energy Unread = false
is_energy Other = false

abbrev pub is_curie : Kind → Bool
is_curie G = false
is_curie Tc = true
is_curie Beta = false
is_curie Unread = false
is_curie Other = false

abbrev pub is_moment : Kind → Bool
is_moment G = false
is_moment Tc = false
is_moment Beta = true
is_moment Unread = false
is_moment Other = false

-- the sum of the values of the parameters of one kind
abbrev pub sum_of_kind : (Kind → Bool) → PhaseAt → List (List ℕ) → ℤ
sum_of_kind is_kind phase counts =
    sum_of (λ p. parameter_value phase.lattice p counts) (filter (λ p. is_kind p.kind) phase.parameters)

abbrev pub magnetic_energy : PhaseAt → List (List ℕ) → Option MagneticAt → ℤ
magnetic_energy phase counts None = pos 0
magnetic_energy phase counts (Some m) =
    magnetic_at phase.t phase.scale m.factor m.p4 (sum_of_kind is_curie phase counts) (sum_of_kind is_moment phase counts)

-- G = the sum of the G parameters + ideal mixing over all sites + magnetism
unfoldable pub energy : PhaseAt → List (List ℕ) → ℤ
energy phase counts =
    sum_of_kind is_energy phase counts
    +ℤ (mixing_over phase.t phase.lattice phase.ratios counts
    +ℤ magnetic_energy phase counts phase.magnetic)
