-- What every phase of a system keeps, and the size of its energies.
use Rattle.std.specs.Prelude.{◌≡◌, ℕ, ◌+◌, ◌*◌, ◌^◌, ◌<◌, ◌≤◌, List, [], ◌∷◌, Option, Some, None, Bool, true, false, ◌||◌, cond, length, map, sum, unsigned_abs}
use Rattle.std.specs.List.{AllByRecursion}
use Rattle.cal_limits.specs.declared.TheConstants.{LOWEST_TEMPERATURE, HIGHEST_TEMPERATURE, MOST_ELEMENTS, MOST_SUBLATTICES, MOST_SITES, MOST_RATIOS, MOST_RATIO_DECIMALS, MOST_ORDER, MOST_ENERGY, MOST_CURIE, MOST_MOMENT, MOST_POWER}
use Rattle.cef_kind.specs.declared.kind.Kind.{Kind}
use Rattle.cef_kind.specs.declared.kind.Kind.TheVariants.{G, Tc, Beta, Unread, Other}
use Rattle.cef_core.specs.declared.phase.MagneticAt.{MagneticAt}
use Rattle.cef_core.specs.declared.phase.ParamAt.{ParamAt}
use Rattle.cef_core.specs.declared.phase.PhaseAt.{PhaseAt}
use Rattle.cef_core.specs.Shapes.{shape, places}
use Rattle.cef_core.specs.Energies.{is_energy, is_curie, is_moment}
use Rattle.cef_core.specs.Lattices.{is_lattice}
use Rattle.cef_core.specs.Parameters.{interacting}

-- a list of places for each sublattice, all of sites that are there
abbrev pub ArePlaces : List ℕ → List (List ℕ) → Type 0
ArePlaces [] [] = Unit {0}
ArePlaces (width ∷ widths) (places ∷ array) = AllByRecursion (λ p. p < width) places × ArePlaces widths array
ArePlaces [] (places ∷ array) = ⊥
ArePlaces (width ∷ widths) [] = ⊥

-- no place stands twice in the list
abbrev pub AreDistinct : List ℕ → Type 0
AreDistinct [] = Unit {0}
AreDistinct (p ∷ places) = AllByRecursion (λ q. p ≡ q → ⊥) places × AreDistinct places

-- The order that a parameter may have, by its lists of two or more constituents: a binary interaction any digit, a
-- ternary one 0 to 2, and 0 alone where composition does not weight it, all others 0.
abbrev pub IsOrder : ℕ → Bool → List (List ℕ) → Type 0
IsOrder v weighted [] = v ≡ 0
IsOrder v weighted ((i ∷ j ∷ []) ∷ []) = v ≤ MOST_ORDER
IsOrder v true ((i ∷ j ∷ k ∷ []) ∷ []) = v ≤ 2
IsOrder v false ((i ∷ j ∷ k ∷ []) ∷ []) = v ≡ 0
IsOrder v weighted ((i ∷ j ∷ []) ∷ (k ∷ l ∷ []) ∷ []) = v ≡ 0
IsOrder v weighted lists = ⊥

-- a parameter of a phase whose sublattices have so many sites each
pub record IsParameter (widths : List ℕ) (p : ParamAt) : Type 0 where
  pub kind : (is_energy p.kind || (is_curie p.kind || is_moment p.kind)) ≡ true
  pub places : ArePlaces widths p.array
  pub distinct : AllByRecursion AreDistinct p.array
  pub order : IsOrder p.order p.weighted (interacting p.array)

-- the powers of N behind those of the counts: the order of a binary interaction, 1 for a weighted ternary one
abbrev pub factor_degree : ℕ → Bool → List (List ℕ) → ℕ
factor_degree v weighted ((i ∷ j ∷ []) ∷ []) = v
factor_degree v true ((i ∷ j ∷ k ∷ []) ∷ []) = 1
factor_degree v weighted lists = 0

-- the exponent of N in the divisor of a parameter's value
abbrev pub degree : ParamAt → ℕ
degree p = sum (map length p.array) + factor_degree p.order p.weighted (interacting p.array)

-- the sum of the magnitudes of the parameters of one kind
abbrev pub magnitudes : (Kind → Bool) → List ParamAt → ℕ
magnitudes is_kind [] = 0
magnitudes is_kind (p ∷ parameters) = cond (is_kind p.kind) (unsigned_abs p.micro) 0 + magnitudes is_kind parameters

-- which parameters are of a kind that adds to something
abbrev pub of_kind : Kind → Kind → Bool
of_kind G = is_energy
of_kind Tc = is_curie
of_kind Beta = is_moment
of_kind Unread = λ kind. false
of_kind Other = λ kind. false

abbrev pub magnetic_size : ℕ → ℕ → Option MagneticAt → ℕ
magnetic_size t scale None = 0
magnetic_size t scale (Some m) = 1000000 * scale * (t + 1000000)

-- The size of a phase's energies, in µJ/mol: the magnitudes of its G parameters, 600000*t times the sum of its ratios for
-- ideal mixing, and 10^6 * scale * (t + 10^6) for magnetism. No energy of the phase has a greater magnitude.
abbrev pub sigma : PhaseAt → ℕ
sigma phase =
    magnitudes is_energy phase.parameters
    + (600000 * phase.t * sum phase.ratios
    + magnetic_size phase.t phase.scale phase.magnetic)

abbrev pub IsMagnetic : Option MagneticAt → Type 0
IsMagnetic None = Unit {0}
IsMagnetic (Some m) = (1 ≤ m.factor) × (m.factor ≤ 9) × (1000 ≤ m.p4) × (m.p4 ≤ 10000)

abbrev pub IsComponent : Option ℕ → Type 0
IsComponent None = Unit {0}
IsComponent (Some c) = c < MOST_ELEMENTS

-- what a phase keeps
pub record IsPhase (phase : PhaseAt) : Type 0 where
  pub coldest : LOWEST_TEMPERATURE ≤ phase.t
  pub hottest : phase.t ≤ HIGHEST_TEMPERATURE
  pub lattice : is_lattice phase.lattice ≡ true
  pub scale : (d : ℕ) × (d ≤ MOST_RATIO_DECIMALS) × (phase.scale ≡ 10 ^ d)
  pub sublattices_low : 1 ≤ length phase.sites
  pub sublattices_high : length phase.sites ≤ MOST_SUBLATTICES
  pub ratio_each : length phase.ratios ≡ length phase.sites
  pub ratios_low : AllByRecursion (λ a. 1 ≤ a) phase.ratios
  pub ratios_high : sum phase.ratios ≤ MOST_RATIOS
  pub site_each : AllByRecursion (λ sites. 1 ≤ length sites) phase.sites
  pub components : AllByRecursion (AllByRecursion IsComponent) phase.sites
  pub parameters : AllByRecursion (IsParameter (shape phase.sites)) phase.parameters
  pub magnetic : IsMagnetic phase.magnetic
  pub energies : sigma phase ≤ MOST_ENERGY
  pub curie : magnitudes is_curie phase.parameters ≤ MOST_CURIE
  pub moments : magnitudes is_moment phase.parameters ≤ MOST_MOMENT

-- a phase that has not too many sites, and no parameter of too high a degree for its lattice
pub record IsFine (phase : PhaseAt) : Type 0 where
  pub keeps : IsPhase phase
  pub sites : places phase.sites ≤ MOST_SITES
  pub degrees : AllByRecursion (λ p. phase.lattice ^ degree p ≤ MOST_POWER) phase.parameters
