-- What models have of a phase.
use Rattle.std.proofs.Common.{◌≡◌, ℕ, ◌≤◌, ◌<◌, List, arith, length}
use Rattle.cef_core.specs.declared.phase.PhaseAt.{PhaseAt}
use Rattle.cef_core.specs.Constitutions.{HasShape}
use Rattle.cef_core.specs.Phases.{IsFine}
use Rattle.cef_mix.specs.Mixes.{Mixing, mixing_of_phase}
use Rattle.cef_phase.specs.Sizes.{lattice_size}

pub lattice_reached : (phase : PhaseAt) (reach : ℕ) → IsFine phase → reach ≡ 1000 → phase.lattice ≤ reach
lattice_reached phase reach fine e = omega (arith, (lattice_size phase.lattice fine.keeps.lattice).1)

pub ratios_some : (phase : PhaseAt) (mix : Mixing) → IsFine phase → mix ≡ mixing_of_phase phase → 0 < length mix.ratios
ratios_some phase mix fine e = rw e (omega (arith, fine.keeps.ratio_each, fine.keeps.sublattices_low))

pub count_within : (phase : PhaseAt) (mix : Mixing) (k : ℕ) → mix ≡ mixing_of_phase phase → k ≤ phase.lattice → k ≤ mix.lattice
count_within phase mix k e h = rw e h

pub ruleset mixes = (lattice_reached, ratios_some, count_within)

pub shape_there : (a b : PhaseAt) (site : List (List ℕ)) → a ≡ b → HasShape b.lattice b.sites site → HasShape a.lattice a.sites site
shape_there a b site e h = rw e h

pub ruleset shapes = (shape_there)
