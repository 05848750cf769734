-- The phases are fine, and have the planes that they are said to have.
use Rattle.std.proofs.Common.{◌≡◌, ℕ, ◌≤◌, ◌<◌, ◌*◌, ◌^◌, List, [], ◌∷◌, Option, Some, None, Bool, true, false, refl, arith, length, ap, subst, sym}
use Rattle.std.specs.Prelude.{ℤ, pos, unsigned_abs, ◌||◌}
use Rattle.std.specs.List.{AllByRecursion}
use Rattle.cef_kind.specs.declared.kind.Kind.{Kind}
use Rattle.cef_kind.specs.declared.kind.Kind.TheVariants.{G, Tc, Beta}
use Rattle.cef_core.specs.declared.phase.PhaseAt.{PhaseAt}
use Rattle.cef_core.specs.Phases.{IsFine, IsParameter, IsComponent}
use Rattle.cef_core.specs.Energies.{is_energy, is_curie, is_moment}
use Rattle.cef_core.specs.Shapes.{shape}
use Rattle.cef_phase.specs.Bounds.{IsOneOf, IsPlane}
use Rattle.sample_phases.specs.Samples.{energy_parameter, solution, ideal, cementite, parameter_of, magnetic_solution, HasPlanes}

solution_binary : IsParameter (3 ∷ []) (energy_parameter (pos 1000000000) ((0 ∷ 1 ∷ []) ∷ []) 1 false)
solution_binary = record { kind = refl; places = ((omega arith, (omega arith, tt)), tt); distinct = (((λ e. omega arith, tt), (tt, tt)), tt); order = omega arith }

solution_turned : IsParameter (3 ∷ []) (energy_parameter (pos 1000000000) ((1 ∷ 0 ∷ []) ∷ []) 1 false)
solution_turned = record { kind = refl; places = ((omega arith, (omega arith, tt)), tt); distinct = (((λ e. omega arith, tt), (tt, tt)), tt); order = omega arith }

solution_ternary : IsParameter (3 ∷ []) (energy_parameter (pos 1000000000) ((0 ∷ 1 ∷ 2 ∷ []) ∷ []) 0 false)
solution_ternary = record { kind = refl; places = ((omega arith, (omega arith, (omega arith, tt))), tt); distinct = (((λ e. omega arith, (λ e. omega arith, tt)), ((λ e. omega arith, tt), (tt, tt))), tt); order = refl }

solution_weighted : IsParameter (3 ∷ []) (energy_parameter (pos 1000000000) ((0 ∷ 1 ∷ 2 ∷ []) ∷ []) 0 true)
solution_weighted = record { kind = refl; places = ((omega arith, (omega arith, (omega arith, tt))), tt); distinct = (((λ e. omega arith, (λ e. omega arith, tt)), ((λ e. omega arith, tt), (tt, tt))), tt); order = omega arith }

end_member : (micro : ℤ) (first : ℕ) → first < 2 → IsParameter (2 ∷ 1 ∷ []) (energy_parameter micro ((first ∷ []) ∷ (0 ∷ []) ∷ []) 0 false)
end_member micro first h = record { kind = refl; places = ((h, tt), ((omega arith, tt), tt)); distinct = ((tt, tt), ((tt, tt), tt)); order = refl }

mixed : (micro : ℤ) → IsParameter (2 ∷ 1 ∷ []) (energy_parameter micro ((0 ∷ 1 ∷ []) ∷ (0 ∷ []) ∷ []) 0 false)
mixed micro = record { kind = refl; places = ((omega arith, (omega arith, tt)), ((omega arith, tt), tt)); distinct = (((λ e. omega arith, tt), (tt, tt)), ((tt, tt), tt)); order = omega arith }

fine_10 : IsFine (solution 10)
unfolding solution
fine_10 = record {
  keeps = record {
    coldest = omega arith;
    hottest = omega arith;
    lattice = refl;
    scale = (0, omega arith, refl);
    sublattices_low = omega arith;
    sublattices_high = omega arith;
    ratio_each = refl;
    ratios_low = (omega arith, tt);
    ratios_high = omega arith;
    site_each = (omega arith, tt);
    components = ((omega arith, (omega arith, (omega arith, tt))), tt);
    parameters = (solution_binary, (solution_turned, (solution_ternary, (solution_weighted, tt))));
    magnetic = tt;
    energies = omega arith;
    curie = omega arith;
    moments = omega arith;
  };
  sites = omega arith;
  degrees = (omega arith, (omega arith, (omega arith, (omega arith, tt))));
}

fine_100 : IsFine (solution 100)
unfolding solution
fine_100 = record {
  keeps = record {
    coldest = omega arith;
    hottest = omega arith;
    lattice = refl;
    scale = (0, omega arith, refl);
    sublattices_low = omega arith;
    sublattices_high = omega arith;
    ratio_each = refl;
    ratios_low = (omega arith, tt);
    ratios_high = omega arith;
    site_each = (omega arith, tt);
    components = ((omega arith, (omega arith, (omega arith, tt))), tt);
    parameters = (solution_binary, (solution_turned, (solution_ternary, (solution_weighted, tt))));
    magnetic = tt;
    energies = omega arith;
    curie = omega arith;
    moments = omega arith;
  };
  sites = omega arith;
  degrees = (omega arith, (omega arith, (omega arith, (omega arith, tt))));
}

fine_cementite : IsFine cementite
unfolding cementite
fine_cementite = record {
  keeps = record {
    coldest = omega arith;
    hottest = omega arith;
    lattice = refl;
    scale = (0, omega arith, refl);
    sublattices_low = omega arith;
    sublattices_high = omega arith;
    ratio_each = refl;
    ratios_low = (omega arith, (omega arith, tt));
    ratios_high = omega arith;
    site_each = (omega arith, (omega arith, tt));
    components = ((omega arith, (omega arith, tt)), ((omega arith, tt), tt));
    parameters = (end_member _ 0 (omega arith), (end_member _ 1 (omega arith), (mixed _, tt)));
    magnetic = tt;
    energies = omega arith;
    curie = omega arith;
    moments = omega arith;
  };
  sites = omega arith;
  degrees = (omega arith, (omega arith, (omega arith, tt)));
}

ideal_fine_of : (row : List (Option ℕ)) → 1 ≤ length row → length row ≤ 90 → AllByRecursion IsComponent row → IsFine (ideal row)
unfolding ideal
ideal_fine_of row some few components = record {
  keeps = record {
    coldest = omega arith;
    hottest = omega arith;
    lattice = refl;
    scale = (0, omega arith, refl);
    sublattices_low = omega arith;
    sublattices_high = omega arith;
    ratio_each = refl;
    ratios_low = (omega arith, tt);
    ratios_high = omega arith;
    site_each = (some, tt);
    components = (components, tt);
    parameters = tt;
    magnetic = tt;
    energies = omega arith;
    curie = omega arith;
    moments = omega arith;
  };
  sites = omega (arith, few);
  degrees = tt;
}

potential_small : (m : ℤ) → unsigned_abs m ≤ 2 ^ 60 → unsigned_abs m * 10 ≤ 2 ^ 116
potential_small m h = omega (arith, h)

ideal_planes_of : (row : List (Option ℕ)) → AllByRecursion (IsOneOf 2) row → HasPlanes (ideal row)
unfolding ideal
ideal_planes_of row components m h = record { components = (components, tt); small = (potential_small m h, (potential_small m h, tt)) }

of_one : (kind : Kind) (micro : ℤ) (place : ℕ) → (is_energy kind || (is_curie kind || is_moment kind)) ≡ true → place < 2 → IsParameter (2 ∷ []) (parameter_of kind micro (place ∷ []))
of_one kind micro place is h = record { kind = is; places = ((h, tt), tt); distinct = ((tt, tt), tt); order = refl }

of_both : (micro : ℤ) → IsParameter (2 ∷ []) (parameter_of G micro (0 ∷ 1 ∷ []))
of_both micro = record { kind = refl; places = ((omega arith, (omega arith, tt)), tt); distinct = (((λ e. omega arith, tt), (tt, tt)), tt); order = omega arith }

fine_magnetic : IsFine magnetic_solution
unfolding magnetic_solution
fine_magnetic = record {
  keeps = record {
    coldest = omega arith;
    hottest = omega arith;
    lattice = refl;
    scale = (0, omega arith, refl);
    sublattices_low = omega arith;
    sublattices_high = omega arith;
    ratio_each = refl;
    ratios_low = (omega arith, tt);
    ratios_high = omega arith;
    site_each = (omega arith, tt);
    components = ((omega arith, (omega arith, tt)), tt);
    parameters = (of_one G _ 0 refl (omega arith), (of_both _, (of_one Tc _ 0 refl (omega arith), (of_one Tc _ 1 refl (omega arith), (of_one Beta _ 1 refl (omega arith), tt)))));
    magnetic = (omega arith, omega arith, omega arith, omega arith);
    energies = omega arith;
    curie = omega arith;
    moments = omega arith;
  };
  sites = omega arith;
  degrees = (omega arith, (omega arith, (omega arith, (omega arith, (omega arith, tt)))));
}

magnetic_planes_of : HasPlanes magnetic_solution
unfolding magnetic_solution
magnetic_planes_of m h = record { components = ((omega arith, (omega arith, tt)), tt); small = (potential_small m h, (potential_small m h, tt)) }

pub solution_10 : (phase : PhaseAt) → phase ≡ solution 10 → IsFine phase
solution_10 phase e = subst IsFine (sym e) fine_10

pub solution_100 : (phase : PhaseAt) → phase ≡ solution 100 → IsFine phase
solution_100 phase e = subst IsFine (sym e) fine_100

pub solution_lattice : (phase : PhaseAt) → phase ≡ solution 10 → phase.lattice ≡ 10
unfolding solution
solution_lattice phase e = ap (λ (p : PhaseAt). p.lattice) e

pub solution_sites : (phase : PhaseAt) → phase ≡ solution 10 → shape phase.sites ≡ 3 ∷ []
unfolding solution
solution_sites phase e = ap (λ (p : PhaseAt). shape p.sites) e

pub cementite_fine : (phase : PhaseAt) → phase ≡ cementite → IsFine phase
cementite_fine phase e = subst IsFine (sym e) fine_cementite

-- ideal mixing of this row
pub pair_fine : (row : List (Option ℕ)) (phase : PhaseAt) → row ≡ Some 0 ∷ Some 1 ∷ [] → phase ≡ ideal row → IsFine phase
pair_fine row phase r e = rw (e, r) (ideal_fine_of (Some 0 ∷ Some 1 ∷ []) (omega arith) (omega arith) (omega arith, (omega arith, tt)))

pub pair_lattice : (row : List (Option ℕ)) (phase : PhaseAt) → phase ≡ ideal row → phase.lattice ≡ 10
unfolding ideal
pair_lattice row phase e = ap (λ (p : PhaseAt). p.lattice) e

pub pair_sites : (row : List (Option ℕ)) (phase : PhaseAt) → row ≡ Some 0 ∷ Some 1 ∷ [] → phase ≡ ideal row → shape phase.sites ≡ 2 ∷ []
unfolding ideal
pair_sites row phase r e = rw (e, r) refl

pub pair_planes : (row : List (Option ℕ)) (phase : PhaseAt) → row ≡ Some 0 ∷ Some 1 ∷ [] → phase ≡ ideal row → HasPlanes phase
pair_planes row phase r e = rw (e, r) (ideal_planes_of (Some 0 ∷ Some 1 ∷ []) (omega arith, (omega arith, tt)))

pub single_fine : (row : List (Option ℕ)) (phase : PhaseAt) → row ≡ Some 0 ∷ [] → phase ≡ ideal row → IsFine phase
single_fine row phase r e = rw (e, r) (ideal_fine_of (Some 0 ∷ []) (omega arith) (omega arith) (omega arith, tt))

pub single_planes : (row : List (Option ℕ)) (phase : PhaseAt) → row ≡ Some 0 ∷ [] → phase ≡ ideal row → HasPlanes phase
single_planes row phase r e = rw (e, r) (ideal_planes_of (Some 0 ∷ []) (omega arith, tt))

pub vacant_fine : (row : List (Option ℕ)) (phase : PhaseAt) → row ≡ None ∷ [] → phase ≡ ideal row → IsFine phase
vacant_fine row phase r e = rw (e, r) (ideal_fine_of (None ∷ []) (omega arith) (omega arith) (tt, tt))

pub vacant_planes : (row : List (Option ℕ)) (phase : PhaseAt) → row ≡ None ∷ [] → phase ≡ ideal row → HasPlanes phase
vacant_planes row phase r e = rw (e, r) (ideal_planes_of (None ∷ []) (tt, tt))

-- the solution with magnetism
pub magnetic_fine : (phase : PhaseAt) → phase ≡ magnetic_solution → IsFine phase
magnetic_fine phase e = subst IsFine (sym e) fine_magnetic

pub magnetic_lattice : (phase : PhaseAt) → phase ≡ magnetic_solution → phase.lattice ≡ 10
unfolding magnetic_solution
magnetic_lattice phase e = ap (λ (p : PhaseAt). p.lattice) e

pub magnetic_sites : (phase : PhaseAt) → phase ≡ magnetic_solution → shape phase.sites ≡ 2 ∷ []
unfolding magnetic_solution
magnetic_sites phase e = ap (λ (p : PhaseAt). shape p.sites) e

pub magnetic_planes : (phase : PhaseAt) → phase ≡ magnetic_solution → HasPlanes phase
magnetic_planes phase e = subst HasPlanes (sym e) magnetic_planes_of
