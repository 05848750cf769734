-- Systems of two compounds keep what every system keeps.
use Rattle.std.proofs.Common.{◌≡◌, ℕ, zero, suc, ◌+◌, ◌*◌, ◌^◌, ◌<◌, ◌≤◌, List, [], ◌∷◌, Some, None, length, map, refl, arith, sym}
use Rattle.std.specs.Prelude.{ℤ, pos, negsuc, ◌≤ℤ◌, All, sum, true, false}
use Rattle.std.specs.List.{AllByRecursion, IsDistinct}
use Rattle.std.proofs.lemmas.Int.{ints}
use Rattle.cal_scan.specs.Names.{AreNames}
use Rattle.cal_scan.specs.Words.{is_name}
use Rattle.cef_core.specs.declared.phase.PhaseAt.{PhaseAt}
use Rattle.cef_core.specs.declared.system.System.{System}
use Rattle.cef_core.specs.Phases.{IsFine, IsPhase, IsParameter, sigma}
use Rattle.cef_core.specs.Points.{number_of}
use Rattle.cef_core.specs.Systems.{IsPhaseOf, IsSystem, widest_of, dearest_of}
use Rattle.cef_report.specs.Feasibility.{AreAsked}
use Rattle.solving_tests.specs.Compounds.{compound, of_two}

-- numbers of a compound within the limits
pub record AreSmall (name : List ℕ) (scale a b : ℕ) (micro : ℤ) : Type 0 where
  pub decimals : (d : ℕ) × (d ≤ 5) × (scale ≡ 10 ^ d)
  pub first : 1 ≤ a
  pub second : 1 ≤ b
  pub ratios : sum (a ∷ b ∷ []) ≤ 100000
  pub energies : sigma (compound name scale a b micro) ≤ 2 ^ 55

fine : (name : List ℕ) (scale a b : ℕ) (micro : ℤ) → AreSmall name scale a b micro → IsFine (compound name scale a b micro)
fine name scale a b micro small = record {
  keeps = record {
    coldest = omega arith;
    hottest = omega arith;
    lattice = refl;
    scale = small.decimals;
    sublattices_low = omega arith;
    sublattices_high = omega arith;
    ratio_each = refl;
    ratios_low = (small.first, (small.second, tt));
    ratios_high = small.ratios;
    site_each = (omega arith, (omega arith, tt));
    components = ((omega arith, tt), ((omega arith, tt), tt));
    parameters = (record { kind = refl; places = ((omega arith, tt), ((omega arith, tt), tt)); distinct = ((tt, tt), ((tt, tt), tt)); order = refl }, tt);
    magnetic = tt;
    energies = small.energies;
    curie = omega arith;
    moments = omega arith;
  };
  sites = omega arith;
  degrees = (omega arith, tt);
}

elements_are : AreNames ((65 ∷ []) ∷ (66 ∷ []) ∷ [])
unfolding IsDistinct is_name
elements_are = record { present = omega arith; fine = (refl, (refl, tt)); distinct = ((refl, tt), (tt, tt)) }

phase_of : (name : List ℕ) (scale a b : ℕ) (micro : ℤ) (system : System) → AreSmall name scale a b micro → system.t ≡ 100000 → system.lattice ≡ 10 → length system.elements ≡ 2 → IsPhaseOf system (compound name scale a b micro)
phase_of name scale a b micro system small t lattice two = record {
  fine = fine name scale a b micro small;
  same_temperature = sym t;
  same_lattice = sym lattice;
  components = ((omega (arith, two), tt), ((omega (arith, two), tt), tt));
  some_component = (0, _, omega arith, refl, (0, _, omega arith, refl, tt));
}

pub record IsPair (first_name : List ℕ) (s a b : ℕ) (g : ℤ) (second_name : List ℕ) (t c d : ℕ) (h : ℤ) (widest : ℕ) : Type 0 where
  pub first : AreSmall first_name s a b g
  pub second : AreSmall second_name t c d h
  pub names : AreNames (first_name ∷ second_name ∷ [])
  pub widest_is : widest ≡ widest_of 10 (compound first_name s a b g ∷ compound second_name t c d h ∷ [])
  pub wide : widest ^ 2 ≤ 2 ^ 62
  pub dear : widest ^ 2 * dearest_of (compound first_name s a b g ∷ compound second_name t c d h ∷ []) ≤ 2 ^ 94

pub system_is : (first_name : List ℕ) (s a b : ℕ) (g : ℤ) (second_name : List ℕ) (t c d : ℕ) (h : ℤ) (widest : ℕ) → IsPair first_name s a b g second_name t c d h widest →
    IsSystem (of_two (compound first_name s a b g) (compound second_name t c d h) widest)
unfolding number_of
system_is first_name s a b g second_name t c d h widest is = record {
  few_elements = omega arith;
  elements = elements_are;
  names = is.names;
  phases = (phase_of first_name s a b g _ is.first refl refl refl, (phase_of second_name t c d h _ is.second refl refl refl, tt));
  lists_are = refl;
  lists_few = omega arith;
  widest_is = is.widest_is;
  wide = is.wide;
  dear = is.dear;
}

-- the phases of a system are fine
are_fine : (system : System) (phases : List PhaseAt) → AllByRecursion (IsPhaseOf system) phases → All IsFine phases
are_fine system [] are k d lt = absurd (omega arith)
are_fine system (phase ∷ phases) are zero d lt = are.0.fine
are_fine system (phase ∷ phases) are (suc k) d lt = are_fine system phases are.1 k d (omega arith)

pub phases_fine : (system : System) → IsSystem system → All IsFine system.phases
phases_fine system is = are_fine system system.phases is.phases

-- ---- the systems of the tests

two_pair : IsPair (65 ∷ 50 ∷ 66 ∷ []) 1 2 1 (negsuc 29999999999) (65 ∷ 66 ∷ 50 ∷ []) 1 1 2 (negsuc 29999999999) 30
unfolding IsDistinct is_name
two_pair = record {
  first = record { decimals = (0, omega arith, refl); first = omega arith; second = omega arith; ratios = omega arith; energies = omega arith };
  second = record { decimals = (0, omega arith, refl); first = omega arith; second = omega arith; ratios = omega arith; energies = omega arith };
  names = record { present = omega arith; fine = (refl, (refl, tt)); distinct = ((refl, tt), (tt, tt)) };
  widest_is = refl;
  wide = omega arith;
  dear = omega arith;
}

unequal_pair : IsPair (76 ∷ 79 ∷ []) 100 75 25 (negsuc 999999999999) (72 ∷ 73 ∷ []) 1 1 3 (negsuc 39999999999) 1000
unfolding IsDistinct is_name
unequal_pair = record {
  first = record { decimals = (2, omega arith, refl); first = omega arith; second = omega arith; ratios = omega arith; energies = omega arith };
  second = record { decimals = (0, omega arith, refl); first = omega arith; second = omega arith; ratios = omega arith; energies = omega arith };
  names = record { present = omega arith; fine = (refl, (refl, tt)); distinct = ((refl, tt), (tt, tt)) };
  widest_is = refl;
  wide = omega arith;
  dear = omega arith;
}

pub two_is : (system : System) (first second : PhaseAt) → first ≡ compound (65 ∷ 50 ∷ 66 ∷ []) 1 2 1 (negsuc 29999999999) → second ≡ compound (65 ∷ 66 ∷ 50 ∷ []) 1 1 2 (negsuc 29999999999) → system ≡ of_two first second 30 → IsSystem system
two_is system first second p q r = rw (r, p, q) (system_is _ _ _ _ _ _ _ _ _ _ _ two_pair)

pub unequal_is : (system : System) (first second : PhaseAt) → first ≡ compound (76 ∷ 79 ∷ []) 100 75 25 (negsuc 999999999999) → second ≡ compound (72 ∷ 73 ∷ []) 1 1 3 (negsuc 39999999999) → system ≡ of_two first second 1000 → IsSystem system
unequal_is system first second p q r = rw (r, p, q) (system_is _ _ _ _ _ _ _ _ _ _ _ unequal_pair)

-- two amounts within the limits, the first above 0
pub asked_is : (system : System) (x y : ℤ) → length system.elements ≡ 2 → pos 1 ≤ℤ x → x ≤ℤ pos (2 ^ 50) → pos 0 ≤ℤ y → y ≤ℤ pos (2 ^ 50) → AreAsked system (x ∷ y ∷ [])
asked_is system x y two first first_most second second_most = record {
  one_each = sym two;
  within = ((omega (arith, ints, first), first_most), ((second, second_most), tt));
  positive = (0, x, omega arith, refl, first);
}
