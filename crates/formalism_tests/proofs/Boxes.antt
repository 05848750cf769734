-- Boxes of the phases, and planes under them.
use Rattle.std.proofs.Common.{◌≡◌, ℕ, ◌≤◌, ◌<◌, List, [], ◌∷◌, Option, Some, arith, length, ap, subst, sym, ◌∙◌}
use Rattle.std.specs.Prelude.{◌*◌, ◌^◌, ℤ, negsuc, unsigned_abs, sum}
use Rattle.std.specs.List.{AllByRecursion}
use Rattle.std.proofs.lemmas.Int.{ints}
use Rattle.std.proofs.lemmas.List.{length-map}
use Rattle.cef_core.specs.declared.phase.PhaseAt.{PhaseAt}
use Rattle.cef_core.specs.Shapes.{shape}
use Rattle.cef_box.specs.declared.range.Range.{Range}
use Rattle.cef_box.specs.Boxes.{IsRange}
use Rattle.cef_box.specs.Cuts.{IsCuttable, range_at}
use Rattle.cef_box.specs.Flat.{ranges}
use Rattle.cef_box.specs.Terms.{FitsBox, shape_of_phase}
use Rattle.cef_box.proofs.Flats.{length-ranges}
use Rattle.cef_phase.specs.Bounds.{IsPlane}
use Rattle.sample_phases.specs.Samples.{HasPlanes}
use Rattle.sample_phases.proofs.Boxes.{box_there}

pub corner_shape : (a b : ℕ) (phase : PhaseAt) (site : List (List ℕ)) (box : List (List Range)) → site ≡ (a ∷ b ∷ []) ∷ [] → FitsBox (shape_of_phase phase) box → shape phase.sites ≡ 2 ∷ [] → shape site ≡ shape box
corner_shape a b phase site box e fits s = rw e (sym (fits.widths ∙ s))

pub cuttable : (box : List (List Range)) (place cut : ℕ) (r : Range) → range_at box place ≡ Some r → r.low ≤ cut → cut < r.high → IsCuttable box place cut
cuttable box place cut r e low high = record { range = r; range_is = e; low = low; high = high }

pub part_shape : (phase : PhaseAt) (box part : List (List Range)) → shape part ≡ shape box → FitsBox (shape_of_phase phase) box → shape part ≡ shape phase.sites
part_shape phase box part e fits = e ∙ fits.widths

pub ruleset cuts = (corner_shape, cuttable, part_shape)

-- what a model has of its phase
pub plane_there : (limit : ℕ) (a b : PhaseAt) (potentials : List ℤ) → a ≡ b → IsPlane limit b potentials → IsPlane limit a potentials
plane_there limit a b potentials e h = rw e h

pub one_place : (a b : PhaseAt) (width n : ℕ) → a ≡ b → shape b.sites ≡ width ∷ [] → n ≡ 1 → n ≡ length a.sites
one_place a b width n e h one = omega (arith, one, ap (λ (p : PhaseAt). length p.sites) e, length-map b.sites (λ (row : List (Option ℕ)). length row), ap length h)

-- potentials within a limit are within a wider one
potentials_wider : (n : ℕ) (potentials : List ℤ) → AllByRecursion (λ m. unsigned_abs m * n ≤ 2 ^ 116) potentials →
    AllByRecursion (λ m. unsigned_abs m * n ≤ 2 ^ 117) potentials
potentials_wider n [] h = tt
potentials_wider n (m ∷ potentials) h = (omega (arith, h.0), potentials_wider n potentials h.1)

pub plane_wider : (phase : PhaseAt) (potentials : List ℤ) → IsPlane (2 ^ 116) phase potentials → IsPlane (2 ^ 117) phase potentials
plane_wider phase potentials h =
    record { components = h.components; small = potentials_wider (phase.lattice * sum phase.ratios) potentials h.small }

pub ruleset planes = (plane_there, plane_wider, one_place, box_there)

-- a box of two sites
pub two_fit : (phase : PhaseAt) (low high : List ℕ) (box : List (List Range)) → phase.lattice ≡ 10 → shape phase.sites ≡ 2 ∷ [] → length low ≡ 2 → length high ≡ 2 → AllByRecursion (IsRange 10) (ranges low high) → box ≡ ranges low high ∷ [] → FitsBox (shape_of_phase phase) box
two_fit phase low high box lattice sites l h all e =
    let size : length (ranges low high) ≡ 2 = length-ranges low high (omega arith) ∙ l in
    record {
      widths = rw e (ap (λ (k : ℕ). k ∷ []) size) ∙ sym sites;
      ranges = rw e (subst (λ (n : ℕ). AllByRecursion (IsRange n) (ranges low high)) (sym lattice) all, tt);
    }

-- the planes of two equal potentials
pub equal_plane : (phase : PhaseAt) → HasPlanes phase → IsPlane (2 ^ 116) phase (negsuc 39999999999999 ∷ negsuc 39999999999999 ∷ [])
equal_plane phase planes = planes (negsuc 39999999999999) (omega (arith, ints))

pub ruleset two_sites = (two_fit, equal_plane)
