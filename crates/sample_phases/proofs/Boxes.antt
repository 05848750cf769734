-- Boxes of one sublattice, and lists that may be their members.
use Rattle.std.proofs.Common.{◌≡◌, ℕ, List, [], ◌∷◌, arith, length, ap, subst, sym, ◌∙◌}
use Rattle.std.specs.List.{AllByRecursion}
use Rattle.cef_core.specs.declared.phase.PhaseAt.{PhaseAt}
use Rattle.cef_core.specs.Shapes.{shape}
use Rattle.cef_box.specs.declared.range.Range.{Range}
use Rattle.cef_box.specs.Boxes.{IsRange}
use Rattle.cef_box.specs.Flat.{ranges}
use Rattle.cef_box.specs.Terms.{FitsBox, shape_of_phase}
use Rattle.cef_box.proofs.Flats.{length-ranges}

pub box_shape : (low high : List ℕ) (box : List (List Range)) → box ≡ ranges low high ∷ [] → length low ≡ 3 → length high ≡ 3 → shape box ≡ 3 ∷ []
box_shape low high box e l h =
    let size : length (ranges low high) ≡ 3 = length-ranges low high (omega arith) ∙ l in
    rw e (ap (λ (k : ℕ). k ∷ []) size)

pub box_fits : (phase : PhaseAt) (low high : List ℕ) (box : List (List Range)) → phase.lattice ≡ 10 → shape phase.sites ≡ 3 ∷ [] → length low ≡ 3 → length high ≡ 3 → AllByRecursion (IsRange 10) (ranges low high) → box ≡ ranges low high ∷ [] → FitsBox (shape_of_phase phase) box
box_fits phase low high box lattice sites l h all e = record {
  widths = box_shape low high box e l h ∙ sym sites;
  ranges = rw e (subst (λ (n : ℕ). AllByRecursion (IsRange n) (ranges low high)) (sym lattice) all, tt);
}

pub box_there : (a b : PhaseAt) (box : List (List Range)) → a ≡ b → FitsBox (shape_of_phase b) box → FitsBox (shape_of_phase a) box
box_there a b box e h = rw e h

pub site_alike : (a b c : ℕ) (site : List (List ℕ)) (range : List (List Range)) → site ≡ (a ∷ b ∷ c ∷ []) ∷ [] → shape range ≡ 3 ∷ [] → shape site ≡ shape range
site_alike a b c site range e s = rw e (sym s)

pub ruleset boxes = (box_shape, box_fits, box_there, site_alike)
