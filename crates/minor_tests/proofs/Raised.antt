-- Boxes, lists and slopes of three sites.
use Rattle.std.proofs.Common.{◌≡◌, ℕ, zero, suc, ◌+◌, ◌^◌, ◌≤◌, ◌<◌, List, [], ◌∷◌, arith, length, ap, sym, ◌∙◌}
use Rattle.std.specs.Prelude.{ℤ, pos, slice_index_or, sum, unsigned_abs}
use Rattle.cef_core.specs.declared.phase.PhaseAt.{PhaseAt}
use Rattle.cef_core.specs.Shapes.{shape, places}
use Rattle.cef_box.specs.declared.range.Range.{Range}
use Rattle.cef_box.specs.Flat.{ranges}
use Rattle.cef_box.proofs.Flats.{length-ranges}
use Rattle.cef_box.specs.Terms.{FitsSite, shape_of_phase}
use Rattle.cef_minor.specs.Raised.{AreWithin}

pub three_within : (most : ℕ) (a b c : ℤ) → unsigned_abs a ≤ most → unsigned_abs b ≤ most → unsigned_abs c ≤ most → AreWithin most (a ∷ b ∷ c ∷ [])
three_within most a b c h k l = record { each = each }
  where
    each : (site : ℕ) → unsigned_abs (slice_index_or (a ∷ b ∷ c ∷ []) site (pos 0)) ≤ most
    each zero = h
    each (suc zero) = k
    each (suc (suc zero)) = l
    each (suc (suc (suc site))) = omega arith

pub three_places : (phase : PhaseAt) → shape phase.sites ≡ 3 ∷ [] → 3 ≡ places phase.sites
three_places phase e = rw e (omega arith)

pub box_shape : (low high : List ℕ) (box : List (List Range)) → box ≡ ranges low high ∷ [] → length low ≡ 3 → length high ≡ 3 → shape box ≡ 3 ∷ []
box_shape low high box e l h =
    let size : length (ranges low high) ≡ 3 = length-ranges low high (omega arith) ∙ l in
    rw e (ap (λ (k : ℕ). k ∷ []) size)

pub site_alike : (a b c : ℕ) (site : List (List ℕ)) (range : List (List Range)) → site ≡ (a ∷ b ∷ c ∷ []) ∷ [] → shape range ≡ 3 ∷ [] → shape site ≡ shape range
site_alike a b c site range e s = rw e (sym s)

pub site_fits : (phase : PhaseAt) (a b c : ℕ) (site : List (List ℕ)) → site ≡ (a ∷ b ∷ c ∷ []) ∷ [] → phase.lattice ≡ 10 → shape phase.sites ≡ 3 ∷ [] → a ≤ 10 → b ≤ 10 → c ≤ 10 → FitsSite (shape_of_phase phase) site
site_fits phase a b c site e n s p q r = rw e (record { widths = sym s; counts = rw n ((p, (q, (r, tt))), tt) })

pub ruleset slopes = (three_within, three_places, box_shape, site_alike, site_fits)
