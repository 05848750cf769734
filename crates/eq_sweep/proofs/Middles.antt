-- The widest range of a box that has several lists of counts.
use Rattle.std.proofs.Common.{◌≡◌, ℕ, ◌+◌, ◌^◌, ◌≤◌, ◌<◌, List, [], ◌∷◌, length, refl, arith, ◌∙◌}
use Rattle.std.specs.Prelude.{sum}
use Rattle.std.proofs.lemmas.List.Sums.{sum_by-cons}
use Rattle.cef_core.specs.declared.phase.PhaseAt.{PhaseAt}
use Rattle.cef_core.specs.Phases.{IsFine}
use Rattle.cef_core.specs.Shapes.{shape, places}
use Rattle.cef_box.specs.declared.range.Range.{Range}
use Rattle.cef_box.specs.Boxes.{IsSingle, lows_of, highs_of}
use Rattle.cef_box.specs.Cuts.{IsWidest}
use Rattle.cef_box.specs.Tight.{HasSite}
use Rattle.cef_box.proofs.Places.{range_at-within}
use Rattle.cef_box.proofs.Singles.{widest_wide}
use Rattle.eq_sweep.specs.Findings.{IsReady}

pub widest_is_wide : (phase : PhaseAt) (box : List (List Range)) (place : ℕ) (range : Range) → IsReady phase box → (IsSingle box → ⊥) → IsWidest box place range → range.low < range.high
widest_is_wide phase box place range ready several widest = widest_wide phase.lattice box place range ready.has_site several widest

pub widest_is_within : (box : List (List Range)) (place : ℕ) (range : Range) → IsWidest box place range → place < places box
widest_is_within box place range widest = range_at-within box place range widest.range_is

-- a box of no place has one list at most
no_place : (box : List (List Range)) → places box ≡ 0 → lows_of box ≡ highs_of box
no_place [] e = refl
no_place ([] ∷ box) e = rw (no_place box (omega (arith, e, sum_by-cons (λ (n : ℕ). n) 0 (shape box)))) refl
no_place ((r ∷ row) ∷ box) e = absurd (omega (arith, e, sum_by-cons (λ (n : ℕ). n) (length (r ∷ row)) (shape box)))

pub some_place : (box : List (List Range)) → (IsSingle box → ⊥) → places box ≡ 0 → ⊥
some_place box several e = several (no_place box e)

-- the places of a phase's boxes are few
pub places_few : (phase : PhaseAt) (box : List (List Range)) → IsFine phase → IsReady phase box → places box < 2 ^ 16
places_few phase box fine ready =
    let same : places box ≡ places phase.sites = rw ready.fits.widths refl in
    omega (arith, same, fine.sites)

pub ruleset middles = (widest_is_wide, widest_is_within, some_place)
