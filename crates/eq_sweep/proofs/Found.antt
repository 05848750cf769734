-- What is found of one box.
use Rattle.std.proofs.Common.{◌≡◌, ℕ, ◌+◌, ◌-◌, ◌/◌, ◌≤◌, ◌<◌, List, [], ◌∷◌, arith, sym, subst, Some}
use Rattle.std.specs.Prelude.{ℤ, pos, ◌-ℤ◌, ◌*ℤ◌, ◌≤ℤ◌, ◌<ℤ◌}
use Rattle.std.proofs.lemmas.Int.{ints}
use Rattle.cef_core.specs.declared.phase.PhaseAt.{PhaseAt}
use Rattle.cef_core.specs.Constitutions.{HasContent, content}
use Rattle.cef_core.specs.Energies.{energy}
use Rattle.cef_core.specs.Worth.{worth}
use Rattle.cef_box.specs.Boxes.{IsSingle}
use Rattle.cef_box.specs.Corners.{corner_site}
use Rattle.cef_phase.specs.Affine.{affine_bound_of, AreChosenAffine}
use Rattle.cef_phase.specs.Bounds.{bound_of}
use Rattle.cef_phase.specs.Choosing.{AreChosen}
use Rattle.eq_sweep.specs.Findings.{IsReady}
use Rattle.eq_sweep.specs.Visits.{IsVoid, IsBelow, IsLow, IsUnclear, IsBelowAtCorner, IsOpen}
use Rattle.eq_sweep.proofs.Ready.{Box, corner_is_member}
use Rattle.eq_sweep.proofs.Walks.{IsLawful}

pub void_from : (phase : PhaseAt) (box : Box) (corner : List (List ℕ)) → corner ≡ corner_site phase.lattice box → IsSingle box → (HasContent phase corner → ⊥) → IsVoid phase box
void_from phase box corner e single without = record { single = single; without = λ held. without (subst (HasContent phase) (sym e) held) }

pub not_void_single : (phase : PhaseAt) (box : Box) → (IsSingle box → ⊥) → IsVoid phase box → ⊥
not_void_single phase box several v = several v.single

pub not_void_content : (phase : PhaseAt) (box : Box) (corner : List (List ℕ)) → corner ≡ corner_site phase.lattice box → HasContent phase corner → IsVoid phase box → ⊥
not_void_content phase box corner e held v = v.without (subst (HasContent phase) e held)

pub ruleset voids = (void_from, not_void_single, not_void_content)

pub below_from : (phase : PhaseAt) (potentials : List ℤ) (counts : List (List ℕ)) (e w : ℤ) → HasContent phase counts → e ≡ energy phase counts → w ≡ worth potentials (content phase counts) → (pos 65536 *ℤ e) <ℤ w → IsBelow phase potentials counts
below_from phase potentials counts e w held energy_is worth_is less = record { content_held = held; below = rw (← energy_is, ← worth_is) less }

pub not_below_content : (phase : PhaseAt) (potentials : List ℤ) (counts : List (List ℕ)) → (HasContent phase counts → ⊥) → IsBelow phase potentials counts → ⊥
not_below_content phase potentials counts without b = without b.content_held

pub not_below_lower : (phase : PhaseAt) (potentials : List ℤ) (counts : List (List ℕ)) (e w : ℤ) → e ≡ energy phase counts → w ≡ worth potentials (content phase counts) → ((pos 65536 *ℤ e) <ℤ w → ⊥) → IsBelow phase potentials counts → ⊥
not_below_lower phase potentials counts e w energy_is worth_is not_less b = not_less (rw (energy_is, worth_is) b.below)

pub ruleset belows = (below_from, not_below_content, not_below_lower)

-- a box whose bound is below 0, and whose affine bound is
pub low_from : (phase : PhaseAt) (potentials : List ℤ) (box : Box) (multipliers : List ℤ) (bound : ℤ) → (IsVoid phase box → ⊥) → AreChosen phase potentials box multipliers → bound ≡ bound_of phase potentials box multipliers → bound <ℤ pos 0 → IsLow phase potentials box
low_from phase potentials box multipliers bound not_void chosen is negative = record { not_void = not_void; multipliers = multipliers; chosen = chosen; bound = subst (λ (b : ℤ). b <ℤ pos 0) is negative }

pub unclear_from : (phase : PhaseAt) (potentials : List ℤ) (box : Box) (multipliers : List ℤ) (bound : ℤ) → IsLow phase potentials box → AreChosenAffine phase potentials box multipliers → bound ≡ affine_bound_of phase potentials box multipliers → bound <ℤ pos 0 → IsUnclear phase potentials box
unclear_from phase potentials box multipliers bound low chosen is negative = record { low = low; multipliers = multipliers; chosen = chosen; bound = subst (λ (b : ℤ). b <ℤ pos 0) is negative }

pub at_corner_from : (phase : PhaseAt) (potentials : List ℤ) (box : Box) (corner : List (List ℕ)) → IsUnclear phase potentials box → corner ≡ corner_site phase.lattice box → IsBelow phase potentials corner → IsBelowAtCorner phase potentials box
at_corner_from phase potentials box corner unclear e b = record { unclear = unclear; corner = subst (IsBelow phase potentials) e b }

pub open_from : (phase : PhaseAt) (potentials : List ℤ) (box : Box) (corner : List (List ℕ)) → IsUnclear phase potentials box → corner ≡ corner_site phase.lattice box → (IsBelow phase potentials corner → ⊥) → IsOpen phase potentials box
open_from phase potentials box corner unclear e not_below = record { unclear = unclear; not_below = λ b. not_below (subst (IsBelow phase potentials) (sym e) b) }

-- an open box is not one list: one with content would be its own corner
pub open_has_several : (phase : PhaseAt) (potentials : List ℤ) (box : Box) → IsLawful phase potentials → IsReady phase box → IsOpen phase potentials box → IsSingle box → ⊥
open_has_several phase potentials box law ready opened single =
    opened.unclear.low.not_void (record { single = single; without = λ held. opened.not_below (record { content_held = held; below = lower }) })
  where
    from_bound : (b e w : ℤ) → b <ℤ pos 0 → b ≡ (e -ℤ w) → e <ℤ w
    from_bound b e w h k = omega (arith, ints, h, k)

    lower : (pos 65536 *ℤ energy phase (corner_site phase.lattice box)) <ℤ worth potentials (content phase (corner_site phase.lattice box))
    lower = from_bound _ _ _ opened.unclear.low.bound (law.exactly box opened.unclear.low.multipliers (corner_site phase.lattice box) ready.fits (corner_is_member phase box ready) single)
