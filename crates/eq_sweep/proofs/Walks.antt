-- What follows from a visit: its nodes are a tree that covers the box, and it makes fewer splits than the box has lists.
use Rattle.std.proofs.Common.{◌≡◌, ℕ, ◌+◌, ◌^◌, ◌≤◌, ◌<◌, List, [], ◌∷◌, arith, subst, inl, inr}
use Rattle.std.specs.Prelude.{◌⊎◌, ℤ, pos, ◌-ℤ◌, ◌*ℤ◌, ◌≤ℤ◌, ◌<ℤ◌}
use Rattle.std.proofs.lemmas.Int.{ints}
use Rattle.cef_core.specs.declared.phase.PhaseAt.{PhaseAt}
use Rattle.cef_tree.specs.declared.tree.Node.{Node}
use Rattle.cef_tree.specs.declared.tree.Node.TheVariants.{Split, Leaf, Affine, Empty}
use Rattle.cef_core.specs.Constitutions.{HasContent, IsConstitution, content}
use Rattle.cef_core.specs.Energies.{energy}
use Rattle.cef_core.specs.Phases.{IsFine}
use Rattle.cef_core.specs.Worth.{worth}
use Rattle.cef_box.specs.Boxes.{IsMember, IsSingle}
use Rattle.cef_box.specs.Corners.{corner_site}
use Rattle.cef_box.specs.Cuts.{IsCut}
use Rattle.cef_box.specs.Terms.{FitsBox, shape_of_phase}
use Rattle.cef_phase.specs.Affine.{affine_bound_of}
use Rattle.cef_phase.specs.Bounds.{bound_of, IsPlane}
use Rattle.eq_sweep.specs.Findings.{IsReady}
use Rattle.eq_sweep.specs.Trees.{Covers, void_covers, leaf_covers, affine_covers, split_covers}
use Rattle.eq_sweep.specs.Visits.{IsVoid, IsBelow, IsOpen, IsHalved, Visits, void, leaf, affine, split, End, below, out, Stops, at_corner, at_budget, in_left, in_right}
use Rattle.eq_sweep.proofs.Members.{lists_in, some_list, lists_parts}
use Rattle.cef_box.proofs.Singles.{single_corner}
use Rattle.eq_sweep.proofs.Chosen.{chosen_are_sized, chosen_affine_are_sized}
use Rattle.eq_sweep.proofs.Ready.{Box, parts_are, ready_left, ready_right, corner_is_member}

-- the laws of bounds, for a phase and potentials
pub record IsLawful (phase : PhaseAt) (potentials : List ℤ) : Type 0 where
  pub below : (box : Box) (multipliers : List ℤ) (counts : List (List ℕ)) → FitsBox (shape_of_phase phase) box → IsMember phase.lattice box counts →
      bound_of phase potentials box multipliers ≤ℤ (pos 65536 *ℤ energy phase counts -ℤ worth potentials (content phase counts))
  pub exactly : (box : Box) (multipliers : List ℤ) (counts : List (List ℕ)) → FitsBox (shape_of_phase phase) box → IsMember phase.lattice box counts → IsSingle box →
      bound_of phase potentials box multipliers ≡ pos 65536 *ℤ energy phase counts -ℤ worth potentials (content phase counts)
  pub affine_below : (box : Box) (multipliers : List ℤ) (counts : List (List ℕ)) → FitsBox (shape_of_phase phase) box → IsMember phase.lattice box counts →
      affine_bound_of phase potentials box multipliers ≤ℤ (pos 65536 *ℤ energy phase counts -ℤ worth potentials (content phase counts))

-- what a sweep asks of a phase and potentials
pub record IsSound (phase : PhaseAt) (potentials : List ℤ) : Type 0 where
  pub fine : IsFine phase
  pub plane : IsPlane (2 ^ 116) phase potentials
  pub lawful : IsLawful phase potentials

-- ---- trees

-- the nodes of a visit are a tree over the box
pub visits_covers : (phase : PhaseAt) (potentials : List ℤ) → IsSound phase potentials → (budget : ℕ) (box : Box) (splits : ℕ) (nodes rest : List Node) (after : ℕ) → Visits phase potentials budget box splits nodes rest after →
    IsReady phase box → Covers phase potentials box nodes rest
visits_covers phase potentials sound budget _ _ _ _ _ (void box splits rest is) ready = void_covers box rest is
visits_covers phase potentials sound budget _ _ _ _ _ (leaf box splits multipliers rest is) ready =
    leaf_covers box multipliers rest (chosen_are_sized phase potentials box multipliers sound.fine sound.plane ready.fits is.chosen) is.bound
visits_covers phase potentials sound budget _ _ _ _ _ (affine box splits multipliers rest is) ready =
    affine_covers box multipliers rest (chosen_affine_are_sized phase potentials box multipliers sound.fine sound.plane ready.fits is.chosen) is.bound
visits_covers phase potentials sound budget _ _ _ _ _ (split box left right place cut splits between after nodes middle rest opened less half l r) ready =
    split_covers box left right place cut nodes middle rest half.parts
    (visits_covers phase potentials sound budget left (splits + 1) nodes middle between l (ready_left phase box left right place cut ready half.parts))
    (visits_covers phase potentials sound budget right between middle rest after r (ready_right phase box left right place cut ready half.parts))

above_from : (bound e w : ℤ) → pos 0 ≤ℤ bound → bound ≤ℤ (e -ℤ w) → w ≤ℤ e
above_from bound e w h k = omega (arith, ints, h, k)

-- no constitution of a covered box lies below
pub covers_all : (phase : PhaseAt) (potentials : List ℤ) → IsSound phase potentials → (box : Box) (nodes rest : List Node) → Covers phase potentials box nodes rest → IsReady phase box →
    (counts : List (List ℕ)) → IsMember phase.lattice box counts → HasContent phase counts → worth potentials (content phase counts) ≤ℤ (pos 65536 *ℤ energy phase counts)
covers_all phase potentials sound _ _ _ (void_covers box rest is) ready counts h held =
    absurd (is.without (subst (HasContent phase) (single_corner phase.lattice box counts is.single h) held))
covers_all phase potentials sound _ _ _ (leaf_covers box multipliers rest sized is) ready counts h held =
    above_from (bound_of phase potentials box multipliers) (pos 65536 *ℤ energy phase counts) (worth potentials (content phase counts)) is (sound.lawful.below box multipliers counts ready.fits h)
covers_all phase potentials sound _ _ _ (affine_covers box multipliers rest sized is) ready counts h held =
    above_from (affine_bound_of phase potentials box multipliers) (pos 65536 *ℤ energy phase counts) (worth potentials (content phase counts)) is (sound.lawful.affine_below box multipliers counts ready.fits h)
covers_all phase potentials sound _ _ _ (split_covers box left right place cut nodes middle rest is l r) ready counts h held =
    elim ((parts_are phase box left right place cut ready is).covers counts h) [
      | inl a ↦ covers_all phase potentials sound left nodes middle l (ready_left phase box left right place cut ready is) counts a held
      | inr b ↦ covers_all phase potentials sound right middle rest r (ready_right phase box left right place cut ready is) counts b held
    ]

-- ---- counting splits

-- a visit makes fewer splits than the box has lists
pub visits_splits : (phase : PhaseAt) (potentials : List ℤ) (budget : ℕ) (box : Box) (splits : ℕ) (nodes rest : List Node) (after : ℕ) → Visits phase potentials budget box splits nodes rest after →
    IsReady phase box → after < splits + lists_in phase box
visits_splits phase potentials budget _ _ _ _ _ (void box splits rest is) ready = omega (arith, some_list phase box ready)
visits_splits phase potentials budget _ _ _ _ _ (leaf box splits multipliers rest is) ready = omega (arith, some_list phase box ready)
visits_splits phase potentials budget _ _ _ _ _ (affine box splits multipliers rest is) ready = omega (arith, some_list phase box ready)
visits_splits phase potentials budget _ _ _ _ _ (split box left right place cut splits between after nodes middle rest opened less half l r) ready =
    let a = visits_splits phase potentials budget left (splits + 1) nodes middle between l (ready_left phase box left right place cut ready half.parts) in
    let b = visits_splits phase potentials budget right between middle rest after r (ready_right phase box left right place cut ready half.parts) in
    omega (arith, a, b, lists_parts phase box left right place cut ready half.parts)

-- the budget is spent only where it is below the splits before and the number of lists
pub stops_out : (phase : PhaseAt) (potentials : List ℤ) (budget : ℕ) (box : Box) (splits : ℕ) (end : End) → Stops phase potentials budget box splits end → end ≡ out →
    IsReady phase box → budget < splits + lists_in phase box
stops_out phase potentials budget _ _ _ (at_corner box splits is) e ready = absurd cc
stops_out phase potentials budget _ _ _ (at_budget box splits is spent) e ready = omega (arith, spent, some_list phase box ready)
stops_out phase potentials budget _ _ _ (in_left box left right place cut splits end opened less half l) e ready =
    let a = stops_out phase potentials budget left (splits + 1) end l e (ready_left phase box left right place cut ready half.parts) in
    let b = some_list phase right (ready_right phase box left right place cut ready half.parts) in
    omega (arith, a, b, lists_parts phase box left right place cut ready half.parts)
stops_out phase potentials budget _ _ _ (in_right box left right place cut splits between nodes middle end opened less half l r) e ready =
    let a = visits_splits phase potentials budget left (splits + 1) nodes middle between l (ready_left phase box left right place cut ready half.parts) in
    let b = stops_out phase potentials budget right between end r e (ready_right phase box left right place cut ready half.parts) in
    omega (arith, a, b, lists_parts phase box left right place cut ready half.parts)

-- counts that stop the sweep are a member of the box and lie below
pub stops_below : (phase : PhaseAt) (potentials : List ℤ) (budget : ℕ) (box : Box) (splits : ℕ) (end : End) → Stops phase potentials budget box splits end → (counts : List (List ℕ)) → end ≡ below counts →
    IsReady phase box → IsBelow phase potentials counts × IsMember phase.lattice box counts
stops_below phase potentials budget _ _ _ (at_corner box splits is) counts e ready =
    let same : corner_site phase.lattice box ≡ counts = cc in
    subst (λ (v : List (List ℕ)). IsBelow phase potentials v × IsMember phase.lattice box v) same (is.corner, corner_is_member phase box ready)
stops_below phase potentials budget _ _ _ (at_budget box splits is spent) counts e ready = absurd cc
stops_below phase potentials budget _ _ _ (in_left box left right place cut splits end opened less half l) counts e ready =
    let a = stops_below phase potentials budget left (splits + 1) end l counts e (ready_left phase box left right place cut ready half.parts) in
    (a.0, (parts_are phase box left right place cut ready half.parts).in_left counts a.1)
stops_below phase potentials budget _ _ _ (in_right box left right place cut splits between nodes middle end opened less half l r) counts e ready =
    let a = stops_below phase potentials budget right between end r counts e (ready_right phase box left right place cut ready half.parts) in
    (a.0, (parts_are phase box left right place cut ready half.parts).in_right counts a.1)

-- ---- boxes visited one after the other

-- to the end of the nodes
abbrev pub VisitsAll : PhaseAt → List ℤ → ℕ → List Box → ℕ → List Node → ℕ → Type 0
VisitsAll phase potentials budget [] splits nodes after = (nodes ≡ []) × (splits ≡ after)
VisitsAll phase potentials budget (box ∷ boxes) splits nodes after =
    (middle : List Node) × (between : ℕ) × Visits phase potentials budget box splits nodes middle between × VisitsAll phase potentials budget boxes between middle after

abbrev pub StopsAll : PhaseAt → List ℤ → ℕ → List Box → ℕ → End → Type 0
StopsAll phase potentials budget [] splits end = ⊥
StopsAll phase potentials budget (box ∷ boxes) splits end =
    Stops phase potentials budget box splits end
    ⊎ ((nodes : List Node) × (middle : List Node) × (between : ℕ) × Visits phase potentials budget box splits nodes middle between × StopsAll phase potentials budget boxes between end)

-- the nodes behind a visit do not matter
pub visits_again : (phase : PhaseAt) (potentials : List ℤ) (budget : ℕ) (box : Box) (splits : ℕ) (nodes rest : List Node) (after : ℕ) → Visits phase potentials budget box splits nodes rest after → (others : List Node) →
    (more : List Node) × Visits phase potentials budget box splits more others after
visits_again phase potentials budget _ _ _ _ _ (void box splits rest is) others = (Empty ∷ others, void box splits others is)
visits_again phase potentials budget _ _ _ _ _ (leaf box splits multipliers rest is) others = (Leaf multipliers ∷ others, leaf box splits multipliers others is)
visits_again phase potentials budget _ _ _ _ _ (affine box splits multipliers rest is) others = (Affine multipliers ∷ others, affine box splits multipliers others is)
visits_again phase potentials budget _ _ _ _ _ (split box left right place cut splits between after nodes middle rest opened less half l r) others =
    let b = visits_again phase potentials budget right between middle rest after r others in
    let a = visits_again phase potentials budget left (splits + 1) nodes middle between l b.0 in
    (Split place cut ∷ a.0, split box left right place cut splits between after a.0 b.0 others opened less half a.1 b.1)

pub split_all : (phase : PhaseAt) (potentials : List ℤ) (budget : ℕ) (box left right : Box) (place cut splits : ℕ) (boxes : List Box) (nodes : List Node) (after : ℕ) →
    IsOpen phase potentials box → splits < budget → IsHalved phase.lattice box place cut left right →
    VisitsAll phase potentials budget (left ∷ right ∷ boxes) (splits + 1) nodes after → VisitsAll phase potentials budget (box ∷ boxes) splits (Split place cut ∷ nodes) after
split_all phase potentials budget box left right place cut splits boxes nodes after opened less half v =
    let w = v.3 in
    (w.0, w.1, split box left right place cut splits v.1 w.1 nodes v.0 w.0 opened less half v.2 w.2, w.3)

pub split_stops : (phase : PhaseAt) (potentials : List ℤ) (budget : ℕ) (box left right : Box) (place cut splits : ℕ) (boxes : List Box) (end : End) →
    IsOpen phase potentials box → splits < budget → IsHalved phase.lattice box place cut left right →
    StopsAll phase potentials budget (left ∷ right ∷ boxes) (splits + 1) end → StopsAll phase potentials budget (box ∷ boxes) splits end
split_stops phase potentials budget box left right place cut splits boxes end opened less half (inl l) = inl (in_left box left right place cut splits end opened less half l)
split_stops phase potentials budget box left right place cut splits boxes end opened less half (inr v) = after v.4
  where
    after : StopsAll phase potentials budget (right ∷ boxes) v.2 end → StopsAll phase potentials budget (box ∷ boxes) splits end
    after (inl r) = inl (in_right box left right place cut splits v.2 v.0 v.1 end opened less half v.3 r)
    after (inr w) =
        let a = visits_again phase potentials budget left (splits + 1) v.0 v.1 v.2 v.3 w.0 in
        inr (Split place cut ∷ a.0, w.1, w.2, split box left right place cut splits v.2 w.2 a.0 w.0 w.1 opened less half a.1 w.3, w.4)
