-- How far a visit with a stack of boxes has come.
use Rattle.std.proofs.Common.{◌≡◌, ℕ, zero, suc, ◌+◌, ◌-◌, ◌*◌, ◌≤◌, ◌<◌, List, [], ◌∷◌, ◌++◌, length, take, drop, reverse, refl, arith, ap, sym, ◌∙◌, subst, inl, inr, append_assoc}
use Rattle.std.specs.Prelude.{◌⊎◌, ℤ}
use Rattle.std.proofs.lemmas.List.{reverse-append, append-nil, length-append, length-take-le}
use Rattle.cef_core.specs.declared.phase.PhaseAt.{PhaseAt}
use Rattle.cef_tree.specs.declared.tree.Node.{Node}
use Rattle.cef_tree.specs.declared.tree.Node.TheVariants.{Split, Leaf, Affine, Empty}
use Rattle.cef_box.specs.Cuts.{IsCut}
use Rattle.eq_sweep.specs.declared.cut.Cut.{Cut}
use Rattle.cef_core.specs.Shapes.{shape}
use Rattle.cef_box.specs.Tight.{full_box}
use Rattle.eq_sweep.specs.Findings.{IsReady, IsNodeOf, IsMiddle, ArePushed, AreShaped}
use Rattle.eq_sweep.specs.Visits.{IsOpen, IsHalved, Visits, void, leaf, affine, End, below, out, Stops, at_budget}
use Rattle.eq_sweep.proofs.Members.{lists_in, some_list, lists_parts}
use Rattle.eq_sweep.proofs.Ready.{Box, ready_left, ready_right}
use Rattle.eq_sweep.proofs.Spares.{shaped_push}
use Rattle.eq_sweep.proofs.Walks.{VisitsAll, StopsAll, split_all, split_stops}

-- each waits to be visited
abbrev pub AllReady : PhaseAt → List Box → Type 0
AllReady phase [] = Unit {0}
AllReady phase (box ∷ boxes) = IsReady phase box × AllReady phase boxes

-- twice the lists of each box less one
abbrev pub work_left : PhaseAt → List Box → ℕ
work_left phase [] = 0
work_left phase (box ∷ boxes) = (2 * lists_in phase box - 1) + work_left phase boxes

ready_snoc : (phase : PhaseAt) (boxes : List Box) (box : Box) → AllReady phase (boxes ++ box ∷ []) → AllReady phase boxes × IsReady phase box
ready_snoc phase [] box h = (tt, h.0)
ready_snoc phase (b ∷ boxes) box h = let r = ready_snoc phase boxes box h.1 in ((h.0, r.0), r.1)

ready_push : (phase : PhaseAt) (boxes : List Box) (box : Box) → AllReady phase boxes → IsReady phase box → AllReady phase (boxes ++ box ∷ [])
ready_push phase [] box h r = (r, tt)
ready_push phase (b ∷ boxes) box h r = (h.0, ready_push phase boxes box h.1 r)

work_snoc : (phase : PhaseAt) (boxes : List Box) (box : Box) → work_left phase (boxes ++ box ∷ []) ≡ work_left phase boxes + (2 * lists_in phase box - 1)
work_snoc phase [] box = omega arith
work_snoc phase (b ∷ boxes) box = omega (arith, work_snoc phase boxes box)

reverse_snoc : (boxes : List Box) (box : Box) → reverse (boxes ++ box ∷ []) ≡ box ∷ reverse boxes
reverse_snoc boxes box = reverse-append boxes (box ∷ [])

two_more : (boxes : List Box) (left right : Box) → boxes ++ right ∷ left ∷ [] ≡ (boxes ++ right ∷ []) ++ left ∷ []
two_more boxes left right = sym (append_assoc boxes (right ∷ []) (left ∷ []))

-- the answer of the start is that of the boxes on the stack, the last first, behind the nodes so far
pub record Goes (phase : PhaseAt) (potentials : List ℤ) (budget : ℕ) (start : Box) (used : ℕ) (boxes : List Box) (nodes : List Node) (splits : ℕ) : Type 0 where
  pub closing : (more : List Node) (after : ℕ) → VisitsAll phase potentials budget (reverse boxes) splits more after → Visits phase potentials budget start used (nodes ++ more) [] after
  pub stopping : (end : End) → StopsAll phase potentials budget (reverse boxes) splits end → Stops phase potentials budget start used end
  pub ready : AllReady phase boxes

-- the state of a visit: how far it has come, and what is written over has the shape of the phase
pub record Visiting (phase : PhaseAt) (potentials : List ℤ) (budget used : ℕ) (boxes : List Box) (nodes : List Node) (splits : ℕ) (spare : List Box) (corner : List (List ℕ)) (multipliers : List ℤ) : Type 0 where
  pub goes : Goes phase potentials budget (full_box phase) used boxes nodes splits
  pub spares : AreShaped (shape phase.sites) spare
  pub corner_shaped : shape corner ≡ shape phase.sites
  pub each : length multipliers ≡ length phase.sites

pub goes_start : (phase : PhaseAt) (potentials : List ℤ) (budget : ℕ) (start : Box) (used : ℕ) → IsReady phase start →
    (boxes : List Box) (nodes : List Node) → boxes ≡ start ∷ [] → nodes ≡ [] → Goes phase potentials budget start used boxes nodes used
goes_start phase potentials budget start used ready boxes nodes eb en = rw (eb, en) (record { closing = closing; stopping = stopping; ready = (ready, tt) })
  where
    closing : (more : List Node) (after : ℕ) → VisitsAll phase potentials budget (start ∷ []) used more after → Visits phase potentials budget start used more [] after
    closing more after v =
        let ends : (v.0 ≡ []) × (v.1 ≡ after) = v.3 in
        subst (λ (t : ℕ). Visits phase potentials budget start used more [] t) ends.1 (subst (λ (m : List Node). Visits phase potentials budget start used more m v.1) ends.0 v.2)

    stopping : (end : End) → StopsAll phase potentials budget (start ∷ []) used end → Stops phase potentials budget start used end
    stopping end (inl s) = s
    stopping end (inr s) = absurd s.4

pub top_ready : (phase : PhaseAt) (potentials : List ℤ) (budget : ℕ) (start : Box) (used : ℕ) (boxes rest : List Box) (box : Box) (nodes : List Node) (splits : ℕ) →
    boxes ≡ rest ++ box ∷ [] → Goes phase potentials budget start used boxes nodes splits → IsReady phase box
top_ready phase potentials budget start used boxes rest box nodes splits e g = (ready_snoc phase rest box (subst (AllReady phase) e g.ready)).1

-- a box that is not split has its node, whatever the budget
visits_node : (phase : PhaseAt) (potentials : List ℤ) (budget : ℕ) (box : Box) (node : Node) (splits : ℕ) (rest : List Node) → IsNodeOf phase potentials box node → Visits phase potentials budget box splits (node ∷ rest) rest splits
visits_node phase potentials budget box Empty splits rest is = void box splits rest is
visits_node phase potentials budget box (Leaf multipliers) splits rest is = leaf box splits multipliers rest is
visits_node phase potentials budget box (Affine multipliers) splits rest is = affine box splits multipliers rest is
visits_node phase potentials budget box (Split place cut) splits rest is = absurd is

pub goes_node : (phase : PhaseAt) (potentials : List ℤ) (budget : ℕ) (start : Box) (used : ℕ) (boxes rest : List Box) (box : Box) (nodes nodes' : List Node) (node : Node) (splits : ℕ) →
    boxes ≡ rest ++ box ∷ [] → nodes' ≡ nodes ++ node ∷ [] → IsNodeOf phase potentials box node →
    Goes phase potentials budget start used boxes nodes splits → Goes phase potentials budget start used rest nodes' splits
goes_node phase potentials budget start used boxes rest box nodes nodes' node splits e en is g = rw en (record { closing = closing; stopping = stopping; ready = (ready_snoc phase rest box (subst (AllReady phase) e g.ready)).0 })
  where
    turned : reverse boxes ≡ box ∷ reverse rest
    turned = ap reverse e ∙ reverse_snoc rest box

    closing : (more : List Node) (after : ℕ) → VisitsAll phase potentials budget (reverse rest) splits more after → Visits phase potentials budget start used ((nodes ++ node ∷ []) ++ more) [] after
    closing more after v =
        let all_of : VisitsAll phase potentials budget (box ∷ reverse rest) splits (node ∷ more) after = (more, splits, visits_node phase potentials budget box node splits more is, v) in
        rw append_assoc (g.closing (node ∷ more) after (subst (λ (b : List Box). VisitsAll phase potentials budget b splits (node ∷ more) after) (sym turned) all_of))

    stopping : (end : End) → StopsAll phase potentials budget (reverse rest) splits end → Stops phase potentials budget start used end
    stopping end s =
        let all_of : StopsAll phase potentials budget (box ∷ reverse rest) splits end = inr (node ∷ [], [], splits, visits_node phase potentials budget box node splits [] is, s) in
        g.stopping end (subst (λ (b : List Box). StopsAll phase potentials budget b splits end) (sym turned) all_of)

pub halved_is : (n : ℕ) (box left right : Box) (place cut : ℕ) → IsMiddle box place cut → IsCut n box place cut left right → IsHalved n box place cut left right
halved_is n box left right place cut middle parts = record { range = middle.range; widest = middle.widest; middle = middle.middle; parts = parts }

pub goes_part : (phase : PhaseAt) (potentials : List ℤ) (budget : ℕ) (start : Box) (used : ℕ) (boxes rest boxes' : List Box) (box : Box) (cut : Cut) (nodes nodes' : List Node) (splits splits' : ℕ) →
    boxes ≡ rest ++ box ∷ [] → nodes' ≡ nodes ++ Split cut.place cut.count ∷ [] → ArePushed phase.lattice box cut rest boxes' → splits' ≡ splits + 1 → splits < budget →
    IsOpen phase potentials box → IsMiddle box cut.place cut.count →
    Goes phase potentials budget start used boxes nodes splits → Goes phase potentials budget start used boxes' nodes' splits'
goes_part phase potentials budget start used boxes rest boxes' box cut nodes nodes' splits splits' e en pushed es less opened middle g =
    rw (en, es) (record { closing = closing; stopping = stopping; ready = subst (AllReady phase) (sym stack) ready })
  where
    left : Box
    left = pushed.left

    right : Box
    right = pushed.right

    half : IsHalved phase.lattice box cut.place cut.count left right
    half = halved_is phase.lattice box pushed.left pushed.right cut.place cut.count middle pushed.parts

    r : AllReady phase rest × IsReady phase box
    r = ready_snoc phase rest box (subst (AllReady phase) e g.ready)

    stack : boxes' ≡ (rest ++ right ∷ []) ++ left ∷ []
    stack = pushed.stack_is ∙ two_more rest left right

    ready : AllReady phase ((rest ++ right ∷ []) ++ left ∷ [])
    ready = ready_push phase (rest ++ right ∷ []) left (ready_push phase rest right r.0 (ready_right phase box left right cut.place cut.count r.1 half.parts)) (ready_left phase box left right cut.place cut.count r.1 half.parts)

    turned : reverse boxes ≡ box ∷ reverse rest
    turned = ap reverse e ∙ reverse_snoc rest box

    turned' : reverse boxes' ≡ left ∷ right ∷ reverse rest
    turned' = ap reverse stack ∙ reverse_snoc (rest ++ right ∷ []) left ∙ ap (λ (b : List Box). left ∷ b) (reverse_snoc rest right)

    closing : (more : List Node) (after : ℕ) → VisitsAll phase potentials budget (reverse boxes') (splits + 1) more after → Visits phase potentials budget start used ((nodes ++ Split cut.place cut.count ∷ []) ++ more) [] after
    closing more after v =
        let parts = subst (λ (b : List Box). VisitsAll phase potentials budget b (splits + 1) more after) turned' v in
        let all_of : VisitsAll phase potentials budget (box ∷ reverse rest) splits (Split cut.place cut.count ∷ more) after = split_all phase potentials budget box left right cut.place cut.count splits (reverse rest) more after opened less half parts in
        rw append_assoc (g.closing (Split cut.place cut.count ∷ more) after (subst (λ (b : List Box). VisitsAll phase potentials budget b splits (Split cut.place cut.count ∷ more) after) (sym turned) all_of))

    stopping : (end : End) → StopsAll phase potentials budget (reverse boxes') (splits + 1) end → Stops phase potentials budget start used end
    stopping end s =
        let parts = subst (λ (b : List Box). StopsAll phase potentials budget b (splits + 1) end) turned' s in
        g.stopping end (subst (λ (b : List Box). StopsAll phase potentials budget b splits end) (sym turned) (split_stops phase potentials budget box left right cut.place cut.count splits (reverse rest) end opened less half parts))

pub goes_stops : (phase : PhaseAt) (potentials : List ℤ) (budget : ℕ) (start : Box) (used : ℕ) (boxes rest : List Box) (box : Box) (nodes : List Node) (splits : ℕ) (end : End) →
    boxes ≡ rest ++ box ∷ [] → Stops phase potentials budget box splits end → Goes phase potentials budget start used boxes nodes splits → Stops phase potentials budget start used end
goes_stops phase potentials budget start used boxes rest box nodes splits end e s g =
    g.stopping end (subst (λ (b : List Box). StopsAll phase potentials budget b splits end) (sym (ap reverse e ∙ reverse_snoc rest box)) (inl s))

pub goes_done : (phase : PhaseAt) (potentials : List ℤ) (budget : ℕ) (start : Box) (used : ℕ) (boxes : List Box) (nodes : List Node) (splits : ℕ) →
    boxes ≡ [] → Goes phase potentials budget start used boxes nodes splits → Visits phase potentials budget start used nodes [] splits
goes_done phase potentials budget start used boxes nodes splits e g =
    subst (λ (m : List Node). Visits phase potentials budget start used m [] splits) (append-nil nodes) (g.closing [] splits (subst (λ (b : List Box). VisitsAll phase potentials budget (reverse b) splits [] splits) (sym e) (refl, refl)))

pub work_node : (phase : PhaseAt) (potentials : List ℤ) (budget : ℕ) (start : Box) (used : ℕ) (boxes rest : List Box) (box : Box) (nodes : List Node) (splits : ℕ) →
    boxes ≡ rest ++ box ∷ [] → Goes phase potentials budget start used boxes nodes splits → work_left phase rest < work_left phase boxes
work_node phase potentials budget start used boxes rest box nodes splits e g =
    let r = top_ready phase potentials budget start used boxes rest box nodes splits e g in
    rw e (omega (arith, work_snoc phase rest box, some_list phase box r))

pub work_part : (phase : PhaseAt) (potentials : List ℤ) (budget : ℕ) (start : Box) (used : ℕ) (boxes rest boxes' : List Box) (box : Box) (cut : Cut) (nodes : List Node) (splits : ℕ) →
    boxes ≡ rest ++ box ∷ [] → ArePushed phase.lattice box cut rest boxes' →
    Goes phase potentials budget start used boxes nodes splits → work_left phase boxes' < work_left phase boxes
work_part phase potentials budget start used boxes rest boxes' box cut nodes splits e pushed g =
    let left = pushed.left in
    let right = pushed.right in
    let r = top_ready phase potentials budget start used boxes rest box nodes splits e g in
    let a = some_list phase left (ready_left phase box left right cut.place cut.count r pushed.parts) in
    let b = some_list phase right (ready_right phase box left right cut.place cut.count r pushed.parts) in
    let stack : boxes' ≡ (rest ++ right ∷ []) ++ left ∷ [] = pushed.stack_is ∙ two_more rest left right in
    rw (e, stack) (omega (arith, work_snoc phase rest box, work_snoc phase rest right, work_snoc phase (rest ++ right ∷ []) left, lists_parts phase box left right cut.place cut.count r pushed.parts, a, b))

-- ---- the state of a visit

pub visiting_start : (phase : PhaseAt) (potentials : List ℤ) (budget used : ℕ) (boxes : List Box) (nodes : List Node) (spare : List Box) (corner : List (List ℕ)) (multipliers : List ℤ) (start : Box) →
    IsReady phase start → start ≡ full_box phase → boxes ≡ start ∷ [] → nodes ≡ [] → AreShaped (shape start) spare → shape corner ≡ shape phase.sites → length multipliers ≡ length phase.sites →
    Visiting phase potentials budget used boxes nodes used spare corner multipliers
visiting_start phase potentials budget used boxes nodes spare corner multipliers start ready e eb en spares corner_shaped each = record {
  goes = goes_start phase potentials budget (full_box phase) used (subst (IsReady phase) e ready) boxes nodes (eb ∙ ap (λ (b : Box). b ∷ []) e) en;
  spares = subst (λ (widths : List ℕ). AreShaped widths spare) ready.fits.widths spares;
  corner_shaped = corner_shaped;
  each = each;
}

pub visiting_node : (phase : PhaseAt) (potentials : List ℤ) (budget used : ℕ) (boxes rest : List Box) (box : Box) (nodes nodes' : List Node) (node : Node) (splits : ℕ) (spare spare' : List Box) (corner corner' : List (List ℕ)) (multipliers multipliers' : List ℤ) →
    boxes ≡ rest ++ box ∷ [] → nodes' ≡ nodes ++ node ∷ [] → IsNodeOf phase potentials box node → spare' ≡ spare ++ box ∷ [] → shape corner' ≡ shape corner → length multipliers' ≡ length multipliers →
    Visiting phase potentials budget used boxes nodes splits spare corner multipliers → Visiting phase potentials budget used rest nodes' splits spare' corner' multipliers'
visiting_node phase potentials budget used boxes rest box nodes nodes' node splits spare spare' corner corner' multipliers multipliers' e en is es ec em v = record {
  goes = goes_node phase potentials budget (full_box phase) used boxes rest box nodes nodes' node splits e en is v.goes;
  spares = shaped_push (shape phase.sites) spare spare' box v.spares (top_ready phase potentials budget (full_box phase) used boxes rest box nodes splits e v.goes).fits.widths es;
  corner_shaped = ec ∙ v.corner_shaped;
  each = em ∙ v.each;
}

pub visiting_part : (phase : PhaseAt) (potentials : List ℤ) (budget used : ℕ) (boxes rest boxes' : List Box) (box : Box) (cut : Cut) (nodes nodes' : List Node) (splits splits' : ℕ) (spare spare' : List Box) (corner corner' : List (List ℕ)) (multipliers multipliers' : List ℤ) →
    boxes ≡ rest ++ box ∷ [] → nodes' ≡ nodes ++ Split cut.place cut.count ∷ [] → ArePushed phase.lattice box cut rest boxes' → splits' ≡ splits + 1 → splits < budget →
    IsOpen phase potentials box → IsMiddle box cut.place cut.count → AreShaped (shape box) spare' → shape corner' ≡ shape corner → length multipliers' ≡ length multipliers →
    Visiting phase potentials budget used boxes nodes splits spare corner multipliers → Visiting phase potentials budget used boxes' nodes' splits' spare' corner' multipliers'
visiting_part phase potentials budget used boxes rest boxes' box cut nodes nodes' splits splits' spare spare' corner corner' multipliers multipliers' e en pushed es less opened middle shaped ec em v = record {
  goes = goes_part phase potentials budget (full_box phase) used boxes rest boxes' box cut nodes nodes' splits splits' e en pushed es less opened middle v.goes;
  spares = subst (λ (widths : List ℕ). AreShaped widths spare') (top_ready phase potentials budget (full_box phase) used boxes rest box nodes splits e v.goes).fits.widths shaped;
  corner_shaped = ec ∙ v.corner_shaped;
  each = em ∙ v.each;
}

-- a buffer that is written in full keeps its length
pub length_kept : (n : ℕ) (written before : List ℤ) → length written ≡ length before → n ≡ length before → length (take n (written ++ drop (length written) before)) ≡ length before
length_kept n written before e h =
    length-take-le n (written ++ drop (length written) before) (omega (arith, e, h, length-append written (drop (length written) before))) ∙ h
