-- How far a walk over the nodes of a tree has come, with the boxes that wait for their nodes.
use Rattle.std.proofs.Common.{◌≡◌, ℕ, suc, ◌+◌, ◌≤◌, ◌<◌, List, [], ◌∷◌, length, refl, arith, ap, sym, ◌∙◌, subst, inl, inr, drop, get_or, add-one}
use Rattle.std.proofs.Math.Seq.{drop-cons}
use Rattle.std.proofs.lemmas.List.{length-drop, drop_all}
use Rattle.std.specs.Prelude.{◌⊎◌, ℤ}
use Rattle.cef_box.specs.Cuts.{IsCut}
use Rattle.cef_box.specs.Tight.{full_box}
use Rattle.cef_core.specs.declared.phase.PhaseAt.{PhaseAt}
use Rattle.cef_tree.specs.declared.tree.Node.{Node}
use Rattle.cef_tree.specs.declared.tree.Node.TheVariants.{Split}
use Rattle.cef_report.specs.Spelled.{Spans}
use Rattle.eq_cert.specs.First.{IsFirstWrong}
use Rattle.eq_cert.specs.Trees.{Box, IsRight, IsRightAt}
use Rattle.eq_cert.specs.Nodes.{IsEnd, IsReady}
use Rattle.eq_cert.proofs.Covering.{Covers, end_covers, split_covers, Breaks, breaks_here, breaks_left, breaks_right, spans_end, spans_cut, spans_none, right_from_covers, wrong_from_breaks}
use Rattle.eq_cert.proofs.Ready.{ready_left, ready_right}

-- boxes covered one after the other, to the end of the nodes
abbrev pub CoversAll : PhaseAt → List ℤ → List Box → List Node → Type 0
CoversAll phase potentials [] nodes = nodes ≡ []
CoversAll phase potentials (box ∷ boxes) nodes = (middle : List Node) × Covers phase potentials box nodes middle × CoversAll phase potentials boxes middle

abbrev pub BreaksAll : PhaseAt → List ℤ → List Box → List Node → List Node → Type 0
BreaksAll phase potentials [] nodes broken = ⊥
BreaksAll phase potentials (box ∷ boxes) nodes broken = Breaks phase potentials box nodes broken ⊎ ((middle : List Node) × Covers phase potentials box nodes middle × BreaksAll phase potentials boxes middle broken)

abbrev pub SpansAll : List Box → List Node → Type 0
SpansAll [] nodes = nodes ≡ []
SpansAll (box ∷ boxes) nodes = (middle : List Node) × Spans nodes middle × SpansAll boxes middle

abbrev pub AllReady : PhaseAt → List Box → Type 0
AllReady phase [] = Unit {0}
AllReady phase (box ∷ boxes) = IsReady phase box × AllReady phase boxes

-- The whole tree covers where the nodes that are left cover the boxes that wait, and it breaks where they break.
pub record Goes (phase : PhaseAt) (potentials : List ℤ) (all : List Node) (boxes : List Box) (nodes : List Node) : Type 0 where
  pub closing : CoversAll phase potentials boxes nodes → Covers phase potentials (full_box phase) all []
  pub breaking : (broken : List Node) → BreaksAll phase potentials boxes nodes broken → Breaks phase potentials (full_box phase) all broken
  pub spanning : SpansAll boxes nodes
  pub ready : AllReady phase boxes

module _ (phase : PhaseAt) (potentials : List ℤ) (all : List Node) where
  pub goes_start : Spans all [] → IsReady phase (full_box phase) → Goes phase potentials all (full_box phase ∷ []) all
  goes_start spans ready = record {
    closing = λ c. subst (λ (m : List Node). Covers phase potentials (full_box phase) all m) c.2 c.1;
    breaking = breaking;
    spanning = ([], spans, refl);
    ready = (ready, tt);
  }
    where
      breaking : (broken : List Node) → BreaksAll phase potentials (full_box phase ∷ []) all broken → Breaks phase potentials (full_box phase) all broken
      breaking broken (inl b) = b
      breaking broken (inr b) = absurd b.2

  pub goes_end : (box : Box) (boxes : List Box) (node : Node) (rest : List Node) → IsRight phase potentials box node → IsEnd node → Goes phase potentials all (box ∷ boxes) (node ∷ rest) → Goes phase potentials all boxes rest
  goes_end box boxes node rest right is_end g =
      let ends : rest ≡ g.spanning.0 = spans_end node rest g.spanning.0 is_end g.spanning.1 in
      record {
        closing = λ c. g.closing (rest, end_covers box node rest right is_end, c);
        breaking = λ broken b. g.breaking broken (inr (rest, end_covers box node rest right is_end, b));
        spanning = subst (SpansAll boxes) (sym ends) g.spanning.2;
        ready = g.ready.1;
      }

  pub goes_parts : (box left right : Box) (boxes : List Box) (place at : ℕ) (rest : List Node) → IsCut phase.lattice box place at left right → Goes phase potentials all (box ∷ boxes) (Split place at ∷ rest) → Goes phase potentials all (left ∷ right ∷ boxes) rest
  goes_parts box left right boxes place at rest is g =
      let i = spans_cut place at rest g.spanning.0 g.spanning.1 in
      record {
        closing = λ c. let d = c.2 in g.closing (d.0, split_covers box left right place at rest c.0 d.0 is c.1 d.1, d.2);
        breaking = breaking;
        spanning = (i.0, i.1, (g.spanning.0, i.2, g.spanning.2));
        ready = (ready_left phase box left right place at g.ready.0 is, (ready_right phase box left right place at g.ready.0 is, g.ready.1));
      }
    where
      in_right_of : (broken middle : List Node) → Covers phase potentials left rest middle → BreaksAll phase potentials (right ∷ boxes) middle broken → Breaks phase potentials (full_box phase) all broken
      in_right_of broken middle l (inl r) = g.breaking broken (inl (breaks_right box left right place at rest middle broken is l r))
      in_right_of broken middle l (inr b) = g.breaking broken (inr (b.0, split_covers box left right place at rest middle b.0 is l b.1, b.2))

      breaking : (broken : List Node) → BreaksAll phase potentials (left ∷ right ∷ boxes) rest broken → Breaks phase potentials (full_box phase) all broken
      breaking broken (inl l) = g.breaking broken (inl (breaks_left box left right place at rest broken is l))
      breaking broken (inr b) = in_right_of broken b.0 b.1 b.2

  pub goes_wrong : (box : Box) (boxes : List Box) (node : Node) (rest : List Node) (place : ℕ) → (IsRight phase potentials box node → ⊥) → Spans all [] → place + suc (length rest) ≡ length all → Goes phase potentials all (box ∷ boxes) (node ∷ rest) → IsFirstWrong (IsRightAt phase potentials all) place
  goes_wrong box boxes node rest place wrong spans e g = wrong_from_breaks phase potentials all (node ∷ rest) place (g.breaking (node ∷ rest) (inl (breaks_here box node rest wrong))) spans (omega arith)

  pub goes_done : (boxes : List Box) → Goes phase potentials all boxes [] → (place : ℕ) → IsRightAt phase potentials all place
  goes_done [] g place = right_from_covers phase potentials all (g.closing refl) place
  goes_done (box ∷ boxes) g place = absurd (spans_none g.spanning.0 g.spanning.1)

  -- with no box that waits no node is left
  pub goes_none : (nodes : List Node) → Goes phase potentials all [] nodes → nodes ≡ []
  goes_none nodes g = g.spanning

  -- ---- the steps of the loop, at the node of a place

  at_node : (waiting boxes : List Box) (box : Box) (place : ℕ) (node : Node) → waiting ≡ box ∷ boxes → place < length all → node ≡ get_or all place node →
      Goes phase potentials all waiting (drop place all) → Goes phase potentials all (box ∷ boxes) (node ∷ drop (place + 1) all)
  at_node waiting boxes box place node e lt is g = subst (λ (w : List Box). Goes phase potentials all w (node ∷ drop (place + 1) all)) e (subst (Goes phase potentials all waiting) next g)
    where
      next : drop place all ≡ node ∷ drop (place + 1) all
      next = rw add-one (drop-cons all place node lt ∙ ap (λ (x : Node). x ∷ drop (suc place) all) (sym is))

  pub step_end : (waiting boxes : List Box) (box : Box) (place : ℕ) (node : Node) → waiting ≡ box ∷ boxes → place < length all → node ≡ get_or all place node →
      Goes phase potentials all waiting (drop place all) → IsRight phase potentials box node × IsEnd node → Goes phase potentials all boxes (drop (place + 1) all)
  step_end waiting boxes box place node e lt is g found = goes_end box boxes node (drop (place + 1) all) found.0 found.1 (at_node waiting boxes box place node e lt is g)

  pub step_parts : (waiting boxes : List Box) (box left right : Box) (place : ℕ) (node : Node) → waiting ≡ box ∷ boxes → place < length all → node ≡ get_or all place node →
      Goes phase potentials all waiting (drop place all) → ((at : ℕ) × (cut : ℕ) × (node ≡ Split at cut) × IsCut phase.lattice box at cut left right) → Goes phase potentials all (left ∷ right ∷ boxes) (drop (place + 1) all)
  step_parts waiting boxes box left right place node e lt is g found =
      goes_parts box left right boxes found.0 found.1 (drop (place + 1) all) found.3 (subst (λ (x : Node). Goes phase potentials all (box ∷ boxes) (x ∷ drop (place + 1) all)) found.2 (at_node waiting boxes box place node e lt is g))

  pub step_wrong : (waiting boxes : List Box) (box : Box) (place : ℕ) (node : Node) → waiting ≡ box ∷ boxes → place < length all → node ≡ get_or all place node →
      Goes phase potentials all waiting (drop place all) → Spans all [] → (IsRight phase potentials box node → ⊥) → IsFirstWrong (IsRightAt phase potentials all) place
  step_wrong waiting boxes box place node e lt is g spans wrong =
      goes_wrong box boxes node (drop (place + 1) all) place wrong spans (omega (arith, length-drop (place + 1) all)) (at_node waiting boxes box place node e lt is g)

  pub step_none : (waiting : List Box) (place : ℕ) → waiting ≡ [] → Goes phase potentials all waiting (drop place all) → (k : ℕ) → IsRightAt phase potentials all k
  step_none waiting place e g k =
      let h : Goes phase potentials all [] (drop place all) = subst (λ (w : List Box). Goes phase potentials all w (drop place all)) e g in
      goes_done [] (subst (Goes phase potentials all []) (goes_none (drop place all) h) h) k

  pub step_done : (waiting : List Box) (place : ℕ) → length all ≤ place → Goes phase potentials all waiting (drop place all) → (k : ℕ) → IsRightAt phase potentials all k
  step_done waiting place le g k = goes_done waiting (subst (Goes phase potentials all waiting) (drop_all place all le) g) k

  pub step_start : (waiting fresh : List Box) (whole : Box) → Spans all [] → IsReady phase (full_box phase) → whole ≡ full_box phase → waiting ≡ whole ∷ fresh → fresh ≡ [] → Goes phase potentials all waiting (drop 0 all)
  step_start waiting fresh whole spans ready e w f = rw (w, f, e) (goes_start spans ready)
