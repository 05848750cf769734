-- Trees that cover a box, and trees that break at a node: how the two stand to the nodes that are right.
use Rattle.std.proofs.Common.{◌≡◌, ℕ, suc, ◌+◌, ◌≤◌, ◌<◌, List, [], ◌∷◌, length, refl, arith, ap, sym, ◌∙◌, subst, Some}
use Rattle.std.specs.Prelude.{ℤ}
use Rattle.cef_box.specs.declared.range.Range.{Range}
use Rattle.cef_box.specs.Cuts.{IsCut, IsCuttable, placed_in, left_range, right_range}
use Rattle.cef_box.specs.Tight.{tightened_box, full_box}
use Rattle.cef_core.specs.declared.phase.PhaseAt.{PhaseAt}
use Rattle.cef_tree.specs.declared.tree.Node.{Node}
use Rattle.cef_tree.specs.declared.tree.Node.TheVariants.{Split, Leaf, Affine, Empty}
use Rattle.cef_report.specs.Spelled.{Spans, leaf, affine, none, cut}
use Rattle.eq_cert.specs.First.{IsFirstWrong}
use Rattle.eq_cert.specs.Trees.{Box, Stands, first, in_left, in_right, IsRight, IsRightAt}
use Rattle.eq_cert.specs.Nodes.{IsEnd}

-- the nodes in front of the rest are right, and all of their tree over the box
pub data Covers (phase : PhaseAt) (potentials : List ℤ) : Box → List Node → List Node → Type 0 where
  end_covers : (box : Box) (node : Node) (rest : List Node) → IsRight phase potentials box node → IsEnd node → Covers phase potentials box (node ∷ rest) rest
  split_covers : (box left right : Box) (place at : ℕ) (nodes middle rest : List Node) → IsCut phase.lattice box place at left right →
      Covers phase potentials left nodes middle → Covers phase potentials right middle rest → Covers phase potentials box (Split place at ∷ nodes) rest

-- they are right up to the first of the nodes `broken`, which is wrong
pub data Breaks (phase : PhaseAt) (potentials : List ℤ) : Box → List Node → List Node → Type 0 where
  breaks_here : (box : Box) (node : Node) (rest : List Node) → (IsRight phase potentials box node → ⊥) → Breaks phase potentials box (node ∷ rest) (node ∷ rest)
  breaks_left : (box left right : Box) (place at : ℕ) (nodes broken : List Node) → IsCut phase.lattice box place at left right →
      Breaks phase potentials left nodes broken → Breaks phase potentials box (Split place at ∷ nodes) broken
  breaks_right : (box left right : Box) (place at : ℕ) (nodes middle broken : List Node) → IsCut phase.lattice box place at left right →
      Covers phase potentials left nodes middle → Breaks phase potentials right middle broken → Breaks phase potentials box (Split place at ∷ nodes) broken

-- ---- a cut has one left and one right part

same_range : (r s : Range) → Some r ≡ Some s → r ≡ s
same_range r s e = cc

pub cut_same : (n : ℕ) (box left right left' right' : Box) (place at : ℕ) → IsCut n box place at left right → IsCut n box place at left' right' → (left ≡ left') × (right ≡ right')
cut_same n box left right left' right' place at c d =
    let same : c.range ≡ d.range = same_range c.range d.range (sym c.range_is ∙ d.range_is) in (
      c.left_is ∙ ap (λ (r : Range). tightened_box n (placed_in place (left_range at r) box)) same ∙ sym d.left_is,
      c.right_is ∙ ap (λ (r : Range). tightened_box n (placed_in place (right_range at r) box)) same ∙ sym d.right_is,
    )

pub cuttable : (n : ℕ) (box left right : Box) (place at : ℕ) → IsCut n box place at left right → IsCuttable box place at
cuttable n box left right place at c = record { range = c.range; range_is = c.range_is; low = c.low; high = c.high }

-- ---- the nodes of a subtree

pub spans_end : (node : Node) (rest middle : List Node) → IsEnd node → Spans (node ∷ rest) middle → rest ≡ middle
spans_end _ _ _ h (leaf multipliers rest some fine) = refl
spans_end _ _ _ h (affine multipliers rest some fine) = refl
spans_end _ _ _ h (none rest) = refl
spans_end _ _ _ h (cut place at nodes middle rest p q l r) = absurd h

pub spans_cut : (place at : ℕ) (nodes rest : List Node) → Spans (Split place at ∷ nodes) rest → (middle : List Node) × Spans nodes middle × Spans middle rest
spans_cut _ _ _ _ (cut place at nodes middle rest p q l r) = (middle, l, r)

pub spans_none : (rest : List Node) → Spans [] rest → ⊥
spans_none rest h = elim h [ ]

pub spans_shorter : (nodes rest : List Node) → Spans nodes rest → length rest < length nodes
spans_shorter _ _ (leaf multipliers rest some fine) = omega arith
spans_shorter _ _ (affine multipliers rest some fine) = omega arith
spans_shorter _ _ (none rest) = omega arith
spans_shorter _ _ (cut place at nodes middle rest p q l r) = omega (arith, spans_shorter nodes middle l, spans_shorter middle rest r)

pub spans_same : (nodes a b : List Node) → Spans nodes a → Spans nodes b → a ≡ b
spans_same _ _ b (leaf multipliers rest some fine) h = spans_end (Leaf multipliers) rest b tt h
spans_same _ _ b (affine multipliers rest some fine) h = spans_end (Affine multipliers) rest b tt h
spans_same _ _ b (none rest) h = spans_end Empty rest b tt h
spans_same _ _ b (cut place at nodes middle rest p q l r) h =
    let i = spans_cut place at nodes b h in
    let same : middle ≡ i.0 = spans_same nodes middle i.0 l i.1 in
    spans_same middle rest b r (subst (λ (m : List Node). Spans m b) (sym same) i.2)

module _ (phase : PhaseAt) (potentials : List ℤ) where
  pub covers_ends : (box : Box) (nodes a b : List Node) → Covers phase potentials box nodes a → Spans nodes b → a ≡ b
  covers_ends _ _ _ b (end_covers box node rest right is_end) h = spans_end node rest b is_end h
  covers_ends _ _ _ b (split_covers box left right place at nodes middle rest is l r) h =
      let i = spans_cut place at nodes b h in
      let same : middle ≡ i.0 = covers_ends left nodes middle i.0 l i.1 in
      covers_ends right middle rest b r (subst (λ (m : List Node). Spans m b) (sym same) i.2)

  pub stands_end : (box part : Box) (node other : Node) (rest more : List Node) → IsEnd node → Stands phase.lattice box (node ∷ rest) (other ∷ more) part →
      IsRight phase potentials box node → IsRight phase potentials part other
  stands_end _ _ _ _ _ _ is_end (first box nodes) right = right
  stands_end _ _ _ _ _ _ is_end (in_left box left right part place at nodes here is s) h = absurd is_end
  stands_end _ _ _ _ _ _ is_end (in_right box left right part place at nodes middle here is spans s) h = absurd is_end

  -- a node within the tree of a cut box is that of the box, or in the left or the right part
  pub stands_cut : (P : Type 0) (box part : Box) (place at : ℕ) (nodes here : List Node) → Stands phase.lattice box (Split place at ∷ nodes) here part →
      ((Split place at ∷ nodes ≡ here) → (box ≡ part) → P) →
      ((left right : Box) → IsCut phase.lattice box place at left right → Stands phase.lattice left nodes here part → P) →
      ((left right : Box) (middle : List Node) → IsCut phase.lattice box place at left right → Spans nodes middle → Stands phase.lattice right middle here part → P) → P
  stands_cut P _ _ _ _ _ _ (first box nodes) at_box in_l in_r = at_box refl refl
  stands_cut P _ _ _ _ _ _ (in_left box left right part place at nodes here is s) at_box in_l in_r = in_l left right is s
  stands_cut P _ _ _ _ _ _ (in_right box left right part place at nodes middle here is spans s) at_box in_l in_r = in_r left right middle is spans s

  pub stands_shorter : (box part : Box) (nodes here : List Node) → Stands phase.lattice box nodes here part → length here ≤ length nodes
  stands_shorter _ _ _ _ (first box nodes) = omega arith
  stands_shorter _ _ _ _ (in_left box left right part place at nodes here is s) = omega (arith, stands_shorter left part nodes here s)
  stands_shorter _ _ _ _ (in_right box left right part place at nodes middle here is spans s) = omega (arith, spans_shorter nodes middle spans, stands_shorter right part middle here s)

  cut_right : (box part left right : Box) (place at : ℕ) (nodes more : List Node) (other : Node) → IsCut phase.lattice box place at left right → Split place at ∷ nodes ≡ other ∷ more → box ≡ part → IsRight phase potentials part other
  cut_right box part left right place at nodes more other is e b =
      let node : Split place at ≡ other = cc in
      subst (λ (x : Node). IsRight phase potentials part x) node (subst (λ (x : Box). IsCuttable x place at) b (cuttable phase.lattice box left right place at is))

  -- all nodes of a tree that covers are right
  pub covers_right : (box : Box) (nodes rest : List Node) → Covers phase potentials box nodes rest → (other : Node) (more : List Node) (part : Box) → Stands phase.lattice box nodes (other ∷ more) part → IsRight phase potentials part other
  covers_right _ _ _ (end_covers box node rest right is_end) other more part s = stands_end box part node other rest more is_end s right
  covers_right _ _ _ (split_covers box left right place at nodes middle rest is l r) other more part s =
      stands_cut (IsRight phase potentials part other) box part place at nodes (other ∷ more) s
      (λ e b. cut_right box part left right place at nodes more other is e b)
      (λ left' right' is' s'.
      let same = cut_same phase.lattice box left' right' left right place at is' is in
      covers_right left nodes middle l other more part (subst (λ (b : Box). Stands phase.lattice b nodes (other ∷ more) part) same.0 s'))
      (λ left' right' middle' is' spans s'.
      let same = cut_same phase.lattice box left' right' left right place at is' is in
      let ends : middle ≡ middle' = covers_ends left nodes middle middle' l spans in
      covers_right right middle rest r other more part (subst (λ (b : Box). Stands phase.lattice b middle (other ∷ more) part) same.1 (subst (λ (m : List Node). Stands phase.lattice right' m (other ∷ more) part) (sym ends) s')))

  -- the broken node is of the subtree, not behind it
  pub breaks_within : (box : Box) (nodes broken middle : List Node) → Breaks phase potentials box nodes broken → Spans nodes middle → length middle < length broken
  breaks_within _ _ _ middle (breaks_here box node rest wrong) h = spans_shorter (node ∷ rest) middle h
  breaks_within _ _ _ middle (breaks_left box left right place at nodes broken is l) h =
      let i = spans_cut place at nodes middle h in
      omega (arith, spans_shorter i.0 middle i.2, breaks_within left nodes broken i.0 l i.1)
  breaks_within _ _ _ middle (breaks_right box left right place at nodes between broken is l r) h =
      let i = spans_cut place at nodes middle h in
      let same : between ≡ i.0 = covers_ends left nodes between i.0 l i.1 in
      breaks_within right between broken middle r (subst (λ (m : List Node). Spans m middle) (sym same) i.2)

  -- the first of them is wrong for its box
  pub record IsWrongNode (box : Box) (nodes broken : List Node) : Type 0 where
    pub node : Node
    pub rest : List Node
    pub part : Box
    pub begins : broken ≡ node ∷ rest
    pub stands : Stands phase.lattice box nodes (node ∷ rest) part
    pub wrong : IsRight phase potentials part node → ⊥

  pub breaks_wrong : (box : Box) (nodes broken end : List Node) → Breaks phase potentials box nodes broken → Spans nodes end → IsWrongNode box nodes broken
  breaks_wrong _ _ _ end (breaks_here box node rest wrong) h = record { node = node; rest = rest; part = box; begins = refl; stands = first box (node ∷ rest); wrong = wrong }
  breaks_wrong _ _ _ end (breaks_left box left right place at nodes broken is l) h =
      let i = spans_cut place at nodes end h in
      let w = breaks_wrong left nodes broken i.0 l i.1 in
      record { node = w.node; rest = w.rest; part = w.part; begins = w.begins; stands = in_left box left right w.part place at nodes (w.node ∷ w.rest) is w.stands; wrong = w.wrong }
  breaks_wrong _ _ _ end (breaks_right box left right place at nodes middle broken is l r) h =
      let i = spans_cut place at nodes end h in
      let same : i.0 ≡ middle = sym (covers_ends left nodes middle i.0 l i.1) in
      let w = breaks_wrong right middle broken end r (subst (λ (m : List Node). Spans m end) same i.2) in
      record { node = w.node; rest = w.rest; part = w.part; begins = w.begins; stands = in_right box left right w.part place at nodes middle (w.node ∷ w.rest) is (subst (Spans nodes) same i.1) w.stands; wrong = w.wrong }

  -- and all before it are right
  pub breaks_before : (box : Box) (nodes broken end : List Node) → Breaks phase potentials box nodes broken → Spans nodes end → (other : Node) (more : List Node) (part : Box) → Stands phase.lattice box nodes (other ∷ more) part → length broken < length (other ∷ more) →
      IsRight phase potentials part other
  breaks_before _ _ _ end (breaks_here box node rest wrong) h other more part s lt = absurd (omega (arith, stands_shorter box part (node ∷ rest) (other ∷ more) s))
  breaks_before _ _ _ end (breaks_left box left right place at nodes broken is l) h other more part s lt =
      let i = spans_cut place at nodes end h in
      stands_cut (IsRight phase potentials part other) box part place at nodes (other ∷ more) s
      (λ e b. cut_right box part left right place at nodes more other is e b)
      (λ left' right' is' s'.
      let same = cut_same phase.lattice box left' right' left right place at is' is in
      breaks_before left nodes broken i.0 l i.1 other more part (subst (λ (b : Box). Stands phase.lattice b nodes (other ∷ more) part) same.0 s') lt)
      (λ left' right' middle' is' spans s'. absurd (omega (arith, stands_shorter right' part middle' (other ∷ more) s', breaks_within left nodes broken middle' l spans)))
  breaks_before _ _ _ end (breaks_right box left right place at nodes middle broken is l r) h other more part s lt =
      let i = spans_cut place at nodes end h in
      let same_middle : i.0 ≡ middle = sym (covers_ends left nodes middle i.0 l i.1) in
      stands_cut (IsRight phase potentials part other) box part place at nodes (other ∷ more) s
      (λ e b. cut_right box part left right place at nodes more other is e b)
      (λ left' right' is' s'.
      let same = cut_same phase.lattice box left' right' left right place at is' is in
      covers_right left nodes middle l other more part (subst (λ (b : Box). Stands phase.lattice b nodes (other ∷ more) part) same.0 s'))
      (λ left' right' middle' is' spans s'.
      let same = cut_same phase.lattice box left' right' left right place at is' is in
      let ends : middle ≡ middle' = covers_ends left nodes middle middle' l spans in
      breaks_before right middle broken end r (subst (λ (m : List Node). Spans m end) same_middle i.2) other more part (subst (λ (b : Box). Stands phase.lattice b middle (other ∷ more) part) same.1 (subst (λ (m : List Node). Stands phase.lattice right' m (other ∷ more) part) (sym ends) s')) lt)

  -- ---- the verdict over the places

  pub right_from_covers : (nodes : List Node) → Covers phase potentials (full_box phase) nodes [] → (place : ℕ) → IsRightAt phase potentials nodes place
  right_from_covers nodes covers place node rest box e s = covers_right (full_box phase) nodes [] covers node rest box s

  pub wrong_from_breaks : (nodes broken : List Node) (place : ℕ) → Breaks phase potentials (full_box phase) nodes broken → Spans nodes [] → place + length broken ≡ length nodes → IsFirstWrong (IsRightAt phase potentials nodes) place
  wrong_from_breaks nodes broken place breaks spans e =
      let w = breaks_wrong (full_box phase) nodes broken [] breaks spans in
      let long : length broken ≡ suc (length w.rest) = ap length w.begins in
      record {
        wrong = λ right. w.wrong (right w.node w.rest w.part (omega arith) w.stands);
        before = λ k lt other more part at s. breaks_before (full_box phase) nodes broken [] breaks spans other more part s (omega arith);
      }

  -- ---- a tree of which all nodes are right covers

  pub covers_from_right : (box : Box) (nodes rest : List Node) → Spans nodes rest → ((node : Node) (more : List Node) (part : Box) → Stands phase.lattice box nodes (node ∷ more) part → IsRight phase potentials part node) → Covers phase potentials box nodes rest
  covers_from_right box _ _ (leaf multipliers rest some fine) right = end_covers box (Leaf multipliers) rest (right (Leaf multipliers) rest box (first box (Leaf multipliers ∷ rest))) tt
  covers_from_right box _ _ (affine multipliers rest some fine) right = end_covers box (Affine multipliers) rest (right (Affine multipliers) rest box (first box (Affine multipliers ∷ rest))) tt
  covers_from_right box _ _ (none rest) right = end_covers box Empty rest (right Empty rest box (first box (Empty ∷ rest))) tt
  covers_from_right box _ _ (cut place at nodes middle rest p q l r) right =
      let here : IsCuttable box place at = right (Split place at) nodes box (first box (Split place at ∷ nodes)) in
      let left_box : Box = tightened_box phase.lattice (placed_in place (left_range at here.range) box) in
      let right_box : Box = tightened_box phase.lattice (placed_in place (right_range at here.range) box) in
      let is : IsCut phase.lattice box place at left_box right_box = record { range = here.range; range_is = here.range_is; low = here.low; high = here.high; left_is = refl; right_is = refl } in
      split_covers box left_box right_box place at nodes middle rest is
      (covers_from_right left_box nodes middle l (λ node more part s. right node more part (in_left box left_box right_box part place at nodes (node ∷ more) is s)))
      (covers_from_right right_box middle rest r (λ node more part s. right node more part (in_right box left_box right_box part place at nodes middle (node ∷ more) is l s)))
