-- The lines of nodes, and nodes in preorder as spans.
use Rattle.std.proofs.Common.{◌≡◌, ℕ, zero, suc, ◌≤◌, ◌<◌, ◌^◌, ◌⊎◌, inl, inr, Bool, true, false, cond, List, [], ◌∷◌, length, map, Option, Some, None, refl, ap, subst, ◌∙◌, arith}
use Rattle.std.specs.Prelude.{ℤ, codes}
use Rattle.std.specs.List.{AllByRecursion}
use Rattle.std.specs.Fmt.{decimal, signed_decimal}
use Rattle.cal_limits.specs.declared.TheConstants.{MOST_COUNT, MOST_NUMBER}
use Rattle.cal_scan.specs.Words.{same_word}
use Rattle.cef_tree.specs.declared.tree.Node.{Node}
use Rattle.cef_tree.specs.declared.tree.Node.TheVariants.{Split, Leaf, Affine, Empty}
use Rattle.cef_report.specs.Spelled.{IsNumber, Spans}
use Rattle.cef_report.specs.Spelled.Spans.{leaf, affine, none, cut}
use Rattle.cal_scan.specs.Lines.{Word}
use Rattle.cef_report.specs.Texts.{node_words}
use Rattle.cal_lines.specs.Reading.{Runs}
use Rattle.cal_lines.specs.Words.{natural_of}
use Rattle.cal_lines.specs.Kinds.{all_integers}
use Rattle.cal_lines.proofs.Lines.{IsWords, Kind}
use Rattle.cal_lines.proofs.Numbers.{natural-found, natural-again, decimal_word}
use Rattle.cal_scan.proofs.NameLists.{same-found, same-again, cond_found}
use Rattle.cal_lines.proofs.Sorts.{words_from, plain_from, integers-found, integers-again, integers_plain}
use Rattle.eq_text.specs.Kinds.{leaf_made, affine_made, split_made, split_of, node_of}
use Rattle.eq_text.specs.Parsing.{node_next}

abbrev pub IsNode : Node → Type 0
IsNode (Split place at) = (place ≤ MOST_COUNT) × (at ≤ MOST_COUNT)
IsNode (Leaf vs) = (0 < length vs) × AllByRecursion IsNumber vs
IsNode (Affine vs) = (0 < length vs) × AllByRecursion IsNumber vs
IsNode Empty = Unit {0}

split-found : (p c : Word) (o u : Option ℕ) (n : Node) → natural_of MOST_COUNT p ≡ o → natural_of MOST_COUNT c ≡ u → split_made o u ≡ Some n → (codes "S" ∷ p ∷ c ∷ [] ≡ node_words n) × IsNode n
split-found p c None u n ep ec e = absurd cc
split-found p c (Some a) None n ep ec e = absurd cc
split-found p c (Some a) (Some b) n ep ec e =
    let same : Split a b ≡ n = cc in
    let f = natural-found MOST_COUNT a p (omega arith) ep in
    let g = natural-found MOST_COUNT b c (omega arith) ec in
    subst (λ (n : Node). (codes "S" ∷ p ∷ c ∷ [] ≡ node_words n) × IsNode n) same (rw (f.0, g.0) refl, (f.1, g.1))

wide : MOST_NUMBER < 10 ^ 64
wide = omega arith

some_numbers : (v : Word) (ws : List Word) (vs : List ℤ) → v ∷ ws ≡ map signed_decimal vs → 0 < length vs
some_numbers v ws [] e = absurd cc
some_numbers v ws (u ∷ us) e = omega arith

leaf-found : (v : Word) (ws : List Word) (o : Option (List ℤ)) (n : Node) → all_integers MOST_NUMBER (v ∷ ws) ≡ o → leaf_made o ≡ Some n → (codes "L" ∷ v ∷ ws ≡ node_words n) × IsNode n
leaf-found v ws None n is e = absurd cc
leaf-found v ws (Some vs) n is e =
    let same : Leaf vs ≡ n = cc in
    let f = integers-found MOST_NUMBER wide (v ∷ ws) vs is in
    subst (λ (n : Node). (codes "L" ∷ v ∷ ws ≡ node_words n) × IsNode n) same (ap (λ (t : List Word). codes "L" ∷ t) f.0, (some_numbers v ws vs f.0, f.1))

affine-found : (v : Word) (ws : List Word) (o : Option (List ℤ)) (n : Node) → all_integers MOST_NUMBER (v ∷ ws) ≡ o → affine_made o ≡ Some n → (codes "A" ∷ v ∷ ws ≡ node_words n) × IsNode n
affine-found v ws None n is e = absurd cc
affine-found v ws (Some vs) n is e =
    let same : Affine vs ≡ n = cc in
    let f = integers-found MOST_NUMBER wide (v ∷ ws) vs is in
    subst (λ (n : Node). (codes "A" ∷ v ∷ ws ≡ node_words n) × IsNode n) same (ap (λ (t : List Word). codes "A" ∷ t) f.0, (some_numbers v ws vs f.0, f.1))

pub cond_either : {A : Type 0} (b : Bool) (x y : Option A) (v : A) → cond b x y ≡ Some v → ((b ≡ true) × (x ≡ Some v)) ⊎ ((b ≡ false) × (y ≡ Some v))
cond_either true x y v e = inl (refl, e)
cond_either false x y v e = inr (refl, e)

split_by_rest : (w v : Word) (ws : List Word) (n : Node) → w ≡ codes "S" → split_of v ws ≡ Some n → (w ∷ v ∷ ws ≡ node_words n) × IsNode n
split_by_rest w v [] n is e = absurd cc
split_by_rest w v (c ∷ []) n is e = let f = split-found v c (natural_of MOST_COUNT v) (natural_of MOST_COUNT c) n refl refl e in (ap (λ (t : Word). t ∷ v ∷ c ∷ []) is ∙ f.0, f.1)
split_by_rest w v (c ∷ x ∷ ws) n is e = absurd cc

-- what two words or more say where the first is not that of a leaf
abbrev not_leaf : Word → Word → List Word → Option Node
not_leaf w v ws = cond (same_word w (codes "A")) (affine_made (all_integers MOST_NUMBER (v ∷ ws))) (cond (same_word w (codes "S")) (split_of v ws) None)

not_leaf-found : (w v : Word) (ws : List Word) (n : Node) → not_leaf w v ws ≡ Some n → (w ∷ v ∷ ws ≡ node_words n) × IsNode n
not_leaf-found w v ws n e =
    elim (cond_either (same_word w (codes "A")) (affine_made (all_integers MOST_NUMBER (v ∷ ws))) (cond (same_word w (codes "S")) (split_of v ws) None) n e) [
      | inl h ↦ let f = affine-found v ws (all_integers MOST_NUMBER (v ∷ ws)) n refl h.1 in (ap (λ (t : Word). t ∷ v ∷ ws) (same-found w (codes "A") h.0) ∙ f.0, f.1)
      | inr h ↦ let p = cond_found (same_word w (codes "S")) (split_of v ws) n h.1 in split_by_rest w v ws n (same-found w (codes "S") p.0) p.1
    ]

node-found : (ws : List Word) (n : Node) → node_of ws ≡ Some n → (ws ≡ node_words n) × IsNode n
unfolding node_of
node-found [] n e = absurd cc
node-found (w ∷ []) n e =
    let p = cond_found (same_word w (codes "E")) (Some Empty) n e in
    let same : Empty ≡ n = cc in
    subst (λ (n : Node). (w ∷ [] ≡ node_words n) × IsNode n) same (ap (λ (v : Word). v ∷ []) (same-found w (codes "E") p.0), tt)
node-found (w ∷ v ∷ ws) n e =
    elim (cond_either (same_word w (codes "L")) (leaf_made (all_integers MOST_NUMBER (v ∷ ws))) (not_leaf w v ws) n e) [
      | inl h ↦ let f = leaf-found v ws (all_integers MOST_NUMBER (v ∷ ws)) n refl h.1 in (ap (λ (t : Word). t ∷ v ∷ ws) (same-found w (codes "L") h.0) ∙ f.0, f.1)
      | inr h ↦ not_leaf-found w v ws n h.1
    ]

no_leaf : same_word (codes "S") (codes "L") ≡ false
unfolding same_word
no_leaf = refl

no_affine : same_word (codes "S") (codes "A") ≡ false
unfolding same_word
no_affine = refl

affine_no_leaf : same_word (codes "A") (codes "L") ≡ false
unfolding same_word
affine_no_leaf = refl

node-again : (n : Node) → IsNode n → node_of (node_words n) ≡ Some n
unfolding node_of
node-again (Split p c) fits = rw (no_leaf, no_affine, same-again (codes "S"), natural-again MOST_COUNT p (omega (arith, fits.0)) fits.0, natural-again MOST_COUNT c (omega (arith, fits.1)) fits.1) refl
node-again (Leaf []) fits = absurd (omega (arith, fits.0))
node-again (Leaf (v ∷ vs)) fits = rw (same-again (codes "L")) (ap leaf_made (integers-again MOST_NUMBER wide (v ∷ vs) fits.1))
node-again (Affine []) fits = absurd (omega (arith, fits.0))
node-again (Affine (v ∷ vs)) fits = rw (affine_no_leaf, same-again (codes "A")) (ap affine_made (integers-again MOST_NUMBER wide (v ∷ vs) fits.1))
node-again Empty fits = rw (same-again (codes "E")) refl

node-plain : (n : Node) → IsNode n → IsWords (node_words n)
node-plain (Split p c) fits = words_from (codes "S") (decimal p ∷ decimal c ∷ []) (plain_from (codes "S") refl) (decimal_word p (omega (arith, fits.0)), (decimal_word c (omega (arith, fits.1)), tt))
node-plain (Leaf vs) fits = words_from (codes "L") (map signed_decimal vs) (plain_from (codes "L") refl) (integers_plain MOST_NUMBER wide vs fits.1)
node-plain (Affine vs) fits = words_from (codes "A") (map signed_decimal vs) (plain_from (codes "A") refl) (integers_plain MOST_NUMBER wide vs fits.1)
node-plain Empty fits = plain_from (codes "E") refl

pub node_kind : Kind node_words IsNode node_of
node_kind = record { found = node-found; again = node-again; plain = node-plain; example = (Empty, tt) }

-- ---- the nodes of so many open subtrees, and boxes one behind another

-- the nodes of a box and then those of so many subtrees
pub runs_from_spans : (nodes rest : List Node) → Spans nodes rest → (beside : ℕ) → Runs node_next IsNode beside rest → Runs node_next IsNode (suc beside) nodes
runs_from_spans _ _ (leaf vs rest some numbers) beside runs = ((some, numbers), runs)
runs_from_spans _ _ (affine vs rest some numbers) beside runs = ((some, numbers), runs)
runs_from_spans _ _ (none rest) beside runs = (tt, runs)
runs_from_spans _ _ (cut place at ns middle rest p a first second) beside runs =
    ((p, a), runs_from_spans ns middle first (suc beside) (runs_from_spans middle rest second beside runs))

record Box (nodes : List Node) (beside : ℕ) : Type 0 where
  rest : List Node
  spans : Spans nodes rest
  runs : Runs node_next IsNode beside rest
  shorter : length rest < length nodes

box_within : (fuel : ℕ) (nodes : List Node) → length nodes ≤ fuel → (beside : ℕ) → Runs node_next IsNode (suc beside) nodes → Box nodes beside
box_within fuel [] le beside runs = absurd runs
box_within zero (n ∷ ns) le beside runs = absurd (omega (arith, le))
box_within (suc fuel) (Leaf vs ∷ ns) le beside runs = record { rest = ns; spans = leaf vs ns runs.0.0 runs.0.1; runs = runs.1; shorter = omega arith }
box_within (suc fuel) (Affine vs ∷ ns) le beside runs = record { rest = ns; spans = affine vs ns runs.0.0 runs.0.1; runs = runs.1; shorter = omega arith }
box_within (suc fuel) (Empty ∷ ns) le beside runs = record { rest = ns; spans = none ns; runs = runs.1; shorter = omega arith }
box_within (suc fuel) (Split place at ∷ ns) le beside runs =
    let first = box_within fuel ns (omega (arith, le)) (suc beside) runs.1 in
    let second = box_within fuel first.rest (omega (arith, le, first.shorter)) beside first.runs in
    record { rest = second.rest; spans = cut place at ns first.rest second.rest runs.0.0 runs.0.1 first.spans second.spans; runs = second.runs; shorter = omega (arith, first.shorter, second.shorter) }

pub spans_from_runs : (nodes : List Node) → Runs node_next IsNode 1 nodes → Spans nodes []
spans_from_runs nodes runs = let box = box_within (length nodes) nodes (omega arith) 0 runs in by_rest box.rest box.spans box.runs
  where
    by_rest : (rest : List Node) → Spans nodes rest → Runs node_next IsNode 0 rest → Spans nodes []
    by_rest [] spans runs = spans
    by_rest (n ∷ ns) spans runs = absurd runs
