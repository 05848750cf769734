-- The line of an entry or a node in the rules is its line in the text of the report.
use Rattle.std.proofs.Common.{◌≡◌, ℕ, zero, suc, ◌+◌, List, [], ◌∷◌, ◌++◌, length, map, slice_get, Some, refl, arith, ap, sym, ◌∙◌, subst, length-append}
use Rattle.std.specs.Prelude.{codes}
use Rattle.std.proofs.lemmas.List.{length-map}
use Rattle.cal_scan.specs.Lines.{Word, Line, line}
use Rattle.cef_tree.specs.declared.tree.Node.{Node}
use Rattle.cef_tree.specs.declared.tree.Tree.{Tree}
use Rattle.cef_report.specs.declared.entry.Entry.{Entry}
use Rattle.cef_report.specs.declared.report.Report.{Report}
use Rattle.cef_report.specs.Texts.{node_words, entry_words, number_words, number_line, tree_lines, head_lines, entry_lines, sum_lines, end_lines, lines}
use Rattle.eq_cert.specs.Places.{HasLines}
use Rattle.eq_cert.specs.Rules.{lines_before, node_line}

get_right : {A : Type 0} (xs ys : List A) (k n : ℕ) → n ≡ length xs + k → slice_get (xs ++ ys) n ≡ slice_get ys k
get_right [] ys k n e = let same : n ≡ k = omega arith in ap (slice_get ys) same
get_right (x ∷ xs) ys k zero e = absurd (omega arith)
get_right (x ∷ xs) ys k (suc n) e = get_right xs ys k n (omega arith)

get_left : {A : Type 0} (xs ys : List A) (k : ℕ) (x : A) → slice_get xs k ≡ Some x → slice_get (xs ++ ys) k ≡ Some x
get_left [] ys k x e = absurd cc
get_left (y ∷ xs) ys zero x e = e
get_left (y ∷ xs) ys (suc k) x e = get_left xs ys k x e

get_map : {A B : Type 0} (f : A → B) (xs : List A) (k : ℕ) (x : A) → slice_get xs k ≡ Some x → slice_get (map f xs) k ≡ Some (f x)
get_map f [] k x e = absurd cc
get_map f (y ∷ xs) zero x e = let same : y ≡ x = cc in ap (λ z. Some (f z)) same
get_map f (y ∷ xs) (suc k) x e = get_map f xs k x e

-- ---- how many lines each part has

length_head : (r : Report) → length (head_lines r) ≡ 6
unfolding head_lines
length_head r = refl

length_entries : (phases : List Word) (entries : List Entry) → length (entry_lines phases entries) ≡ 1 + length entries
unfolding entry_lines
length_entries phases entries = omega (arith, length-map entries (λ (entry : Entry). line (entry_words phases entry)))

length_sums : (r : Report) → length (sum_lines r) ≡ 5
unfolding sum_lines
length_sums r = refl

length_end : length end_lines ≡ 1
unfolding end_lines
length_end = refl

length_trees : (phases : List Word) (trees : List Tree) → length phases ≡ length trees → length (tree_lines phases trees) ≡ lines_before trees (length trees)
length_trees [] [] e = refl
length_trees [] (tree ∷ trees) e = absurd (omega (arith, e))
length_trees (phase ∷ phases) [] e = absurd (omega (arith, e))
length_trees (phase ∷ phases) (tree ∷ trees) e =
    omega (arith, length-append (map (λ node. line (node_words node)) tree.nodes) (tree_lines phases trees), length-map tree.nodes (λ node. line (node_words node)), length_trees phases trees (omega (arith, e)))

abbrev behind_sums : Report → List Line
behind_sums r = tree_lines r.phases r.trees ++ end_lines

abbrev behind_entries : Report → List Line
behind_entries r = sum_lines r ++ behind_sums r

abbrev behind_head : Report → List Line
behind_head r = entry_lines r.phases r.entries ++ behind_entries r

pub length_lines : (r : Report) → length r.phases ≡ length r.trees → length (lines r) ≡ node_line r (length r.trees)
length_lines r e =
    omega (
      arith,
      length-append (head_lines r) (behind_head r),
      length-append (entry_lines r.phases r.entries) (behind_entries r),
      length-append (sum_lines r) (behind_sums r),
      length-append (tree_lines r.phases r.trees) end_lines,
      length_head r,
      length_entries r.phases r.entries,
      length_sums r,
      length_trees r.phases r.trees e,
      length_end,
    )

-- ---- what stands at a line

tree_node_at : (phases : List Word) (trees : List Tree) (p place n : ℕ) (tree : Tree) (node : Node) → length phases ≡ length trees → slice_get trees p ≡ Some tree → slice_get tree.nodes place ≡ Some node → n ≡ lines_before trees p + place →
    slice_get (tree_lines phases trees) (suc n) ≡ Some (line (node_words node))
tree_node_at phases [] p place n tree node e is at f = absurd cc
tree_node_at [] (t ∷ trees) p place n tree node e is at f = absurd (omega arith)
tree_node_at (phase ∷ phases) (t ∷ trees) zero place n tree node e is at f =
    let same : t ≡ tree = cc in
    let here : n ≡ place = omega arith in
    let there : slice_get t.nodes n ≡ Some node = subst (λ (k : ℕ). slice_get t.nodes k ≡ Some node) (sym here) (subst (λ (x : Tree). slice_get x.nodes place ≡ Some node) (sym same) at) in
    get_left (map (λ node. line (node_words node)) t.nodes) (tree_lines phases trees) n _ (get_map (λ node. line (node_words node)) t.nodes n node there)
tree_node_at (phase ∷ phases) (t ∷ trees) (suc p) place n tree node e is at f =
    get_right (map (λ node. line (node_words node)) t.nodes) (tree_lines phases trees) (suc (lines_before trees p + place)) n (omega (arith, length-map t.nodes (λ node. line (node_words node))))
    ∙ tree_node_at phases trees p place (lines_before trees p + place) tree node (omega arith) is at refl

pub node_at_line : (r : Report) (p place : ℕ) (tree : Tree) (node : Node) → length r.phases ≡ length r.trees → slice_get r.trees p ≡ Some tree → slice_get tree.nodes place ≡ Some node →
    slice_get (lines r) (node_line r p + place) ≡ Some (line (node_words node))
node_at_line r p place tree node e is at =
    let n : ℕ = lines_before r.trees p + place in
    get_right (head_lines r) (behind_head r) (7 + length r.entries + n) (node_line r p + place) (omega (arith, length_head r))
    ∙ get_right (entry_lines r.phases r.entries) (behind_entries r) (6 + n) (7 + length r.entries + n) (omega (arith, length_entries r.phases r.entries))
    ∙ get_right (sum_lines r) (behind_sums r) (suc n) (6 + n) (omega (arith, length_sums r))
    ∙ get_left (tree_lines r.phases r.trees) end_lines (suc n) (line (node_words node)) (tree_node_at r.phases r.trees p place n tree node e is at refl)

entry_in_lines : (phases : List Word) (entries : List Entry) (k : ℕ) (entry : Entry) → slice_get entries k ≡ Some entry → slice_get (entry_lines phases entries) (suc k) ≡ Some (line (entry_words phases entry))
unfolding entry_lines
entry_in_lines phases entries k entry is = get_map (λ entry. line (entry_words phases entry)) entries k entry is

pub entry_at_line : (r : Report) (k : ℕ) (entry : Entry) → slice_get r.entries k ≡ Some entry → slice_get (lines r) (7 + k) ≡ Some (line (entry_words r.phases entry))
entry_at_line r k entry is =
    get_right (head_lines r) (behind_head r) (suc k) (7 + k) (omega (arith, length_head r))
    ∙ get_left (entry_lines r.phases r.entries) (behind_entries r) (suc k) (line (entry_words r.phases entry)) (entry_in_lines r.phases r.entries k entry is)

-- ---- the other lines

head_at : (r : Report) (k : ℕ) (text : Line) → slice_get (head_lines r) k ≡ Some text → slice_get (lines r) k ≡ Some text
head_at r k text is = get_left (head_lines r) (behind_head r) k text is

sum_at : (r : Report) (k : ℕ) (text : Line) → slice_get (sum_lines r) k ≡ Some text → slice_get (lines r) (7 + length r.entries + k) ≡ Some text
sum_at r k text is =
    get_right (head_lines r) (behind_head r) (1 + length r.entries + k) (7 + length r.entries + k) (omega (arith, length_head r))
    ∙ get_right (entry_lines r.phases r.entries) (behind_entries r) k (1 + length r.entries + k) (omega (arith, length_entries r.phases r.entries))
    ∙ get_left (sum_lines r) (behind_sums r) k text is

at_place : (r : Report) (n k : ℕ) (text : Line) → n ≡ k → slice_get (lines r) k ≡ Some text → slice_get (lines r) n ≡ Some text
at_place r n k text e is = ap (slice_get (lines r)) e ∙ is

pub lines_stand : (r : Report) → length r.phases ≡ length r.trees → HasLines r
unfolding head_lines sum_lines
lines_stand r e = record {
  elements = head_at r 3 (line (codes "elements" ∷ r.elements)) refl;
  phases = head_at r 4 (line (codes "phases" ∷ r.phases)) refl;
  entries = λ k entry is. entry_at_line r k entry is;
  totals = at_place r (7 + length r.entries) (7 + length r.entries + 0) _ (omega arith) (sum_at r 0 (line (number_words (codes "total") r.totals)) refl);
  energy = at_place r (8 + length r.entries) (7 + length r.entries + 1) _ (omega arith) (sum_at r 1 (number_line (codes "energy") r.energy) refl);
  tolerance = at_place r (9 + length r.entries) (7 + length r.entries + 2) _ (omega arith) (sum_at r 2 (number_line (codes "tolerance") r.tolerance) refl);
  gap = at_place r (10 + length r.entries) (7 + length r.entries + 3) _ (omega arith) (sum_at r 3 (number_line (codes "gap") r.gap) refl);
  potentials = at_place r (11 + length r.entries) (7 + length r.entries + 4) _ (omega arith) (sum_at r 4 (line (number_words (codes "potentials") r.potentials)) refl);
  nodes = λ p place tree node is at. node_at_line r p place tree node e is at;
}
