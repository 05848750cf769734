-- the parts of a text one behind the other
use Rattle.std.proofs.Common.{◌≡◌, ℕ, zero, suc, List, [], ◌∷◌, ◌++◌, ◌+◌, ◌<◌, ◌≤◌, length, take, map, refl, sym, ap, ◌∙◌, append_assoc, arith, add-one}
use Rattle.std.specs.Prelude.{codes, slice_index_or}
use Rattle.std.specs.List.{flat_map, concat}
use Rattle.std.specs.Fmt.{decimal}
use Rattle.std.proofs.lemmas.List.{append-nil, take_all}
use Rattle.cef_report.specs.declared.entry.Entry.{Entry}
use Rattle.cef_tree.specs.declared.tree.Tree.{Tree}
use Rattle.cal_scan.specs.Lines.{Word, Line, line}
use Rattle.cef_report.specs.Texts.{node_words, entry_words, entry_lines, tree_lines}

pub concat-append : (xs ys : List Line) → concat (xs ++ ys) ≡ concat xs ++ concat ys
concat-append [] ys = refl
concat-append (x ∷ xs) ys = ap (λ (z : List ℕ). x ++ z) (concat-append xs ys) ∙ sym (append_assoc x (concat xs) (concat ys))

pub concat-map : {A : Type 0} (f : A → Line) (xs : List A) → concat (map f xs) ≡ flat_map f xs
concat-map f [] = refl
concat-map f (x ∷ xs) = ap (λ (z : List ℕ). f x ++ z) (concat-map f xs)

pub five_lines : (a b c d e old o1 o2 o3 o4 new : List ℕ) → o1 ≡ old ++ a → o2 ≡ o1 ++ b → o3 ≡ o2 ++ c → o4 ≡ o3 ++ d → new ≡ o4 ++ e → new ≡ old ++ concat (a ∷ b ∷ c ∷ d ∷ e ∷ [])
five_lines a b c d e old o1 o2 o3 o4 new e1 e2 e3 e4 e5 = e5 ∙ rw (e4, e3, e2, e1) (simp (append_assoc, append-nil))

pub six_lines : (a b c d e f old o1 o2 o3 o4 o5 new : List ℕ) → o1 ≡ old ++ a → o2 ≡ o1 ++ b → o3 ≡ o2 ++ c → o4 ≡ o3 ++ d → o5 ≡ o4 ++ e → new ≡ o5 ++ f → new ≡ old ++ concat (a ∷ b ∷ c ∷ d ∷ e ∷ f ∷ [])
six_lines a b c d e f old o1 o2 o3 o4 o5 new e1 e2 e3 e4 e5 e6 = e6 ∙ rw (e5, e4, e3, e2, e1) (simp (append_assoc, append-nil))

-- the lines of one more tree
next_tree : (phases : List Word) (trees : List Tree) (place : ℕ) (d : Tree) → place < length phases → place < length trees →
    tree_lines (take (suc place) phases) (take (suc place) trees)
    ≡ tree_lines (take place phases) (take place trees) ++ (line (codes "tree" ∷ slice_index_or phases place [] ∷ []) ∷ map (λ node. line (node_words node)) (slice_index_or trees place d).nodes)
next_tree [] trees place d p t = absurd (omega arith)
next_tree (n ∷ phases) [] place d p t = absurd (omega arith)
next_tree (n ∷ phases) (x ∷ trees) zero d p t = append-nil (line (codes "tree" ∷ n ∷ []) ∷ map (λ node. line (node_words node)) x.nodes)
next_tree (n ∷ phases) (x ∷ trees) (suc place) d p t =
    ap (λ (z : List Line). (line (codes "tree" ∷ n ∷ []) ∷ map (λ node. line (node_words node)) x.nodes) ++ z) (next_tree phases trees place d (omega arith) (omega arith))
    ∙ sym (append_assoc (line (codes "tree" ∷ n ∷ []) ∷ map (λ node. line (node_words node)) x.nodes) (tree_lines (take place phases) (take place trees)) (line (codes "tree" ∷ slice_index_or phases place [] ∷ []) ∷ map (λ node. line (node_words node)) (slice_index_or trees place d).nodes))

pub trees-next : (phases : List Word) (trees : List Tree) (place : ℕ) (phase : Word) (tree : Tree) (old out new : List ℕ) → place < length phases → place < length trees → slice_index_or phases place [] ≡ phase → slice_index_or trees place tree ≡ tree →
    out ≡ old ++ concat (tree_lines (take place phases) (take place trees)) → new ≡ out ++ line (codes "tree" ∷ phase ∷ []) ++ flat_map (λ node. line (node_words node)) tree.nodes →
    new ≡ old ++ concat (tree_lines (take (place + 1) phases) (take (place + 1) trees))
trees-next phases trees place phase tree old out new p t is_phase is_tree o n =
    let first : Line = line (codes "tree" ∷ phase ∷ []) in
    let nodes : List ℕ = flat_map (λ node. line (node_words node)) tree.nodes in
    let before : List ℕ = concat (tree_lines (take place phases) (take place trees)) in
    let next : concat (tree_lines (take (suc place) phases) (take (suc place) trees)) ≡ before ++ (first ++ nodes) =
    ap concat (next_tree phases trees place tree p t)
    ∙ concat-append (tree_lines (take place phases) (take place trees)) _
    ∙ rw (is_phase, is_tree) (ap (λ (z : List ℕ). before ++ (first ++ z)) (concat-map (λ node. line (node_words node)) tree.nodes)) in
    let whole : concat (tree_lines (take (place + 1) phases) (take (place + 1) trees)) ≡ before ++ (first ++ nodes) = ap (λ (k : ℕ). concat (tree_lines (take k phases) (take k trees))) (add-one place) ∙ next in
    n ∙ rw (o, whole) (simp append_assoc)

pub trees-none : (phases : List Word) (trees : List Tree) (old : List ℕ) → old ≡ old ++ concat (tree_lines (take 0 phases) (take 0 trees))
trees-none phases trees old = sym (append-nil old)

pub entries_written : (phases : List Word) (entries : List Entry) (i : ℕ) (old out : List ℕ) → length entries ≤ i →
    out ≡ old ++ line (codes "entries" ∷ decimal (length entries) ∷ []) ++ flat_map (λ entry. line (entry_words phases entry)) (take i entries) → out ≡ old ++ concat (entry_lines phases entries)
unfolding entry_lines
entries_written phases entries i old out le o =
    o ∙ rw (take_all i entries le, concat-map (λ entry. line (entry_words phases entry)) entries) (append_assoc old _ _)

-- parts one behind the other
pub five_parts : (a b c d e : List Line) (old o1 o2 o3 o4 new : List ℕ) → o1 ≡ old ++ concat a → o2 ≡ o1 ++ concat b → o3 ≡ o2 ++ concat c → o4 ≡ o3 ++ concat d → new ≡ o4 ++ concat e
    → new ≡ old ++ concat (a ++ (b ++ (c ++ (d ++ e))))
five_parts a b c d e old o1 o2 o3 o4 new e1 e2 e3 e4 e5 =
    e5 ∙ rw (e4, e3, e2, e1, concat-append a (b ++ (c ++ (d ++ e))), concat-append b (c ++ (d ++ e)), concat-append c (d ++ e), concat-append d e) (simp append_assoc)
