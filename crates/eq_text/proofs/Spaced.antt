-- lines as words behind a space each
use Rattle.std.proofs.Common.{◌≡◌, ℕ, zero, suc, Some, slice_get, add-one, List, [], ◌∷◌, ◌++◌, ◌+◌, ◌<◌, ◌≤◌, length, take, map, refl, sym, ap, ◌∙◌, append_assoc, arith}
use Rattle.std.specs.Prelude.{ℤ, codes, slice_index_or}
use Rattle.std.specs.List.{flat_map, join_with_byte}
use Rattle.std.specs.Fmt.{decimal, signed_decimal}
use Rattle.std.proofs.lemmas.List.{append-nil, take_all}
use Rattle.cal_scan.specs.Lines.{Word, line}
use Rattle.cef_report.specs.Texts.{number_words, counts_words, more_counts}
use Rattle.eq_text.specs.Spacing.{spaced, spelled, sublattice_words}

pub joined_words : (w : Word) (ws : List Word) → join_with_byte 32 (w ∷ ws) ≡ w ++ spelled ws
joined_words w [] = sym (append-nil w)
joined_words w (v ∷ ws) = ap (λ (z : List ℕ). w ++ 32 ∷ z) (joined_words v ws)

pub line_spaced : (w : Word) (ws : List Word) → line (w ∷ ws) ≡ w ++ spelled ws ++ 10 ∷ []
unfolding line
line_spaced w ws = ap (λ (z : List ℕ). z ++ 10 ∷ []) (joined_words w ws)

pub spelled-map : {A : Type 0} (f : A → Word) (xs : List A) → spelled (map f xs) ≡ flat_map (λ x. spaced (f x)) xs
spelled-map f [] = refl
spelled-map f (x ∷ xs) = ap (λ (z : List ℕ). spaced (f x) ++ z) (spelled-map f xs)

pub spelled-append : (vs ws : List Word) → spelled (vs ++ ws) ≡ spelled vs ++ spelled ws
spelled-append [] ws = refl
spelled-append (v ∷ vs) ws = ap (λ (z : List ℕ). spaced v ++ z) (spelled-append vs ws) ∙ sym (append_assoc (spaced v) (spelled vs) (spelled ws))

more_counts-append : (xs ys : List (List ℕ)) → more_counts (xs ++ ys) ≡ more_counts xs ++ more_counts ys
more_counts-append [] ys = refl
more_counts-append (x ∷ xs) ys = ap (λ (z : List Word). (codes ":" ∷ map decimal x) ++ z) (more_counts-append xs ys) ∙ sym (append_assoc (codes ":" ∷ map decimal x) (more_counts xs) (more_counts ys))

more_counts-next : (lists : List (List ℕ)) (place : ℕ) → place < length lists → more_counts (take (suc place) lists) ≡ more_counts (take place lists) ++ (codes ":" ∷ map decimal (slice_index_or lists place []))
more_counts-next [] place lt = absurd (omega arith)
more_counts-next (x ∷ xs) zero lt = append-nil (codes ":" ∷ map decimal x)
more_counts-next (x ∷ xs) (suc place) lt =
    ap (λ (z : List Word). (codes ":" ∷ map decimal x) ++ z) (more_counts-next xs place (omega arith)) ∙ sym (append_assoc (codes ":" ∷ map decimal x) (more_counts (take place xs)) (codes ":" ∷ map decimal (slice_index_or xs place [])))

next_words : (lists : List (List ℕ)) (place : ℕ) → place < length lists → counts_words (take (suc place) lists) ≡ counts_words (take place lists) ++ sublattice_words lists place
next_words [] place lt = absurd (omega arith)
next_words (x ∷ xs) zero lt = append-nil (map decimal x)
next_words (x ∷ xs) (suc place) lt =
    ap (λ (z : List Word). map decimal x ++ z) (more_counts-next xs place (omega arith)) ∙ sym (append_assoc (map decimal x) (more_counts (take place xs)) (codes ":" ∷ map decimal (slice_index_or xs place [])))

-- the words of one more sublattice
pub spelled-next : (lists : List (List ℕ)) (place : ℕ) → place < length lists → spelled (counts_words (take (place + 1) lists)) ≡ spelled (counts_words (take place lists)) ++ spelled (sublattice_words lists place)
spelled-next lists place lt =
    ap (λ (k : ℕ). spelled (counts_words (take k lists))) (add-one place) ∙ ap spelled (next_words lists place lt) ∙ spelled-append (counts_words (take place lists)) (sublattice_words lists place)

-- a key, words and a line feed
pub numbers_written : (key : Word) (vs : List ℤ) (i : ℕ) (old out new : List ℕ) → length vs ≤ i → out ≡ old ++ key ++ flat_map (λ v. spaced (signed_decimal v)) (take i vs) → new ≡ out ++ 10 ∷ [] → new ≡ old ++ line (number_words key vs)
numbers_written key vs i old out new le o n =
    let all : out ≡ old ++ key ++ spelled (map signed_decimal vs) =
    o ∙ ap (λ (ws : List ℤ). old ++ key ++ flat_map (λ v. spaced (signed_decimal v)) ws) (take_all i vs le) ∙ ap (λ (z : List ℕ). old ++ key ++ z) (sym (spelled-map signed_decimal vs)) in
    n ∙ ap (λ (z : List ℕ). z ++ 10 ∷ []) all ∙ rw (line_spaced key (map signed_decimal vs)) (simp append_assoc)

pub names_written : (key : Word) (names : List Word) (i : ℕ) (old out new : List ℕ) → length names ≤ i → out ≡ old ++ key ++ flat_map spaced (take i names) → new ≡ out ++ 10 ∷ [] → new ≡ old ++ line (key ∷ names)
names_written key names i old out new le o n =
    let all : out ≡ old ++ key ++ spelled names = o ∙ ap (λ (ws : List Word). old ++ key ++ flat_map spaced ws) (take_all i names le) in
    n ∙ ap (λ (z : List ℕ). z ++ 10 ∷ []) all ∙ rw (line_spaced key names) (simp append_assoc)

-- an entry
pub entry_written : (phase amount : Word) (lists : List (List ℕ)) (old a b c d new : List ℕ) → a ≡ old ++ codes "entry" → b ≡ a ++ spaced phase → c ≡ b ++ spaced amount → d ≡ c ++ spelled (counts_words lists) → new ≡ d ++ 10 ∷ [] →
    new ≡ old ++ line (codes "entry" ∷ phase ∷ amount ∷ counts_words lists)
entry_written phase amount lists old a b c d new e1 e2 e3 e4 e5 =
    e5 ∙ rw (e4, e3, e2, e1, line_spaced (codes "entry") (phase ∷ amount ∷ counts_words lists)) (simp append_assoc)

sublattice-counts : (lists : List (List ℕ)) (counts : List ℕ) (place : ℕ) → slice_get lists place ≡ Some counts → slice_index_or lists place [] ≡ counts
sublattice-counts [] counts place e = cc
sublattice-counts (x ∷ xs) counts zero e = cc
sublattice-counts (x ∷ xs) counts (suc place) e = sublattice-counts xs counts place e

-- the first sublattice, and each behind it
pub first_sublattice : (lists : List (List ℕ)) (counts old out new : List ℕ) (place : ℕ) → place ≡ 0 → slice_get lists place ≡ Some counts → out ≡ old → new ≡ out ++ flat_map (λ k. spaced (decimal k)) counts →
    new ≡ old ++ spelled (sublattice_words lists place)
first_sublattice lists counts old out new zero z e o n =
    n ∙ rw (o, sublattice-counts lists counts 0 e, spelled-map decimal counts) refl
first_sublattice lists counts old out new (suc place) z e o n = absurd (omega arith)

pub later_sublattice : (lists : List (List ℕ)) (counts old out new : List ℕ) (place : ℕ) → 0 < place → slice_get lists place ≡ Some counts → out ≡ old ++ spaced (codes ":") → new ≡ out ++ flat_map (λ k. spaced (decimal k)) counts →
    new ≡ old ++ spelled (sublattice_words lists place)
later_sublattice lists counts old out new zero lt e o n = absurd (omega arith)
later_sublattice lists counts old out new (suc place) lt e o n =
    n ∙ rw (o, sublattice-counts lists counts (suc place) e, spelled-map decimal counts) (append_assoc old (spaced (codes ":")) (flat_map (λ k. spaced (decimal k)) counts))
