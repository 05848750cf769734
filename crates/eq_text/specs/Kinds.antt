-- What the words of each kind of line of a report say.
use Rattle.std.specs.Prelude.{ℕ, ◌+◌, List, [], ◌∷◌, ◌++◌, length, Option, Some, None, Bool, true, false, cond, ◌&&◌, ◌==◌, nat_lt, nat_le, ℤ, pos, negsuc, codes}
use Rattle.std.specs.List.{position, list_all, concat}
use Rattle.cal_limits.specs.declared.TheConstants.{LOWEST_TEMPERATURE, HIGHEST_TEMPERATURE, MOST_PARTS, MOST_ASKED, MOST_SUBLATTICES, MOST_SITES, MOST_COUNT, MOST_ENTRIES, MOST_NUMBER}
use Rattle.cal_scan.specs.Words.{same_word}
use Rattle.cal_scan.specs.Lines.{Word}
use Rattle.cef_core.specs.Lattices.{is_lattice}
use Rattle.cef_report.specs.declared.entry.Entry.{Entry}
use Rattle.cef_tree.specs.declared.tree.Node.{Node}
use Rattle.cef_tree.specs.declared.tree.Node.TheVariants.{Split, Leaf, Affine, Empty}
use Rattle.cal_lines.specs.Words.{natural_of, integer_of}
use Rattle.cal_lines.specs.Kinds.{all_integers, if_some, with_count}

-- a value that passes the test
abbrev pub only_if : {A : Type 0} → (A → Bool) → Option A → Option A
only_if test None = None
only_if test (Some a) = cond (test a) (Some a) None

-- ---- lines of one or two fixed words

abbrev pub two_words_of : Word → Word → List Word → Option (Unit {0})
two_words_of first second (w ∷ v ∷ []) = cond (same_word w first) (cond (same_word v second) (Some tt) None) None
two_words_of first second _ = None

abbrev pub end_of : List Word → Option (Unit {0})
end_of (w ∷ []) = cond (same_word w (codes "end")) (Some tt) None
end_of _ = None

-- ---- a word and a number

abbrev pub natural_after : Word → ℕ → List Word → Option ℕ
natural_after key limit (w ∷ n ∷ []) = cond (same_word w key) (natural_of limit n) None
natural_after key limit _ = None

abbrev pub is_temperature : ℕ → Bool
is_temperature t = nat_le LOWEST_TEMPERATURE t

unfoldable pub temperature_of : List Word → Option ℕ
temperature_of ws = only_if is_temperature (natural_after (codes "temperature") HIGHEST_TEMPERATURE ws)

unfoldable pub lattice_of : List Word → Option ℕ
lattice_of ws = only_if is_lattice (natural_after (codes "lattice") MOST_PARTS ws)

unfoldable pub count_of : List Word → Option ℕ
count_of ws = natural_after (codes "entries") MOST_ENTRIES ws

abbrev pub integer_after : Word → ℕ → List Word → Option ℤ
integer_after key limit (w ∷ n ∷ []) = cond (same_word w key) (integer_of limit n) None
integer_after key limit _ = None

-- not below 0
abbrev pub is_natural : ℤ → Bool
is_natural (pos n) = true
is_natural (negsuc n) = false

-- a number that is not below 0
unfoldable pub size_after : Word → ℕ → List Word → Option ℤ
size_after key limit ws = only_if is_natural (integer_after key limit ws)

-- ---- a word and so many numbers

abbrev pub integers_after : Word → ℕ → ℕ → List Word → Option (List ℤ)
integers_after key n limit [] = None
integers_after key n limit (w ∷ ws) = cond (same_word w key) (cond (length ws == n) (all_integers limit ws) None) None

unfoldable pub asked_of : ℕ → List Word → Option (List ℤ)
asked_of n ws = only_if (list_all is_natural) (integers_after (codes "asked") n MOST_ASKED ws)

-- ---- an entry

-- counts, cut at each word `:`; the sublattices so far, and the one that is open
unfoldable pub parts : List (List ℕ) → List ℕ → List Word → Option (List (List ℕ))
parts done part [] = if_some part (Some (done ++ part ∷ []))
parts done part (w ∷ ws) = cond (same_word w (codes ":")) (if_some part (parts (done ++ part ∷ []) [] ws)) (with_count (natural_of MOST_COUNT w) (λ n. parts done (part ++ n ∷ []) ws))

abbrev pub is_small : List (List ℕ) → Bool
is_small site = nat_le (length site) MOST_SUBLATTICES && nat_le (length (concat site)) MOST_SITES

-- the most counts, and a word between the most sublattices, are fewer words than this
unfoldable pub site_of : List Word → Option (List (List ℕ))
site_of ws = cond (nat_lt (length ws) (MOST_SITES + MOST_SUBLATTICES)) (only_if is_small (parts [] [] ws)) None

abbrev pub is_positive : ℤ → Bool
is_positive (pos n) = nat_lt 0 n
is_positive (negsuc n) = false

unfoldable pub amount_of : Word → Option ℤ
amount_of w = only_if is_positive (integer_of MOST_ASKED w)

unfoldable pub place_of : Word → List Word → Option ℕ
place_of w phases = position (λ phase. same_word phase w) phases

abbrev pub entry_made : Option ℕ → Option ℤ → Option (List (List ℕ)) → Option Entry
entry_made None a site = None
entry_made (Some i) None site = None
entry_made (Some i) (Some a) None = None
entry_made (Some i) (Some a) (Some site) = Some (record { phase = i; amount = a; site = site })

unfoldable pub entry_of : List Word → List Word → Option Entry
entry_of phases (w ∷ p ∷ a ∷ counts) = cond (same_word w (codes "entry")) (entry_made (place_of p phases) (amount_of a) (site_of counts)) None
entry_of phases _ = None

-- ---- a node

abbrev pub leaf_made : Option (List ℤ) → Option Node
leaf_made None = None
leaf_made (Some multipliers) = Some (Leaf multipliers)

abbrev pub affine_made : Option (List ℤ) → Option Node
affine_made None = None
affine_made (Some multipliers) = Some (Affine multipliers)

abbrev pub split_made : Option ℕ → Option ℕ → Option Node
split_made None cut = None
split_made (Some place) None = None
split_made (Some place) (Some cut) = Some (Split place cut)

abbrev pub split_of : Word → List Word → Option Node
split_of place (cut ∷ []) = split_made (natural_of MOST_COUNT place) (natural_of MOST_COUNT cut)
split_of place _ = None

unfoldable pub node_of : List Word → Option Node
node_of [] = None
node_of (w ∷ []) = cond (same_word w (codes "E")) (Some Empty) None
node_of (w ∷ v ∷ ws) =
    cond (same_word w (codes "L")) (leaf_made (all_integers MOST_NUMBER (v ∷ ws)))
    (cond (same_word w (codes "A")) (affine_made (all_integers MOST_NUMBER (v ∷ ws)))
    (cond (same_word w (codes "S")) (split_of v ws) None))
