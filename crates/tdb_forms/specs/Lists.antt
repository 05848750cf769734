-- Lists of constituents, with commas between them.
use Rattle.std.specs.Prelude.{ℕ, ◌+◌, List, [], ◌∷◌, length, drop, map, codes, Bool, true, false, not, cond, ◌&&◌, ◌==◌, Option, Some, None, unwrap_or}
use Rattle.std.specs.List.{list_all, list_any}
use Rattle.cal_scan.specs.Bytes.{is_letter}
use Rattle.cal_scan.specs.Words.{same_word, before}
use Rattle.cal_scan.specs.Names.{same_name}
use Rattle.cal_scan.specs.Constituents.{is_constituent}
use Rattle.cal_scan.specs.Cuts.{parts_at}
use Rattle.tdb_forms.specs.Finding.{each}

-- no name is that of one behind it
unfoldable pub is_distinct : List (List ℕ) → Bool
is_distinct [] = true
is_distinct (x ∷ xs) = not (list_any (same_name x) xs) && is_distinct xs

-- ---- the constituents of a sublattice of a phase

-- an item without the `%` at its end, which has no effect
abbrev pub without_percent : List ℕ → List ℕ
without_percent item = unwrap_or (before (codes "%") item) item

abbrev pub names_in : List ℕ → List (List ℕ)
names_in text = map without_percent (parts_at 44 text)

-- constituents with commas between them, each with an optional `%` behind it; none stands twice
unfoldable pub constituents_of : List ℕ → Option (List (List ℕ))
constituents_of text = cond (list_all is_constituent (names_in text) && is_distinct (names_in text)) (Some (names_in text)) None

abbrev pub begins_with_letter : List (List ℕ) → Bool
begins_with_letter ((b ∷ []) ∷ lists) = is_letter b
begins_with_letter _ = false

-- for n sublattices: of one list more, the first is dropped where it is one single letter and its `:` stands directly behind the name
abbrev pub kept_lists : ℕ → Bool → List (List ℕ) → List (List ℕ)
kept_lists n direct lists = cond (length lists == n + 1 && (direct && begins_with_letter lists)) (drop 1 lists) lists

-- the last `:` may be missing
abbrev pub without_last_colon : List ℕ → List ℕ
without_last_colon text = unwrap_or (before (codes ":") text) text

-- n lists of constituents with `:` between them
unfoldable pub sites_of : ℕ → Bool → List ℕ → Option (List (List (List ℕ)))
sites_of n direct text =
    let lists = kept_lists n direct (parts_at 58 (without_last_colon text)) in
    cond (length lists == n) (each constituents_of lists) None

-- ---- the array of a parameter

abbrev pub plain_list : List (List ℕ) → Option (List (List ℕ))
plain_list names = cond (list_all is_constituent names) (Some names) None

-- `*`, or constituents with commas between them
unfoldable pub array_list : List ℕ → Option (List (List ℕ))
array_list text = cond (same_word text (codes "*")) (Some []) (plain_list (parts_at 44 text))

-- such lists with `:` between them
unfoldable pub array_of : List ℕ → Option (List (List (List ℕ)))
array_of text = each array_list (parts_at 58 text)
