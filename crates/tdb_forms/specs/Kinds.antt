-- The kinds of parameters.
use Rattle.std.specs.Prelude.{ℕ, List, [], ◌∷◌, codes, Bool, false, cond, ◌&&◌, ◌||◌, Option, Some, None}
use Rattle.std.specs.List.{list_all}
use Rattle.cal_scan.specs.Bytes.{is_letter, is_digit}
use Rattle.cal_scan.specs.Words.{same_word}
use Rattle.cal_scan.specs.Constituents.{is_constituent}
use Rattle.cal_scan.specs.Cuts.{cut_at}
use Rattle.cef_kind.specs.declared.kind.Kind.{Kind}
use Rattle.cef_kind.specs.declared.kind.Kind.TheVariants.{G, Tc, Beta, Unread, Other}

abbrev pub is_kind_byte : ℕ → Bool
is_kind_byte b = is_letter b || is_digit b

-- letters and digits
unfoldable pub is_kind_word : List ℕ → Bool
is_kind_word [] = false
is_kind_word (b ∷ bs) = list_all is_kind_byte (b ∷ bs)

-- the mobilities and diffusion data, with a constituent or without
abbrev pub is_mobility : List ℕ → Bool
is_mobility word = same_word word (codes "MQ") || (same_word word (codes "MF") || (same_word word (codes "DQ") || same_word word (codes "DF")))

-- volume
abbrev pub is_volume : List ℕ → Bool
is_volume word = same_word word (codes "V0") || (same_word word (codes "VA") || same_word word (codes "VS"))

-- L is G, and BMAG is BMAGN
unfoldable pub kind_name : List ℕ → List ℕ
kind_name word = cond (same_word word (codes "L")) (codes "G") (cond (same_word word (codes "BMAG")) (codes "BMAGN") word)

-- what a parameter of a kind of this name adds to
unfoldable pub plain_kind : List ℕ → Kind
plain_kind name =
    cond (same_word name (codes "G")) G
    (cond (same_word name (codes "TC")) Tc
    (cond (same_word name (codes "BMAGN")) Beta
    (cond (is_mobility name || is_volume name) Unread Other)))

abbrev pub kind_from : List ℕ → Option (List ℕ × List ℕ) → Option (Kind × List ℕ)
kind_from text None = cond (is_kind_word text) (Some (plain_kind (kind_name text), kind_name text)) None
kind_from text (Some (word, constituent)) =
    cond (is_kind_word word && is_constituent constituent) (Some (cond (is_mobility word) Unread Other, text)) None

-- letters and digits, then optionally `&` and a constituent: the kind, and its name in a key
unfoldable pub kind_of : List ℕ → Option (Kind × List ℕ)
kind_of text = kind_from text (cut_at 38 text)
