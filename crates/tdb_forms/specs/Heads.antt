-- The name of a phase, with its suffix.
use Rattle.std.specs.Prelude.{ℕ, List, [], cond, ◌&&◌, Option, Some, None}
use Rattle.cal_scan.specs.Words.{is_name}
use Rattle.cal_scan.specs.Constituents.{is_letters}
use Rattle.cal_scan.specs.Cuts.{cut_at}

abbrev pub head_from : List ℕ → Option (List ℕ × List ℕ) → Option (List ℕ × List ℕ)
head_from text None = cond (is_name text) (Some (text, [])) None
head_from text (Some (name, suffix)) = cond (is_name name && is_letters suffix) (Some (name, suffix)) None

-- a name, or a name, `:` and letters
unfoldable pub head_of : List ℕ → Option (List ℕ × List ℕ)
head_of text = head_from text (cut_at 58 text)
