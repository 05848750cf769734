-- The first token of a text, which is its first run of bytes that are no spaces.
use Rattle.std.specs.Prelude.{ℕ, List, drop, Bool, not, ◌==◌}
use Rattle.std.specs.List.{prefix_len, take_while}
use Rattle.cal_scan.specs.Fronts.{behind_spaces}

abbrev pub is_solid : ℕ → Bool
is_solid b = not (b == 32)

-- nothing, where the text is all spaces
unfoldable pub first_token : List ℕ → List ℕ
first_token text = take_while is_solid (behind_spaces text)

-- what stands behind the first token
unfoldable pub behind_token : List ℕ → List ℕ
behind_token text = drop (prefix_len is_solid (behind_spaces text)) (behind_spaces text)
