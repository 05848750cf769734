-- Spaces and the bytes of names at the front of a text.
use Rattle.std.specs.Prelude.{ℕ, List, take, drop, Bool, ◌==◌}
use Rattle.std.specs.List.{prefix_len}
use Rattle.cal_scan.specs.Bytes.{is_name_byte}

abbrev pub is_space : ℕ → Bool
is_space b = b == 32

-- what is behind all spaces at the front of a text
unfoldable pub behind_spaces : List ℕ → List ℕ
behind_spaces text = drop (prefix_len is_space text) text

-- all letters, digits and `_` at the front of a text, and what is behind them
unfoldable pub name_bytes_at : List ℕ → List ℕ × List ℕ
name_bytes_at text = (take (prefix_len is_name_byte text) text, drop (prefix_len is_name_byte text) text)
