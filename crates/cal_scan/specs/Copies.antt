-- A text with some of its bytes left out or replaced.
use Rattle.std.specs.Prelude.{ℕ, List, map, filter, cond, ◌==◌}
use Rattle.cal_scan.specs.FrontTokens.{is_solid}

unfoldable pub without_spaces : List ℕ → List ℕ
without_spaces text = filter is_solid text

-- each byte `from` as the byte `to`
unfoldable pub with_byte : ℕ → ℕ → List ℕ → List ℕ
with_byte from to text = map (λ b. cond (b == from) to b) text
