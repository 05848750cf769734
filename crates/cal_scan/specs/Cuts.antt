-- A text cut at a byte.
use Rattle.std.specs.Prelude.{ℕ, ◌+◌, List, take, drop, Option, ◌==◌, position}
use Rattle.std.specs.List.{slice_split}
use Rattle.std.specs.Option.{option_map}

-- what stands before and behind the first such byte, where there is one
unfoldable pub cut_at : ℕ → List ℕ → Option (List ℕ × List ℕ)
cut_at mark text = option_map (λ place. (take place text, drop (place + 1) text)) (position (λ b. b == mark) text)

-- the parts between such bytes
unfoldable pub parts_at : ℕ → List ℕ → List (List ℕ)
parts_at mark text = slice_split (λ b. b == mark) text
