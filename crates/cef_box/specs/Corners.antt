-- The corner point of a box: its lows, raised in order.
use Rattle.std.specs.Prelude.{ℕ, ◌+◌, ◌-◌, min, List, [], ◌∷◌}
use Rattle.cef_box.specs.declared.range.Range.{Range}
use Rattle.cef_box.specs.Tight.{lows}

-- all lows, raised in order as far as their highs allow until `spare` is spent
abbrev pub raised : ℕ → List Range → List ℕ
raised spare [] = []
raised spare (r ∷ row) = (r.low + min (r.high - r.low) spare) ∷ raised (spare - min (r.high - r.low) spare) row

abbrev pub corner : ℕ → List Range → List ℕ
corner n row = raised (n - lows row) row

abbrev pub corner_site : ℕ → List (List Range) → List (List ℕ)
corner_site n [] = []
corner_site n (row ∷ rows) = corner n row ∷ corner_site n rows
