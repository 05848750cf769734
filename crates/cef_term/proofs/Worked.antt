-- The bounds at worked examples, by computing.
use Rattle.std.proofs.Common.{◌≡◌, ℕ, List, [], ◌∷◌, refl, true, false}
use Rattle.std.specs.Prelude.{ℤ, pos, negsuc}
use Rattle.cef_kind.specs.declared.kind.Kind.TheVariants.{G}
use Rattle.cef_core.specs.declared.phase.ParamAt.{ParamAt}
use Rattle.cef_box.specs.declared.range.Range.{Range}
use Rattle.cef_term.specs.Bounds.{parameter_low, parameter_high, value_of, low_of, high_of, least_product, greatest_product, least_power, greatest_power, least_by, greatest_by, least_even, greatest_even}

-- a binary interaction of order 1 with 10^9 µJ on a lattice of 10, over the box of 2 to 4 and 6 to 8
first_order : ParamAt
first_order = record { kind = G; micro = pos 1000000000; array = (0 ∷ 1 ∷ []) ∷ []; order = 1; weighted = false }

first_box : List (List Range)
first_box = (record { low = 2; high = 4 } ∷ record { low = 6; high = 8 } ∷ []) ∷ []

first_order_low : parameter_low 10 first_order first_box ≡ negsuc 191999999
unfolding parameter_low first_order first_box low_of high_of value_of least_product greatest_product least_power greatest_power least_by greatest_by least_even greatest_even
first_order_low = refl

first_order_high : parameter_high 10 first_order first_box ≡ negsuc 23999999
unfolding parameter_high first_order first_box low_of high_of value_of least_product greatest_product least_power greatest_power least_by greatest_by least_even greatest_even
first_order_high = refl
