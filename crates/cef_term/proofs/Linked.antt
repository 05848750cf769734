-- A parameter's factor and divisor by its form.
use Rattle.std.proofs.Common.{◌≡◌, ℕ, zero, suc, ◌*◌, ◌^◌, ◌≤◌, List, [], ◌∷◌, map, refl, arith, ap, sym, Bool, true, false}
use Rattle.std.proofs.lemmas.Int.{ints}
use Rattle.std.proofs.Math.Nat.{pow-zero, pow-suc}
use Rattle.cef_core.specs.Parameters.{factor_of, factor_divisor}
use Rattle.cef_core.specs.Phases.{IsOrder, factor_degree}
use Rattle.cef_term.proofs.Ends.{least_power-zero, greatest_power-zero}
use Rattle.cef_term.specs.Bounds.{least_factor, greatest_factor}
use Rattle.cef_term.specs.Kept.{form_of, count_at, factor_at, least_factor_at, greatest_factor_at, factor_most}

abbrev pub counted : List ℕ → List (List ℕ) → List (List ℕ)
counted c lists = map (λ ps. map (λ p. count_at c p) ps) lists

pub record IsLinked (n v : ℕ) (w : Bool) (lists : List (List ℕ)) (c low high : List ℕ) : Type 0 where
  pub factor : factor_of n v w (counted c lists) ≡ factor_at (form_of n v w lists) c
  pub divisor : factor_divisor n v w (counted c lists) ≡ factor_most n (form_of n v w lists)
  pub degree : factor_most n (form_of n v w lists) ≤ 3 * n ^ factor_degree v w lists
  pub least : least_factor n v w (counted low lists) (counted high lists) ≡ least_factor_at (form_of n v w lists) low high
  pub greatest : greatest_factor n v w (counted low lists) (counted high lists) ≡ greatest_factor_at (form_of n v w lists) low high

one_high : (n : ℕ) → 1 ≤ 3 * n ^ 0
one_high n = omega (arith, pow-zero n)

some_high : (n v : ℕ) → n ^ v ≤ 3 * n ^ v
some_high n v = omega arith

three_high : (n : ℕ) → 3 * n ≤ 3 * n ^ 1
three_high n = omega (arith, pow-suc n 0, ap (λ (z : ℕ). z * n) (pow-zero n))

pub linked : (n v : ℕ) (w : Bool) (lists : List (List ℕ)) (c low high : List ℕ) → IsOrder v w lists → IsLinked n v w lists c low high
linked n v w [] c low high h = record { factor = refl; divisor = refl; degree = one_high n; least = refl; greatest = refl }
linked n zero w ((i ∷ j ∷ []) ∷ []) c low high h = record { factor = refl; divisor = pow-zero n; degree = one_high n; least = sym (least_power-zero _ _ 0 refl); greatest = sym (greatest_power-zero _ _ 0 refl) }
linked n (suc v) w ((i ∷ j ∷ []) ∷ []) c low high h = record { factor = refl; divisor = refl; degree = some_high n (suc v); least = refl; greatest = refl }
linked n zero true ((i ∷ j ∷ k ∷ []) ∷ []) c low high h = record { factor = omega (arith, ints); divisor = refl; degree = three_high n; least = omega (arith, ints); greatest = omega (arith, ints) }
linked n (suc zero) true ((i ∷ j ∷ k ∷ []) ∷ []) c low high h = record { factor = omega (arith, ints); divisor = refl; degree = three_high n; least = omega (arith, ints); greatest = omega (arith, ints) }
linked n (suc (suc zero)) true ((i ∷ j ∷ k ∷ []) ∷ []) c low high h = record { factor = omega (arith, ints); divisor = refl; degree = three_high n; least = omega (arith, ints); greatest = omega (arith, ints) }
linked n (suc (suc (suc v))) true ((i ∷ j ∷ k ∷ []) ∷ []) c low high h = absurd (omega (arith, h))
linked n zero false ((i ∷ j ∷ k ∷ []) ∷ []) c low high h = record { factor = refl; divisor = refl; degree = one_high n; least = refl; greatest = refl }
linked n (suc zero) false ((i ∷ j ∷ k ∷ []) ∷ []) c low high h = record { factor = refl; divisor = refl; degree = one_high n; least = refl; greatest = refl }
linked n (suc (suc v)) false ((i ∷ j ∷ k ∷ []) ∷ []) c low high h = record { factor = refl; divisor = refl; degree = one_high n; least = refl; greatest = refl }
linked n v w ((i ∷ j ∷ []) ∷ (k ∷ l ∷ []) ∷ []) c low high h = record { factor = refl; divisor = refl; degree = one_high n; least = refl; greatest = refl }
linked n v w ([] ∷ rest) c low high h = absurd h
linked n v w ((i ∷ []) ∷ rest) c low high h = absurd h
linked n v w ((i ∷ j ∷ []) ∷ [] ∷ rest) c low high h = absurd h
linked n v w ((i ∷ j ∷ []) ∷ (k ∷ []) ∷ rest) c low high h = absurd h
linked n v w ((i ∷ j ∷ []) ∷ (k ∷ l ∷ []) ∷ m ∷ rest) c low high h = absurd h
linked n v w ((i ∷ j ∷ []) ∷ (k ∷ l ∷ m ∷ more) ∷ rest) c low high h = absurd h
linked n v true ((i ∷ j ∷ k ∷ []) ∷ m ∷ rest) c low high h = absurd h
linked n v false ((i ∷ j ∷ k ∷ []) ∷ m ∷ rest) c low high h = absurd h
linked n v true ((i ∷ j ∷ k ∷ l ∷ more) ∷ rest) c low high h = absurd h
linked n v false ((i ∷ j ∷ k ∷ l ∷ more) ∷ rest) c low high h = absurd h
