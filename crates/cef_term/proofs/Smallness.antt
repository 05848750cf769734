-- The factor of a parameter has 62 bits: there are two counts or more before it, and the order is a digit.
use Rattle.std.proofs.Common.{◌≡◌, ℕ, zero, suc, ◌*◌, ◌^◌, ◌≤◌, List, [], ◌∷◌, length, arith, refl, inl, inr, Bool, true, false}
use Rattle.std.specs.Prelude.{nat_lt}
use Rattle.std.specs.List.{concat}
use Rattle.std.proofs.lemmas.Bool.{cases_lt}
use Rattle.std.proofs.lemmas.List.{length-append}
use Rattle.std.proofs.lemmas.Nat.{mul-le}
use Rattle.std.proofs.Math.Nat.{pow-le-pow_left, pow-le-pow_right}
use Rattle.cef_core.specs.Parameters.{interacting}
use Rattle.cef_core.specs.Phases.{IsOrder}
use Rattle.cef_term.specs.Kept.{form_of, factor_most}

-- lists of two or more are among all lists
pub interacting_within : (lists : List (List ℕ)) → length (concat (interacting lists)) ≤ length (concat lists)
interacting_within [] = omega arith
interacting_within (l ∷ lists) = by (nat_lt 1 (length l)) refl (interacting_within lists)
  where
    by : (b : Bool) → nat_lt 1 (length l) ≡ b → length (concat (interacting lists)) ≤ length (concat lists) → length (concat (interacting (l ∷ lists))) ≤ length (concat (l ∷ lists))
    by true e rest = rw e (omega (arith, rest, length-append l (concat (interacting lists)), length-append l (concat lists)))
    by false e rest = rw e (omega (arith, rest, length-append l (concat lists)))

square-le : (n len : ℕ) → 1 ≤ n → 2 ≤ len → n ^ 2 ≤ n ^ len
square-le n len some two = pow-le-pow_right {n = n} some {i = 2} {j = len} two

binary_small : (n v len : ℕ) → 1 ≤ n → v ≤ 9 → 2 ≤ len → n ^ len * n ^ v ≤ 3 * 2 ^ 70 → n ^ v ≤ 2 ^ 62
binary_small n v len some digit two room = elim (cases_lt 64 n) [
  | inl large ↦
      let base : 65 ^ 2 ≤ n ^ 2 = pow-le-pow_left large 2 in
      let less : 65 ^ 2 * n ^ v ≤ n ^ len * n ^ v = mul-le (65 ^ 2) (n ^ v) (n ^ len) (n ^ v) (omega (arith, base, square-le n len some two)) (omega arith) in
      omega (arith, less, room)
  | inr small ↦
      let base : n ^ v ≤ 64 ^ v = pow-le-pow_left small v in
      let most : 64 ^ v ≤ 64 ^ 9 = pow-le-pow_right {n = 64} (omega arith) {i = v} {j = 9} digit in
      omega (arith, base, most)
]

ternary_small : (n len : ℕ) → 1 ≤ n → 2 ≤ len → n ^ len * (3 * n) ≤ 3 * 2 ^ 70 → 3 * n ≤ 2 ^ 62
ternary_small n len some two room = elim (cases_lt (2 ^ 40) n) [
  | inl large ↦
      let more : 2 ^ 40 ≤ n = omega arith in
      let base : (2 ^ 40) ^ 2 ≤ n ^ 2 = pow-le-pow_left more 2 in
      let less : (2 ^ 40) ^ 2 * 1 ≤ n ^ len * (3 * n) = mul-le ((2 ^ 40) ^ 2) 1 (n ^ len) (3 * n) (omega (arith, base, square-le n len some two)) (omega arith) in
      absurd (omega (arith, less, room))
  | inr small ↦ omega arith
]

pub form_small : (n v : ℕ) (w : Bool) (lists : List (List ℕ)) (len : ℕ) → 1 ≤ n → IsOrder v w lists → length (concat lists) ≤ len → n ^ len * factor_most n (form_of n v w lists) ≤ 3 * 2 ^ 70 → factor_most n (form_of n v w lists) ≤ 2 ^ 62
form_small n v w [] len some h l room = omega arith
form_small n zero w ((i ∷ j ∷ []) ∷ []) len some h l room = omega arith
form_small n (suc v) w ((i ∷ j ∷ []) ∷ []) len some h l room = binary_small n (suc v) len some (omega (arith, h)) (omega (arith, l)) room
form_small n zero true ((i ∷ j ∷ k ∷ []) ∷ []) len some h l room = ternary_small n len some (omega (arith, l)) room
form_small n (suc zero) true ((i ∷ j ∷ k ∷ []) ∷ []) len some h l room = ternary_small n len some (omega (arith, l)) room
form_small n (suc (suc v)) true ((i ∷ j ∷ k ∷ []) ∷ []) len some h l room = ternary_small n len some (omega (arith, l)) room
form_small n zero false ((i ∷ j ∷ k ∷ []) ∷ []) len some h l room = omega arith
form_small n (suc zero) false ((i ∷ j ∷ k ∷ []) ∷ []) len some h l room = omega arith
form_small n (suc (suc v)) false ((i ∷ j ∷ k ∷ []) ∷ []) len some h l room = omega arith
form_small n v w ((i ∷ j ∷ []) ∷ (k ∷ l ∷ []) ∷ []) len some h z room = omega arith
form_small n v w ([] ∷ rest) len some h l room = absurd h
form_small n v w ((i ∷ []) ∷ rest) len some h l room = absurd h
form_small n v w ((i ∷ j ∷ []) ∷ [] ∷ rest) len some h l room = absurd h
form_small n v w ((i ∷ j ∷ []) ∷ (k ∷ []) ∷ rest) len some h l room = absurd h
form_small n v w ((i ∷ j ∷ []) ∷ (k ∷ l ∷ []) ∷ m ∷ rest) len some h z room = absurd h
form_small n v w ((i ∷ j ∷ []) ∷ (k ∷ l ∷ m ∷ more) ∷ rest) len some h z room = absurd h
form_small n v true ((i ∷ j ∷ k ∷ []) ∷ m ∷ rest) len some h l room = absurd h
form_small n v false ((i ∷ j ∷ k ∷ []) ∷ m ∷ rest) len some h l room = absurd h
form_small n v true ((i ∷ j ∷ k ∷ l ∷ more) ∷ rest) len some h z room = absurd h
form_small n v false ((i ∷ j ∷ k ∷ l ∷ more) ∷ rest) len some h z room = absurd h
