-- The lists of an array, one behind the other.
use Rattle.std.proofs.Common.{◌≡◌, ℕ, zero, suc, ◌+◌, ◌*◌, ◌^◌, ◌<◌, ◌≤◌, List, [], ◌∷◌, ◌++◌, length, map, refl, arith, ap, sym, ◌∙◌, slice_index, Bool, true, false}
use Rattle.std.specs.Prelude.{sum, nat_lt}
use Rattle.std.specs.List.{concat, AllByRecursion}
use Rattle.std.proofs.lemmas.Bool.{lt-ltb}
use Rattle.std.proofs.lemmas.List.{length-append, append_assoc}
use Rattle.cef_core.specs.Shapes.{shape}
use Rattle.cef_core.specs.Parameters.{interacting}
use Rattle.cef_core.specs.Phases.{ArePlaces}
use Rattle.cef_term.specs.declared.form.Form.TheVariants.{Plain, Binary}
use Rattle.cef_term.specs.Kept.{placed, form_of, binary_form}
use Rattle.cef_term.proofs.Picking.{sum-cons}

pub append_none : {X : Type 0} (xs : List X) → xs ++ [] ≡ xs
append_none [] = refl
append_none (x ∷ xs) = ap (λ ys. x ∷ ys) (append_none xs)

pub ruleset none = (append_none)

pub shift_room : (from w : ℕ) (places : List ℕ) → from + w < 2 ^ 16 → AllByRecursion (λ p. p < w) places → AllByRecursion (λ p. from + p < 2 ^ 16) places
shift_room from w [] h a = tt
shift_room from w (p ∷ places) h a = (omega (arith, h, a.0), shift_room from w places h a.1)

pub interacting-cons : (l : List ℕ) (lists : List (List ℕ)) → interacting (l ∷ lists) ≡ interacting (l ∷ []) ++ interacting lists
interacting-cons l lists = by (nat_lt 1 (length l)) refl
  where
    by : (b : Bool) → nat_lt 1 (length l) ≡ b → interacting (l ∷ lists) ≡ interacting (l ∷ []) ++ interacting lists
    by true e = rw e refl
    by false e = rw e refl

pub interacting_few : (l : List ℕ) → length l < 2 → interacting (l ∷ []) ≡ []
interacting_few [] h = refl
interacting_few (p ∷ []) h = refl
interacting_few (p ∷ q ∷ l) h = absurd (omega (arith, h))

pub interacting_many : (l : List ℕ) → 2 ≤ length l → interacting (l ∷ []) ≡ l ∷ []
interacting_many [] h = absurd (omega (arith, h))
interacting_many (p ∷ []) h = absurd (omega (arith, h))
interacting_many (p ∷ q ∷ l) h = rw (lt-ltb 1 (length (p ∷ q ∷ l)) (omega arith)) refl

pub form_many : (n v : ℕ) (w : Bool) (lists : List (List ℕ)) → (length lists ≡ 1 → ⊥) → Plain ≡ form_of n v w lists
form_many n v w [] h = refl
form_many n v w (x ∷ []) h = absurd (h (omega arith))
form_many n v w ([] ∷ m ∷ rest) h = refl
form_many n v w ((i ∷ []) ∷ m ∷ rest) h = refl
form_many n v w ((i ∷ j ∷ []) ∷ m ∷ rest) h = refl
form_many n zero true ((i ∷ j ∷ k ∷ []) ∷ m ∷ rest) h = refl
form_many n zero false ((i ∷ j ∷ k ∷ []) ∷ m ∷ rest) h = refl
form_many n (suc zero) true ((i ∷ j ∷ k ∷ []) ∷ m ∷ rest) h = refl
form_many n (suc zero) false ((i ∷ j ∷ k ∷ []) ∷ m ∷ rest) h = refl
form_many n (suc (suc v)) true ((i ∷ j ∷ k ∷ []) ∷ m ∷ rest) h = refl
form_many n (suc (suc v)) false ((i ∷ j ∷ k ∷ []) ∷ m ∷ rest) h = refl
form_many n zero true ((i ∷ j ∷ k ∷ l ∷ more) ∷ m ∷ rest) h = refl
form_many n zero false ((i ∷ j ∷ k ∷ l ∷ more) ∷ m ∷ rest) h = refl
form_many n (suc zero) true ((i ∷ j ∷ k ∷ l ∷ more) ∷ m ∷ rest) h = refl
form_many n (suc zero) false ((i ∷ j ∷ k ∷ l ∷ more) ∷ m ∷ rest) h = refl
form_many n (suc (suc v)) true ((i ∷ j ∷ k ∷ l ∷ more) ∷ m ∷ rest) h = refl
form_many n (suc (suc v)) false ((i ∷ j ∷ k ∷ l ∷ more) ∷ m ∷ rest) h = refl

pub place_room : {X : Type 0} (from : ℕ) (sites rows : List (List X)) (array lists : List (List ℕ)) (row : List X) (list : List ℕ) → sites ≡ row ∷ rows → array ≡ list ∷ lists → from + sum (shape sites) < 2 ^ 16 → ArePlaces (shape sites) array →
    AllByRecursion (λ p. from + p < 2 ^ 16) list
place_room from sites rows array lists row list e f h a =
    let below : ArePlaces (shape (row ∷ rows)) (list ∷ lists) = rw (e, f) at a in
    let room : from + sum (length row ∷ shape rows) < 2 ^ 16 = rw e at h in
    shift_room from (length row) list (omega (arith, room, sum-cons (length row) (shape rows))) below.0

pub place_more : {X : Type 0} (from behind : ℕ) (sites rows : List (List X)) (array lists : List (List ℕ)) (row : List X) (list before next : List ℕ) → sites ≡ row ∷ rows → array ≡ list ∷ lists → behind ≡ from + length row → next ≡ before ++ map (λ p. from + p) list →
    next ++ concat (placed behind (shape rows) lists) ≡ before ++ concat (placed from (shape sites) array)
place_more from behind sites rows array lists row list before next e f b n = rw (e, f, b, n) (append_assoc before (map (λ p. from + p) list) (concat (placed (from + length row) (shape rows) lists)))

pub mixed_more : {X : Type 0} (from behind : ℕ) (sites rows : List (List X)) (array lists : List (List ℕ)) (row : List X) (list : List ℕ) (before next : List (List ℕ)) → sites ≡ row ∷ rows → array ≡ list ∷ lists → behind ≡ from + length row → next ≡ before ++ interacting (map (λ p. from + p) list ∷ []) →
    next ++ interacting (placed behind (shape rows) lists) ≡ before ++ interacting (placed from (shape sites) array)
mixed_more from behind sites rows array lists row list before next e f b n =
    rw (e, f, b, n) (append_assoc before (interacting (map (λ p. from + p) list ∷ [])) (interacting (placed (from + length row) (shape rows) lists)) ∙ ap (λ zs. before ++ zs) (sym (interacting-cons (map (λ p. from + p) list) (placed (from + length row) (shape rows) lists))))

pub ruleset lists = (append_none, append_assoc, sum-cons, shift_room, interacting-cons)

pub ruleset one_list = (append_assoc)

pub ruleset one_mixed = (append_none, interacting_few, interacting_many)

pub ruleset shifts = (append_none, append_assoc)

pub binary_form-zero : (i j v : ℕ) → v ≡ 0 → Plain ≡ binary_form i j v
binary_form-zero i j zero e = refl
binary_form-zero i j (suc v) e = absurd (omega (arith, e))

pub binary_form-some : (i j v : ℕ) → (v ≡ 0 → ⊥) → Binary i j v ≡ binary_form i j v
binary_form-some i j zero h = absurd (h refl)
binary_form-some i j (suc v) h = refl

pub ruleset forms = (form_many, binary_form-zero, binary_form-some)
