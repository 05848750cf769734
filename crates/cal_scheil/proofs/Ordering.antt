-- Numbers beside names, in the order of other names.
use Rattle.std.proofs.Common.{◌≡◌, ℕ, zero, suc, ◌+◌, ◌<◌, ◌≤◌, List, [], ◌∷◌, length, map, get_or, Option, Some, None, Bool, true, false, refl, sym, ap, ◌∙◌, subst, arith}
use Rattle.std.specs.Prelude.{ℤ, pos, ◌+ℤ◌, ◌≤ℤ◌, ◌||◌}
use Rattle.std.specs.List.{AllByRecursion, Any, IsDistinct, position_or_len}
use Rattle.std.specs.Option.{option_map_or}
use Rattle.std.proofs.lemmas.Int.{ints}
use Rattle.std.proofs.lemmas.Bool.Decides.{Decides-eqb}
use Rattle.std.proofs.lemmas.Slice.Eq.{slice_eq-Decides}
use Rattle.std.proofs.lemmas.List.{length-map}
use Rattle.cal_math.specs.Vectors.{at}
use Rattle.cal_scan.specs.Names.{same_name}
use Rattle.cal_select.specs.Chosen.{Word, is_in, component_of}
use Rattle.cal_select.proofs.Few.{same_is}
use Rattle.cal_select.proofs.Name_places.{IsPlace, place}
use Rattle.cal_scheil.specs.Accounts.{number_beside, in_order}

-- ---- what holds of all numbers

pub beside_holds : (P : ℤ → Type 0) (names : List Word) (numbers : List ℤ) (name : Word) → P (pos 0) → ((c : ℕ) → P (at numbers c)) → P (number_beside names numbers name)
beside_holds P names numbers name none each = by (component_of names name)
  where
    by : (c : Option ℕ) → P (option_map_or (at numbers) c (pos 0))
    by None = none
    by (Some c) = each c

pub in_order_holds : (P : ℤ → Type 0) (names : List Word) (numbers : List ℤ) (order : List Word) → P (pos 0) → ((c : ℕ) → P (at numbers c)) → (c : ℕ) → P (at (in_order names numbers order) c)
in_order_holds P names numbers [] none each c = none
in_order_holds P names numbers (name ∷ order) none each zero = beside_holds P names numbers name none each
in_order_holds P names numbers (name ∷ order) none each (suc c) = in_order_holds P names numbers order none each c

pub in_order_all : (P : ℤ → Type 0) (names : List Word) (numbers : List ℤ) (order : List Word) → P (pos 0) → ((c : ℕ) → P (at numbers c)) → AllByRecursion P (in_order names numbers order)
in_order_all P names numbers [] none each = tt
in_order_all P names numbers (name ∷ order) none each = (beside_holds P names numbers name none each, in_order_all P names numbers order none each)

beside_balanced : (names : List Word) (a s r l : List ℤ) (name : Word) → ((c : ℕ) → at a c ≡ (at s c +ℤ at r c) +ℤ at l c) →
    number_beside names a name ≡ (number_beside names s name +ℤ number_beside names r name) +ℤ number_beside names l name
beside_balanced names a s r l name is = by (component_of names name)
  where
    by : (c : Option ℕ) → option_map_or (at a) c (pos 0) ≡ (option_map_or (at s) c (pos 0) +ℤ option_map_or (at r) c (pos 0)) +ℤ option_map_or (at l) c (pos 0)
    by None = refl
    by (Some c) = is c

pub in_order_balanced : (names : List Word) (a s r l : List ℤ) (order : List Word) → ((c : ℕ) → at a c ≡ (at s c +ℤ at r c) +ℤ at l c) → (c : ℕ) →
    at (in_order names a order) c ≡ (at (in_order names s order) c +ℤ at (in_order names r order) c) +ℤ at (in_order names l order) c
in_order_balanced names a s r l [] is c = refl
in_order_balanced names a s r l (name ∷ order) is zero = beside_balanced names a s r l name is
in_order_balanced names a s r l (name ∷ order) is (suc c) = in_order_balanced names a s r l order is c

-- ---- names in lists

pub same-refl : (w : Word) → same_name w w ≡ true
same-refl w = (slice_eq-Decides Decides-eqb w w (same_name w w) refl).1 refl

-- names that stand at two places of a list of distinct names
different : (x : Word) (xs : List Word) (c : ℕ) → AllByRecursion (λ y. same_name x y ≡ false) xs → c < length xs → x ≡ get_or xs c [] → ⊥
different x [] c all lt e = absurd (omega (arith, lt))
different x (y ∷ xs) zero all lt e =
    let on : same_name x y ≡ true = subst (λ (z : Word). same_name x z ≡ true) e (same-refl x) in
    absurd cc
different x (y ∷ xs) (suc c) all lt e = different x xs c all.1 (omega (arith, lt)) e

one_place : (names : List Word) (i c : ℕ) → IsDistinct same_name names → i < length names → c < length names → get_or names i [] ≡ get_or names c [] → i ≡ c
unfolding IsDistinct
one_place [] i c distinct lt less e = absurd (omega (arith, lt))
one_place (x ∷ names) zero zero distinct lt less e = refl
one_place (x ∷ names) zero (suc c) distinct lt less e = absurd (different x names c distinct.0 (omega (arith, less)) e)
one_place (x ∷ names) (suc i) zero distinct lt less e = absurd (different x names i distinct.0 (omega (arith, lt)) (sym e))
one_place (x ∷ names) (suc i) (suc c) distinct lt less e = ap suc (one_place names i c distinct.1 (omega (arith, lt)) (omega (arith, less)) e)

pub is_in_at : (names : List Word) (c : ℕ) → c < length names → is_in names (get_or names c []) ≡ true
is_in_at [] c lt = absurd (omega (arith, lt))
is_in_at (x ∷ names) zero lt = rw (same-refl x) refl
is_in_at (x ∷ names) (suc c) lt = either (same_name (get_or names c []) x) (is_in names (get_or names c [])) (is_in_at names c (omega (arith, lt)))
  where
    either : (a b : Bool) → b ≡ true → (a || b) ≡ true
    either true b e = refl
    either false b e = e

-- the number beside the name at a place is that at the place
pub beside_at : (names : List Word) (numbers : List ℤ) (c : ℕ) → IsDistinct same_name names → c < length names → number_beside names numbers (get_or names c []) ≡ at numbers c
beside_at names numbers c distinct lt =
    let is = place names (get_or names c []) (is_in_at names c lt) in
    let same = one_place names (position_or_len (λ other. same_name other (get_or names c [])) names) c distinct is.within lt is.there in
    ap (λ (o : Option ℕ). option_map_or (at numbers) o (pos 0)) (is.found ∙ ap Some same)

-- ---- the same order

-- lists of one length with the same numbers are the same
same_list : (a b : List ℤ) → length a ≡ length b → ((c : ℕ) → c < length a → at a c ≡ at b c) → a ≡ b
same_list [] [] l each = refl
same_list [] (y ∷ b) l each = absurd (omega (arith, l))
same_list (x ∷ a) [] l each = absurd (omega (arith, l))
same_list (x ∷ a) (y ∷ b) l each =
    ap (λ (z : ℤ). z ∷ a) (each 0 (omega arith)) ∙ ap (λ (zs : List ℤ). y ∷ zs) (same_list a b (omega (arith, l)) (λ c lt. each (suc c) (omega (arith, lt))))

at-map : (f : Word → ℤ) (names : List Word) (c : ℕ) → c < length names → at (map f names) c ≡ f (get_or names c [])
at-map f [] c lt = absurd (omega (arith, lt))
at-map f (x ∷ names) zero lt = refl
at-map f (x ∷ names) (suc c) lt = at-map f names c (omega (arith, lt))

pub in_own_order : (names : List Word) (numbers : List ℤ) → IsDistinct same_name names → length numbers ≡ length names → in_order names numbers names ≡ numbers
in_own_order names numbers distinct same =
    let long = length-map names (number_beside names numbers) in
    same_list (in_order names numbers names) numbers (omega (arith, long, same))
    (λ c lt. let within : c < length names = omega (arith, lt, long) in at-map (number_beside names numbers) names c within ∙ beside_at names numbers c distinct within)

-- ---- a number above 0

-- beside a name that stands among others too
pub some_in_order : (names : List Word) (numbers : List ℤ) (name : Word) (order : List Word) → is_in order name ≡ true → pos 1 ≤ℤ number_beside names numbers name → Any (λ x. pos 1 ≤ℤ x) (in_order names numbers order)
some_in_order names numbers name [] found some = absurd cc
some_in_order names numbers name (x ∷ order) found some = by (same_name name x) refl found (some_in_order names numbers name order)
  where
    by : (b : Bool) → same_name name x ≡ b → (b || is_in order name) ≡ true → (is_in order name ≡ true → pos 1 ≤ℤ number_beside names numbers name → Any (λ y. pos 1 ≤ℤ y) (in_order names numbers order))
        → Any (λ y. pos 1 ≤ℤ y) (in_order names numbers (x ∷ order))
    by true e f behind = (0, number_beside names numbers x, omega arith, refl, subst (λ (n : Word). pos 1 ≤ℤ number_beside names numbers n) (same_is name x e) some)
    by false e f behind =
        let rest = behind f some in
        (suc rest.0, rest.1, omega (arith, rest.2), rest.3, rest.4)
