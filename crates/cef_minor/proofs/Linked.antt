-- The form of a parameter's factor, its divisor and its sites.
use Rattle.std.proofs.Common.{◌≡◌, ℕ, zero, suc, ◌+◌, ◌*◌, ◌^◌, ◌<◌, ◌≤◌, List, [], ◌∷◌, ◌++◌, length, map, refl, arith, ap, sym, ◌∙◌, Bool, true, false, inl, inr}
use Rattle.std.specs.Prelude.{ℤ, pos, ◌-ℤ◌, ◌*ℤ◌, ◌⊎◌, nat_lt, if◌then◌else◌}
use Rattle.std.specs.List.{concat, AllByRecursion}
use Rattle.std.proofs.lemmas.Bool.{ltb-true}
use Rattle.std.proofs.lemmas.Int.{ints}
use Rattle.std.proofs.Math.Nat.{mul-le-mul_left, one-le-pow, pow-suc, pow-zero}
use Rattle.cef_core.specs.Parameters.{interacting, factor_of, factor_divisor, power}
use Rattle.cef_core.specs.Phases.{ArePlaces, factor_degree}
use Rattle.cef_term.specs.Kept.{placed}
use Rattle.cef_minor.specs.declared.form.Form.{Form}
use Rattle.cef_minor.specs.declared.form.Form.TheVariants.{Plain, Difference, Weighted}
use Rattle.cef_minor.specs.Forms.{is_form, interaction_of}
use Rattle.cef_minor.specs.Kept.{IsFormIn, factor_at, factor_most, factor_parts}
use Rattle.cef_minor.specs.Products.{form_of, own_of, products_of, IsAmong, AreOver}
use Rattle.cef_minor.proofs.Arrays.{joined_all}
use Rattle.cef_minor.proofs.Lists.{length_shifted}

-- an order of 0 or 1 for one list of two, of 0 to 2 for one of three that is weighted
abbrev pub IsAffineOrder : ℕ → Bool → List (List ℕ) → Type 0
IsAffineOrder order weighted ((i ∷ j ∷ []) ∷ []) = order < 2
IsAffineOrder order true ((i ∷ j ∷ k ∷ []) ∷ []) = order < 3
IsAffineOrder order weighted lists = Unit {0}

pub affine_order : (order : ℕ) (weighted : Bool) (lists : List (List ℕ)) → is_form order weighted (interaction_of (map length lists)) ≡ true → IsAffineOrder order weighted lists
affine_order order weighted [] h = tt
affine_order order weighted ([] ∷ []) h = tt
affine_order order weighted ((i ∷ []) ∷ []) h = tt
affine_order order weighted ((i ∷ j ∷ []) ∷ []) h = ltb-true order 2 h
affine_order order true ((i ∷ j ∷ k ∷ []) ∷ []) h = ltb-true order 3 h
affine_order order false ((i ∷ j ∷ k ∷ []) ∷ []) h = tt
affine_order order true ((i ∷ j ∷ k ∷ l ∷ more) ∷ []) h = tt
affine_order order false ((i ∷ j ∷ k ∷ l ∷ more) ∷ []) h = tt
affine_order order true ([] ∷ b ∷ lists) h = tt
affine_order order false ([] ∷ b ∷ lists) h = tt
affine_order order weighted ((i ∷ []) ∷ b ∷ lists) h = tt
affine_order order weighted ((i ∷ j ∷ []) ∷ b ∷ lists) h = tt
affine_order order true ((i ∷ j ∷ k ∷ []) ∷ b ∷ lists) h = tt
affine_order order false ((i ∷ j ∷ k ∷ []) ∷ b ∷ lists) h = tt
affine_order order true ((i ∷ j ∷ k ∷ l ∷ more) ∷ b ∷ lists) h = tt
affine_order order false ((i ∷ j ∷ k ∷ l ∷ more) ∷ b ∷ lists) h = tt

-- the sizes of the lists of two or more are those of the array
pub sizes_placed : (from : ℕ) (widths : List ℕ) (array : List (List ℕ)) → ArePlaces widths array → map length (interacting (placed from widths array)) ≡ map length (interacting array)
sizes_placed from [] [] h = refl
sizes_placed from [] (places ∷ array) h = absurd h
sizes_placed from (w ∷ widths) [] h = absurd h
sizes_placed from (w ∷ widths) (places ∷ array) h = rw (length_shifted from places) (by (sizes_placed (from + w) widths array h.1) (nat_lt 1 (length places)))
  where
    by : map length (interacting (placed (from + w) widths array)) ≡ map length (interacting array) → (b : Bool) → map length (if b then map (λ p. from + p) places ∷ interacting (placed (from + w) widths array) else interacting (placed (from + w) widths array)) ≡ map length (if b then places ∷ interacting array else interacting array)
    by rest true = rw (length_shifted from places, rest) refl
    by rest false = rest

-- what is plain holds of all lists but two
pub form_elim : (Q : Form → Type 0) (order : ℕ) (weighted : Bool) (lists : List (List ℕ)) → Q Plain → ((i j : ℕ) → lists ≡ (i ∷ j ∷ []) ∷ [] → Q (Difference i j)) → ((i j k : ℕ) → lists ≡ (i ∷ j ∷ k ∷ []) ∷ [] → Q (Weighted (own_of order i j k) i j k)) → Q (form_of order weighted lists)
form_elim Q order weighted [] p d w = p
form_elim Q order weighted ([] ∷ []) p d w = p
form_elim Q order weighted ((i ∷ []) ∷ []) p d w = p
form_elim Q zero weighted ((i ∷ j ∷ []) ∷ []) p d w = p
form_elim Q (suc order) weighted ((i ∷ j ∷ []) ∷ []) p d w = d i j refl
form_elim Q order true ((i ∷ j ∷ k ∷ []) ∷ []) p d w = w i j k refl
form_elim Q order false ((i ∷ j ∷ k ∷ []) ∷ []) p d w = p
form_elim Q order true ((i ∷ j ∷ k ∷ l ∷ more) ∷ []) p d w = p
form_elim Q order false ((i ∷ j ∷ k ∷ l ∷ more) ∷ []) p d w = p
form_elim Q order true ([] ∷ b ∷ lists) p d w = p
form_elim Q order false ([] ∷ b ∷ lists) p d w = p
form_elim Q order weighted ((i ∷ []) ∷ b ∷ lists) p d w = p
form_elim Q order weighted ((i ∷ j ∷ []) ∷ b ∷ lists) p d w = p
form_elim Q order true ((i ∷ j ∷ k ∷ []) ∷ b ∷ lists) p d w = p
form_elim Q order false ((i ∷ j ∷ k ∷ []) ∷ b ∷ lists) p d w = p
form_elim Q order true ((i ∷ j ∷ k ∷ l ∷ more) ∷ b ∷ lists) p d w = p
form_elim Q order false ((i ∷ j ∷ k ∷ l ∷ more) ∷ b ∷ lists) p d w = p

own_among : (order i j k : ℕ) → (own_of order i j k ≡ i) ⊎ (own_of order i j k ≡ j) ⊎ (own_of order i j k ≡ k)
own_among zero i j k = inl refl
own_among (suc zero) i j k = inr (inl refl)
own_among (suc (suc order)) i j k = inr (inr refl)

-- the factor and its divisor
pub record IsLinked (n order : ℕ) (weighted : Bool) (lists : List (List ℕ)) (count : ℕ → ℕ) : Type 0 where
  pub factor : factor_of n order weighted (map (λ ks. map count ks) lists) ≡ factor_at n count (form_of order weighted lists)
  pub divisor : factor_divisor n order weighted (map (λ ks. map count ks) lists) ≡ factor_divisor n order weighted lists
  pub most : factor_divisor n order weighted lists ≡ factor_most n (form_of order weighted lists)
  pub parts : factor_parts n (form_of order weighted lists) ≤ n ^ factor_degree order weighted lists

plain_parts : (n : ℕ) → 1 ≤ n ^ 0
plain_parts n = omega (arith, pow-zero n)

pub linked : (n order : ℕ) (weighted : Bool) (lists : List (List ℕ)) (count : ℕ → ℕ) → IsAffineOrder order weighted lists → IsLinked n order weighted lists count
linked n order weighted [] count h = record { factor = refl; divisor = refl; most = refl; parts = plain_parts n }
linked n order weighted ([] ∷ []) count h = record { factor = refl; divisor = refl; most = refl; parts = plain_parts n }
linked n order weighted ((i ∷ []) ∷ []) count h = record { factor = refl; divisor = refl; most = refl; parts = plain_parts n }
linked n zero weighted ((i ∷ j ∷ []) ∷ []) count h = record { factor = refl; divisor = refl; most = pow-zero n; parts = plain_parts n }
linked n (suc zero) weighted ((i ∷ j ∷ []) ∷ []) count h = record { factor = unit (pos (count i) -ℤ pos (count j)); divisor = refl; most = first_power n; parts = one_power n }
  where
    unit : (x : ℤ) → x *ℤ pos 1 ≡ x
    unit x = omega (arith, ints)

    first_power : (n : ℕ) → n ^ 1 ≡ n
    first_power n = omega (arith, pow-suc n 0, ap (λ (z : ℕ). z * n) (pow-zero n))

    one_power : (n : ℕ) → n ≤ n ^ 1
    one_power n = omega (arith, first_power n)
linked n (suc (suc order)) weighted ((i ∷ j ∷ []) ∷ []) count h = absurd (omega arith)
linked n zero true ((i ∷ j ∷ k ∷ []) ∷ []) count h = record { factor = refl; divisor = refl; most = refl; parts = one_power n }
  where
    one_power : (n : ℕ) → n ≤ n ^ 1
    one_power n = omega (arith, pow-suc n 0, ap (λ (z : ℕ). z * n) (pow-zero n))
linked n (suc zero) true ((i ∷ j ∷ k ∷ []) ∷ []) count h = record { factor = refl; divisor = refl; most = refl; parts = one_power n }
  where
    one_power : (n : ℕ) → n ≤ n ^ 1
    one_power n = omega (arith, pow-suc n 0, ap (λ (z : ℕ). z * n) (pow-zero n))
linked n (suc (suc zero)) true ((i ∷ j ∷ k ∷ []) ∷ []) count h = record { factor = refl; divisor = refl; most = refl; parts = one_power n }
  where
    one_power : (n : ℕ) → n ≤ n ^ 1
    one_power n = omega (arith, pow-suc n 0, ap (λ (z : ℕ). z * n) (pow-zero n))
linked n (suc (suc (suc order))) true ((i ∷ j ∷ k ∷ []) ∷ []) count h = absurd (omega arith)
linked n order false ((i ∷ j ∷ k ∷ []) ∷ []) count h = record { factor = refl; divisor = refl; most = refl; parts = plain_parts n }
linked n order true ((i ∷ j ∷ k ∷ l ∷ more) ∷ []) count h = record { factor = refl; divisor = refl; most = refl; parts = plain_parts n }
linked n order false ((i ∷ j ∷ k ∷ l ∷ more) ∷ []) count h = record { factor = refl; divisor = refl; most = refl; parts = plain_parts n }
linked n order true ([] ∷ b ∷ lists) count h = record { factor = refl; divisor = refl; most = refl; parts = plain_parts n }
linked n order false ([] ∷ b ∷ lists) count h = record { factor = refl; divisor = refl; most = refl; parts = plain_parts n }
linked n order weighted ((i ∷ []) ∷ b ∷ lists) count h = record { factor = refl; divisor = refl; most = refl; parts = plain_parts n }
linked n order weighted ((i ∷ j ∷ []) ∷ b ∷ lists) count h = record { factor = refl; divisor = refl; most = refl; parts = plain_parts n }
linked n order true ((i ∷ j ∷ k ∷ []) ∷ b ∷ lists) count h = record { factor = refl; divisor = refl; most = refl; parts = plain_parts n }
linked n order false ((i ∷ j ∷ k ∷ []) ∷ b ∷ lists) count h = record { factor = refl; divisor = refl; most = refl; parts = plain_parts n }
linked n order true ((i ∷ j ∷ k ∷ l ∷ more) ∷ b ∷ lists) count h = record { factor = refl; divisor = refl; most = refl; parts = plain_parts n }
linked n order false ((i ∷ j ∷ k ∷ l ∷ more) ∷ b ∷ lists) count h = record { factor = refl; divisor = refl; most = refl; parts = plain_parts n }

-- the sites of the form are those of the lists
pub form_in : (sites order : ℕ) (weighted : Bool) (lists : List (List ℕ)) → AllByRecursion (AllByRecursion (λ site. site < sites)) lists → IsFormIn sites (form_of order weighted lists)
form_in sites order weighted lists h = form_elim (IsFormIn sites) order weighted lists tt
    (λ i j e. let all = rw e at h in (all.0.0, all.0.1.0))
    (λ i j k e. let all = rw e at h in (all.0.0, all.0.1.0, all.0.1.1.0, own_among order i j k))

-- what the sites of a form are
abbrev pub HasSites : (ℕ → Type 0) → Form → Type 0
HasSites P Plain = Unit {0}
HasSites P (Difference i j) = P i × P j
HasSites P (Weighted o i j k) = P o × P i × P j × P k

own_has : (P : ℕ → Type 0) (order i j k : ℕ) → P i → P j → P k → P (own_of order i j k)
own_has P zero i j k p q r = p
own_has P (suc zero) i j k p q r = q
own_has P (suc (suc order)) i j k p q r = r

pub form_has : (P : ℕ → Type 0) (order : ℕ) (weighted : Bool) (lists : List (List ℕ)) → AllByRecursion (AllByRecursion P) lists → HasSites P (form_of order weighted lists)
form_has P order weighted lists h = form_elim (HasSites P) order weighted lists tt
    (λ i j e. let all = rw e at h in (all.0.0, all.0.1.0))
    (λ i j k e. let all = rw e at h in (own_has P order i j k all.0.0 all.0.1.0 all.0.1.1.0, all.0.0, all.0.1.0, all.0.1.1.0))

self_among : (P : ℕ → Type 0) (xs : List ℕ) → ((x : ℕ) → IsAmong xs x → P x) → AllByRecursion P xs
self_among P [] h = tt
self_among P (x ∷ xs) h = (h x (inl refl), self_among P xs (λ y k. h y (inr k)))

pub products_over : (n : ℕ) (form : Form) (all : List ℕ) → HasSites (IsAmong all) form → AreOver all (products_of n form all)
products_over n form all has = by form has
  where
    here : AllByRecursion (IsAmong all) all
    here = self_among (IsAmong all) all (λ x h. h)

    with_site : (i : ℕ) → IsAmong all i → AllByRecursion (IsAmong all) (all ++ i ∷ [])
    with_site i h = joined_all (IsAmong all) all (i ∷ []) here (h, tt)

    by : (form : Form) → HasSites (IsAmong all) form → AreOver all (products_of n form all)
    by Plain h = (here, tt)
    by (Difference i j) h = (with_site i h.0, (with_site j h.1, tt))
    by (Weighted o i j k) h = (with_site o h.0, (here, (with_site i h.1, (with_site j h.2, (with_site k h.3, tt)))))

among_front : (P : ℕ → Type 0) (a b : List ℕ) → ((x : ℕ) → IsAmong (a ++ b) x → P x) → AllByRecursion P a
among_front P [] b h = tt
among_front P (x ∷ a) b h = (h x (inl refl), among_front P a b (λ y k. h y (inr k)))

among_back : (a b : List ℕ) (x : ℕ) → IsAmong b x → IsAmong (a ++ b) x
among_back [] b x h = h
among_back (y ∷ a) b x h = inr (among_back a b x h)

-- each site of the lists is among all
pub lists_among : (P : ℕ → Type 0) (lists : List (List ℕ)) → ((x : ℕ) → IsAmong (concat lists) x → P x) → AllByRecursion (AllByRecursion P) lists
lists_among P [] h = tt
lists_among P (list ∷ lists) h = (among_front P list (concat lists) h, lists_among P lists (λ x k. h x (among_back list (concat lists) x k)))
