-- Orders and degrees know only the lengths of lists.
use Rattle.std.proofs.Common.{◌≡◌, ℕ, zero, suc, ◌+◌, List, [], ◌∷◌, length, map, refl, ap, sym, ◌∙◌, Bool, true, false, subst}
use Rattle.cef_core.specs.Parameters.{interacting}
use Rattle.cef_core.specs.Phases.{ArePlaces, IsOrder, factor_degree}
use Rattle.cef_term.specs.Kept.{placed}
use Rattle.cef_term.proofs.Picking.{interacting_is}

abbrev pub blank : List (List ℕ) → List (List ℕ)
blank lists = map (λ ps. map {B = ℕ} (λ p. 0) ps) lists

order_blank : (v : ℕ) (w : Bool) (lists : List (List ℕ)) → IsOrder v w lists → IsOrder v w (blank lists)
order_blank v w [] h = h
order_blank v w ((i ∷ j ∷ []) ∷ []) h = h
order_blank zero true ((i ∷ j ∷ k ∷ []) ∷ []) h = h
order_blank zero false ((i ∷ j ∷ k ∷ []) ∷ []) h = h
order_blank (suc zero) true ((i ∷ j ∷ k ∷ []) ∷ []) h = h
order_blank (suc zero) false ((i ∷ j ∷ k ∷ []) ∷ []) h = h
order_blank (suc (suc v)) true ((i ∷ j ∷ k ∷ []) ∷ []) h = h
order_blank (suc (suc v)) false ((i ∷ j ∷ k ∷ []) ∷ []) h = h
order_blank v w ((i ∷ j ∷ []) ∷ (k ∷ l ∷ []) ∷ []) h = h
order_blank v w ([] ∷ rest) h = absurd h
order_blank v w ((i ∷ []) ∷ rest) h = absurd h
order_blank v w ((i ∷ j ∷ []) ∷ [] ∷ rest) h = absurd h
order_blank v w ((i ∷ j ∷ []) ∷ (k ∷ []) ∷ rest) h = absurd h
order_blank v w ((i ∷ j ∷ []) ∷ (k ∷ l ∷ []) ∷ m ∷ rest) h = absurd h
order_blank v w ((i ∷ j ∷ []) ∷ (k ∷ l ∷ m ∷ more) ∷ rest) h = absurd h
order_blank v true ((i ∷ j ∷ k ∷ []) ∷ m ∷ rest) h = absurd h
order_blank v true ((i ∷ j ∷ k ∷ l ∷ more) ∷ rest) h = absurd h
order_blank v false ((i ∷ j ∷ k ∷ []) ∷ m ∷ rest) h = absurd h
order_blank v false ((i ∷ j ∷ k ∷ l ∷ more) ∷ rest) h = absurd h

order_back : (v : ℕ) (w : Bool) (lists : List (List ℕ)) → IsOrder v w (blank lists) → IsOrder v w lists
order_back v w [] h = h
order_back v w ((i ∷ j ∷ []) ∷ []) h = h
order_back zero true ((i ∷ j ∷ k ∷ []) ∷ []) h = h
order_back zero false ((i ∷ j ∷ k ∷ []) ∷ []) h = h
order_back (suc zero) true ((i ∷ j ∷ k ∷ []) ∷ []) h = h
order_back (suc zero) false ((i ∷ j ∷ k ∷ []) ∷ []) h = h
order_back (suc (suc v)) true ((i ∷ j ∷ k ∷ []) ∷ []) h = h
order_back (suc (suc v)) false ((i ∷ j ∷ k ∷ []) ∷ []) h = h
order_back v w ((i ∷ j ∷ []) ∷ (k ∷ l ∷ []) ∷ []) h = h
order_back v w ([] ∷ rest) h = absurd h
order_back v w ((i ∷ []) ∷ rest) h = absurd h
order_back v w ((i ∷ j ∷ []) ∷ [] ∷ rest) h = absurd h
order_back v w ((i ∷ j ∷ []) ∷ (k ∷ []) ∷ rest) h = absurd h
order_back v w ((i ∷ j ∷ []) ∷ (k ∷ l ∷ []) ∷ m ∷ rest) h = absurd h
order_back v w ((i ∷ j ∷ []) ∷ (k ∷ l ∷ m ∷ more) ∷ rest) h = absurd h
order_back v true ((i ∷ j ∷ k ∷ []) ∷ m ∷ rest) h = absurd h
order_back v true ((i ∷ j ∷ k ∷ l ∷ more) ∷ rest) h = absurd h
order_back v false ((i ∷ j ∷ k ∷ []) ∷ m ∷ rest) h = absurd h
order_back v false ((i ∷ j ∷ k ∷ l ∷ more) ∷ rest) h = absurd h

degree_blank : (v : ℕ) (w : Bool) (lists : List (List ℕ)) → IsOrder v w lists → factor_degree v w (blank lists) ≡ factor_degree v w lists
degree_blank v w [] h = refl
degree_blank v w ((i ∷ j ∷ []) ∷ []) h = refl
degree_blank zero true ((i ∷ j ∷ k ∷ []) ∷ []) h = refl
degree_blank zero false ((i ∷ j ∷ k ∷ []) ∷ []) h = refl
degree_blank (suc zero) true ((i ∷ j ∷ k ∷ []) ∷ []) h = refl
degree_blank (suc zero) false ((i ∷ j ∷ k ∷ []) ∷ []) h = refl
degree_blank (suc (suc v)) true ((i ∷ j ∷ k ∷ []) ∷ []) h = refl
degree_blank (suc (suc v)) false ((i ∷ j ∷ k ∷ []) ∷ []) h = refl
degree_blank v w ((i ∷ j ∷ []) ∷ (k ∷ l ∷ []) ∷ []) h = refl
degree_blank v w ([] ∷ rest) h = absurd h
degree_blank v w ((i ∷ []) ∷ rest) h = absurd h
degree_blank v w ((i ∷ j ∷ []) ∷ [] ∷ rest) h = absurd h
degree_blank v w ((i ∷ j ∷ []) ∷ (k ∷ []) ∷ rest) h = absurd h
degree_blank v w ((i ∷ j ∷ []) ∷ (k ∷ l ∷ []) ∷ m ∷ rest) h = absurd h
degree_blank v w ((i ∷ j ∷ []) ∷ (k ∷ l ∷ m ∷ more) ∷ rest) h = absurd h
degree_blank v true ((i ∷ j ∷ k ∷ []) ∷ m ∷ rest) h = absurd h
degree_blank v true ((i ∷ j ∷ k ∷ l ∷ more) ∷ rest) h = absurd h
degree_blank v false ((i ∷ j ∷ k ∷ []) ∷ m ∷ rest) h = absurd h
degree_blank v false ((i ∷ j ∷ k ∷ l ∷ more) ∷ rest) h = absurd h

blank_shifted : (from : ℕ) (places : List ℕ) → map {B = ℕ} (λ p. 0) (map (λ p. from + p) places) ≡ map {B = ℕ} (λ p. 0) places
blank_shifted from [] = refl
blank_shifted from (p ∷ places) = ap (λ (ps : List ℕ). 0 ∷ ps) (blank_shifted from places)

blank_placed : (from : ℕ) (widths : List ℕ) (array : List (List ℕ)) → ArePlaces widths array → blank (placed from widths array) ≡ blank array
blank_placed from [] [] h = refl
blank_placed from [] (places ∷ array) h = absurd h
blank_placed from (w ∷ widths) [] h = absurd h
blank_placed from (w ∷ widths) (places ∷ array) h = rw (blank_shifted from places, blank_placed (from + w) widths array h.1) refl

blank_mixed : (from : ℕ) (widths : List ℕ) (array : List (List ℕ)) → ArePlaces widths array → blank (interacting (placed from widths array)) ≡ blank (interacting array)
blank_mixed from widths array h = sym (interacting_is (λ p. 0) (placed from widths array)) ∙ ap interacting (blank_placed from widths array h) ∙ interacting_is (λ p. 0) array

pub order_placed : (v : ℕ) (w : Bool) (widths : List ℕ) (array : List (List ℕ)) → ArePlaces widths array → IsOrder v w (interacting array) → IsOrder v w (interacting (placed 0 widths array))
order_placed v w widths array h o = order_back v w (interacting (placed 0 widths array)) (subst (λ ls. IsOrder v w ls) (sym (blank_mixed 0 widths array h)) (order_blank v w (interacting array) o))

pub degree_placed : (v : ℕ) (w : Bool) (widths : List ℕ) (array : List (List ℕ)) → ArePlaces widths array → IsOrder v w (interacting array) → factor_degree v w (interacting (placed 0 widths array)) ≡ factor_degree v w (interacting array)
degree_placed v w widths array h o = sym (degree_blank v w (interacting (placed 0 widths array)) (order_placed v w widths array h o)) ∙ ap (λ ls. factor_degree v w ls) (blank_mixed 0 widths array h) ∙ degree_blank v w (interacting array) o
