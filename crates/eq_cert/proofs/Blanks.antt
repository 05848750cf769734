-- Counts that have the shape of the first sublattices.
use Rattle.std.proofs.Common.{◌≡◌, ℕ, zero, suc, ◌+◌, ◌^◌, ◌≤◌, ◌<◌, List, [], ◌∷◌, ◌++◌, length, take, refl, arith, ap, sym, ◌∙◌, add-one, length-append}
use Rattle.std.specs.Prelude.{Option, sum, slice_index_or}
use Rattle.std.specs.List.{concat}
use Rattle.std.proofs.lemmas.List.{map-append, take_all, length-map}
use Rattle.std.proofs.lemmas.List.Sums.{sum_by-cons}
use Rattle.cef_core.specs.Shapes.{shape, places}

concat_places : (site : List (List ℕ)) → length (concat site) ≡ sum (shape site)
concat_places [] = refl
concat_places (row ∷ site) = omega (arith, length-append row (concat site), concat_places site, sum_by-cons (λ (x : ℕ). x) (length row) (shape site))

shape_take : (sites : List (List (Option ℕ))) (s : ℕ) → s < length sites → take (suc s) (shape sites) ≡ take s (shape sites) ++ length (slice_index_or sites s []) ∷ []
shape_take [] s lt = absurd (omega (arith, lt))
shape_take (row ∷ sites) zero lt = refl
shape_take (row ∷ sites) (suc s) lt = ap (λ (ws : List ℕ). length row ∷ ws) (shape_take sites s (omega (arith, lt)))

sum_take : (sites : List (List (Option ℕ))) (s : ℕ) → s < length sites → sum (take s (shape sites)) + length (slice_index_or sites s []) ≤ places sites
sum_take [] s lt = absurd (omega (arith, lt))
sum_take (row ∷ sites) zero lt = omega (arith, sum_by-cons (λ (x : ℕ). x) (length row) (shape sites))
sum_take (row ∷ sites) (suc s) lt =
    omega (
      arith,
      sum_take sites s (omega (arith, lt)),
      sum_by-cons (λ (x : ℕ). x) (length row) (shape sites),
      sum_by-cons (λ (x : ℕ). x) (length row) (take s (shape sites)),
    )

-- counts of the first sublattices
pub record IsBlank (sites : List (List (Option ℕ))) (s : ℕ) (site : List (List ℕ)) : Type 0 where
  pub shaped : shape site ≡ take s (shape sites)

pub blank_start : (sites : List (List (Option ℕ))) (site : List (List ℕ)) → site ≡ [] → IsBlank sites 0 site
blank_start sites site e = record { shaped = ap shape e }

pub blank_room : (sites : List (List (Option ℕ))) (s : ℕ) (site : List (List ℕ)) (zeros : List ℕ) → places sites ≤ 90 → s < length sites → length zeros ≡ length (slice_index_or sites s []) → IsBlank sites s site → length (concat site) + length zeros < 2 ^ 16
blank_room sites s site zeros few lt e b = omega (arith, few, e, sum_take sites s lt, concat_places site, ap sum b.shaped)

pub blank_more : (sites : List (List (Option ℕ))) (s : ℕ) (site more : List (List ℕ)) (zeros : List ℕ) → s < length sites → length zeros ≡ length (slice_index_or sites s []) → more ≡ site ++ zeros ∷ [] → IsBlank sites s site → IsBlank sites (s + 1) more
blank_more sites s site more zeros lt e m b = record {
  shaped = ap shape m ∙ map-append length site (zeros ∷ []) ∙ ap (λ (ws : List ℕ). ws ++ length zeros ∷ []) b.shaped ∙ ap (λ (w : ℕ). take s (shape sites) ++ w ∷ []) e ∙ sym (shape_take sites s lt) ∙ ap (λ (n : ℕ). take n (shape sites)) (sym (add-one s));
}

pub blank_done : (sites : List (List (Option ℕ))) (s : ℕ) (site : List (List ℕ)) → length sites ≤ s → IsBlank sites s site → shape site ≡ shape sites
blank_done sites s site le b = b.shaped ∙ take_all s (shape sites) (omega (arith, le, length-map sites (λ (row : List (Option ℕ)). length row)))
