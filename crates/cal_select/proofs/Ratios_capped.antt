-- ratios that are capped above the limit of their sum
use Rattle.std.proofs.Common.{◌≡◌, ℕ, ◌≤◌, min, List, [], ◌∷◌, map, Option, Some, None, refl, ap, arith}
use Rattle.std.specs.Prelude.{nat_lt}
use Rattle.std.specs.List.{sum}
use Rattle.std.specs.Option.{unwrap_or, option_map}
use Rattle.std.proofs.lemmas.List.Sums.{sum_by-cons}
use Rattle.std.proofs.lemmas.Bool.Decides.{nat_tests}
use Rattle.cal_dec.specs.declared.dec.Dec.{Dec}
use Rattle.cal_select.specs.Wholes.{scaled, capped_ratio, whole_ratios}

capped_is : (cap : ℕ) (o : Option ℕ) → unwrap_or (option_map (min cap) o) 0 ≡ min cap (unwrap_or o 0)
capped_is cap None = omega arith
capped_is cap (Some n) = refl

abbrev whole_of : ℕ → Dec → ℕ
whole_of d ratio = unwrap_or (scaled d ratio) 0

-- where the capped ones are within the limit, they are the whole ones
same_or_above : (d : ℕ) (ratios : List Dec) → sum (map (capped_ratio d) ratios) ≤ sum (whole_ratios d ratios)
same_or_above d [] = omega arith
same_or_above d (r ∷ ratios) =
    omega (arith, sum_by-cons (λ (n : ℕ). n) (capped_ratio d r) (map (capped_ratio d) ratios), sum_by-cons (λ (n : ℕ). n) (whole_of d r) (whole_ratios d ratios), capped_is 100001 (scaled d r), same_or_above d ratios)

pub capped-whole : (d : ℕ) (ratios : List Dec) → sum (map (capped_ratio d) ratios) ≤ 100000 → map (capped_ratio d) ratios ≡ whole_ratios d ratios
capped-whole d [] small = refl
capped-whole d (r ∷ ratios) small =
    let split = sum_by-cons (λ (n : ℕ). n) (capped_ratio d r) (map (capped_ratio d) ratios) in
    let rest = capped-whole d ratios (omega (arith, split, small)) in
    let here : capped_ratio d r ≡ whole_of d r = omega (arith, split, small, capped_is 100001 (scaled d r)) in
    joined (capped_ratio d r) (whole_of d r) (map (capped_ratio d) ratios) (whole_ratios d ratios) here rest
  where
    joined : (a b : ℕ) (xs ys : List ℕ) → a ≡ b → xs ≡ ys → a ∷ xs ≡ b ∷ ys
    joined a b xs ys e f = cc

pub narrow_ratios : (d : ℕ) (ratios : List Dec) → sum (whole_ratios d ratios) ≤ 100000 → map (capped_ratio d) ratios ≡ whole_ratios d ratios
narrow_ratios d ratios small = capped-whole d ratios (omega (arith, small, same_or_above d ratios))

ends : (a b : ℕ) → a ≤ b → (a ≤ 100000 → a ≡ b) → nat_lt 100000 a ≡ nat_lt 100000 b
ends a b le same = grind (arith, nat_tests)

pub wide_ratios : (d : ℕ) (ratios : List Dec) → nat_lt 100000 (sum (map (capped_ratio d) ratios)) ≡ nat_lt 100000 (sum (whole_ratios d ratios))
wide_ratios d ratios = ends (sum (map (capped_ratio d) ratios)) (sum (whole_ratios d ratios)) (same_or_above d ratios) (λ small. ap sum (capped-whole d ratios small))

pub ruleset ratios_capped = (narrow_ratios, wide_ratios)
