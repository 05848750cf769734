-- A linear value over lists of counts is greatest with one constituent alone on each sublattice.
use Rattle.std.proofs.Common.{◌≡◌, ℕ, zero, suc, ◌+◌, ◌*◌, ◌<◌, ◌≤◌, List, [], ◌∷◌, ◌++◌, length, get_or, take, replicate, Bool, true, false, refl, arith, ap, sym, ◌∙◌, subst, inl, inr}
use Rattle.std.specs.Prelude.{ℤ, pos, negsuc, ◌+ℤ◌, ◌*ℤ◌, ◌≤ℤ◌, Option, Some, None, sum, nat_eq, ◌⊎◌, if◌then◌else◌}
use Rattle.std.specs.Int.Signed.{≤ℤ_refl}
use Rattle.std.proofs.lemmas.Int.{ints}
use Rattle.std.proofs.lemmas.Bool.{cases_lt, eqb-true, eq-eqb}
use Rattle.std.specs.List.{concat}
use Rattle.std.proofs.lemmas.List.{length-append}
use Rattle.std.proofs.Math.Seq.{take-suc}
use Rattle.std.proofs.lemmas.List.Sums.{sum_by-cons}
use Rattle.cal_math.specs.Whole.{*ℤ-+ℤ, *ℤ_left, *ℤ_comm, *ℤ-≤}
use Rattle.cal_math.specs.Vectors.{at, dot}
use Rattle.cef_core.specs.declared.phase.PhaseAt.{PhaseAt}
use Rattle.cef_core.specs.Constitutions.{HasShape, weight_of, content_of_counts, content_over, content}
use Rattle.cef_core.specs.Worth.{worth}
use Rattle.eq_solve.proofs.Worths.{worth-nil, worth-cons, worth-zero, worth-add, worth-scale, worth_same}
use Rattle.eq_solve.specs.Greatest.{site_value, IsBest, AreBest, alone}

pub same_read : (xs : List (Option ℕ)) (k : ℕ) (d e : Option ℕ) → k < length xs → get_or xs k d ≡ get_or xs k e
same_read [] k d e lt = absurd (omega arith)
same_read (x ∷ xs) zero d e lt = refl
same_read (x ∷ xs) (suc k) d e lt = same_read xs k d e (omega arith)

pub any_read : (v : List ℤ) (xs : List (Option ℕ)) (i j : ℕ) → i < length xs → j < length xs → site_value v (get_or xs i None) ≤ℤ site_value v (get_or xs j None) → (d : Option ℕ) → site_value v (get_or xs i d) ≤ℤ site_value v (get_or xs j d)
any_read v xs i j less lt le d = rw (same_read xs i d None less, same_read xs j d None lt) le

-- the best of the first places
pub record IsBestBelow (v : List ℤ) (sites : List (Option ℕ)) (best n : ℕ) : Type 0 where
  pub before : best < n
  pub within : n ≤ length sites
  pub most : (k : ℕ) (d : Option ℕ) → k < n → site_value v (get_or sites k d) ≤ℤ site_value v (get_or sites best d)

pub best-first : (v : List ℤ) (sites : List (Option ℕ)) → 0 < length sites → IsBestBelow v sites 0 1
best-first v sites some = record { before = omega arith; within = omega arith; most = most }
  where
    most : (k : ℕ) (d : Option ℕ) → k < 1 → site_value v (get_or sites k d) ≤ℤ site_value v (get_or sites 0 d)
    most k d lt = let e : 0 ≡ k = omega arith in subst (λ (j : ℕ). site_value v (get_or sites j d) ≤ℤ site_value v (get_or sites 0 d)) e (≤ℤ_refl _)

pub best_takes : (v : List ℤ) (sites : List (Option ℕ)) (best n : ℕ) → n < length sites → ((d : Option ℕ) → site_value v (get_or sites best d) ≤ℤ site_value v (get_or sites n d)) → IsBestBelow v sites best n → IsBestBelow v sites n (n + 1)
best_takes v sites best n lt above is = record { before = omega arith; within = omega arith; most = most }
  where
    most : (k : ℕ) (d : Option ℕ) → k < n + 1 → site_value v (get_or sites k d) ≤ℤ site_value v (get_or sites n d)
    most k d less =
        elim (cases_lt k n) [
          | inl before ↦ omega (arith, ints, is.most k d before, above d)
          | inr behind ↦ let e : n ≡ k = omega arith in subst (λ (j : ℕ). site_value v (get_or sites j d) ≤ℤ site_value v (get_or sites n d)) e (≤ℤ_refl _)
        ]

pub best_keeps : (v : List ℤ) (sites : List (Option ℕ)) (best n : ℕ) → n < length sites → ((d : Option ℕ) → site_value v (get_or sites n d) ≤ℤ site_value v (get_or sites best d)) → IsBestBelow v sites best n → IsBestBelow v sites best (n + 1)
best_keeps v sites best n lt above is = record { before = omega (arith, is.before); within = omega arith; most = most }
  where
    most : (k : ℕ) (d : Option ℕ) → k < n + 1 → site_value v (get_or sites k d) ≤ℤ site_value v (get_or sites best d)
    most k d less =
        elim (cases_lt k n) [
          | inl before ↦ is.most k d before
          | inr behind ↦ let e : n ≡ k = omega arith in subst (λ (j : ℕ). site_value v (get_or sites j d) ≤ℤ site_value v (get_or sites best d)) e (above d)
        ]

-- ---- counts of one alone

pub length-alone : (n place size : ℕ) → length (alone n place size) ≡ size
length-alone n place zero = refl
length-alone n zero (suc size) = omega (arith, length_replicate size)
  where
    length_replicate : (k : ℕ) → length (replicate {A = ℕ} k 0) ≡ k
    length_replicate zero = refl
    length_replicate (suc k) = omega (arith, length_replicate k)
length-alone n (suc place) (suc size) = omega (arith, length-alone n place size)

zero_at : (size k : ℕ) → k < size → get_or (replicate {A = ℕ} size 0) k 0 ≡ 0
zero_at zero k lt = absurd (omega arith)
zero_at (suc size) zero lt = refl
zero_at (suc size) (suc k) lt = zero_at size k (omega arith)

pub alone_same : (n place size k : ℕ) → k < size → k ≡ place → get_or (alone n place size) k 0 ≡ n
alone_same n place zero k lt e = absurd (omega arith)
alone_same n zero (suc size) zero lt e = refl
alone_same n zero (suc size) (suc k) lt e = absurd (omega arith)
alone_same n (suc place) (suc size) zero lt e = absurd (omega arith)
alone_same n (suc place) (suc size) (suc k) lt e = alone_same n place size k (omega arith) (omega arith)

pub alone_other : (n place size k : ℕ) → k < size → (k ≡ place → ⊥) → get_or (alone n place size) k 0 ≡ 0
alone_other n place zero k lt ne = absurd (omega arith)
alone_other n zero (suc size) zero lt ne = absurd (ne refl)
alone_other n zero (suc size) (suc k) lt ne = zero_at size k (omega arith)
alone_other n (suc place) (suc size) zero lt ne = refl
alone_other n (suc place) (suc size) (suc k) lt ne = alone_other n place size k (omega arith) (λ e. ne (ap suc e))

sum_cons : (k : ℕ) (counts : List ℕ) → sum (k ∷ counts) ≡ k + sum counts
sum_cons k counts = sum_by-cons (λ x. x) k counts

sum_zeros : (size : ℕ) → sum (replicate size 0) ≡ 0
sum_zeros zero = refl
sum_zeros (suc size) = omega (arith, sum_cons 0 (replicate size 0), sum_zeros size)

pub sum-alone : (n place size : ℕ) → place < size → sum (alone n place size) ≡ n
sum-alone n place zero lt = absurd (omega arith)
sum-alone n zero (suc size) lt = omega (arith, sum_cons n (replicate size 0), sum_zeros size)
sum-alone n (suc place) (suc size) lt = omega (arith, sum_cons 0 (alone n place size), sum-alone n place size (omega arith))

pub alone_more_yes : (n place size k : ℕ) → k < size → k ≡ place → take (k + 1) (alone n place size) ≡ take k (alone n place size) ++ n ∷ []
alone_more_yes n place size k lt e =
    let one : k + 1 ≡ suc k = omega arith in
    rw (one, take-suc (alone n place size) k 0 (omega (arith, length-alone n place size)), alone_same n place size k lt e) refl

pub alone_more_no : (n place size k : ℕ) → k < size → (k ≡ place → ⊥) → take (k + 1) (alone n place size) ≡ take k (alone n place size) ++ 0 ∷ []
alone_more_no n place size k lt ne =
    let one : k + 1 ≡ suc k = omega arith in
    rw (one, take-suc (alone n place size) k 0 (omega (arith, length-alone n place size)), alone_other n place size k lt ne) refl

pub concat_push : (xs : List (List ℕ)) (y : List ℕ) → length (concat (xs ++ y ∷ [])) ≡ length (concat xs) + length y
concat_push [] y = omega (arith, length-append y [])
concat_push (x ∷ xs) y = omega (arith, length-append x (concat (xs ++ y ∷ [])), length-append x (concat xs), concat_push xs y)

-- ---- values of counts

abbrev pub row_value : List ℤ → List (Option ℕ) → List ℕ → ℤ
row_value v (site ∷ sites) (k ∷ counts) = pos k *ℤ site_value v site +ℤ row_value v sites counts
row_value v [] counts = pos 0
row_value v (site ∷ sites) [] = pos 0

abbrev pub list_value : List ℤ → List ℕ → List (List (Option ℕ)) → List (List ℕ) → ℤ
list_value v (ratio ∷ ratios) (sites ∷ rest) (counts ∷ more) = pos ratio *ℤ row_value v sites counts +ℤ list_value v ratios rest more
list_value v [] rest more = pos 0
list_value v (ratio ∷ ratios) [] more = pos 0
list_value v (ratio ∷ ratios) (sites ∷ rest) [] = pos 0

same_bool : (a b : Bool) → (a ≡ true → b ≡ true) → (b ≡ true → a ≡ true) → a ≡ b
same_bool true true f g = refl
same_bool true false f g = sym (f refl)
same_bool false true f g = g refl
same_bool false false f g = refl

weight_next : (c ratio d : ℕ) → weight_of (suc c) ratio (Some (suc d)) ≡ weight_of c ratio (Some d)
weight_next c ratio d =
    ap (λ (b : Bool). if b then ratio else 0)
    (same_bool (nat_eq (suc c) (suc d)) (nat_eq c d) (λ e. eq-eqb c d (omega (arith, eqb-true (suc c) (suc d) e))) (λ e. eq-eqb (suc c) (suc d) (ap suc (eqb-true c d e))))

weight_none : (c ratio : ℕ) → weight_of (suc c) ratio (Some 0) ≡ 0
weight_none c ratio = by_test (nat_eq (suc c) 0) refl
  where
    by_test : (b : Bool) → nat_eq (suc c) 0 ≡ b → (if b then ratio else 0) ≡ 0
    by_test true e = absurd (omega (arith, eqb-true (suc c) 0 e))
    by_test false e = refl

weight_first : (ratio d : ℕ) → weight_of 0 ratio (Some (suc d)) ≡ 0
weight_first ratio d = by_test (nat_eq 0 (suc d)) refl
  where
    by_test : (b : Bool) → nat_eq 0 (suc d) ≡ b → (if b then ratio else 0) ≡ 0
    by_test true e = absurd (omega (arith, eqb-true 0 (suc d) e))
    by_test false e = refl

-- the value of a site's weights is its ratio times the number there
weight_value : (v : List ℤ) (ratio d : ℕ) → worth v (λ c. pos (weight_of c ratio (Some d))) ≡ pos ratio *ℤ at v d
weight_value [] ratio d = omega (arith, ints, worth-nil (λ c. pos (weight_of c ratio (Some d))))
weight_value (m ∷ v) ratio zero = omega (arith, ints, worth-cons m v (λ c. pos (weight_of c ratio (Some 0))), *ℤ_comm m (pos ratio), rest v)
  where
    rest : (v : List ℤ) → worth v (λ c. pos (weight_of (suc c) ratio (Some 0))) ≡ pos 0
    rest v = worth_same v (λ c. pos (weight_of (suc c) ratio (Some 0))) (λ c. pos 0) (λ c lt. ap pos (weight_none c ratio)) ∙ worth-zero v
weight_value (m ∷ v) ratio (suc d) = omega (arith, ints, worth-cons m v (λ c. pos (weight_of c ratio (Some (suc d)))), worth_same v (λ c. pos (weight_of (suc c) ratio (Some (suc d)))) (λ c. pos (weight_of c ratio (Some d))) (λ c lt. ap pos (weight_next c ratio d)), weight_value v ratio d, ap (λ (n : ℕ). m *ℤ pos n) (weight_first ratio d))

site_weights : (v : List ℤ) (ratio : ℕ) (site : Option ℕ) → worth v (λ c. pos (weight_of c ratio site)) ≡ pos ratio *ℤ site_value v site
site_weights v ratio None = omega (arith, ints, worth-zero v)
site_weights v ratio (Some d) = weight_value v ratio d

row_is : (v : List ℤ) (ratio : ℕ) (sites : List (Option ℕ)) (counts : List ℕ) → worth v (λ c. pos (content_of_counts c ratio sites counts)) ≡ pos ratio *ℤ row_value v sites counts
row_is v ratio [] counts = omega (arith, ints, worth-zero v)
row_is v ratio (site ∷ sites) [] = omega (arith, ints, worth-zero v)
row_is v ratio (site ∷ sites) (k ∷ counts) =
    worth_same v (λ c. pos (k * weight_of c ratio site + content_of_counts c ratio sites counts)) (λ c. pos k *ℤ pos (weight_of c ratio site) +ℤ pos (content_of_counts c ratio sites counts)) (λ c lt. omega (arith, ints))
    ∙ worth-add v (λ c. pos k *ℤ pos (weight_of c ratio site)) (λ c. pos (content_of_counts c ratio sites counts))
    ∙ omega (
      arith,
      ints,
      worth-scale v (pos k) (λ c. pos (weight_of c ratio site)),
      ap (λ (z : ℤ). pos k *ℤ z) (site_weights v ratio site),
      row_is v ratio sites counts,
      *ℤ-+ℤ (pos ratio) (pos k *ℤ site_value v site) (row_value v sites counts),
      *ℤ_left (pos k) (pos ratio) (site_value v site),
    )

over_is : (v : List ℤ) (ratios : List ℕ) (sites : List (List (Option ℕ))) (counts : List (List ℕ)) → worth v (λ c. pos (content_over c ratios sites counts)) ≡ list_value v ratios sites counts
over_is v [] sites counts = worth-zero v
over_is v (ratio ∷ ratios) [] counts = worth-zero v
over_is v (ratio ∷ ratios) (sites ∷ rest) [] = worth-zero v
over_is v (ratio ∷ ratios) (sites ∷ rest) (counts ∷ more) =
    worth_same v (λ c. pos (content_of_counts c ratio sites counts + content_over c ratios rest more)) (λ c. pos (content_of_counts c ratio sites counts) +ℤ pos (content_over c ratios rest more)) (λ c lt. omega (arith, ints))
    ∙ worth-add v (λ c. pos (content_of_counts c ratio sites counts)) (λ c. pos (content_over c ratios rest more))
    ∙ omega (arith, ints, row_is v ratio sites counts, over_is v ratios rest more)

pub content_value : (v : List ℤ) (phase : PhaseAt) (counts : List (List ℕ)) → worth v (content phase counts) ≡ list_value v phase.ratios phase.sites counts
unfolding content
content_value v phase counts = over_is v phase.ratios phase.sites counts

-- counts that add to n have at most n times the greatest value
row_most : (v : List ℤ) (sites : List (Option ℕ)) (counts : List ℕ) (most : ℤ) → length counts ≡ length sites → ((k : ℕ) (d : Option ℕ) → k < length sites → site_value v (get_or sites k d) ≤ℤ most) →
    row_value v sites counts ≤ℤ (pos (sum counts) *ℤ most)
row_most v [] [] most len all = omega (arith, ints)
row_most v [] (k ∷ counts) most len all = absurd (omega (arith, len))
row_most v (site ∷ sites) [] most len all = absurd (omega (arith, len))
row_most v (site ∷ sites) (k ∷ counts) most len all =
    let rest = row_most v sites counts most (omega (arith, len)) (λ j d lt. all (suc j) d (omega arith)) in
    let first : (pos k *ℤ site_value v site) ≤ℤ (pos k *ℤ most) = *ℤ-≤ (pos k) (site_value v site) most (omega (arith, ints)) (all 0 site (omega arith)) in
    let times : pos (sum (k ∷ counts)) *ℤ most ≡ pos k *ℤ most +ℤ pos (sum counts) *ℤ most =
    ap (λ (n : ℕ). pos n *ℤ most) (sum_cons k counts) ∙ omega (arith, ints, *ℤ_comm (pos (k + sum counts)) most, *ℤ-+ℤ most (pos k) (pos (sum counts)), *ℤ_comm most (pos k), *ℤ_comm most (pos (sum counts))) in
    omega (arith, ints, rest, first, times)

row_zeros : (v : List ℤ) (sites : List (Option ℕ)) (size : ℕ) → row_value v sites (replicate size 0) ≡ pos 0
row_zeros v [] size = refl
row_zeros v (site ∷ sites) zero = refl
row_zeros v (site ∷ sites) (suc size) = omega (arith, ints, row_zeros v sites size)

row_alone : (v : List ℤ) (sites : List (Option ℕ)) (n place : ℕ) (d : Option ℕ) → place < length sites → row_value v sites (alone n place (length sites)) ≡ pos n *ℤ site_value v (get_or sites place d)
row_alone v [] n place d lt = absurd (omega arith)
row_alone v (site ∷ sites) n zero d lt = omega (arith, ints, row_zeros v sites (length sites))
row_alone v (site ∷ sites) n (suc place) d lt = omega (arith, ints, row_alone v sites n place d (omega arith))

pub best-most : (n : ℕ) (v : List ℤ) (ratios : List ℕ) (sites : List (List (Option ℕ))) (counts best : List (List ℕ)) → HasShape n sites counts → AreBest n v sites best → list_value v ratios sites counts ≤ℤ list_value v ratios sites best
best-most n v [] sites counts best shape are = omega (arith, ints)
best-most n v (ratio ∷ ratios) [] counts best shape are = omega (arith, ints)
best-most n v (ratio ∷ ratios) (row ∷ rest) [] best shape are = absurd shape
best-most n v (ratio ∷ ratios) (row ∷ rest) (counts ∷ more) [] shape are = absurd are
best-most n v (ratio ∷ ratios) (row ∷ rest) (counts ∷ more) (b ∷ best) shape are =
    let behind = best-most n v ratios rest more best shape.2 are.1 in
    let place : ℕ = are.0.0 in
    let is : IsBest v row place = are.0.1 in
    let top : ℤ = site_value v (get_or row place None) in
    let most : row_value v row counts ≤ℤ (pos (sum counts) *ℤ top) = row_most v row counts top shape.0 (λ k d lt. is_top k d lt is) in
    let equal : row_value v row b ≡ pos n *ℤ top = rw are.0.2 (row_alone v row n place None is.within) in
    let total : pos (sum counts) *ℤ top ≡ pos n *ℤ top = ap (λ (k : ℕ). pos k *ℤ top) shape.1 in
    let times : (pos ratio *ℤ row_value v row counts) ≤ℤ (pos ratio *ℤ row_value v row b) = *ℤ-≤ (pos ratio) (row_value v row counts) (row_value v row b) (omega (arith, ints)) (omega (arith, ints, most, equal, total)) in
    omega (arith, ints, behind, times)
  where
    is_top : (k : ℕ) (d : Option ℕ) → k < length row → (is : IsBest v row are.0.0) → site_value v (get_or row k d) ≤ℤ site_value v (get_or row are.0.0 None)
    is_top k d lt is = rw (same_read row are.0.0 None d is.within) (is.most k d lt)

pub best-shape : (n : ℕ) (v : List ℤ) (sites : List (List (Option ℕ))) (best : List (List ℕ)) → AreBest n v sites best → HasShape n sites best
best-shape n v [] [] are = tt
best-shape n v [] (b ∷ best) are = absurd are
best-shape n v (row ∷ rest) [] are = absurd are
best-shape n v (row ∷ rest) (b ∷ best) are =
    (rw are.0.2 (length-alone n are.0.0 (length row)), rw are.0.2 (sum-alone n are.0.0 (length row) are.0.1.within), best-shape n v rest best are.1)

-- a value above 0 needs some content
pub some_part : (n : ℕ) (r f : ℕ → ℤ) → pos 1 ≤ℤ dot n r f → ((c : ℕ) → pos 0 ≤ℤ f c) → (c : ℕ) × (pos 1 ≤ℤ f c)
unfolding dot
some_part zero r f above least = absurd (omega (arith, ints, above))
some_part (suc n) r f above least =
    elim (cases_some (f n) (least n)) [
      | inl some ↦ (n, some)
      | inr none ↦ some_part n r f (omega (arith, ints, above, ap (λ (z : ℤ). r n *ℤ z) none)) least
    ]
  where
    cases_some : (z : ℤ) → pos 0 ≤ℤ z → (pos 1 ≤ℤ z) ⊎ (z ≡ pos 0)
    cases_some (pos zero) p = inr refl
    cases_some (pos (suc k)) p = inl (omega (arith, ints))
    cases_some (negsuc k) p = absurd (omega (arith, ints))
