-- Each new constitution leaves one less unknown.
use Rattle.std.proofs.Common.{◌≡◌, ℕ, zero, suc, ◌+◌, ◌<◌, ◌≤◌, List, [], ◌∷◌, ◌++◌, length, get_or, Bool, true, false, cond, refl, arith, ap, sym, ◌∙◌}
use Rattle.std.specs.Prelude.{◌&&◌, ◌||◌, nat_eq}
use Rattle.std.specs.List.{Any, insert}
use Rattle.std.specs.Prelude.{IsPermutation}
use Rattle.std.proofs.lemmas.List.Sorted.{IsPermutation-insert, list_any-IsPermutation}
use Rattle.std.specs.Cmp.Lexicographic.{pointwise}
use Rattle.std.proofs.lemmas.Bool.{eqb-true, eq-eqb}
use Rattle.cef_report.specs.declared.entry.Entry.{Entry}
use Rattle.eq_solve.specs.Points.{AreSame, IsNew, same_site, is_known, unknown}

both : (a b : Bool) → (a && b) ≡ true → (a ≡ true) × (b ≡ true)
both true b h = (refl, h)
both false b h = cc

same_row : (a b : List ℕ) → pointwise nat_eq a b ≡ true → a ≡ b
same_row [] [] h = refl
same_row [] (y ∷ b) h = cc
same_row (x ∷ a) [] h = cc
same_row (x ∷ a) (y ∷ b) h =
    let parts = both (nat_eq x y) (pointwise nat_eq a b) h in
    let head : x ≡ y = eqb-true x y parts.0 in
    let tail : a ≡ b = same_row a b parts.1 in
    cc

row-same : (a : List ℕ) → pointwise nat_eq a a ≡ true
row-same [] = refl
row-same (x ∷ a) = rw (eq-eqb x x refl) (row-same a)

same_rows : (a b : List (List ℕ)) → pointwise (pointwise nat_eq) a b ≡ true → a ≡ b
same_rows [] [] h = refl
same_rows [] (y ∷ b) h = cc
same_rows (x ∷ a) [] h = cc
same_rows (x ∷ a) (y ∷ b) h =
    let parts = both (pointwise nat_eq x y) (pointwise (pointwise nat_eq) a b) h in
    let head : x ≡ y = same_row x y parts.0 in
    let tail : a ≡ b = same_rows a b parts.1 in
    cc

rows-same : (a : List (List ℕ)) → pointwise (pointwise nat_eq) a a ≡ true
rows-same [] = refl
rows-same (x ∷ a) = rw (row-same x) (rows-same a)

same-site : (a b : Entry) → AreSame a b → same_site a b ≡ true
same-site a b same = rw (same.0, same.1, eq-eqb b.phase b.phase refl) (rows-same b.site)

site-same : (a b : Entry) → same_site a b ≡ true → AreSame a b
site-same a b h =
    let parts = both (nat_eq a.phase b.phase) (pointwise (pointwise nat_eq) a.site b.site) h in
    (eqb-true a.phase b.phase parts.0, same_rows a.site b.site parts.1)

-- a new one is not known
not_known : (known : List Entry) (entry : Entry) → IsNew known entry → is_known known entry ≡ false
not_known [] entry new = refl
not_known (x ∷ known) entry new = by_test (same_site x entry) refl (not_known known entry (λ k d lt. new (suc k) d (omega arith)))
  where
    by_test : (b : Bool) → same_site x entry ≡ b → is_known known entry ≡ false → is_known (x ∷ known) entry ≡ false
    by_test true is rest = absurd (new 0 x (omega arith) (site-same x entry is))
    by_test false is rest = rw is rest

-- one that is the same as a known one is known or not as it is
known_same : (known : List Entry) (a b : Entry) → AreSame a b → is_known known a ≡ is_known known b
known_same [] a b same = refl
known_same (x ∷ known) a b same = rw (same.0, same.1, known_same known a b same) refl

unknown-le : (all known : List Entry) (e : Entry) → unknown all (e ∷ known) ≤ unknown all known
unknown-le [] known e = omega arith
unknown-le (x ∷ all) known e = by_test (is_known known x) (same_site e x) (unknown-le all known e)
  where
    by_test : (a b : Bool) → unknown all (e ∷ known) ≤ unknown all known →
        cond (b || a) 0 1 + unknown all (e ∷ known) ≤ cond a 0 1 + unknown all known
    by_test true true h = omega (arith, h)
    by_test false true h = omega (arith, h)
    by_test true false h = omega (arith, h)
    by_test false false h = omega (arith, h)

unknown-falls : (all known : List Entry) (e : Entry) → Any (λ other. AreSame other e) all → IsNew known e → unknown all (e ∷ known) < unknown all known
unknown-falls all known e listed new = falls all listed.0 listed.1 listed.2 listed.3 listed.4
  where
    falls : (all : List Entry) (k : ℕ) (x : Entry) → k < length all → get_or all k x ≡ x → AreSame x e → unknown all (e ∷ known) < unknown all known
    falls [] k x lt is same = absurd (omega arith)
    falls (y ∷ all) zero x lt is same =
        let sames : AreSame y e = (ap (λ (z : Entry). z.phase) is ∙ same.0, ap (λ (z : Entry). z.site) is ∙ same.1) in
        let not_yet : is_known known y ≡ false = known_same known y e sames ∙ not_known known e new in
        let now : same_site e y ≡ true = same-site e y (sym sames.0, sym sames.1) in
        rw (not_yet, now) (omega (arith, unknown-le all known e))
    falls (y ∷ all) (suc k) x lt is same = by_test (is_known known y) (same_site e y) (falls all k x (omega arith) is same)
      where
        by_test : (a b : Bool) → unknown all (e ∷ known) < unknown all known →
            cond (b || a) 0 1 + unknown all (e ∷ known) < cond a 0 1 + unknown all known
        by_test true true h = omega (arith, h)
        by_test true false h = omega (arith, h)
        by_test false true h = omega (arith, h)
        by_test false false h = omega (arith, h)

unknown_permuted : (all xs ys : List Entry) → IsPermutation xs ys → unknown all xs ≡ unknown all ys
unknown_permuted [] xs ys perm = refl
unknown_permuted (entry ∷ all) xs ys perm = rw (list_any-IsPermutation (λ (other : Entry). same_site other entry) xs ys perm, unknown_permuted all xs ys perm) refl

pub unknown-insert : (all known : List Entry) (place : ℕ) (e : Entry) → Any (λ other. AreSame other e) all → IsNew known e → unknown all (insert known place e) < unknown all known
unknown-insert all known place e listed new =
    rw (← unknown_permuted all (e ∷ known) (insert known place e) (IsPermutation-insert known place e)) (unknown-falls all known e listed new)

pub unknown-insert-le : (all known : List Entry) (place : ℕ) (e : Entry) → unknown all (insert known place e) ≤ unknown all known
unknown-insert-le all known place e =
    rw (← unknown_permuted all (e ∷ known) (insert known place e) (IsPermutation-insert known place e)) (unknown-le all known e)
