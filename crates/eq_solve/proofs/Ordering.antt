-- The order of entries: it is transitive, and of two constitutions of a system one is before the other, or they are the same.
use Rattle.std.proofs.Common.{◌≡◌, ℕ, zero, suc, ◌+◌, ◌<◌, ◌≤◌, ◌⊎◌, List, [], ◌∷◌, ◌++◌, length, refl, arith, ap, sym, ◌∙◌, subst, inl, inr}
use Rattle.std.specs.Prelude.{Option, Some, slice_get}
use Rattle.std.specs.List.{concat}
use Rattle.std.proofs.lemmas.Bool.{cases_lt}
use Rattle.std.proofs.lemmas.List.{length-append}
use Rattle.cef_core.specs.declared.phase.PhaseAt.{PhaseAt}
use Rattle.cef_core.specs.declared.system.System.{System}
use Rattle.cef_core.specs.Constitutions.{HasShape}
use Rattle.cef_report.specs.declared.entry.Entry.{Entry}
use Rattle.cef_report.specs.Holding.{AreLess, IsBefore}
use Rattle.eq_solve.specs.Points.{IsConstitutionOf, AreSame}

less_trans : (xs ys zs : List ℕ) → AreLess xs ys → AreLess ys zs → AreLess xs zs
less_trans [] ys zs p q = absurd p
less_trans (x ∷ xs) [] zs p q = absurd p
less_trans (x ∷ xs) (y ∷ ys) [] p q = absurd q
less_trans (x ∷ xs) (y ∷ ys) (z ∷ zs) (inl p) (inl q) = inl (omega (arith, p, q))
less_trans (x ∷ xs) (y ∷ ys) (z ∷ zs) (inl p) (inr q) = inl (omega (arith, p, q.0))
less_trans (x ∷ xs) (y ∷ ys) (z ∷ zs) (inr p) (inl q) = inl (omega (arith, p.0, q))
less_trans (x ∷ xs) (y ∷ ys) (z ∷ zs) (inr p) (inr q) = inr (p.0 ∙ q.0, less_trans xs ys zs p.1 q.1)

pub before_trans : (a b c : Entry) → IsBefore a b → IsBefore b c → IsBefore a c
before_trans a b c (inl p) (inl q) = inl (omega (arith, p, q))
before_trans a b c (inl p) (inr q) = inl (omega (arith, p, q.0))
before_trans a b c (inr p) (inl q) = inl (omega (arith, p.0, q))
before_trans a b c (inr p) (inr q) = inr (p.0 ∙ q.0, less_trans (concat a.site) (concat b.site) (concat c.site) p.1 q.1)

less_or_same : (xs ys : List ℕ) → length xs ≡ length ys → (AreLess xs ys → ⊥) → (AreLess ys xs → ⊥) → xs ≡ ys
less_or_same [] [] len p q = refl
less_or_same [] (y ∷ ys) len p q = absurd (omega (arith, len))
less_or_same (x ∷ xs) [] len p q = absurd (omega (arith, len))
less_or_same (x ∷ xs) (y ∷ ys) len p q =
    let head : x ≡ y = elim (cases_lt x y) [
      | inl lt ↦ absurd (p (inl lt))
      | inr le ↦ elim (cases_lt y x) [
        | inl more ↦ absurd (q (inl more))
        | inr ge ↦ omega (arith, le, ge)
      ]
    ] in
    let tail : xs ≡ ys = less_or_same xs ys (omega (arith, len)) (λ l. p (inr (head, l))) (λ l. q (inr (sym head, l))) in
    cc

pub append_same : (xs ys us vs : List ℕ) → length xs ≡ length ys → xs ++ us ≡ ys ++ vs → (xs ≡ ys) × (us ≡ vs)
append_same [] [] us vs len e = (refl, e)
append_same [] (y ∷ ys) us vs len e = absurd (omega (arith, len))
append_same (x ∷ xs) [] us vs len e = absurd (omega (arith, len))
append_same (x ∷ xs) (y ∷ ys) us vs len e =
    let tails : xs ++ us ≡ ys ++ vs = cc in
    let heads : x ≡ y = cc in
    let rest = append_same xs ys us vs (omega (arith, len)) tails in
    let same : xs ≡ ys = rest.0 in
    (cc, rest.1)

concat_length : (n : ℕ) (sites : List (List (Option ℕ))) (a b : List (List ℕ)) → HasShape n sites a → HasShape n sites b → length (concat a) ≡ length (concat b)
concat_length n [] [] [] p q = refl
concat_length n [] [] (y ∷ b) p q = absurd q
concat_length n [] (x ∷ a) b p q = absurd p
concat_length n (row ∷ sites) [] b p q = absurd p
concat_length n (row ∷ sites) (x ∷ a) [] p q = absurd q
concat_length n (row ∷ sites) (x ∷ a) (y ∷ b) p q =
    omega (arith, length-append x (concat a), length-append y (concat b), p.0, q.0, concat_length n sites a b p.2 q.2)

site_from_counts : (n : ℕ) (sites : List (List (Option ℕ))) (a b : List (List ℕ)) → HasShape n sites a → HasShape n sites b → concat a ≡ concat b → a ≡ b
site_from_counts n [] [] [] p q e = refl
site_from_counts n [] [] (y ∷ b) p q e = absurd q
site_from_counts n [] (x ∷ a) b p q e = absurd p
site_from_counts n (row ∷ sites) [] b p q e = absurd p
site_from_counts n (row ∷ sites) (x ∷ a) [] p q e = absurd q
site_from_counts n (row ∷ sites) (x ∷ a) (y ∷ b) p q e =
    let parts = append_same x y (concat a) (concat b) (p.0 ∙ sym q.0) e in
    let head : x ≡ y = parts.0 in
    let tail : a ≡ b = site_from_counts n sites a b p.2 q.2 parts.1 in
    cc

one_phase : (o : Option PhaseAt) (x y : PhaseAt) → o ≡ Some x → o ≡ Some y → x ≡ y
one_phase o x y p q = cc

pub before_or_same : (system : System) (a b : Entry) → IsConstitutionOf system a → IsConstitutionOf system b → (IsBefore a b → ⊥) → (IsBefore b a → ⊥) → AreSame a b
before_or_same system a b is_a is_b p q =
    let place : a.phase ≡ b.phase = elim (cases_lt a.phase b.phase) [
      | inl lt ↦ absurd (p (inl lt))
      | inr le ↦ elim (cases_lt b.phase a.phase) [
        | inl more ↦ absurd (q (inl more))
        | inr ge ↦ omega (arith, le, ge)
      ]
    ] in
    let phase : is_b.phase ≡ is_a.phase = one_phase (slice_get system.phases a.phase) is_b.phase is_a.phase (rw place is_b.is_phase) is_a.is_phase in
    let shape_a = is_a.constitution.shape in
    let shape_b : HasShape is_a.phase.lattice is_a.phase.sites b.site = subst (λ (x : PhaseAt). HasShape x.lattice x.sites b.site) phase is_b.constitution.shape in
    let counts : concat a.site ≡ concat b.site = less_or_same (concat a.site) (concat b.site) (concat_length is_a.phase.lattice is_a.phase.sites a.site b.site shape_a shape_b) (λ l. p (inr (place, l))) (λ l. q (inr (sym place, l))) in
    (place, site_from_counts is_a.phase.lattice is_a.phase.sites a.site b.site shape_a shape_b counts)
