-- Rules on a step beside the first one and the one before it.
use Rattle.std.proofs.Common.{◌≡◌, ℕ, zero, suc, ◌+◌, ◌-◌, ◌<◌, List, [], ◌∷◌, length, slice_get, Some, refl, arith, ap, sym, ◌∙◌, subst}
use Rattle.std.specs.Prelude.{ℤ}
use Rattle.cef_path.specs.declared.step.StepText.{StepText}
use Rattle.cal_check.specs.Paths.{OfFirst, OfLast, OfBefore, first_asked}
use Rattle.cal_check.specs.Workings.{AtStep}

same_item : (a b : StepText) → Some a ≡ Some b → a ≡ b
same_item a b e = cc

pub at_yes : (P : StepText → Type 0) (steps : List StepText) (i : ℕ) (s : StepText) → slice_get steps i ≡ Some s → P s → AtStep steps i P
at_yes P steps i s e on t f = subst P (same_item s t (sym e ∙ f)) on

pub at_no : (P : StepText → Type 0) (steps : List StepText) (i : ℕ) (s : StepText) → slice_get steps i ≡ Some s → (P s → ⊥) → AtStep steps i P → ⊥
at_no P steps i s e off all = off (all s e)

pub before_none : (P : StepText → Type 0) (steps : List StepText) (i : ℕ) → i ≡ 0 → OfBefore P steps i
before_none P steps i e b j f at = absurd (omega (arith, e, f))

pub before_yes : (P : StepText → Type 0) (steps : List StepText) (i : ℕ) (b : StepText) → slice_get steps (i - 1) ≡ Some b → P b → OfBefore P steps i
before_yes P steps i b e on c j f at =
    let place : i - 1 ≡ j = omega (arith, f) in
    subst P (same_item b c (sym e ∙ ap (slice_get steps) place ∙ at)) on

pub before_no : (P : StepText → Type 0) (steps : List StepText) (i : ℕ) (b : StepText) → 0 < i → slice_get steps (i - 1) ≡ Some b → (P b → ⊥) → OfBefore P steps i → ⊥
before_no P steps i b some e off all = off (all b (i - 1) (omega (arith, some)) e)

pub first_yes : (P : StepText → Type 0) (steps : List StepText) (s : StepText) → slice_get steps 0 ≡ Some s → P s → OfFirst P steps
first_yes P steps s e on t f = subst P (same_item s t (sym e ∙ f)) on

pub last_yes : (P : StepText → Type 0) (steps : List StepText) (s : StepText) → slice_get steps (length steps - 1) ≡ Some s → P s → OfLast P steps
last_yes P steps s e on t f = subst P (same_item s t (sym e ∙ f)) on

pub asked_first : (steps : List StepText) (s : StepText) → slice_get steps 0 ≡ Some s → first_asked steps ≡ s.report.asked
asked_first [] s e = absurd cc
asked_first (x ∷ steps) s e = let same : x ≡ s = cc in ap (λ (y : StepText). y.report.asked) same
