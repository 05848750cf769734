-- The starts of a phase, column by column.
use Rattle.std.proofs.Common.{◌≡◌, ℕ, zero, suc, ◌+◌, ◌<◌, List, [], ◌∷◌, ◌++◌, length, refl, arith, ap, sym, ◌∙◌, subst, inl, inr}
use Rattle.std.specs.Prelude.{ℤ, pos, Option, Result, Ok, Err, IfOk}
use Rattle.std.proofs.lemmas.Bool.{cases_eq}
use Rattle.lp_laws.specs.Bases.{IsUnit}
use Rattle.cal_math.specs.Vectors.{at}
use Rattle.lp_basis.specs.declared.column.Column.{Column}
use Rattle.lp_stage.specs.Leaving.{amounts_at}
use Rattle.lp_stage.specs.Stages.{unit_at, basis_columns}
use Rattle.lp_core.specs.Starts.{AreStarts}

pub IfOk-weaker : {A E : Type 0} (r : Result A E) (P Q : A → Type 0) → ((x : A) → P x → Q x) → IfOk r P → IfOk r Q
IfOk-weaker (Ok x) P Q h p = h x p
IfOk-weaker (Err e) P Q h p = p

unit_here : (j : ℕ) → unit_at j j ≡ pos 1
unit_here zero = refl
unit_here (suc j) = unit_here j

unit_there : (j c : ℕ) → (c ≡ j → ⊥) → unit_at j c ≡ pos 0
unit_there zero zero ne = absurd (ne refl)
unit_there zero (suc c) ne = refl
unit_there (suc j) zero ne = refl
unit_there (suc j) (suc c) ne = unit_there j c (λ e. ne (ap suc e))

pub IsUnit-unit_at : (n j : ℕ) → IsUnit n j (unit_at j)
IsUnit-unit_at n j = record { one = unit_here j; zeros = λ c lt ne. unit_there j c ne }

-- the row of a unit is the unit
pub unit_is : (n k : ℕ) (row : ℕ → ℤ) → IsUnit n k row → (c : ℕ) → c < n → row c ≡ unit_at k c
unit_is n k row is c lt =
    elim (cases_eq c k) [
      | inl e ↦ subst (λ (i : ℕ). row i ≡ unit_at k i) (sym e) (is.one ∙ sym (unit_here k))
      | inr ne ↦ is.zeros c lt ne ∙ sym (unit_there k c ne)
    ]

amounts_front : (xs : List Column) (y : Column) (k : ℕ) → k < length xs → amounts_at (xs ++ y ∷ []) k ≡ amounts_at xs k
amounts_front [] y k lt = absurd (omega arith)
amounts_front (x ∷ xs) y zero lt = refl
amounts_front (x ∷ xs) y (suc k) lt = amounts_front xs y k (omega arith)

amounts_end : (xs : List Column) (y : Column) → amounts_at (xs ++ y ∷ []) (length xs) ≡ y.amounts.items
amounts_end [] y = refl
amounts_end (x ∷ xs) y = amounts_end xs y

length-pushed : (xs : List Column) (y : Column) → length (xs ++ y ∷ []) ≡ suc (length xs)
length-pushed [] y = refl
length-pushed (x ∷ xs) y = ap suc (length-pushed xs y)

pub AreStarts-first : (n : ℕ) (columns : List Column) (target : List ℤ) (places : List (Option ℕ)) (start : Column) (starts : List Column) → start.amounts.items ≡ target → starts ≡ start ∷ [] →
    AreStarts n columns target places 0 starts
AreStarts-first n columns target places start starts same is = rw is (record { count = refl; first = same; lengths = λ j lt. absurd (omega arith); others = λ j c lt less. absurd (omega arith) })

pub AreStarts-next : (n : ℕ) (columns : List Column) (target : List ℤ) (places : List (Option ℕ)) (size : ℕ) (old new : List Column) (start : Column) → AreStarts n columns target places size old → new ≡ old ++ start ∷ [] →
    length start.amounts.items ≡ n → ((c : ℕ) → c < n → at start.amounts.items c ≡ basis_columns columns places size c) → AreStarts n columns target places (size + 1) new
AreStarts-next n columns target places size old new start are is same others =
    rw is (record {
      count = length-pushed old start ∙ ap suc are.count ∙ omega arith;
      first = amounts_front old start 0 (omega (arith, are.count)) ∙ are.first;
      lengths = λ j lt. elim (cases_eq j size) [
        | inl e ↦ ap length (last j e) ∙ same
        | inr ne ↦ ap length (amounts_front old start (suc j) (omega (arith, are.count))) ∙ are.lengths j (omega arith)
      ];
      others = λ j c lt less. elim (cases_eq j size) [
        | inl e ↦ ap (λ (xs : List ℤ). at xs c) (last j e) ∙ others c less ∙ ap (λ (i : ℕ). basis_columns columns places i c) (sym e)
        | inr ne ↦ ap (λ (xs : List ℤ). at xs c) (amounts_front old start (suc j) (omega (arith, are.count))) ∙ are.others j c (omega arith) less
      ];
    })
  where
    last : (j : ℕ) → j ≡ size → amounts_at (old ++ start ∷ []) (suc j) ≡ start.amounts.items
    last j e = ap (λ (k : ℕ). amounts_at (old ++ start ∷ []) k) (ap suc e ∙ sym are.count) ∙ amounts_end old start
