-- No weights that give the target cost less than those of a plan: the potentials ask of no column more than it costs, and of each
-- weighted column of the plan just what it costs.
use Rattle.std.proofs.Common.{◌≡◌, ℕ, zero, suc, ◌<◌, List, [], ◌∷◌, length, get_or, refl, arith, ap, sym, ◌∙◌, subst}
use Rattle.std.specs.Prelude.{ℤ, pos, negsuc, ◌≤ℤ◌, ◌*ℤ◌, ◌+ℤ◌, Some, slice_get, All, unsigned_abs}
use Rattle.std.proofs.lemmas.Int.{ints}
use Rattle.cal_math.specs.Whole.{*ℤ-+ℤ, *ℤ-≤, *ℤ_comm, *ℤ_assoc, *ℤ_left, ≤ℤ-*ℤ_cancel}
use Rattle.cal_math.specs.Vectors.{at, dot}
use Rattle.cal_math.proofs.Vectors.{dot_same, dot-plus, dot-scale, dot-zero}
use Rattle.lp_basis.specs.declared.column.Column.{Column}
use Rattle.lp_stage.specs.Leaving.{amounts_at}
use Rattle.lp_core.specs.Plans.{Weight, given_amount, column_cost, cost_of, IsFeasible, IsPlan, IsCheapest}
use Rattle.lp_core.specs.declared.plan.Plan.{Plan}

-- the column at a place
record Here (columns : List Column) (k : ℕ) : Type 0 where
  column : Column
  exact : slice_get columns k ≡ Some column
  read : (d : Column) → get_or columns k d ≡ column
  amounts : amounts_at columns k ≡ column.amounts.items
  cost : column_cost columns k ≡ column.cost

here : (columns : List Column) (k : ℕ) → k < length columns → Here columns k
here [] k lt = absurd (omega arith)
here (x ∷ columns) zero lt = record { column = x; exact = refl; read = λ d. refl; amounts = refl; cost = refl }
here (x ∷ columns) (suc k) lt =
    let h = here columns k (omega arith) in
    record { column = h.column; exact = h.exact; read = h.read; amounts = h.amounts; cost = h.cost }

-- (a * c) * d is a * (c * d), and a sum times d the sum of the products
sum_times : (a c d rest : ℤ) → (a *ℤ c +ℤ rest) *ℤ d ≡ a *ℤ (c *ℤ d) +ℤ rest *ℤ d
sum_times a c d rest = omega (arith, ints, *ℤ_comm (a *ℤ c +ℤ rest) d, *ℤ-+ℤ d (a *ℤ c) rest, *ℤ_comm d (a *ℤ c), *ℤ_assoc a c d, *ℤ_comm d rest)

-- the product of the potentials with what one more weight gives
more : (n : ℕ) (columns : List Column) (p : ℕ → ℤ) (w : Weight) (weights : List Weight) →
    dot n p (given_amount columns (w ∷ weights)) ≡ w.1 *ℤ dot n p (at (amounts_at columns w.0)) +ℤ dot n p (given_amount columns weights)
more n columns p w weights =
    dot-plus n p (λ c. w.1 *ℤ at (amounts_at columns w.0) c) (given_amount columns weights)
    ∙ ap (λ (z : ℤ). z +ℤ dot n p (given_amount columns weights)) (dot-scale n w.1 p (at (amounts_at columns w.0)))

-- where potentials ask of no column more than it costs, they ask of no weights more than these cost
asked_most : (n : ℕ) (columns : List Column) (p : ℕ → ℤ) (d : ℤ) (weights : List Weight) →
    All (λ column. dot n p (at column.amounts.items) ≤ℤ (column.cost *ℤ d)) columns → All (λ w. (w.0 < length columns) × (pos 0 ≤ℤ w.1)) weights →
    dot n p (given_amount columns weights) ≤ℤ (cost_of columns weights *ℤ d)
asked_most n columns p d [] priced named = omega (arith, ints, dot-zero n p)
asked_most n columns p d (w ∷ weights) priced named =
    let first = named 0 w (omega arith) in
    let h = here columns w.0 first.0 in
    let one : dot n p (at (amounts_at columns w.0)) ≤ℤ (column_cost columns w.0 *ℤ d) =
    rw (h.amounts, h.cost) (subst (λ (x : Column). dot n p (at x.amounts.items) ≤ℤ (x.cost *ℤ d)) (h.read h.column) (priced w.0 h.column first.0)) in
    omega (
      arith,
      ints,
      more n columns p w weights,
      *ℤ-≤ w.1 (dot n p (at (amounts_at columns w.0))) (column_cost columns w.0 *ℤ d) first.1 one,
      sum_times w.1 (column_cost columns w.0) d (cost_of columns weights),
      asked_most n columns p d weights priced (λ k e lt. named (suc k) e (omega arith)),
    )

-- where they ask of each weighted column just what it costs, they ask of the weights what these cost
asked_just : (n : ℕ) (columns : List Column) (p : ℕ → ℤ) (d : ℤ) (weights : List Weight) →
    All (λ w. (column : Column) → slice_get columns w.0 ≡ Some column → dot n p (at column.amounts.items) ≡ column.cost *ℤ d) weights → All (λ w. (w.0 < length columns) × (pos 0 ≤ℤ w.1)) weights →
    dot n p (given_amount columns weights) ≡ cost_of columns weights *ℤ d
asked_just n columns p d [] tight named = dot-zero n p ∙ omega (arith, ints)
asked_just n columns p d (w ∷ weights) tight named =
    let h = here columns w.0 (named 0 w (omega arith)).0 in
    let one : dot n p (at (amounts_at columns w.0)) ≡ column_cost columns w.0 *ℤ d = rw (h.amounts, h.cost) (tight 0 w (omega arith) h.column h.exact) in
    more n columns p w weights
    ∙ ap (λ (z : ℤ). w.1 *ℤ z +ℤ dot n p (given_amount columns weights)) one
    ∙ ap (λ (z : ℤ). w.1 *ℤ (column_cost columns w.0 *ℤ d) +ℤ z) (asked_just n columns p d weights (λ k e lt. tight (suc k) e (omega arith)) (λ k e lt. named (suc k) e (omega arith)))
    ∙ sym (sum_times w.1 (column_cost columns w.0) d (cost_of columns weights))

-- what weights give has the price of their parts times the target
price_is : (columns : List Column) (target : List ℤ) (p : ℕ → ℤ) (parts : ℕ) (weights : List Weight) → IsFeasible columns target parts weights →
    dot (length target) p (given_amount columns weights) ≡ pos parts *ℤ dot (length target) p (at target)
price_is columns target p parts weights feasible =
    dot_same (length target) p (given_amount columns weights) p (λ c. pos parts *ℤ at target c) (λ c lt. refl) feasible.gives ∙ dot-scale (length target) (pos parts) p (at target)

whole : (d : ℤ) → pos 1 ≤ℤ d → d ≡ pos (unsigned_abs d)
whole (pos n) h = refl
whole (negsuc n) h = absurd (omega (arith, ints))

cancelled : (a b d : ℤ) → pos 1 ≤ℤ d → (a *ℤ d) ≤ℤ (b *ℤ d) → a ≤ℤ b
cancelled a b d some le =
    let is = whole d some in
    ≤ℤ-*ℤ_cancel (unsigned_abs d) a b (omega (arith, ints, is, some))
    (omega (arith, ints, le, ap (λ (z : ℤ). a *ℤ z) is, ap (λ (z : ℤ). b *ℤ z) is, *ℤ_comm a (pos (unsigned_abs d)), *ℤ_comm b (pos (unsigned_abs d))))

pub cheapest : (columns : List Column) (target : List ℤ) (plan : Plan) → IsPlan columns target plan → IsCheapest columns target plan
cheapest columns target plan is parts weights feasible =
    cancelled (pos parts *ℤ ours) (plan.parts *ℤ theirs) d is.denominator_some
    (omega (
      arith,
      ints,
      *ℤ_assoc (pos parts) ours d,
      ap (λ (z : ℤ). pos parts *ℤ z) (sym ours_asked ∙ ours_price),
      *ℤ_left (pos parts) (pos is.parts) X,
      ap (λ (z : ℤ). z *ℤ (pos parts *ℤ X)) (sym is.parts_are),
      *ℤ-≤ plan.parts (pos parts *ℤ X) (theirs *ℤ d) (omega (arith, ints, is.parts_are)) theirs_asked,
      *ℤ_assoc plan.parts theirs d,
    ))
  where
    p : ℕ → ℤ
    p = at plan.potentials.items

    d : ℤ
    d = plan.denominator

    X : ℤ
    X = dot (length target) p (at target)

    ours : ℤ
    ours = cost_of columns plan.weights.items

    theirs : ℤ
    theirs = cost_of columns weights

    ours_asked : dot (length target) p (given_amount columns plan.weights.items) ≡ ours *ℤ d
    ours_asked = asked_just (length target) columns p d plan.weights.items is.tight is.feasible.named

    ours_price : dot (length target) p (given_amount columns plan.weights.items) ≡ pos is.parts *ℤ X
    ours_price = price_is columns target p is.parts plan.weights.items is.feasible

    theirs_asked : (pos parts *ℤ X) ≤ℤ (theirs *ℤ d)
    theirs_asked = subst (λ (z : ℤ). z ≤ℤ (theirs *ℤ d)) (price_is columns target p parts weights feasible) (asked_most (length target) columns p d weights is.priced feasible.named)
