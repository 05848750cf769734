-- Plans of weighted columns with their potentials, and the proof that there is none.
use Rattle.std.specs.Prelude.{◌≡◌, ℕ, zero, suc, ◌*◌, ◌<◌, ◌≤◌, ◌^◌, ◌-◌, ◌≢◌, List, [], ◌∷◌, length, Some, slice_get, AllPairs, All}
use Rattle.std.specs.Prelude.{ℤ, pos, ◌*ℤ◌, ◌≤ℤ◌, unsigned_abs}
use Rattle.cal_math.specs.Sums.{sum_of}
use Rattle.cal_math.specs.Vectors.{at, dot}
use Rattle.lp_basis.specs.declared.column.Column.{Column}
use Rattle.lp_stage.specs.Leaving.{amounts_at}
use Rattle.lp_core.specs.Fitting.{widest, dearest}
use Rattle.lp_core.specs.declared.plan.Plan.{Plan}
use Rattle.lp_core.specs.declared.fault.LpFault.{LpFault}
use Rattle.lp_core.specs.declared.fault.LpFault.TheVariants.{Infeasible, Memory}

-- a column by its place, and its weight
abbrev pub Weight : Type 0
Weight = ℕ × ℤ

-- what the weights give of component c: the sum of weight times amount
abbrev pub given_amount : List Column → List Weight → ℕ → ℤ
given_amount columns weights c = sum_of (λ w. w.1 *ℤ at (amounts_at columns w.0) c) weights

-- what a unit of the column at k costs
abbrev pub column_cost : List Column → ℕ → ℤ
column_cost [] k = pos 0
column_cost (column ∷ columns) zero = column.cost
column_cost (column ∷ columns) (suc k) = column_cost columns k

-- what the weights cost: the sum of weight times cost
abbrev pub cost_of : List Column → List Weight → ℤ
cost_of columns weights = sum_of (λ w. w.1 *ℤ column_cost columns w.0) weights

-- weights of at least 0 that give `parts` times the target
pub record IsFeasible (columns : List Column) (target : List ℤ) (parts : ℕ)
    (weights : List Weight) : Type 0 where
  pub positive : 1 ≤ parts
  pub named : All (λ w. (w.0 < length columns) × (pos 0 ≤ℤ w.1)) weights
  pub gives : (c : ℕ) → c < length target →
      given_amount columns weights c ≡ pos parts *ℤ at target c

-- With w the greatest sum of a column, s the greatest magnitude of a cost and C the number of components: weights of at most C
-- different columns, all above 0, that give the target over `parts`; and potentials that ask of no column more than it costs, and of each
-- weighted column just what it costs. So no other weights cost less. The potentials are at most 3*C*s*w^(C-1), parts and denominator at
-- most w^C.
pub record IsPlan (columns : List Column) (target : List ℤ) (plan : Plan) : Type 0 where
  pub parts : ℕ
  pub parts_are : plan.parts ≡ pos parts
  pub parts_small : parts ≤ widest (length target) columns ^ length target
  pub feasible : IsFeasible columns target parts plan.weights.items
  pub above : All (λ w. pos 1 ≤ℤ w.1) plan.weights.items
  pub few : length plan.weights.items ≤ length target
  pub different : AllPairs (λ v w. v.0 ≢ w.0) plan.weights.items
  pub one_each : length plan.potentials.items ≡ length target
  pub small : All (λ m. unsigned_abs m ≤ 3 * length target * dearest columns * widest (length target) columns ^ (length target - 1))
      plan.potentials.items
  pub denominator_some : pos 1 ≤ℤ plan.denominator
  pub denominator_small : plan.denominator ≤ℤ pos (widest (length target) columns ^ length target)
  pub priced : All (λ column. dot (length target) (at plan.potentials.items) (at column.amounts.items)
      ≤ℤ (column.cost *ℤ plan.denominator)) columns
  pub tight : All (λ w. (column : Column) → slice_get columns w.0 ≡ Some column →
      dot (length target) (at plan.potentials.items) (at column.amounts.items) ≡ column.cost *ℤ plan.denominator)
      plan.weights.items

-- no weights that give the target cost less, each over its own parts
abbrev pub IsCheapest : List Column → List ℤ → Plan → Type 0
IsCheapest columns target plan = (parts : ℕ) (weights : List Weight) →
    IsFeasible columns target parts weights →
    (pos parts *ℤ cost_of columns plan.weights.items) ≤ℤ (plan.parts *ℤ cost_of columns weights)

-- numbers of at most 3*C*w^(C-1) in magnitude, at most 0 at every column and above 0 at the target
pub record IsProofOfNone (columns : List Column) (target v : List ℤ) : Type 0 where
  pub one_each : length v ≡ length target
  pub below : All (λ column. dot (length target) (at v) (at column.amounts.items) ≤ℤ pos 0) columns
  pub above : pos 1 ≤ℤ dot (length target) (at v) (at target)
  pub small : All (λ z. unsigned_abs z ≤ 3 * length target * widest (length target) columns ^ (length target - 1)) v

-- no weights of at least 0 give the target, as the proof shows
abbrev pub IsRefusal : List Column → List ℤ → LpFault → Type 0
IsRefusal columns target (Infeasible v) =
    IsProofOfNone columns target v.items ×
    ((parts : ℕ) (weights : List Weight) → ¬ IsFeasible columns target parts weights)
IsRefusal columns target Memory = Unit {0}
