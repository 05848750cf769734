-- The expressions that wait, each for the function that the next one belongs to.
use Rattle.std.specs.Prelude.{◌≡◌, ℕ, suc, List, [], ◌∷◌}
use Rattle.tdb_expr.specs.declared.expression.Expr.TheVariants.{Sum as sum_of}
use Rattle.tdb_expr.specs.declared.ranged.Ranged.{Ranged}
use Rattle.temp_fun.specs.declared.mark.Mark.{Mark}
use Rattle.temp_fun.specs.declared.mark.Mark.TheVariants.{Unvisited, Followed, Done}
use Rattle.temp_fun.specs.declared.waiting.Waiting.{Waiting}
use Rattle.temp_fun.specs.Pieces.{Holds}
use Rattle.temp_fun.specs.Functions.{Functions, IsFunctionAt, IsAmong}
use Rattle.tdb_expr.specs.Forms.{IsRanged}
use Rattle.temp_fun.specs.Progress.{IsWaiting}

-- the last of the expressions that wait, for the function whose ranged text is `ranged`; the others wait for that of `parent`
pub record Waits (f : Functions) (t : ℕ) (w : Waiting) (followed before : List ℕ) (ranged parent : Ranged) : Type 0 where
  pub followed_is : followed ≡ w.child ∷ before
  pub fresh : IsAmong w.child before → ⊥
  pub function : IsFunctionAt f w.child ranged
  pub holds : Holds t parent.pieces (sum_of w.products.now)
  pub line : w.line ≡ parent.line
  pub fine : IsRanged parent
  pub waiting : IsWaiting f t w.line w.products.now w

-- `ranged` is read for those that wait, the last one first, and they for `root`
abbrev pub Chain : Functions → ℕ → Ranged → List Waiting → List ℕ → Ranged → Type 0
Chain f t root [] followed ranged = (followed ≡ []) × (ranged ≡ root)
Chain f t root (w ∷ ws) followed ranged = (before : List ℕ) × (parent : Ranged) × Waits f t w followed before ranged parent × Chain f t root ws before parent

-- how many functions were not visited
abbrev pub unvisited : List Mark → ℕ
unvisited [] = 0
unvisited (Unvisited ∷ marks) = suc (unvisited marks)
unvisited (Followed ∷ marks) = unvisited marks
unvisited (Done v h ∷ marks) = unvisited marks
