-- The state of a reading, and a step of it.
use Rattle.std.specs.Prelude.{◌≡◌, ℕ, ◌+◌, ◌*◌, ◌<◌, List, [], length, reverse, Some, slice_get, Result, Ok, Err}
use Rattle.tdb_expr.specs.declared.ranged.Ranged.{Ranged}
use Rattle.temp_fun.specs.declared.mark.Mark.{Mark}
use Rattle.temp_fun.specs.declared.mark.Mark.TheVariants.{Unvisited}
use Rattle.temp_fun.specs.declared.waiting.Waiting.{Waiting}
use Rattle.temp_fun.specs.declared.waiting.Turn.{Turn}
use Rattle.temp_fun.specs.declared.state.State.{State}
use Rattle.temp_fun.specs.declared.state.After.{After}
use Rattle.temp_fun.specs.declared.state.After.TheVariants.{More, Value}
use Rattle.temp_fun.specs.declared.fault.EvalFault.{EvalFault}
use Rattle.temp_fun.specs.Functions.{Functions}
use Rattle.tdb_expr.specs.Forms.{IsRanged}
use Rattle.temp_fun.specs.Values.{IsValue}
use Rattle.temp_fun.specs.Stops.{IsAnswer}
use Rattle.temp_fun.specs.Marks.{AreRight, AreFollowed}
use Rattle.temp_fun.specs.Progress.{TurnsOn}
use Rattle.temp_fun.specs.Chains.{Chain, unvisited}

-- a state of the reading of `root`
pub record IsState (f : Functions) (t : ℕ) (root : Ranged) (marks : List Mark) (stack : List Waiting) (turn : Turn) : Type 0 where
  pub followed : List ℕ
  pub ranged : Ranged
  pub fine : IsRanged ranged
  pub chain : Chain f t root (reverse stack) followed ranged
  pub right : AreRight f t marks
  pub marked : AreFollowed marks followed
  pub turns : TurnsOn f t marks ranged turn

abbrev pub IsReady : Functions → ℕ → List Mark → List Waiting → Turn → Type 0
IsReady f t marks stack turn = (root : Ranged) × IsState f t root marks stack turn

-- what falls at each step
abbrev pub work_left : List Mark → List Waiting → ℕ
work_left marks stack = 2 * unvisited marks + length stack

abbrev pub FollowsFor : Functions → ℕ → Ranged → ℕ → Result State EvalFault → Type 0
FollowsFor f t root work (Ok next) = IsState f t root next.marks.items next.stack.items next.turn × (work_left next.marks.items next.stack.items < work)
FollowsFor f t root work (Err fault) = IsAnswer f t root (Err fault)

abbrev pub Follows : Functions → ℕ → List Mark → List Waiting → Turn → Result State EvalFault → Type 0
Follows f t marks stack turn r = (root : Ranged) → IsState f t root marks stack turn → FollowsFor f t root (work_left marks stack) r

abbrev pub GoesFor : Functions → ℕ → Ranged → ℕ → Result After EvalFault → Type 0
GoesFor f t root work (Ok (More next)) = IsState f t root next.marks.items next.stack.items next.turn × (work_left next.marks.items next.stack.items < work)
GoesFor f t root work (Ok (Value v marks)) = IsValue f t root v × AreRight f t marks.items × AreFollowed marks.items []
GoesFor f t root work (Err fault) = IsAnswer f t root (Err fault)

abbrev pub Goes : Functions → ℕ → List Mark → List Waiting → Turn → Result After EvalFault → Type 0
Goes f t marks stack turn r = (root : Ranged) → IsState f t root marks stack turn → GoesFor f t root (work_left marks stack) r

pub record AreUnvisited (count : ℕ) (marks : List Mark) : Type 0 where
  pub size : length marks ≡ count
  pub each : (k : ℕ) (mark : Mark) → slice_get marks k ≡ Some mark → mark ≡ Unvisited
