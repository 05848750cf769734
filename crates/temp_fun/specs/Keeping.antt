-- What is kept from one value to the next.
use Rattle.std.specs.Prelude.{ℕ, [], Result, Ok, Err, ℤ}
use Rattle.temp_fun.specs.declared.fault.EvalFault.{EvalFault}
use Rattle.temp_fun.specs.declared.kept.Kept.{Kept}
use Rattle.temp_fun.specs.declared.kept.Valued.{Valued}
use Rattle.temp_fun.specs.Functions.{Functions}
use Rattle.temp_fun.specs.Marks.{AreRight, AreFollowed}

-- each function that was read has its value, and none is being followed
pub record IsKept (f : Functions) (t : ℕ) (kept : Kept) : Type 0 where
  pub right : AreRight f t kept.marks.items
  pub none : AreFollowed kept.marks.items []

-- the answer without what is kept
abbrev pub value_in : Result Valued EvalFault → Result ℤ EvalFault
value_in (Ok valued) = Ok valued.value
value_in (Err fault) = Err fault
