use Rattle.std.proofs.Common.{take, length}
use Rattle.std.specs.Prelude.{All}
use Rattle.cal_math.specs.Vectors.{at}
use Rattle.lp_stage.specs.Pricing.{IsDear}
use Rattle.lp_stage.proofs.entering.entering.Given as goal

abbrev pub invariant-columns : goal.invariant-columns
invariant-columns l = All (IsDear (length l.numbers) l.phase (at l.numbers) l.denominator) (take l.k l.columns)
