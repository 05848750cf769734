use Rattle.std.proofs.Common.{◌≡◌, ◌++◌, take}
use Rattle.std.specs.List.{flat_map}
use Rattle.cal_table.specs.Tables.{step_text}
use Rattle.cal_table.specs.Records.{text_in, IsBetween}
use Rattle.cal_table.proofs.tabling.put_steps.Given as goal

abbrev pub invariant-steps : goal.invariant-steps
invariant-steps l = IsBetween l.rows × (text_in l.rows ≡ text_in l.fn.rows ++ flat_map step_text (take l.step-index l.steps))
