use Rattle.std.proofs.Common.{◌≡◌, take}
use Rattle.clap.specs.Words.{app_of}
use Rattle.cal_args.specs.Held.{app_for}
use Rattle.cal_args.specs.Options.{choices_in}
use Rattle.cal_args.proofs.matching.command.Given as goal

abbrev pub invariant-options : goal.invariant-options
invariant-options l = app_of l.command ≡ app_for l.name (choices_in (take l.option-index l.options))
