-- The options of the code, as choices.
use Rattle.std.specs.Prelude.{List, map}
use Rattle.cal_args.specs.declared.option.CommandOption.{CommandOption}
use Rattle.cal_args.specs.Plain.{Choice}

abbrev pub choice_of : CommandOption → Choice
choice_of option = record { name = option.name.now; is_required = option.is_required }

abbrev pub choices_in : List CommandOption → List Choice
choices_in options = map choice_of options
