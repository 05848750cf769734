-- What plain words say.
use Rattle.std.specs.Prelude.{◌≡◌, ◌↔◌, List}
use Rattle.cal_args.specs.Plain.{IsSpelledBy, value_of}
use Rattle.cal_args.specs.Program.{choices_of, word_of}
use Rattle.cal_args.specs.declared.command.Command.{Command}
use Rattle.cal_job.specs.declared.order.Order.{Order}
use Rattle.cal_job.specs.Saying.{Word, Says, Asks, command_of}

-- plain words of a command say an order exactly where it is one of the command, and the values
-- behind the options ask for it
abbrev pub PlainWordsSay : Type 0
PlainWordsSay = (command : Command) (words : List Word) (pairs : List (Word × Word)) →
    IsSpelledBy (word_of command) (choices_of command) words pairs → (order : Order) →
    Says words order
    ↔ ((command_of order ≡ command) × Asks (λ option. value_of option pairs) order)
