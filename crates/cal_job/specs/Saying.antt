-- What the words of a command line say.
use Rattle.std.specs.Prelude.{◌≡◌, ℕ, List, map, codes, true, string_bytes, Option, Some, option_and_then, slice_get}
use Rattle.std.specs.Option.{option_map}
use Rattle.cal_args.specs.Held.{held_value, is_taken}
use Rattle.cal_args.specs.Program.{choices_of, word_of}
use Rattle.cal_args.specs.declared.command.Command.{Command}
use Rattle.cal_args.specs.declared.command.Command.TheVariants as command
use Rattle.cal_job.specs.declared.form.NumberForm.{NumberForm}
use Rattle.cal_job.specs.declared.form.TheConstants.{TEMPERATURE_FORM, STEP_FORM, STOP_FORM, LATTICE_FORM, GAP_FORM, BUDGET_FORM}
use Rattle.cal_job.specs.declared.order.Order.{Order}
use Rattle.cal_job.specs.declared.order.Order.TheVariants as order
use Rattle.cal_job.specs.declared.request.Request.{Request}
use Rattle.cal_job.specs.declared.request.PathRequest.{PathRequest}
use Rattle.cal_job.specs.declared.request.CheckRequest.{CheckRequest}
use Rattle.cal_job.specs.declared.request.TableRequest.{TableRequest}
use Rattle.cal_job.specs.Forms.{number_of, items_of, upper, listed_in}
use Rattle.cal_job.specs.Requests.{IsRequest, IsPathRequest}

abbrev pub Word : Type 0
Word = List ℕ

-- the value of each option, by its name
abbrev pub Values : Type 0
Values = Word → Option Word

-- the number that the value of an option writes
abbrev pub number_at : NumberForm → Option Word → Option ℕ
number_at form value = option_and_then (number_of form) value

-- the items of the value are these elements with these amounts
pub record GivesAmounts (value : Option Word) (elements : List Word) (amounts : List ℕ) : Type 0 where
  pub items : List (Word × ℕ)
  pub written : option_map items_of value ≡ Some (map (λ item. Some item) items)
  pub elements_are : elements ≡ map (λ item. item.0) items
  pub amounts_are : amounts ≡ map (λ item. item.1) items

-- What the values ask for: each, read in its form, is the request's. Without a value of `--phases` none are listed.
pub record AsksRequest (values : Values) (request : Request) : Type 0 where
  pub database : values (codes "db") ≡ Some (string_bytes request.database)
  pub t : number_at TEMPERATURE_FORM (values (codes "t")) ≡ Some request.job.t
  pub amounts : GivesAmounts (values (codes "amounts")) request.job.elements request.amounts
  pub lattice : number_at LATTICE_FORM (values (codes "lattice")) ≡ Some request.job.lattice
  pub gap : number_at GAP_FORM (values (codes "gap")) ≡ Some request.gap
  pub budget : number_at BUDGET_FORM (values (codes "budget")) ≡ Some request.budget
  pub phases : option_map listed_in (values (codes "phases")) ≡ request.job.phases
  pub range : IsRequest request

pub record AsksPath (values : Values) (path : PathRequest) : Type 0 where
  pub request : AsksRequest values path.request
  pub descent : number_at STEP_FORM (values (codes "step")) ≡ Some path.descent
  pub floor : number_at TEMPERATURE_FORM (values (codes "end")) ≡ Some path.floor
  pub stop : number_at STOP_FORM (values (codes "stop")) ≡ Some path.stop
  pub liquid : option_map upper (values (codes "liquid")) ≡ Some path.liquid
  pub range : IsPathRequest path

pub record AsksCheck (values : Values) (check : CheckRequest) : Type 0 where
  pub database : values (codes "db") ≡ Some (string_bytes check.database)
  pub report : values (codes "report") ≡ Some (string_bytes check.report)

pub record AsksTable (values : Values) (table : TableRequest) : Type 0 where
  pub report : values (codes "report") ≡ Some (string_bytes table.report)

abbrev pub Asks : Values → Order → Type 0
Asks values (order.Equilibrium request) = AsksRequest values request
Asks values (order.Scheil path) = AsksPath values path
Asks values (order.Check check) = AsksCheck values check
Asks values (order.Table table) = AsksTable values table

-- the command of an order
abbrev pub command_of : Order → Command
command_of (order.Equilibrium request) = command.Equilibrium
command_of (order.Scheil path) = command.Scheil
command_of (order.Check check) = command.Check
command_of (order.Table table) = command.Table

-- the first word is the word of the command, and `clap` takes the words by the options of the command
pub record NamesCommand (words : List Word) (command : Command) : Type 0 where
  pub named : slice_get words 0 ≡ Some (word_of command)
  pub taken : is_taken (word_of command) (choices_of command) words ≡ true

-- the words name the order's command, and the values that `clap` holds ask for the order
pub record Says (words : List Word) (order : Order) : Type 0 where
  pub names : NamesCommand words (command_of order)
  pub asked : Asks (held_value (word_of (command_of order)) (choices_of (command_of order)) words) order

-- ---- orders with the same parts; of the names of files, the same bytes

pub record SameRequest (request other : Request) : Type 0 where
  pub database : string_bytes request.database ≡ string_bytes other.database
  pub job : request.job ≡ other.job
  pub amounts : request.amounts ≡ other.amounts
  pub gap : request.gap ≡ other.gap
  pub budget : request.budget ≡ other.budget

pub record SamePath (path other : PathRequest) : Type 0 where
  pub request : SameRequest path.request other.request
  pub descent : path.descent ≡ other.descent
  pub floor : path.floor ≡ other.floor
  pub stop : path.stop ≡ other.stop
  pub liquid : path.liquid ≡ other.liquid

pub record SameCheck (check other : CheckRequest) : Type 0 where
  pub database : string_bytes check.database ≡ string_bytes other.database
  pub report : string_bytes check.report ≡ string_bytes other.report

pub record SameTable (table other : TableRequest) : Type 0 where
  pub report : string_bytes table.report ≡ string_bytes other.report

abbrev pub SameOrder : Order → Order → Type 0
SameOrder (order.Equilibrium request) (order.Equilibrium other) = SameRequest request other
SameOrder (order.Scheil path) (order.Scheil other) = SamePath path other
SameOrder (order.Check check) (order.Check other) = SameCheck check other
SameOrder (order.Table table) (order.Table other) = SameTable table other
SameOrder _ _ = ⊥
