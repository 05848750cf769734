-- What words say, by the texts that they give, and that they say one order at most.
use Rattle.std.proofs.Common.{◌≡◌, ℕ, List, [], ◌∷◌, map, true, false, Option, Some, sym, ap, subst, ◌∙◌}
use Rattle.std.specs.Prelude.{◌↔◌, slice_get}
use Rattle.std.specs.Option.{option_map, option_map_or}
use Rattle.cal_args.specs.Plain.{IsSpelledBy, value_of}
use Rattle.cal_args.specs.Held.{held_value, is_taken}
use Rattle.cal_args.specs.Program.{choices_of, command_at, word_of}
use Rattle.cal_args.specs.Reading.{GivesEquilibrium, GivesScheil, Holds, is_read, command_of as command_of_texts}
use Rattle.cal_args.specs.declared.command.Command.{Command}
use Rattle.cal_args.specs.declared.texts.CommandTexts.{CommandTexts}
use Rattle.cal_args.specs.declared.texts.CommandTexts.TheVariants as texts
use Rattle.cal_args.specs.declared.texts.EquilibriumTexts.{EquilibriumTexts}
use Rattle.cal_args.specs.declared.texts.ScheilTexts.{ScheilTexts}
use Rattle.cal_args.proofs.Choosing.{at_its_word, same_command, names_of}
use Rattle.cal_args.proofs.PlainWords.{plain_taken, plain_values}
use Rattle.cef_core.specs.declared.job.Job.{Job}
use Rattle.cal_job.specs.declared.form.TheConstants.{TEMPERATURE_FORM, STEP_FORM, STOP_FORM, LATTICE_FORM, GAP_FORM, BUDGET_FORM}
use Rattle.cal_job.specs.declared.order.Order.{Order}
use Rattle.cal_job.specs.declared.order.Order.TheVariants as order
use Rattle.cal_job.specs.declared.request.Request.{Request}
use Rattle.cal_job.specs.declared.request.PathRequest.{PathRequest}
use Rattle.cal_job.specs.Forms.{upper, listed_in}
use Rattle.cal_job.specs.Requests.{IsOrder}
use Rattle.cal_job.specs.Saying.{Word, Values, number_at, GivesAmounts, AsksRequest, AsksPath, Asks, command_of, NamesCommand, Says, SameRequest, SamePath, SameOrder}
use Rattle.cal_job.specs.Texts.{TextsAskRequest, TextsAskPath, TextsAsk}
use Rattle.cal_job.proofs.Items.{one_some, some_one}

-- ---- texts are the values of their options

values_ask : (values : Values) (texts : EquilibriumTexts) (request : Request) → GivesEquilibrium values texts → TextsAskRequest texts request → AsksRequest values request
values_ask values texts request gives ask = record {
  database = gives.db ∙ ap Some ask.database;
  t = ap (number_at TEMPERATURE_FORM) gives.t ∙ ask.t;
  amounts = subst (λ (value : Option Word). GivesAmounts value request.job.elements request.amounts) (sym gives.amounts) ask.amounts;
  lattice = ap (number_at LATTICE_FORM) gives.lattice ∙ ask.lattice;
  gap = ap (number_at GAP_FORM) gives.gap ∙ ask.gap;
  budget = ap (number_at BUDGET_FORM) gives.budget ∙ ask.budget;
  phases = ap (option_map listed_in) gives.phases ∙ ask.phases;
  range = ask.range;
}

texts_ask : (values : Values) (texts : EquilibriumTexts) (request : Request) → GivesEquilibrium values texts → AsksRequest values request → TextsAskRequest texts request
texts_ask values texts request gives asks = record {
  database = one_some _ _ (sym gives.db ∙ asks.database);
  t = sym (ap (number_at TEMPERATURE_FORM) gives.t) ∙ asks.t;
  amounts = subst (λ (value : Option Word). GivesAmounts value request.job.elements request.amounts) gives.amounts asks.amounts;
  lattice = sym (ap (number_at LATTICE_FORM) gives.lattice) ∙ asks.lattice;
  gap = sym (ap (number_at GAP_FORM) gives.gap) ∙ asks.gap;
  budget = sym (ap (number_at BUDGET_FORM) gives.budget) ∙ asks.budget;
  phases = sym (ap (option_map listed_in) gives.phases) ∙ asks.phases;
  range = asks.range;
}

path_values : (values : Values) (texts : ScheilTexts) (path : PathRequest) → GivesScheil values texts → TextsAskPath texts path → AsksPath values path
path_values values texts path gives ask = record {
  request = values_ask values texts.first path.request gives.first ask.request;
  descent = ap (number_at STEP_FORM) gives.step ∙ ask.descent;
  floor = ap (number_at TEMPERATURE_FORM) gives.end ∙ ask.floor;
  stop = ap (number_at STOP_FORM) gives.stop ∙ ask.stop;
  liquid = ap (option_map upper) gives.liquid ∙ ap Some ask.liquid;
  range = ask.range;
}

path_texts : (values : Values) (texts : ScheilTexts) (path : PathRequest) → GivesScheil values texts → AsksPath values path → TextsAskPath texts path
path_texts values texts path gives asks = record {
  request = texts_ask values texts.first path.request gives.first asks.request;
  descent = sym (ap (number_at STEP_FORM) gives.step) ∙ asks.descent;
  floor = sym (ap (number_at TEMPERATURE_FORM) gives.end) ∙ asks.floor;
  stop = sym (ap (number_at STOP_FORM) gives.stop) ∙ asks.stop;
  liquid = one_some _ _ (sym (ap (option_map upper) gives.liquid) ∙ asks.liquid);
  range = asks.range;
}

-- ---- the command that words name

abbrev pub held : List Word → Command → Values
held words command = held_value (word_of command) (choices_of command) words

one_command : (words : List Word) (c d : Command) → slice_get words 0 ≡ Some (word_of c) → slice_get words 0 ≡ Some (word_of d) → c ≡ d
one_command words c d e f = same_command c d (one_some _ _ (sym e ∙ f))

pub named_read : (words : List Word) (command : Command) → NamesCommand words command → is_read words ≡ true
named_read [] command names = absurd cc
named_read (word ∷ words) command names =
    let is : word ≡ word_of command = one_some _ _ names.named in
    ap (λ (o : Option Command). option_map_or (λ c. is_taken (word_of c) (choices_of c) (word ∷ words)) o false) (ap command_at is ∙ at_its_word command) ∙ names.taken

-- ---- what texts ask for is what the words say

pub says_from : (words : List Word) (asked : CommandTexts) (order : Order) → Holds words asked → TextsAsk asked order → Says words order
says_from words (texts.Equilibrium asked) (order.Equilibrium request) holds ask = record {
  names = record { named = holds.command; taken = holds.taken };
  asked = values_ask _ asked request holds.values ask;
}
says_from words (texts.Scheil asked) (order.Scheil path) holds ask = record {
  names = record { named = holds.command; taken = holds.taken };
  asked = path_values _ asked path holds.values ask;
}
says_from words (texts.Check asked) (order.Check check) holds ask = record {
  names = record { named = holds.command; taken = holds.taken };
  asked = record { database = holds.values.db ∙ ap Some ask.database; report = holds.values.report ∙ ap Some ask.report };
}
says_from words (texts.Table asked) (order.Table table) holds ask = record {
  names = record { named = holds.command; taken = holds.taken };
  asked = record { report = holds.values.report ∙ ap Some ask.report };
}
says_from words _ _ holds ask = absurd ask

texts_from : (words : List Word) (asked : CommandTexts) (order : Order) → command_of_texts asked ≡ command_of order → Holds words asked → Says words order → TextsAsk asked order
texts_from words (texts.Equilibrium asked) (order.Equilibrium request) one holds says = texts_ask _ asked request holds.values says.asked
texts_from words (texts.Scheil asked) (order.Scheil path) one holds says = path_texts _ asked path holds.values says.asked
texts_from words (texts.Check asked) (order.Check check) one holds says =
    record { database = one_some _ _ (sym holds.values.db ∙ says.asked.database); report = one_some _ _ (sym holds.values.report ∙ says.asked.report) }
texts_from words (texts.Table asked) (order.Table table) one holds says = record { report = one_some _ _ (sym holds.values.report ∙ says.asked.report) }
texts_from words _ _ one holds says = absurd cc

pub says_texts : (words : List Word) (asked : CommandTexts) (order : Order) → Holds words asked → Says words order → TextsAsk asked order
says_texts words asked order holds says =
    texts_from words asked order (one_command words _ _ holds.command says.names.named) holds says

pub keeps : (words : List Word) (order : Order) → Says words order → IsOrder order
keeps words (order.Equilibrium request) says = says.asked.range
keeps words (order.Scheil path) says = says.asked.range
keeps words (order.Check check) says = tt
keeps words (order.Table table) says = tt

-- ---- one order at most

value_one : {A : Type 0} (o : Option A) (x y : A) → o ≡ Some x → o ≡ Some y → x ≡ y
value_one o x y is other = one_some x y (sym is ∙ other)

items_one : (value : Option Word) (elements others : List Word) (amounts numbers : List ℕ) (one : GivesAmounts value elements amounts) (two : GivesAmounts value others numbers) → one.items ≡ two.items
items_one value elements others amounts numbers one two = some_one one.items two.items (value_one _ _ _ one.written two.written)

job_one : (job other : Job) → job.t ≡ other.t → job.lattice ≡ other.lattice → job.elements ≡ other.elements → job.phases ≡ other.phases → job ≡ other
job_one job other t lattice elements phases =
    let made : ℕ → ℕ → List Word → Option (List Word) → Job = λ a b c d. record { t = a; lattice = b; elements = c; phases = d } in
    let same : made job.t job.lattice job.elements job.phases ≡ made other.t other.lattice other.elements other.phases = cc in
    same

request_one : (values : Values) (request other : Request) → AsksRequest values request → AsksRequest values other → SameRequest request other
request_one values request other is o =
    let items : is.amounts.items ≡ o.amounts.items = items_one _ _ _ _ _ is.amounts o.amounts in
    record {
      database = value_one _ _ _ is.database o.database;
      job = job_one request.job other.job (value_one _ _ _ is.t o.t) (value_one _ _ _ is.lattice o.lattice)
          (is.amounts.elements_are ∙ ap (map (λ item. item.0)) items ∙ sym o.amounts.elements_are) (sym is.phases ∙ o.phases);
      amounts = is.amounts.amounts_are ∙ ap (map (λ item. item.1)) items ∙ sym o.amounts.amounts_are;
      gap = value_one _ _ _ is.gap o.gap;
      budget = value_one _ _ _ is.budget o.budget;
    }

path_one : (values : Values) (path other : PathRequest) → AsksPath values path → AsksPath values other → SamePath path other
path_one values path other is o = record {
  request = request_one values path.request other.request is.request o.request;
  descent = value_one _ _ _ is.descent o.descent;
  floor = value_one _ _ _ is.floor o.floor;
  stop = value_one _ _ _ is.stop o.stop;
  liquid = value_one _ _ _ is.liquid o.liquid;
}

asks_one : (words : List Word) (one other : Order) → command_of one ≡ command_of other → Asks (held words (command_of one)) one → Asks (held words (command_of other)) other → SameOrder one other
asks_one words (order.Equilibrium request) (order.Equilibrium other) same is o = request_one _ request other is o
asks_one words (order.Scheil path) (order.Scheil other) same is o = path_one _ path other is o
asks_one words (order.Check check) (order.Check other) same is o =
    record { database = value_one _ _ _ is.database o.database; report = value_one _ _ _ is.report o.report }
asks_one words (order.Table table) (order.Table other) same is o = record { report = value_one _ _ _ is.report o.report }
asks_one words _ _ same is o = absurd cc

-- the words say one order at most
pub Says_one : (words : List Word) (one other : Order) → Says words one → Says words other → SameOrder one other
Says_one words one other is o = asks_one words one other (one_command words _ _ is.names.named o.names.named) is.asked o.asked

-- ---- plain words

pub plain_says : (command : Command) (words : List Word) (pairs : List (Word × Word)) → IsSpelledBy (word_of command) (choices_of command) words pairs
    → (order : Order) → Says words order ↔ ((command_of order ≡ command) × Asks (λ option. value_of option pairs) order)
plain_says command words pairs spelled order =
    let first : slice_get words 0 ≡ Some (word_of command) = ap (λ (ws : List Word). slice_get ws 0) spelled.spelled in
    let same : held words command ≡ (λ option. value_of option pairs) =
    λ i option. plain_values (word_of command) (choices_of command) words pairs option (names_of command) spelled i in
    let named : NamesCommand words command = record { named = first; taken = plain_taken (word_of command) (choices_of command) words pairs (names_of command) spelled } in (
      (λ says.
          let own : command_of order ≡ command = one_command words _ _ says.names.named first in
          (own, subst (λ (values : Values). Asks values order) (ap (held words) own ∙ same) says.asked)),
      (λ asks. record {
        names = subst (λ (c : Command). NamesCommand words c) (sym asks.0) named;
        asked = subst (λ (values : Values). Asks values order) (sym (ap (held words) asks.0 ∙ same)) asks.1;
      }),
    )
