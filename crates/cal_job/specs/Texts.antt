-- What the texts of a command ask for.
use Rattle.std.specs.Prelude.{◌≡◌, string_bytes, Some}
use Rattle.std.specs.Option.{option_map}
use Rattle.cal_args.specs.declared.texts.CommandTexts.{CommandTexts}
use Rattle.cal_args.specs.declared.texts.CommandTexts.TheVariants as texts
use Rattle.cal_args.specs.declared.texts.EquilibriumTexts.{EquilibriumTexts}
use Rattle.cal_args.specs.declared.texts.ScheilTexts.{ScheilTexts}
use Rattle.cal_args.specs.declared.texts.CheckTexts.{CheckTexts}
use Rattle.cal_args.specs.declared.texts.TableTexts.{TableTexts}
use Rattle.cal_job.specs.declared.form.TheConstants.{TEMPERATURE_FORM, STEP_FORM, STOP_FORM, LATTICE_FORM, GAP_FORM, BUDGET_FORM}
use Rattle.cal_job.specs.declared.order.Order.{Order}
use Rattle.cal_job.specs.declared.order.Order.TheVariants as order
use Rattle.cal_job.specs.declared.request.Request.{Request}
use Rattle.cal_job.specs.declared.request.PathRequest.{PathRequest}
use Rattle.cal_job.specs.declared.request.CheckRequest.{CheckRequest}
use Rattle.cal_job.specs.declared.request.TableRequest.{TableRequest}
use Rattle.cal_job.specs.Forms.{number_of, upper, listed_in}
use Rattle.cal_job.specs.Requests.{IsRequest, IsPathRequest}
use Rattle.cal_job.specs.Saying.{GivesAmounts}

pub record TextsAskRequest (texts : EquilibriumTexts) (request : Request) : Type 0 where
  pub database : texts.db.now ≡ string_bytes request.database
  pub t : number_of TEMPERATURE_FORM texts.t.now ≡ Some request.job.t
  pub amounts : GivesAmounts (Some texts.amounts.now) request.job.elements request.amounts
  pub lattice : number_of LATTICE_FORM texts.lattice.now ≡ Some request.job.lattice
  pub gap : number_of GAP_FORM texts.gap.now ≡ Some request.gap
  pub budget : number_of BUDGET_FORM texts.budget.now ≡ Some request.budget
  pub phases : option_map listed_in (option_map (λ text. text.now) texts.phases) ≡ request.job.phases
  pub range : IsRequest request

pub record TextsAskPath (texts : ScheilTexts) (path : PathRequest) : Type 0 where
  pub request : TextsAskRequest texts.first path.request
  pub descent : number_of STEP_FORM texts.step.now ≡ Some path.descent
  pub floor : number_of TEMPERATURE_FORM texts.end.now ≡ Some path.floor
  pub stop : number_of STOP_FORM texts.stop.now ≡ Some path.stop
  pub liquid : upper texts.liquid.now ≡ path.liquid
  pub range : IsPathRequest path

pub record TextsAskCheck (texts : CheckTexts) (check : CheckRequest) : Type 0 where
  pub database : texts.db.now ≡ string_bytes check.database
  pub report : texts.report.now ≡ string_bytes check.report

pub record TextsAskTable (texts : TableTexts) (table : TableRequest) : Type 0 where
  pub report : texts.report.now ≡ string_bytes table.report

abbrev pub TextsAsk : CommandTexts → Order → Type 0
TextsAsk (texts.Equilibrium asked) (order.Equilibrium request) = TextsAskRequest asked request
TextsAsk (texts.Scheil asked) (order.Scheil path) = TextsAskPath asked path
TextsAsk (texts.Check asked) (order.Check check) = TextsAskCheck asked check
TextsAsk (texts.Table asked) (order.Table table) = TextsAskTable asked table
TextsAsk _ _ = ⊥
