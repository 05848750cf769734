-- The `clap` command of a table, option by option.
use Rattle.std.proofs.Common.{◌≡◌, ◌∙◌, ◌++◌, ◌+◌, ◌<◌, ap, sym, ℕ, List, [], ◌∷◌, map, take, length, true, false, inl, inr, suc, arith}
use Rattle.std.specs.List.{slice_index_or}
use Rattle.std.proofs.lemmas.List.{map-append, take_more}
use Rattle.clap.specs.Simple.{on_top, new_app, with_rule}
use Rattle.clap.specs.Walk.{is_empty}
use Rattle.clap.specs.Words.{HasMatchesOf, app_of, first_of, first_value, found_of, is_simple, kind_of, matches_of}
use Rattle.clap.specs.Faults.{fault_of, is_simple_and_free}
use Rattle.clap.specs.Kinds.{HasKind, Kinds}
use Rattle.clap.specs.declared.error.Error.{Error}
use Rattle.clap.specs.declared.error.kind.ErrorKind.TheVariants.{OutOfMemory}
use Rattle.clap.specs.declared.builder.command.Command.{Command}
use Rattle.clap.specs.declared.parser.matches.ArgMatches.{ArgMatches}
use Rattle.clap.proofs.WalkLemmas.{first_value-rows}
use Rattle.std.proofs.lemmas.Bool.{false_from_ne_true}
use Rattle.std.proofs.lemmas.Bool.Decides.{Decides-eqb}
use Rattle.cal_args.proofs.Tables.{free_app, simple_app}
use Rattle.cal_args.specs.Plain.{Choice}
use Rattle.cal_scan.specs.Lines.{Word}
use Rattle.cal_args.specs.Held.{app_for, held_value, is_taken, rule_for}
use Rattle.cal_args.specs.Options.{choice_of, choices_in}
use Rattle.cal_args.specs.declared.option.CommandOption.{CommandOption}

-- the command with one more option
pub one_more : (command : Word) (options : List CommandOption) (i : ℕ) (d : CommandOption) → i < length options
    → with_rule (app_for command (choices_in (take i options))) (rule_for (choice_of (slice_index_or options i d))) ≡ app_for command (choices_in (take (i + 1) options))
one_more command options i d lt =
    let option = slice_index_or options i d in
    let grown : take (i + 1) options ≡ take i options ++ option ∷ [] = take_more options i d lt in
    let more : map rule_for (choices_in (take i options)) ++ rule_for (choice_of option) ∷ [] ≡ map rule_for (choices_in (take (i + 1) options)) =
    sym (ap (λ os. map rule_for (choices_in os)) grown ∙ ap (map rule_for) (map-append choice_of (take i options) (option ∷ []))
    ∙ map-append rule_for (choices_in (take i options)) (choice_of option ∷ [])) in
    ap (λ rules. on_top (λ shape. record shape { rules = rules; disable_help_flag = true; disable_version_flag = true }) (new_app command)) more

-- what `clap` matched, by the command of the table
pub held_from : (command : Word) (choices : List Choice) (built : Command) (m : ArgMatches) (words : List Word)
    → app_of built ≡ app_for command choices → HasMatchesOf (app_of built) words m → first_value (found_of m) ≡ held_value command choices words
unfolding held_value
held_from command choices built m words app matches =
    let simple : is_simple (app_of built) ≡ true = ap is_simple app ∙ simple_app command choices in
    let each : (option : Word) → first_value (found_of m) option ≡ first_of option (matches_of (app_for command choices) words) =
    λ option. first_value-rows (found_of m) option ∙ ap (first_of option) ((matches simple).0 ∙ ap (λ a. matches_of a words) app) in
    λ i option. each option i

pub taken : (command : Word) (choices : List Choice) (built : Command) (words : List Word) → app_of built ≡ app_for command choices
    → fault_of (app_of built) words ≡ [] → is_taken command choices words ≡ true
unfolding is_taken
taken command choices built words app none = ap (λ a. is_empty (fault_of a words)) (sym app) ∙ ap is_empty none

-- an error that is no want of memory has a fault as its cause
pub not_taken : (command : Word) (choices : List Choice) (built : Command) (words : List Word) (error : Error) → app_of built ≡ app_for command choices
    → HasKind (fault_of (app_of built) words) error → (kind_of error ≡ OutOfMemory → ⊥) → is_taken command choices words ≡ false
unfolding is_taken
not_taken command choices built words error app kind other =
    ap (λ a. is_empty (fault_of a words)) (sym app) ∙ go (fault_of (app_of built) words) kind
  where
    go : (kinds : Kinds) → HasKind kinds error → is_empty kinds ≡ false
    go [] (inl memory) = absurd (other memory)
    go [] (inr none) = absurd none
    go (k ∷ ks) has = false_from_ne_true _ (λ e. let bad : suc (length ks) ≡ 0 = (Decides-eqb (suc (length ks)) 0).0 e in absurd (omega arith))

pub free_from : (command : Word) (choices : List Choice) (built : Command) → app_of built ≡ app_for command choices → is_simple_and_free (app_of built) ≡ true
free_from command choices built app = ap is_simple_and_free app ∙ free_app command choices
