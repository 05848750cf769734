-- The `clap` command of a table, as a parse builds it.
use Rattle.std.proofs.Common.{◌≡◌, ◌&&◌, ◌||◌, ap, subst, refl, sym, ℕ, Bool, true, false, not, List, [], ◌∷◌, map, Some, is_some}
use Rattle.std.specs.List.{list_all, list_any, count_by}
use Rattle.std.specs.Str.{bytes_eq}
use Rattle.std.proofs.lemmas.Slice.Eq.{bytes_eq-Decides}
use Rattle.clap.specs.Walk.{Row, Rule, has_row, arg_by_id, arg_by_long, is_early_multiple}
use Rattle.clap.specs.Simple.{App, built, filled_from, is_ready, is_ready_leaf, is_simple, new_app, on_top}
use Rattle.clap.specs.Faults.{defaults_fault, is_free_app, is_simple_and_free}
use Rattle.clap.specs.Kinds.{Kinds, or_else}
use Rattle.clap.specs.declared.builder.value_parser.ValueParser.TheVariants as vp
use Rattle.cal_args.specs.Plain.{Choice, are_option_names, is_name_of, is_option_name}
use Rattle.cal_scan.specs.Lines.{Word}
use Rattle.cal_args.specs.Held.{app_for, rule_for}

-- an option with what its argument left out: one value, of any text
abbrev pub ready : Choice → Rule
ready choice = record (rule_for choice) {
  range = Some (record { start_inclusive = 1; end_inclusive = 1 });
  parser = Some vp.String;
}

pub filled_rules : (choices : List Choice) → filled_from 1 (map rule_for choices) ≡ map ready choices
filled_rules [] = refl
filled_rules (choice ∷ choices) = ap (λ rules. ready choice ∷ rules) (filled_rules choices)

abbrev pub app_with : Word → List Rule → App
app_with command rules = on_top (λ shape. record shape {
  rules = rules;
  disable_help_flag = true;
  disable_version_flag = true;
  disable_help_subcommand = true;
  is_built = true;
}) (new_app command)

abbrev pub ready_app : Word → List Choice → App
ready_app command choices = app_with command (map ready choices)

pub built_is : (command : Word) (choices : List Choice) → built (app_for command choices) ≡ ready_app command choices
built_is command choices = ap (app_with command) (filled_rules choices)

plain_rules : (choices : List Choice) → list_all (λ a. a.is_simple) (map rule_for choices) ≡ true
plain_rules [] = refl
plain_rules (choice ∷ choices) = plain_rules choices

plain_ready : (choices : List Choice) → list_all (λ a. a.is_simple) (map ready choices) ≡ true
plain_ready [] = refl
plain_ready (choice ∷ choices) = plain_ready choices

pub free_ready : (choices : List Choice) → list_all (λ a. a.is_free) (map ready choices) ≡ true
free_ready [] = refl
free_ready (choice ∷ choices) = free_ready choices

pub no_defaults : (rows : List Row) (choices : List Choice) → defaults_fault rows (map ready choices) ≡ []
unfolding defaults_fault
no_defaults rows [] = refl
no_defaults rows (choice ∷ choices) = go (has_row choice.name rows) refl (no_defaults rows choices)
  where
    go : (b : Bool) → has_row choice.name rows ≡ b → defaults_fault rows (map ready choices) ≡ [] → defaults_fault rows (map ready (choice ∷ choices)) ≡ []
    go true t e = rw t e
    go false t e = rw t e

ordered : (n : ℕ) (choices : List Choice) → list_any (is_early_multiple n) (map ready choices) ≡ false
ordered n [] = refl
ordered n (choice ∷ choices) = ordered n choices

pub also : (a b : Bool) → a ≡ true → b ≡ true → (a && b) ≡ true
also a b p q = rw (p, q) refl

ready_top : (command : Word) (choices : List Choice) → is_ready (ready_app command choices).top ≡ true
ready_top command choices =
    also _ _ (plain_ready choices) (ap not (ordered (count_by (λ a. is_some a.index) (map ready choices)) choices))

pub simple_app : (command : Word) (choices : List Choice) → is_simple (app_for command choices) ≡ true
simple_app command choices = also _ _ (also _ _ (plain_rules choices) refl)
    (subst (λ app. (is_ready app.top && list_all is_ready_leaf app.subs) ≡ true) (sym (built_is command choices)) (also _ _ (ready_top command choices) refl))

pub free_app : (command : Word) (choices : List Choice) → is_simple_and_free (app_for command choices) ≡ true
free_app command choices = also _ _ (simple_app command choices)
    (subst (λ app. is_free_app app ≡ true) (sym (built_is command choices)) (also _ _ (free_ready choices) refl))

pub both_none : (a b : Kinds) → a ≡ [] → b ≡ [] → or_else a b ≡ []
both_none a b p q = rw (p, q) refl

-- ---- the argument of an option

pub both : (a b : Bool) → (a && b) ≡ true → (a ≡ true) × (b ≡ true)
both true b e = (refl, e)
both false b e = cc

pub same : (v w : List ℕ) → bytes_eq v w ≡ true → v ≡ w
same v w e = (bytes_eq-Decides v w).0 e

pub same_as_itself : (v : List ℕ) → bytes_eq v v ≡ true
same_as_itself v = (bytes_eq-Decides v v).1 refl

-- the option of that name
pub record Finds (choices : List Choice) (name : Word) : Type 0 where
  pub choice : Choice
  pub by_long : arg_by_long (map ready choices) name ≡ Some (ready choice)
  pub by_id : arg_by_id (map ready choices) name ≡ Some (ready choice)
  pub is : choice.name ≡ name

pub finds : (choices : List Choice) (name : Word) → list_any (is_name_of name) choices ≡ true → Finds choices name
finds [] name e = cc
finds (choice ∷ choices) name e = go (bytes_eq choice.name name) refl e (finds choices name)
  where
    go : (b : Bool) → bytes_eq choice.name name ≡ b → (b || list_any (is_name_of name) choices) ≡ true
        → (list_any (is_name_of name) choices ≡ true → Finds choices name) → Finds (choice ∷ choices) name
    go true t e next = record { choice = choice; by_long = rw t refl; by_id = rw t refl; is = same choice.name name t }
    go false t e next =
        let rest = next e in
        record { choice = rest.choice; by_long = rw t rest.by_long; by_id = rw t rest.by_id; is = rest.is }

pub option_name : (choices : List Choice) (name : Word) → are_option_names choices ≡ true → list_any (is_name_of name) choices ≡ true → is_option_name name ≡ true
option_name [] name all e = cc
option_name (choice ∷ choices) name all e =
    let parts = both (is_option_name choice.name) _ all in
    go (bytes_eq choice.name name) refl e parts.0 (option_name choices name parts.1)
  where
    go : (b : Bool) → bytes_eq choice.name name ≡ b → (b || list_any (is_name_of name) choices) ≡ true → is_option_name choice.name ≡ true
        → (list_any (is_name_of name) choices ≡ true → is_option_name name ≡ true) → is_option_name name ≡ true
    go true t e here next = rw (same choice.name name t) at here
    go false t e here next = next e
