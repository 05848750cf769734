-- A parse that succeeds gives each required option a value.
use Rattle.std.proofs.Common.{◌≡◌, ◌∙◌, ◌<◌, ◌≤◌, inl, inr, ◌||◌, ap, subst, sym, refl, arith, ℕ, zero, suc, Bool, true, false, not, List, [], ◌∷◌, map, length, codes, Option, Some, None, is_some}
use Rattle.std.specs.List.{list_any, slice_index_or}
use Rattle.std.specs.Str.{bytes_eq}
use Rattle.clap.specs.Walk.{is_empty, rule_of}
use Rattle.clap.specs.Facts.{args_of, least_values}
use Rattle.clap.specs.Built.{IsParsedFrom, IsPlain, IsPlainArg}
use Rattle.clap.specs.Words.{app_of, first_value, found_of}
use Rattle.clap.specs.declared.builder.arg.Arg.{Arg}
use Rattle.clap.specs.declared.builder.command.Command.{Command}
use Rattle.clap.specs.declared.parser.matches.ArgMatches.{ArgMatches}
use Rattle.clap.proofs.CallerLemmas.{required_has_value}
use Rattle.clap.proofs.SimpleLemmas.{is_false, is_nil, plain_fields}
use Rattle.cal_args.specs.Plain.{Choice, HasRequired, are_apart, are_option_names, is_name_of, is_option_name, is_table}
use Rattle.cal_scan.specs.Lines.{Word}
use Rattle.cal_args.specs.Held.{app_for, rule_for}
use Rattle.cal_args.proofs.Tables.{both, option_name, same, same_as_itself}

-- ---- an argument with the rule of an option

plain_arg : (a : Arg) (choice : Choice) → rule_of a ≡ rule_for choice → IsPlainArg a
plain_arg a choice e =
    let free = both _ _ (ap (λ r. r.is_free) e) in
    let simple = both _ _ (ap (λ r. r.is_simple) e) in
    let conflicts = both _ _ free.1 in
    let ifs = both _ _ simple.1 in
    let groups = both _ _ ifs.1 in
    (is_false a.exclusive free.0, is_nil a.conflicts.items conflicts.0, is_nil a.overrides.items simple.0, is_nil a.groups.items groups.0)

no_delimiter : (a : Arg) (choice : Choice) → rule_of a ≡ rule_for choice → a.val_delim ≡ None
no_delimiter a choice e =
    let simple = both (is_empty a.overrides.items) _ (ap (λ r. r.is_simple) e) in
    let ifs = both (is_empty a.default_vals_ifs.items) _ simple.1 in
    let groups = both (is_empty a.groups.items) _ ifs.1 in
    let delimiter = both (not (is_some a.val_delim)) _ groups.1 in
    go a.val_delim delimiter.0
  where
    go : (o : Option ℕ) → not (is_some o) ≡ true → o ≡ None
    go None t = refl
    go (Some x) t = cc

least_one : (a : Arg) (choice : Choice) → rule_of a ≡ rule_for choice → 1 ≤ least_values a
least_one a choice e = rw (ap (λ r. r.range) e) (omega arith)

-- ---- place by place

same_place : {X Y Z : Type 0} (f : X → Z) (g : Y → Z) (xs : List X) (ys : List Y) (k : ℕ) (d : X) (e : Y) → map f xs ≡ map g ys → k < length ys
    → (k < length xs) × (f (slice_index_or xs k d) ≡ g (slice_index_or ys k e))
same_place f g xs [] k d e is lt = absurd (omega arith)
same_place f g [] (y ∷ ys) k d e is lt = cc
same_place f g (x ∷ xs) (y ∷ ys) zero d e is lt = (omega arith, cc)
same_place f g (x ∷ xs) (y ∷ ys) (suc k) d e is lt =
    let rest : map f xs ≡ map g ys = cc in
    let more = same_place f g xs ys k d e rest (omega arith) in
    (let lower : k < length xs = more.0 in omega arith, more.1)

same_length : {X Y Z : Type 0} (f : X → Z) (g : Y → Z) (xs : List X) (ys : List Y) → map f xs ≡ map g ys → length xs ≡ length ys
same_length f g [] [] is = refl
same_length f g [] (y ∷ ys) is = cc
same_length f g (x ∷ xs) [] is = cc
same_length f g (x ∷ xs) (y ∷ ys) is = let rest : map f xs ≡ map g ys = cc in ap suc (same_length f g xs ys rest)

named_at : (choices : List Choice) (name : Word) (k : ℕ) (d : Choice) → k < length choices → (slice_index_or choices k d).name ≡ name → list_any (is_name_of name) choices ≡ true
named_at [] name k d lt is = absurd (omega arith)
named_at (choice ∷ choices) name zero d lt is = rw (ap (λ n. bytes_eq n name) is ∙ same_as_itself name) refl
named_at (choice ∷ choices) name (suc k) d lt is = or_right _ _ (named_at choices name k d (omega arith) is)
  where
    or_right : (a b : Bool) → b ≡ true → (a || b) ≡ true
    or_right true b e = refl
    or_right false b e = e

apart : (choices : List Choice) (j k : ℕ) (d : Choice) → are_apart choices ≡ true → j < length choices → k < length choices
    → (slice_index_or choices j d).name ≡ (slice_index_or choices k d).name → j ≡ k
unfolding are_apart
apart [] j k d all lj lk is = absurd (omega arith)
apart (choice ∷ choices) zero zero d all lj lk is = refl
apart (choice ∷ choices) zero (suc k) d all lj lk is =
    let there = named_at choices choice.name k d (omega arith) (sym is) in
    let parts = both _ _ all in
    let none = is_false _ parts.0 in
    let bad : true ≡ false = sym there ∙ none in cc
apart (choice ∷ choices) (suc j) zero d all lj lk is =
    let there = named_at choices choice.name j d (omega arith) is in
    let parts = both _ _ all in
    let none = is_false _ parts.0 in
    let bad : true ≡ false = sym there ∙ none in cc
apart (choice ∷ choices) (suc j) (suc k) d all lj lk is = ap suc (apart choices j k d (both _ _ all).1 (omega arith) (omega arith) is)

from_places : (values : Word → Option Word) (choices : List Choice)
    → ((k : ℕ) (e : Choice) → k < length choices → (slice_index_or choices k e).is_required ≡ true → is_some (values (slice_index_or choices k e).name) ≡ true)
    → HasRequired choices values
from_places values [] each = tt
from_places values (choice ∷ choices) each =
    (each 0 choice (omega arith), from_places values choices (λ k e lt. each (suc k) e (omega arith)))

-- ---- the command of a table

module _ (command : Word) (choices : List Choice) (old : Command) (app : app_of old ≡ app_for command choices) where
  the_rules : map rule_of (args_of old) ≡ map rule_for choices
  the_rules = ap (λ a. a.top.rules) app

  rule_at : (k : ℕ) (d : Arg) (e : Choice) → k < length choices
      → (k < length (args_of old)) × (rule_of (slice_index_or (args_of old) k d) ≡ rule_for (slice_index_or choices k e))
  rule_at k d e lt = same_place rule_of rule_for (args_of old) choices k d e the_rules lt

  as_many : length (args_of old) ≡ length choices
  as_many = same_length rule_of rule_for (args_of old) choices the_rules

  plain_command : (e : Choice) → IsPlain old
  plain_command e = (
    (λ k d lt. plain_arg (slice_index_or (args_of old) k d) (slice_index_or choices k e) (rule_at k d e (omega (arith, as_many))).1),
    (plain_fields old (ap (λ a. a.top.is_plain) app)).groups,
  )

  never_empty : (k : ℕ) (e : Choice) → are_option_names choices ≡ true → k < length choices → (slice_index_or choices k e).name ≡ [] → ⊥
  never_empty k e names lt is =
      let good : is_option_name [] ≡ true = option_name choices [] names (named_at choices [] k e lt is) in cc

  absent : (name : Word) (k : ℕ) (e : Choice) → k < length choices → list_any (is_name_of name) choices ≡ false → (slice_index_or choices k e).name ≡ name → ⊥
  absent name k e lt none is =
      let there = named_at choices name k e lt is in cc

  -- a required option at place k
  pub value_at : (m : ArgMatches) (k : ℕ) (a : Arg) (e : Choice) → IsParsedFrom old m → is_table choices ≡ true → k < length choices
      → (slice_index_or choices k e).is_required ≡ true → is_some (first_value (found_of m) (slice_index_or choices k e).name) ≡ true
  value_at m k a e parsed table lt required =
      let here = rule_at k a e lt in
      let id : (slice_index_or (args_of old) k a).id.now ≡ (slice_index_or choices k e).name = ap (λ r. r.id) here.1 in
      let parts = both (are_option_names choices) _ table in
      let others = both (are_apart choices) _ parts.1 in
      let own = both (not (list_any (is_name_of (codes "help")) choices)) _ others.1 in
      subst (λ n. is_some (first_value (found_of m) n) ≡ true) id
      (required_has_value old m parsed (plain_command e) (plain_fields old (ap (λ a. a.top.is_plain) app)).globals (ap (λ a. a.top.subcommand_negates_reqs) app)
      k a here.0 (ap (λ r. r.required) here.1 ∙ required) (ap (λ r. r.action) here.1) (no_delimiter (slice_index_or (args_of old) k a) (slice_index_or choices k e) here.1)
      (least_one (slice_index_or (args_of old) k a) (slice_index_or choices k e) here.1)
      (λ j g low is.
      let there = rule_at j g e (omega (arith, as_many)) in
      let same_id : (slice_index_or choices j e).name ≡ (slice_index_or choices k e).name = sym (ap (λ r. r.id) there.1) ∙ (same _ _ is ∙ id) in
      apart choices j k e others.0 (omega (arith, as_many)) lt same_id)
      (λ empty. never_empty k e parts.0 lt (sym id ∙ empty))
      (λ auto. elim auto [
        | inl help ↦ absent (codes "help") k e lt (is_false _ own.0) (sym id ∙ help)
        | inr version ↦ absent (codes "version") k e lt (is_false _ own.1) (sym id ∙ version)
      ]))

  some_arg : (xs : List Arg) → 0 < length xs → Arg
  some_arg [] lt = absurd (omega arith)
  some_arg (x ∷ xs) lt = x

  pub each_required : (m : ArgMatches) → IsParsedFrom old m → is_table choices ≡ true → HasRequired choices (first_value (found_of m))
  each_required m parsed table =
      from_places (first_value (found_of m)) choices
      (λ k e lt required. value_at m k (some_arg (args_of old) (omega (arith, as_many))) e parsed table lt required)
