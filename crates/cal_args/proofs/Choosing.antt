-- Commands, their words and their tables.
use Rattle.std.proofs.Common.{◌≡◌, ◌∙◌, ap, subst, sym, refl, cond, Bool, true, false, List, [], ◌∷◌, map, option_map, Option, Some, Result, Ok, Err, IfOk}
use Rattle.std.specs.Prelude.{find, slice_get}
use Rattle.std.specs.Option.{option_map_or}
use Rattle.std.specs.Str.{bytes_eq}
use Rattle.cal_args.specs.Plain.{IsSpelledBy, are_apart, are_option_names, is_table, spelling, value_of}
use Rattle.cal_scan.specs.Lines.{Word}
use Rattle.cal_args.specs.Held.{held_value, is_taken}
use Rattle.cal_args.specs.Program.{choices_of, command_at, commands, word_of}
use Rattle.cal_args.specs.Reading.{Gives, Holds, command_of, is_read}
use Rattle.cal_args.specs.declared.command.Command.{Command}
use Rattle.cal_args.specs.declared.command.Command.TheVariants.{Check, Equilibrium, Scheil, Table}
use Rattle.cal_args.specs.declared.fault.WordsFault.{WordsFault}
use Rattle.cal_args.specs.declared.fault.WordsFault.TheVariants.{Usage}
use Rattle.cal_args.specs.declared.texts.CommandTexts.{CommandTexts}
use Rattle.cal_args.proofs.Tables.{both, same}
use Rattle.cal_args.proofs.PlainWords.{plain_taken, plain_values}

-- ---- one line for each command

-- `clap` reads each table as it stands
pub table_of : (command : Command) → is_table (choices_of command) ≡ true
unfolding are_apart
table_of Equilibrium = refl
table_of Scheil = refl
table_of Check = refl
table_of Table = refl

-- no two commands have one word
pub at_its_word : (command : Command) → command_at (word_of command) ≡ Some command
at_its_word Equilibrium = refl
at_its_word Scheil = refl
at_its_word Check = refl
at_its_word Table = refl

-- ---- for any commands

found_passes : {X : Type 0} (p : X → Bool) (xs : List X) (x : X) → find p xs ≡ Some x → p x ≡ true
found_passes p [] x e = cc
found_passes p (y ∷ ys) x e = go (p y) refl e (found_passes p ys x)
  where
    go : (b : Bool) → p y ≡ b → cond b (Some y) (find p ys) ≡ Some x → (find p ys ≡ Some x → p x ≡ true) → p x ≡ true
    go true t e more = let is : y ≡ x = cc in subst (λ z. p z ≡ true) is t
    go false t e more = more e

word_is : (word : Word) (command : Command) → command_at word ≡ Some command → word_of command ≡ word
word_is word command e = same (word_of command) word (found_passes (λ c. bytes_eq (word_of c) word) commands command e)

pub same_command : (c d : Command) → word_of c ≡ word_of d → c ≡ d
same_command c d e =
    let both_at : Some c ≡ Some d = sym (at_its_word c) ∙ (ap command_at e ∙ at_its_word d) in cc

pub holds_from : (words : List Word) (first : Word) (command : Command) (asked : CommandTexts) (values : Word → Option Word)
    → slice_get words 0 ≡ Some first → command_at first ≡ Some command → is_taken (word_of command) (choices_of command) words ≡ true
    → values ≡ held_value (word_of command) (choices_of command) words → command_of asked ≡ command → Gives values asked → Holds words asked
holds_from words first command asked values at is takes held own gives = record {
  command = at ∙ ap Some (sym (word_is first command is) ∙ ap word_of (sym own));
  taken = subst (λ c. is_taken (word_of c) (choices_of c) words ≡ true) (sym own) takes;
  values = subst (λ c. Gives (held_value (word_of c) (choices_of c) words) asked) (sym own) (subst (λ v. Gives v asked) held gives);
}

pub names_of : (command : Command) → are_option_names (choices_of command) ≡ true
names_of command = (both (are_option_names (choices_of command)) _ (table_of command)).0

plain_read : (words : List Word) (command : Command) (pairs : List (Word × Word)) → IsSpelledBy (word_of command) (choices_of command) words pairs → is_read words ≡ true
plain_read words command pairs spelled =
    let taken = plain_taken (word_of command) (choices_of command) words pairs (names_of command) spelled in
    let known : is_taken (word_of command) (choices_of command) (word_of command ∷ spelling pairs) ≡ true =
    subst (λ ws. is_taken (word_of command) (choices_of command) ws ≡ true) spelled.spelled taken in
    ap is_read spelled.spelled
    ∙ (ap (λ o. option_map_or (λ c. is_taken (word_of c) (choices_of c) (word_of command ∷ spelling pairs)) o false) (at_its_word command) ∙ known)

plain_gives : (words : List Word) (asked : CommandTexts) (command : Command) (pairs : List (Word × Word)) → IsSpelledBy (word_of command) (choices_of command) words pairs
    → Holds words asked → (command_of asked ≡ command) × Gives (λ option. value_of option pairs) asked
plain_gives words asked command pairs spelled holds =
    let words_same : Some (word_of (command_of asked)) ≡ Some (word_of command) = sym holds.command ∙ ap (λ ws. slice_get ws 0) spelled.spelled in
    let word_same : word_of (command_of asked) ≡ word_of command = cc in
    let own = same_command (command_of asked) command word_same in
    let at_command = subst (λ c. Gives (held_value (word_of c) (choices_of c) words) asked) own holds.values in
    let each : (option : Word) → held_value (word_of command) (choices_of command) words option ≡ value_of option pairs =
    λ option. plain_values (word_of command) (choices_of command) words pairs option (names_of command) spelled in
    let all : held_value (word_of command) (choices_of command) words ≡ (λ option. value_of option pairs) = λ i option. each option i in
    (own, subst (λ v. Gives v asked) all at_command)

pub plain_from : (words : List Word) (result : Result CommandTexts WordsFault) → IfOk result (λ asked. Holds words asked) → (result ≡ Err Usage → is_read words ≡ false)
    → (command : Command) (pairs : List (Word × Word)) → IsSpelledBy (word_of command) (choices_of command) words pairs
    → IfOk result (λ asked. (command_of asked ≡ command) × Gives (λ option. value_of option pairs) asked) × (result ≡ Err Usage → ⊥)
plain_from words (Ok asked) holds usage command pairs spelled = (plain_gives words asked command pairs spelled holds, (λ e. cc))
plain_from words (Err fault) holds usage command pairs spelled =
    (tt, (λ e. let read = plain_read words command pairs spelled in let unread = usage e in cc))

pub first_word : {X : Type 0} (f : X → Word) (xs : List X) (x : X) → Some x ≡ slice_get xs 0 → slice_get (map f xs) 0 ≡ Some (f x)
first_word f [] x e = cc
first_word f (y ∷ ys) x e = ap (option_map f) (sym e)
