-- How `clap`'s walk goes over an option and its value.
use Rattle.std.proofs.Common.{◌≡◌, ◌∙◌, ◌||◌, ap, refl, arith, ℕ, Bool, true, false, not, List, [], ◌∷◌, ◌+◌, suc, take, map, Some, None}
use Rattle.std.specs.Prelude.{◌==◌}
use Rattle.std.specs.List.{before_first, list_any, position_or_len}
use Rattle.std.specs.Str.{bytes_eq}
use Rattle.clap.specs.Lexer.{long_of, short_of}
use Rattle.clap.specs.Walk.{Held, Rule, Step, Walk, after_step, idle, next, option, option_word, plain_word, word_met, settled_rows, walk_from, walked}
use Rattle.clap.specs.Faults.{settle_fault, step_fault, turn_fault, word_fault}
use Rattle.cal_args.specs.Plain.{Choice, is_option_name, is_value}
use Rattle.cal_scan.specs.Lines.{Word}
use Rattle.cal_args.proofs.Tables.{Finds, both_none, ready, ready_app, same_as_itself}

no_equals : (b : Bool) → not b ≡ true → b ≡ false
no_equals true e = cc
no_equals false e = refl

one_more : (n : ℕ) (b : ℕ) (bs : List ℕ) → take n bs ≡ bs → take (1 + n) (b ∷ bs) ≡ b ∷ bs
one_more n b bs e = let more : 1 + n ≡ suc n = omega arith in rw more (ap (λ rest. b ∷ rest) e)

lacking : (name : Word) → list_any (λ b. b == 61) name ≡ false → before_first (λ b. b == 61) name ≡ name
lacking [] e = refl
lacking (b ∷ bs) e = go (b == 61) refl e (lacking bs)
  where
    go : (t : Bool) → (b == 61) ≡ t → (t || list_any (λ b. b == 61) bs) ≡ false
        → (list_any (λ b. b == 61) bs ≡ false → before_first (λ b. b == 61) bs ≡ bs) → before_first (λ b. b == 61) (b ∷ bs) ≡ b ∷ bs
    go true t e more = cc
    go false t e more = rw t (one_more (position_or_len (λ b. b == 61) bs) b bs (more e))

-- `--` and a name are a long option without a value of its own
pub long_is : (name : Word) → is_option_name name ≡ true → long_of (45 ∷ 45 ∷ name) ≡ Some (name, None)
long_is [] e = cc
long_is (b ∷ bs) e =
    let none = no_equals _ e in
    rw (none, lacking (b ∷ bs) none) refl

-- a value is no long option, and no short one
pub no_long : (value : Word) → is_value value ≡ true → long_of value ≡ None
no_long [] e = refl
no_long (b ∷ bs) e = rw (no_equals _ e) refl

pub no_short : (value : Word) → is_value value ≡ true → short_of value ≡ None
no_short [] e = refl
no_short (b ∷ bs) e = rw (no_equals _ e) refl

no_dashes : (value : Word) → is_value value ≡ true → bytes_eq value (45 ∷ 45 ∷ []) ≡ false
no_dashes [] e = refl
no_dashes (b ∷ bs) e = rw (no_equals _ e) refl

no_dashes_of : (name : Word) → is_option_name name ≡ true → bytes_eq (45 ∷ 45 ∷ name) (45 ∷ 45 ∷ []) ≡ false
no_dashes_of [] e = cc
no_dashes_of (b ∷ bs) e = refl

-- ---- the two words of an option

-- what is held behind an option and its value: what was pending is settled, and the value is pending
abbrev pub behind : List Rule → Word → Word → Held → Held
behind c name value h = record h { rows = settled_rows c h.pending h.rows; pending = Some (name, value ∷ []) }

-- and between the two
abbrev pub between : List Rule → Word → Held → Walk
between c name h = record (walk_from (record h { rows = settled_rows c h.pending h.rows; pending = Some (name, []) })) { waiting = option name }

module _ (choices : List Choice) where
  pub over_name : (name : Word) (h : Held) → is_option_name name ≡ true → Finds choices name
      → walked (map ready choices) [] (walk_from h) (45 ∷ 45 ∷ name) ≡ between (map ready choices) name h
  unfolding walked
  over_name [] h e found = cc
  over_name (b ∷ bs) h e found =
      let none = no_equals _ e in
      rw (none, lacking (b ∷ bs) none, found.by_long, found.is) refl

  value_met : (name value : Word) (h : Held) → is_value value ≡ true
      → word_met (map ready choices) [] false (option name) 1 value h ≡ plain_word (map ready choices) (option name) value h
  value_met name [] h e = cc
  value_met name (b ∷ bs) h e = let none = no_equals _ e in rw (none, none) refl

  value_held : (name value : Word) (h : Held) → Finds choices name
      → plain_word (map ready choices) (option name) value (between (map ready choices) name h).held ≡ (behind (map ready choices) name value h, next idle)
  value_held name value h found =
      let before = (between (map ready choices) name h).held in
      ap (λ o. ((option_word o name value before).0, next (option_word o name value before).1)) found.by_id
      ∙ rw (found.is, same_as_itself name) refl

  value_step : (name value : Word) (h : Held) → is_value value ≡ true → Finds choices name
      → word_met (map ready choices) [] false (option name) 1 value (between (map ready choices) name h).held ≡ (behind (map ready choices) name value h, next idle)
  value_step name value h e found = value_met name value (between (map ready choices) name h).held e ∙ value_held name value h found

  pub over_value : (name value : Word) (h : Held) → is_value value ≡ true → Finds choices name
      → walked (map ready choices) [] (between (map ready choices) name h) value ≡ walk_from (behind (map ready choices) name value h)
  unfolding walked
  over_value name value h e found =
      ap (λ (met : Held × Step). after_step (map ready choices) value (between (map ready choices) name h) met.0 met.1) (value_step name value h e found)

  pub name_faultless : (command name : Word) (h : Held) → is_option_name name ≡ true → Finds choices name → settle_fault (map ready choices) false h ≡ []
      → turn_fault (ready_app command choices).top [] (walk_from h) (45 ∷ 45 ∷ name) ≡ []
  name_faultless command [] h e found p = cc
  name_faultless command (b ∷ bs) h e found p =
      let none = no_equals _ e in
      rw (none, lacking (b ∷ bs) none, found.by_long, p) refl

  value_word : (command name value : Word) (h : Held) → is_value value ≡ true
      → word_fault (ready_app command choices).top [] false (option name) value h ≡ []
  value_word command name [] h e = cc
  value_word command name (b ∷ bs) h e = let none = no_equals _ e in rw (none, none) refl

  pub value_faultless : (command name value : Word) (h : Held) → is_value value ≡ true → Finds choices name
      → turn_fault (ready_app command choices).top [] (between (map ready choices) name h) value ≡ []
  value_faultless command name value h e found =
      both_none _ _ (value_word command name value (between (map ready choices) name h).held e)
      (ap (λ (met : Held × Step). step_fault (ready_app command choices).top 1 met.0 met.1) (value_step name value h e found))
