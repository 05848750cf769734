-- `clap` takes plain words, and holds the value behind each option.
use Rattle.std.proofs.Common.{◌≡◌, ◌∙◌, ◌++◌, ◌+◌, ◌≤◌, ◌<◌, ◌&&◌, ◌||◌, ap, subst, refl, sym, arith, Bool, true, false, not, cond, ltb-true, List, [], ◌∷◌, map, length, Option, Some, is_some}
use Rattle.std.specs.Prelude.{fold, ◌==◌, nat_lt}
use Rattle.std.specs.List.{list_all, list_any}
use Rattle.std.specs.Str.{bytes_eq}
use Rattle.std.proofs.lemmas.Bool.Decides.{Decides-eqb}
use Rattle.std.proofs.lemmas.List.{append-nil, append_assoc}
use Rattle.clap.specs.Walk.{Held, Row, Walk, finished, first_of, has_row, is_empty, nothing_held, rows_after, settled, settled_rows, used, used_by_id, walk_from, walked}
use Rattle.clap.specs.Simple.{entered, matches_of, names_of}
use Rattle.clap.specs.Takes.{is_given}
use Rattle.clap.specs.Faults.{built_fault, check_fault, defaults_fault, entered_fault, fault_of, settle_fault, walk_fault}
use Rattle.clap.specs.Kinds.{Kinds, or_else}
use Rattle.cal_args.specs.Plain.{ArePlain, Choice, IsSpelledBy, are_option_names, is_name_of, is_plain, spelling, stands, value_of, values_of}
use Rattle.cal_scan.specs.Lines.{Word}
use Rattle.cal_args.specs.Held.{app_for, held_value, is_taken}
use Rattle.cal_args.proofs.Tables.{Finds, both, both_none, built_is, finds, no_defaults, option_name, ready, ready_app, same, same_as_itself}
use Rattle.cal_args.proofs.Walking.{behind, name_faultless, over_name, over_value, value_faultless}
use Rattle.cal_args.proofs.Pairs.{first_is, is_there, lacks_row, no_more, number_of, row_for, times, times_in, times_is, times_push, used_new}

module _ (command : Word) (choices : List Choice) where
  -- ---- one option and its value

  pair_used : (choice : Choice) (name value : Word) (rows : List Row) → choice.name ≡ name → has_row name rows ≡ false
      → used (ready choice) (value ∷ []) rows ≡ rows ++ row_for (name, value) ∷ []
  pair_used choice name value rows is none =
      let fresh : has_row choice.name rows ≡ false = ap (λ n. has_row n rows) is ∙ none in
      used_new choice value rows fresh ∙ ap (λ n. rows ++ row_for (n, value) ∷ []) is

  pair_rows : (name value : Word) (rows : List Row) → Finds choices name → has_row name rows ≡ false
      → settled_rows (map ready choices) (Some (name, value ∷ [])) rows ≡ rows ++ row_for (name, value) ∷ []
  pair_rows name value rows found none =
      ap (λ o. used_by_id o (value ∷ []) rows) found.by_id ∙ pair_used found.choice name value rows found.is none

  pair_passes : (name value : Word) (h : Held) → Finds choices name → has_row name (settled_rows (map ready choices) h.pending h.rows) ≡ false
      → settle_fault (map ready choices) false (behind (map ready choices) name value h) ≡ []
  pair_passes name value h found none = rw (found.by_id, found.is, none) refl

  -- ---- the walk over the pairs

  record Walks (h : Held) (pairs : List (Word × Word)) : Type 0 where
    end : Held
    walk : fold (walked (map ready choices) []) (walk_from h) (spelling pairs) ≡ walk_from end
    faultless : walk_fault (ready_app command choices).top [] (walk_from h) (spelling pairs) ≡ []
    rows : settled_rows (map ready choices) end.pending end.rows ≡ settled_rows (map ready choices) h.pending h.rows ++ map row_for pairs
    settles : settle_fault (map ready choices) false end ≡ []

  -- no option stands twice, in the rows and the pairs together

  nothing_yet : (pair : Word × Word) (pairs : List (Word × Word)) (rows : List Row) → list_any (is_name_of pair.0) choices ≡ true
      → ((name : Word) → list_any (is_name_of name) choices ≡ true → times_in name rows + times name (pair ∷ pairs) ≤ 1) → has_row pair.0 rows ≡ false
  unfolding number_of
  nothing_yet pair pairs rows is room = lacks_row rows pair.0 (one (bytes_eq pair.0 pair.0) (same_as_itself pair.0) (room pair.0 is))
    where
      one : (b : Bool) → b ≡ true → times_in pair.0 rows + (number_of b + times pair.0 pairs) ≤ 1 → times_in pair.0 rows ≡ 0
      one true t e = omega arith
      one false t e = cc

  room_left : (pair : Word × Word) (pairs : List (Word × Word)) (rows next : List Row) → next ≡ rows ++ row_for pair ∷ []
      → ((name : Word) → list_any (is_name_of name) choices ≡ true → times_in name rows + times name (pair ∷ pairs) ≤ 1)
      → (name : Word) → list_any (is_name_of name) choices ≡ true → times_in name next + times name pairs ≤ 1
  room_left pair pairs rows next is room name found =
      rw is (omega (arith, times_push rows pair name, room name found))

  joined : (pair : Word × Word) (pairs : List (Word × Word)) (h end : Held) (now : List Row) → now ≡ settled_rows (map ready choices) h.pending h.rows ++ row_for pair ∷ []
      → settled_rows (map ready choices) end.pending end.rows ≡ now ++ map row_for pairs
      → settled_rows (map ready choices) end.pending end.rows ≡ settled_rows (map ready choices) h.pending h.rows ++ map row_for (pair ∷ pairs)
  joined pair pairs h end now is rest =
      rest ∙ ap (λ rows. rows ++ map row_for pairs) is ∙ append_assoc (settled_rows (map ready choices) h.pending h.rows) (row_for pair ∷ []) (map row_for pairs)

  walks : (pairs : List (Word × Word)) (h : Held) → are_option_names choices ≡ true → list_all (is_plain choices) pairs ≡ true
      → settle_fault (map ready choices) false h ≡ []
      → ((name : Word) → list_any (is_name_of name) choices ≡ true → times_in name (settled_rows (map ready choices) h.pending h.rows) + times name pairs ≤ 1)
      → Walks h pairs
  unfolding spelling walk_fault
  walks [] h names plain settles room = record {
    end = h;
    walk = refl;
    faultless = refl;
    rows = sym (append-nil (settled_rows (map ready choices) h.pending h.rows));
    settles = settles;
  }
  walks (pair ∷ pairs) h names plain settles room =
      let parts = both (is_plain choices pair) _ plain in
      let pair_parts = both (list_any (is_name_of pair.0) choices) _ parts.0 in
      let found = finds choices pair.0 pair_parts.0 in
      let named = option_name choices pair.0 names pair_parts.0 in
      let none = nothing_yet pair pairs (settled_rows (map ready choices) h.pending h.rows) pair_parts.0 room in
      let now = pair_rows pair.0 pair.1 (settled_rows (map ready choices) h.pending h.rows) found none in
      let after = behind (map ready choices) pair.0 pair.1 h in
      let to_value = over_name choices pair.0 h named found in
      let to_next = over_value choices pair.0 pair.1 h pair_parts.1 found in
      let rest = walks pairs after names parts.1 (pair_passes pair.0 pair.1 h found none)
      (room_left pair pairs (settled_rows (map ready choices) h.pending h.rows) _ now room) in
      record {
        end = rest.end;
        walk = ap (λ w. fold (walked (map ready choices) []) (walked (map ready choices) [] w pair.1) (spelling pairs)) to_value
            ∙ ap (λ w. fold (walked (map ready choices) []) w (spelling pairs)) to_next ∙ rest.walk;
        faultless = both_none _ _ (name_faultless choices command pair.0 h named found settles)
            (subst (λ w. walk_fault (ready_app command choices).top [] w (pair.1 ∷ spelling pairs) ≡ []) (sym to_value)
            (both_none _ _ (value_faultless choices command pair.0 pair.1 h pair_parts.1 found)
            (subst (λ w. walk_fault (ready_app command choices).top [] w (spelling pairs) ≡ []) (sym to_next) rest.faultless)));
        rows = joined pair pairs h rest.end _ now rest.rows;
        settles = rest.settles;
      }

  -- ---- what plain words say of the times

  once : (pairs : List (Word × Word)) (choice : Choice) → stands pairs choice ≡ true → times choice.name pairs ≤ 1
  once pairs choice e = go choice.is_required refl (times_is choice.name pairs) e
    where
      go : (b : Bool) → choice.is_required ≡ b → length (values_of choice.name pairs) ≡ times choice.name pairs
          → cond b (length (values_of choice.name pairs) == 1) (nat_lt (length (values_of choice.name pairs)) 2) ≡ true → times choice.name pairs ≤ 1
      go true t counted e = let one : length (values_of choice.name pairs) ≡ 1 = (Decides-eqb _ _).0 e in omega arith
      go false t counted e = let less : length (values_of choice.name pairs) < 2 = ltb-true _ _ e in omega arith

  at_most_once : (pairs : List (Word × Word)) (some : List Choice) (name : Word) → list_all (stands pairs) some ≡ true → list_any (is_name_of name) some ≡ true
      → times name pairs ≤ 1
  at_most_once pairs [] name all e = cc
  at_most_once pairs (choice ∷ some) name all e =
      let parts = both (stands pairs choice) _ all in
      go (bytes_eq choice.name name) refl e (once pairs choice parts.0) (at_most_once pairs some name parts.1)
    where
      go : (b : Bool) → bytes_eq choice.name name ≡ b → (b || list_any (is_name_of name) some) ≡ true → times choice.name pairs ≤ 1
          → (list_any (is_name_of name) some ≡ true → times name pairs ≤ 1) → times name pairs ≤ 1
      go true t e here more = subst (λ n. times n pairs ≤ 1) (same choice.name name t) here
      go false t e here more = more e

  is_met : (pairs : List (Word × Word)) (choice : Choice) → stands pairs choice ≡ true → (choice.is_required && not (is_given choice.name (map row_for pairs))) ≡ false
  is_met pairs choice e = go choice.is_required refl (times_is choice.name pairs) e (is_there choice.name pairs)
    where
      go : (b : Bool) → choice.is_required ≡ b → length (values_of choice.name pairs) ≡ times choice.name pairs
          → cond b (length (values_of choice.name pairs) == 1) (nat_lt (length (values_of choice.name pairs)) 2) ≡ true
          → (times choice.name pairs ≡ 1 → is_given choice.name (map row_for pairs) ≡ true) → (b && not (is_given choice.name (map row_for pairs))) ≡ false
      go true t counted e there = let one : length (values_of choice.name pairs) ≡ 1 = (Decides-eqb _ _).0 e in ap not (there (omega arith))
      go false t counted e there = refl

  neither : (a b : Bool) → a ≡ false → b ≡ false → (a || b) ≡ false
  neither a b p q = rw (p, q) refl

  all_met : (pairs : List (Word × Word)) (some : List Choice) → list_all (stands pairs) some ≡ true
      → list_any (λ a. a.required && not (is_given a.id (map row_for pairs))) (map ready some) ≡ false
  all_met pairs [] e = refl
  all_met pairs (choice ∷ some) e =
      let parts = both (stands pairs choice) _ e in
      neither _ _ (is_met pairs choice parts.0) (all_met pairs some parts.1)

  -- ---- the whole parse

  walks_all : (pairs : List (Word × Word)) → are_option_names choices ≡ true → ArePlain choices pairs → Walks nothing_held pairs
  walks_all pairs names plain =
      walks pairs nothing_held names plain.options refl (λ name found. let once_at = at_most_once pairs choices name plain.times found in omega arith)

  end_rows : (pairs : List (Word × Word)) (w : Walks nothing_held pairs) → finished (map ready choices) w.end ≡ map row_for pairs
  end_rows pairs w = no_more choices (settled_rows (map ready choices) w.end.pending w.end.rows) ∙ w.rows

  valid : (pairs : List (Word × Word)) → ArePlain choices pairs → check_fault (ready_app command choices).top (map row_for pairs) false ≡ []
  valid pairs plain = rw (all_met pairs choices plain.times) refl

  -- one level of the parse, by where its walk ends
  level : List (Word × Word) → Walk → Kinds
  level pairs w =
      or_else (walk_fault (ready_app command choices).top [] (walk_from nothing_held) (spelling pairs))
      (or_else (entered_fault (ready_app command choices) w.stopped)
      (or_else (settle_fault (map ready choices) false w.held)
      (or_else (defaults_fault (settled (map ready choices) w.held).rows (map ready choices))
      (check_fault (ready_app command choices).top (finished (map ready choices) w.held) (is_some (entered (ready_app command choices) w.stopped))))))

  level_at : (pairs : List (Word × Word)) → ArePlain choices pairs → (w : Walks nothing_held pairs) → level pairs (walk_from w.end) ≡ []
  unfolding level
  level_at pairs plain w =
      both_none _ _ w.faultless (both_none _ _ w.settles (both_none _ _ (no_defaults (settled (map ready choices) w.end).rows choices)
      (subst (λ rows. check_fault (ready_app command choices).top rows false ≡ []) (sym (end_rows pairs w)) (valid pairs plain))))

  no_fault : (pairs : List (Word × Word)) → are_option_names choices ≡ true → ArePlain choices pairs
      → built_fault (ready_app command choices) nothing_held (spelling pairs) ≡ []
  unfolding level
  no_fault pairs names plain =
      let w = walks_all pairs names plain in
      ap (level pairs) w.walk ∙ level_at pairs plain w

  pub plain_taken : (words : List Word) (pairs : List (Word × Word)) → are_option_names choices ≡ true → IsSpelledBy command choices words pairs
      → is_taken command choices words ≡ true
  unfolding is_taken
  plain_taken words pairs names spelled =
      ap (λ ws. is_empty (fault_of (app_for command choices) ws)) spelled.spelled
      ∙ (ap (λ app. is_empty (built_fault app nothing_held (spelling pairs))) (built_is command choices) ∙ ap is_empty (no_fault pairs names spelled.plain))

  rows_are : (pairs : List (Word × Word)) → are_option_names choices ≡ true → ArePlain choices pairs
      → matches_of (app_for command choices) (command ∷ spelling pairs) ≡ map row_for pairs
  rows_are pairs names plain =
      let w = walks_all pairs names plain in
      ap (λ app. rows_after app.top.rules (names_of app) (spelling pairs)) (built_is command choices)
      ∙ ap (λ (end : Walk). finished (map ready choices) end.held) w.walk ∙ end_rows pairs w

  pub plain_values : (words : List Word) (pairs : List (Word × Word)) (name : Word) → are_option_names choices ≡ true → IsSpelledBy command choices words pairs
      → held_value command choices words name ≡ value_of name pairs
  unfolding held_value
  plain_values words pairs name names spelled =
      ap (held_value_at name) spelled.spelled ∙ ap (first_of name) (rows_are pairs names spelled.plain) ∙ first_is name pairs
    where
      held_value_at : Word → List Word → Option Word
      held_value_at name words = held_value command choices words name
