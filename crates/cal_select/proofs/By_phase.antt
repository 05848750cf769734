-- the parameters of the database by phase, and those of one phase
use Rattle.std.proofs.Common.{◌≡◌, ℕ, zero, suc, ◌+◌, ◌≤◌, List, [], ◌∷◌, ◌++◌, length, take, map, Option, Some, None, Bool, true, false, cond, refl, ap, sym, subst, ◌∙◌, slice_get}
use Rattle.std.specs.Prelude.{filter, nat_eq, ◌&&◌, ◌||◌}
use Rattle.std.specs.List.{list_any}
use Rattle.std.specs.Map.{lookup}
use Rattle.std.specs.Option.{unwrap_or, option_map}
use Rattle.std.proofs.lemmas.Bool.{and_parts}
use Rattle.std.proofs.lemmas.List.{length-map, map-append, take_all}
use Rattle.std.proofs.lemmas.Option.{slice_get-map}
use Rattle.indexmap.specs.IndexMap.{insert_entry}
use Rattle.cal_scan.specs.Names.{same_name}
use Rattle.tdb_read.specs.declared.key.Key.{Key}
use Rattle.tdb_read.specs.Database.{Database, same_key, same_array}
use Rattle.cal_select.specs.Chosen.{Word}
use Rattle.cal_select.specs.Parameters.{Entry, is_of, parameters_of, of_order, has_order}
use Rattle.cal_select.specs.Measures.{Groups, places_in}
use Rattle.cal_select.proofs.Any.{lookup-any}
use Rattle.cal_select.proofs.Chosen_sites.{same_is}
use Rattle.cal_select.proofs.Formed.{own_name}
use Rattle.cal_select.proofs.Taken.{kept-next, left_out-next}

-- ---- names

same_back : (a b : Word) → same_name a b ≡ true → same_name b a ≡ true
same_back a b on = subst (λ (c : Word). same_name c a ≡ true) (same_is a b on) (own_name a)

apart_back : (a b : Word) → same_name a b ≡ false → same_name b a ≡ false
apart_back a b off = by_test (same_name b a) refl
  where
    by_test : (t : Bool) → same_name b a ≡ t → same_name b a ≡ false
    by_test true on = absurd (cc (off, same_back b a on))
    by_test false is = is

-- ---- the places by phase

-- what is found behind an insertion
pub lookup_after : {X : Type 0} (k q : Word) (es : List (Word × X)) (w : X) → lookup (same_name q) (insert_entry same_name es k w) ≡ cond (same_name q k) (Some w) (lookup (same_name q) es)
lookup_after k q [] w = refl
lookup_after {X = X} k q (e ∷ es) w = by_key (same_name k e.0) refl (lookup_after k q es w)
  where
    at_key : (b : Bool) → cond b (Some w) (lookup (same_name q) es) ≡ cond b (Some w) (cond b (Some e.1) (lookup (same_name q) es))
    at_key true = refl
    at_key false = refl

    apart : (s t : Bool) (found : Option X) → same_name q e.0 ≡ s → same_name q k ≡ t → same_name k e.0 ≡ false → found ≡ cond t (Some w) (lookup (same_name q) es)
        → cond s (Some e.1) found ≡ cond t (Some w) (cond s (Some e.1) (lookup (same_name q) es))
    apart true true found at_e at_k off behind = absurd (cc (off, subst (λ (z : Word). same_name z e.0 ≡ true) (same_is q k at_k) at_e))
    apart true false found at_e at_k off behind = refl
    apart false true found at_e at_k off behind = behind
    apart false false found at_e at_k off behind = behind

    by_key : (b : Bool) → same_name k e.0 ≡ b → lookup (same_name q) (insert_entry same_name es k w) ≡ cond (same_name q k) (Some w) (lookup (same_name q) es)
        → lookup (same_name q) (cond b ((e.0, w) ∷ es) (e ∷ insert_entry same_name es k w)) ≡ cond (same_name q k) (Some w) (lookup (same_name q) (e ∷ es))
    by_key true on behind =
        let same : k ≡ e.0 = same_is k e.0 on in
        rw same (at_key (same_name q e.0))
    by_key false off behind = apart (same_name q e.0) (same_name q k) (lookup (same_name q) (insert_entry same_name es k w)) refl refl off behind

pub places_after : (groups : Groups) (k : Word) (places : List ℕ) (q : Word) → places_in (insert_entry same_name groups k places) q ≡ cond (same_name q k) places (places_in groups q)
places_after groups k places q = ap (λ (o : Option (List ℕ)). unwrap_or o []) (lookup_after k q groups places) ∙ by_test (same_name q k)
  where
    by_test : (b : Bool) → unwrap_or (cond b (Some places) (lookup (same_name q) groups)) [] ≡ cond b places (unwrap_or (lookup (same_name q) groups) [])
    by_test true = refl
    by_test false = refl

-- the first so many parameters by phase
abbrev pub AreGroupedTo : List Entry → ℕ → Groups → Type 0
AreGroupedTo params i groups = (name : Word) → map (slice_get params) (places_in groups name) ≡ map Some (filter (is_of name) (take i params))

pub grouped-next : (params : List Entry) (i : ℕ) (e : Entry) (old new : Groups) → slice_get params i ≡ Some e
    → new ≡ insert_entry same_name old e.0.phase (places_in old e.0.phase ++ i ∷ []) → AreGroupedTo params i old → AreGroupedTo params (i + 1) new
grouped-next params i e old new stands new_is before = λ (name : Word). by_test name (same_name name e.0.phase) refl
  where
    behind : (name : Word) → places_in new name ≡ cond (same_name name e.0.phase) (places_in old e.0.phase ++ i ∷ []) (places_in old name)
    behind name = ap (λ (groups : Groups). places_in groups name) new_is ∙ places_after old e.0.phase (places_in old e.0.phase ++ i ∷ []) name

    by_test : (name : Word) (b : Bool) → same_name name e.0.phase ≡ b → map (slice_get params) (places_in new name) ≡ map Some (filter (is_of name) (take (i + 1) params))
    by_test name true on =
        let picked : cond (same_name name e.0.phase) (places_in old e.0.phase ++ i ∷ []) (places_in old name) ≡ places_in old e.0.phase ++ i ∷ [] = rw on refl in
        let own : places_in old e.0.phase ++ i ∷ [] ≡ places_in old name ++ i ∷ [] = ap (λ (w : Word). places_in old w ++ i ∷ []) (sym (same_is name e.0.phase on)) in
        let now : places_in new name ≡ places_in old name ++ i ∷ [] = behind name ∙ (picked ∙ own) in
        kept-next Some (is_of name) params i e (map (slice_get params) (places_in old name)) (map (slice_get params) (places_in new name)) stands (same_back name e.0.phase on) (before name)
        (ap (map (slice_get params)) now ∙ (map-append (slice_get params) (places_in old name) (i ∷ []) ∙ ap (λ (o : Option Entry). map (slice_get params) (places_in old name) ++ o ∷ []) stands))
    by_test name false off =
        let picked : cond (same_name name e.0.phase) (places_in old e.0.phase ++ i ∷ []) (places_in old name) ≡ places_in old name = rw off refl in
        ap (map (slice_get params)) (behind name ∙ picked)
        ∙ left_out-next Some (is_of name) params i e (map (slice_get params) (places_in old name)) stands (apart_back name e.0.phase off) (before name)

pub grouped-all : (params : List Entry) (i : ℕ) (groups : Groups) → length params ≤ i → AreGroupedTo params i groups → (name : Word) → map (slice_get params) (places_in groups name) ≡ map Some (filter (is_of name) params)
grouped-all params i groups passed all name = all name ∙ ap (λ (es : List Entry). map Some (filter (is_of name) es)) (take_all i params passed)

-- ---- the parameters of a phase

-- the one of a number, and where it stands
pub standing : (params es : List Entry) (places : List ℕ) (i place : ℕ) → map (slice_get params) places ≡ map Some es → slice_get places i ≡ Some place
    → (e : Entry) × (slice_get params place ≡ Some e) × (slice_get es i ≡ Some e)
standing params es places i place all at =
    by_entry (slice_get es i) refl (sym (slice_get-map (slice_get params) places i ∙ ap (option_map (slice_get params)) at) ∙ (ap (λ (os : List (Option Entry)). slice_get os i) all ∙ slice_get-map Some es i))
  where
    by_entry : (o : Option Entry) → slice_get es i ≡ o → Some (slice_get params place) ≡ option_map Some (slice_get es i) → (e : Entry) × (slice_get params place ≡ Some e) × (slice_get es i ≡ Some e)
    by_entry None here is = absurd (cc (is, ap (λ (o : Option Entry). option_map Some o) here))
    by_entry (Some e) here is =
        let read : Some (slice_get params place) ≡ Some (Some e) = is ∙ ap (λ (o : Option Entry). option_map Some o) here in
        (e, cc, here)

pub passed : {A : Type 0} (p : A → Bool) (xs : List A) (i : ℕ) (x : A) → slice_get (filter p xs) i ≡ Some x → p x ≡ true
passed p [] i x is = absurd cc
passed {A = A} p (y ∷ ys) i x is = by_test (p y) i refl (λ j at. passed p ys j x at) is
  where
    by_test : (b : Bool) (k : ℕ) → p y ≡ b → ((j : ℕ) → slice_get (filter p ys) j ≡ Some x → p x ≡ true) → slice_get (cond b (y ∷ filter p ys) (filter p ys)) k ≡ Some x → p x ≡ true
    by_test true zero on rest at = let same : y ≡ x = cc in subst (λ (z : A). p z ≡ true) same on
    by_test true (suc k) on rest at = rest k at
    by_test false k off rest at = rest k at

pub own_phase : (db : Database) (name : Word) (i : ℕ) (e : Entry) → slice_get (parameters_of db name) i ≡ Some e → e.0.phase ≡ name
own_phase db name i e at = same_is e.0.phase name (passed (is_of name) db.parameters i e at)

-- ---- keys of another order

any_among : {A : Type 0} (p q : A → Bool) (xs : List A) → ((x : A) → p x ≡ true → q x ≡ true) → list_any p xs ≡ list_any p (filter q xs)
any_among p q [] only = refl
any_among p q (x ∷ xs) only = by_test (q x) (only x) (any_among p q xs only)
  where
    left_out : (s : Bool) → (s ≡ true → false ≡ true) → list_any p xs ≡ list_any p (filter q xs) → (s || list_any p xs) ≡ list_any p (filter q xs)
    left_out true among rest = absurd (cc (among refl))
    left_out false among rest = rest

    by_test : (b : Bool) → (p x ≡ true → b ≡ true) → list_any p xs ≡ list_any p (filter q xs) → (p x || list_any p xs) ≡ list_any p (cond b (x ∷ filter q xs) (filter q xs))
    by_test true among rest = ap (λ (c : Bool). p x || c) rest
    by_test false among rest = left_out (p x) among rest

phase_of : (key other : Key) (v : ℕ) → same_key (of_order key v) other ≡ true → same_name other.phase key.phase ≡ true
phase_of key other v on =
    let behind = (and_parts (same_name key.kind_name other.kind_name) (same_name key.phase other.phase && (same_array key.array other.array && nat_eq v other.order)) on).1 in
    same_back key.phase other.phase (and_parts (same_name key.phase other.phase) (same_array key.array other.array && nat_eq v other.order) behind).0

-- a key of another order is looked for among those of its phase
pub order_among : (db : Database) (key : Key) (v : ℕ) → has_order db key v ≡ list_any (λ e. same_key (of_order key v) e.0) (parameters_of db key.phase)
order_among db key v =
    lookup-any (same_key (of_order key v)) db.parameters
    ∙ any_among (λ (e : Entry). same_key (of_order key v) e.0) (is_of key.phase) db.parameters (λ e on. phase_of key e.0 v on)

-- as many places as parameters
pub as_many : (params es : List Entry) (places : List ℕ) → map (slice_get params) places ≡ map Some es → length es ≡ length places
as_many params es places all = sym (length-map es Some) ∙ (sym (ap length all) ∙ length-map places (slice_get params))
