-- Each value that a form gives is one that a database keeps.
use Rattle.std.proofs.Common.{◌≡◌, ℕ, ◌+◌, ◌-◌, ◌<◌, ◌≤◌, Bool, true, false, cond, List, [], ◌∷◌, length, map, drop, codes, Option, Some, None, inl, refl, sym, ap, subst, ◌∙◌, arith}
use Rattle.std.specs.Prelude.{◌&&◌, ◌==◌, MatchBool}
use Rattle.std.specs.Option.{option_map, option_and_then}
use Rattle.std.specs.List.{AllByRecursion, list_all, slice_split}
use Rattle.std.proofs.lemmas.List.{length-map}
use Rattle.std.proofs.lemmas.List.Splits.{length-slice_split}
use Rattle.std.proofs.lemmas.Bool.{and_parts, ltb-true, eqb-true}
use Rattle.cal_dec.specs.declared.dec.Dec.{Dec}
use Rattle.cal_scan.specs.Bytes.{is_letter, is_digit}
use Rattle.cal_scan.specs.Words.{is_name, same_word}
use Rattle.cal_scan.specs.Constituents.{is_constituent, is_letters}
use Rattle.cal_scan.specs.Copies.{without_spaces}
use Rattle.cal_scan.specs.Cuts.{cut_at, parts_at}
use Rattle.cal_scan.specs.FrontTokens.{first_token, behind_token}
use Rattle.cef_kind.specs.declared.kind.Kind.{Kind}
use Rattle.cef_kind.specs.declared.kind.Kind.TheVariants.{Unread, Other as OtherKind}
use Rattle.tdb_expr.specs.Forms.{IsRanged}
use Rattle.tdb_forms.specs.Finding.{each}
use Rattle.tdb_forms.specs.Heads.{head_of, head_from}
use Rattle.tdb_forms.specs.Kinds.{kind_of, kind_from, kind_name, plain_kind, is_kind_word, is_mobility}
use Rattle.tdb_forms.specs.Lists.{is_distinct, names_in, without_percent, constituents_of, kept_lists, without_last_colon, sites_of, plain_list, array_list, array_of}
use Rattle.tdb_forms.proofs.Apart.{IsDistinct-from_test}
use Rattle.tdb_read.specs.declared.key.Key.{Key}
use Rattle.tdb_read.specs.declared.phase.PhaseText.{PhaseText}
use Rattle.tdb_read.specs.declared.parameter.ParamText.{ParamText}
use Rattle.tdb_read.specs.declared.type_definition.TypeText.{TypeText}
use Rattle.tdb_read.specs.declared.type_definition.TypeKind.{TypeKind}
use Rattle.tdb_read.specs.declared.type_definition.TypeKind.TheVariants.{Magnetic, Plain, Other}
use Rattle.tdb_read.specs.Database.{Database}
use Rattle.tdb_read.specs.Sound.{IsName, IsConstituent, IsRatio, AreConstituents, IsPhaseText, IsEntry, IsTypeKind}
use Rattle.tdb_read.specs.Phase.{IsPhase, AreRatios}
use Rattle.tdb_read.specs.Constituent.{sited, sited_phase, constituent_of, read_part, is_direct, CanBeSited}
use Rattle.tdb_read.specs.Parameter.{order_of, ordered, array_and_order, key_with, key_of, kind_and_key, IsParameter}
use Rattle.tdb_read.specs.TypeDefinition.{IsMagnetic, IsAmendedBy, Amends, GivesType, IsTypeDefinition, is_amendment, is_sequence, is_plain, fits_pattern}

-- ---- what a value that was found comes from

pub and_then_some : {A B : Type 0} (f : A → Option B) (o : Option A) (y : B) → option_and_then f o ≡ Some y → (x : A) × (o ≡ Some x) × (f x ≡ Some y)
and_then_some f None y e = absurd cc
and_then_some f (Some x) y e = (x, refl, e)

pub map_some : {A B : Type 0} (f : A → B) (o : Option A) (y : B) → option_map f o ≡ Some y → (x : A) × (o ≡ Some x) × (f x ≡ y)
map_some f None y e = absurd cc
map_some f (Some x) y e = (x, refl, cc)

pub cond_some : {A : Type 0} (b : Bool) (x y : A) → cond b (Some x) None ≡ Some y → (b ≡ true) × (x ≡ y)
cond_some true x y e = (refl, cc)
cond_some false x y e = absurd cc

pub all_from_test : {A : Type 0} (p : A → Bool) (xs : List A) → list_all p xs ≡ true → AllByRecursion (λ x. p x ≡ true) xs
all_from_test p [] h = tt
all_from_test p (x ∷ xs) h = let parts = and_parts (p x) (list_all p xs) h in (parts.0, all_from_test p xs parts.1)

pub each_all : {A B : Type 0} (f : A → Option B) (P : B → Type 0) → ((x : A) (y : B) → f x ≡ Some y → P y) → (xs : List A) (ys : List B) → each f xs ≡ Some ys → AllByRecursion P ys × (length ys ≡ length xs)
unfolding each
each_all f P say [] ys e = let same : [] ≡ ys = cc in subst (λ zs. AllByRecursion P zs × (length zs ≡ 0)) same (tt, refl)
each_all {A = A} {B = B} f P say (x ∷ xs) ys e =
    let one = and_then_some (λ y. option_map (λ zs. y ∷ zs) (each f xs)) (f x) ys e in
    let two = map_some (λ zs. one.0 ∷ zs) (each f xs) ys one.2 in
    let rest = each_all f P say xs two.0 two.1 in
    subst (λ zs. AllByRecursion P zs × (length zs ≡ length (x ∷ xs))) two.2 ((say x one.0 one.1, rest.0), omega (arith, rest.1))

some_part : (mark : ℕ) (text : List ℕ) → 0 < length (parts_at mark text)
unfolding parts_at
some_part mark text = omega (arith, length-slice_split (λ b. b == mark) text)

-- ---- heads, kinds and orders

letters : (s : List ℕ) → is_letters s ≡ true → list_all is_letter s ≡ true
unfolding is_letters
letters [] h = refl
letters (b ∷ bs) h = h

pub head_fine : (text name suffix : List ℕ) → head_of text ≡ Some (name, suffix) → IsName name × (list_all is_letter suffix ≡ true)
unfolding head_of
head_fine text name suffix e = by_cut (cut_at 58 text) e
  where
    by_cut : (o : Option (List ℕ × List ℕ)) → head_from text o ≡ Some (name, suffix) → IsName name × (list_all is_letter suffix ≡ true)
    by_cut None e =
        let found = cond_some (is_name text) (text, []) (name, suffix) e in
        (subst (λ p. is_name p.0 ≡ true) found.1 found.0, subst (λ p. list_all is_letter p.1 ≡ true) found.1 refl)
    by_cut (Some p) e =
        let found = cond_some (is_name p.0 && is_letters p.1) p (name, suffix) e in
        let both = and_parts (is_name p.0) (is_letters p.1) found.0 in
        (subst (λ q. is_name q.0 ≡ true) found.1 both.0, subst (λ q. list_all is_letter q.1 ≡ true) found.1 (letters p.1 both.1))

refl_g : kind_of (codes "G") ≡ Some (plain_kind (codes "G"), codes "G")
unfolding kind_of cut_at is_kind_word kind_name same_word plain_kind
refl_g = refl

refl_bmagn : kind_of (codes "BMAGN") ≡ Some (plain_kind (codes "BMAGN"), codes "BMAGN")
unfolding kind_of cut_at is_kind_word kind_name same_word plain_kind
refl_bmagn = refl

plain_again : (text : List ℕ) → cut_at 38 text ≡ None → is_kind_word text ≡ true → (a b : Bool) → same_word text (codes "L") ≡ a → same_word text (codes "BMAG") ≡ b → kind_of (kind_name text) ≡ Some (plain_kind (kind_name text), kind_name text)
unfolding kind_of kind_name
plain_again text none word true b is_l is_b = rw is_l refl_g
plain_again text none word false true is_l is_b = rw (is_l, is_b) refl_bmagn
plain_again text none word false false is_l is_b = rw (is_l, is_b, none, word) (rw (is_l, is_b) refl)

-- the name of a kind in a key has that kind
pub kind_again : (text : List ℕ) (kind : Kind) (name : List ℕ) → kind_of text ≡ Some (kind, name) → kind_of name ≡ Some (kind, name)
unfolding kind_of
kind_again text kind name e = by_cut (cut_at 38 text) refl e
  where
    by_cut : (o : Option (List ℕ × List ℕ)) → cut_at 38 text ≡ o → kind_from text o ≡ Some (kind, name) → kind_of name ≡ Some (kind, name)
    by_cut None none e =
        let found = cond_some (is_kind_word text) (plain_kind (kind_name text), kind_name text) (kind, name) e in
        subst (λ p. kind_of p.1 ≡ Some p) found.1 (plain_again text none found.0 (same_word text (codes "L")) (same_word text (codes "BMAG")) refl refl)
    by_cut (Some p) cut e =
        let found = cond_some (is_kind_word p.0 && is_constituent p.1) (cond (is_mobility p.0) Unread OtherKind, text) (kind, name) e in
        let names : text ≡ name = ap (λ x. x.1) found.1 in
        rw (← names) (ap (kind_from text) cut ∙ e ∙ ap (λ (t : List ℕ). Some (kind, t)) (sym names))

pub order_fine : (text : List ℕ) (n : ℕ) → order_of text ≡ Some n → n ≤ 9
unfolding order_of
order_fine [] n e = absurd cc
order_fine (b ∷ []) n e =
    let found = cond_some (is_digit b) (b - 48) n e in
    let both = and_parts _ _ found.0 in
    let high : b < 58 = ltb-true b 58 both.1 in
    omega (arith, high, found.1)
order_fine (b ∷ c ∷ bs) n e = absurd cc

-- ---- lists of constituents

constituents_fine : (text : List ℕ) (names : List (List ℕ)) → constituents_of text ≡ Some names → AreConstituents names
unfolding constituents_of
constituents_fine text names e =
    let found = cond_some (list_all is_constituent (names_in text) && is_distinct (names_in text)) (names_in text) names e in
    let both = and_parts (list_all is_constituent (names_in text)) (is_distinct (names_in text)) found.0 in
    subst AreConstituents found.1 (record {
      least = omega (arith, length-map (parts_at 44 text) without_percent, some_part 44 text);
      each = all_from_test is_constituent (names_in text) both.0;
      distinct = IsDistinct-from_test (names_in text) both.1;
    })

pub sites_fine : (n : ℕ) (direct : Bool) (text : List ℕ) (sites : List (List (List ℕ))) → sites_of n direct text ≡ Some sites → (length sites ≡ n) × AllByRecursion AreConstituents sites
unfolding sites_of
sites_fine n direct text sites e = by_count (length lists == n) refl e
  where
    lists : List (List ℕ)
    lists = kept_lists n direct (parts_at 58 (without_last_colon text))

    by_count : (b : Bool) → (length lists == n) ≡ b → cond b (each constituents_of lists) None ≡ Some sites → (length sites ≡ n) × AllByRecursion AreConstituents sites
    by_count false is e = absurd cc
    by_count true is e =
        let all = each_all constituents_of AreConstituents constituents_fine lists sites e in
        (all.1 ∙ eqb-true _ _ is, all.0)

array_list_fine : (text : List ℕ) (list : List (List ℕ)) → array_list text ≡ Some list → AllByRecursion IsConstituent list
unfolding array_list
array_list_fine text list e = by_star (same_word text (codes "*")) e
  where
    by_star : (b : Bool) → cond b (Some []) (plain_list (parts_at 44 text)) ≡ Some list → AllByRecursion IsConstituent list
    by_star true e = let same : [] ≡ list = cc in subst (AllByRecursion IsConstituent) same tt
    by_star false e =
        let found = cond_some (list_all is_constituent (parts_at 44 text)) (parts_at 44 text) list e in
        subst (AllByRecursion IsConstituent) found.1 (all_from_test is_constituent (parts_at 44 text) found.0)

pub array_fine : (text : List ℕ) (array : List (List (List ℕ))) → array_of text ≡ Some array → (0 < length array) × AllByRecursion (AllByRecursion IsConstituent) array
unfolding array_of
array_fine text array e =
    let all = each_all array_list (AllByRecursion IsConstituent) array_list_fine (parts_at 58 text) array e in
    (omega (arith, all.1, some_part 58 text), all.0)

-- ---- parameters

pub record IsArrayOf (array : List (List (List ℕ))) (order : ℕ) : Type 0 where
  pub least : 0 < length array
  pub lists : AllByRecursion (AllByRecursion IsConstituent) array
  pub digit : order ≤ 9

ordered_fine : (text : List ℕ) (o : Option (List ℕ × List ℕ)) (array : List (List (List ℕ))) (order : ℕ) → ordered text o ≡ Some (array, order) → IsArrayOf array order
ordered_fine text None array order e =
    let found = map_some (λ a. (let made : List (List (List ℕ)) × ℕ = (a, 0) in made)) (array_of text) (array, order) e in
    let fine = array_fine text found.0 found.1 in
    subst (λ p. IsArrayOf p.0 p.1) found.2 (record { least = fine.0; lists = fine.1; digit = omega arith })
ordered_fine text (Some (lists, digit)) array order e =
    let found = and_then_some (λ a. option_map (λ order. (let made : List (List (List ℕ)) × ℕ = (a, order) in made)) (order_of digit)) (array_of lists) (array, order) e in
    let last = map_some (λ order. (let made : List (List (List ℕ)) × ℕ = (found.0, order) in made)) (order_of digit) (array, order) found.2 in
    let fine = array_fine lists found.0 found.1 in
    subst (λ p. IsArrayOf p.0 p.1) last.2 (record { least = fine.0; lists = fine.1; digit = order_fine digit last.0 last.1 })

pub key_fine : (name inner : List ℕ) (key : Key) → key_of name inner ≡ Some key → (key.kind_name ≡ name) × IsName key.phase × IsArrayOf key.array key.order
unfolding key_of array_and_order
key_fine name inner key e =
    let one = and_then_some (λ x. option_and_then (λ head. option_map (key_with name head.0) (array_and_order x.1)) (head_of x.0)) (cut_at 44 inner) key e in
    let two = and_then_some (λ head. option_map (key_with name head.0) (array_and_order one.0.1)) (head_of one.0.0) key one.2 in
    let three = map_some (key_with name two.0.0) (array_and_order one.0.1) key two.2 in
    subst (λ k. (k.kind_name ≡ name) × IsName k.phase × IsArrayOf k.array k.order) three.2
    (refl, (head_fine one.0.0 two.0.0 two.0.1 two.1).0, ordered_fine one.0.1 (cut_at 59 one.0.1) three.0.0 three.0.1 three.1)

pub parameter_fine : (line : ℕ) (text : List ℕ) (key : Key) (p : ParamText) → IsParameter line text (key, p) → IsRanged p.ranged → IsEntry key p
unfolding kind_and_key
parameter_fine line text key p is ranged =
    let one = and_then_some (λ x. option_map (λ key. (let made : Kind × Key = (x.0, key) in made)) (key_of x.1 (without_spaces is.inner))) (kind_of is.kind) (p.kind, key) is.key in
    let two = map_some (λ key. (let made : Kind × Key = (one.0.0, key) in made)) (key_of one.0.1 (without_spaces is.inner)) (p.kind, key) one.2 in
    let fine = key_fine one.0.1 (without_spaces is.inner) two.0 two.1 in
    let key_is : two.0 ≡ key = ap (λ x. x.1) two.2 in
    let kind_is : one.0.0 ≡ p.kind = ap (λ x. x.0) two.2 in
    let again = kind_again is.kind one.0.0 one.0.1 one.1 in
    let name_is : key.kind_name ≡ one.0.1 = ap (λ (k : Key). k.kind_name) (sym key_is) ∙ fine.0 in
    let array = subst (λ (k : Key). IsArrayOf k.array k.order) key_is fine.2 in
    record {
      kind = rw name_is (again ∙ ap (λ (k : Kind). Some (k, one.0.1)) kind_is);
      phase = subst (λ (k : Key). IsName k.phase) key_is fine.1;
      least = array.least;
      array = array.lists;
      order = array.digit;
      ranged = ranged;
    }

-- ---- phases

ratios_fine : (text : List ℕ) (ds : List Dec) → AreRatios text ds → AllByRecursion IsRatio ds
ratios_fine text [] are = tt
ratios_fine text (d ∷ ds) are = (record { above_zero = are.1; within = are.0.within }, ratios_fine (behind_token text) ds are.2)

pub phase_fine : (line : ℕ) (text : List ℕ) (name : List ℕ) (p : PhaseText) → IsPhase line text (name, p) → IsName name × IsPhaseText p
phase_fine line text name p is =
    let head = head_fine (first_token text) name p.suffix is.head in (
      head.0,
      record {
        suffix = head.1;
        least = omega (arith, is.count.least);
        most = is.count.most;
        ratios = ratios_fine _ p.ratios is.ratios;
        shape = inl is.sites;
        sites = rw is.sites tt;
      },
    )

pub sited_fine : (d : Database) (text name : List ℕ) (sites : List (List (List ℕ))) (phase : PhaseText) → constituent_of d text ≡ Some (name, sited phase sites)
    → (length sites ≡ length phase.ratios) × AllByRecursion AreConstituents sites
unfolding constituent_of
sited_fine d text name sites phase e =
    let direct = is_direct (read_part text) in
    let one = and_then_some (λ x. sited_phase d direct x.0 x.1) (cut_at 58 (without_spaces (read_part text))) (name, sited phase sites) e in
    let two = and_then_some (λ p. option_map (λ s. (let made : List ℕ × PhaseText = (one.0.0, sited p s) in made)) (sites_of (length p.ratios) direct one.0.1)) _ (name, sited phase sites) one.2 in
    let three = map_some (λ s. (let made : List ℕ × PhaseText = (one.0.0, sited two.0 s) in made)) (sites_of (length two.0.ratios) direct one.0.1) (name, sited phase sites) two.2 in
    let fine = sites_fine (length two.0.ratios) direct one.0.1 three.0 three.1 in
    let sites_are : three.0 ≡ sites = ap (λ x. x.1.sites) three.2 in
    let ratios_are : two.0.ratios ≡ phase.ratios = ap (λ x. x.1.ratios) three.2 in
    (ap (length {A = List (List ℕ)}) (sym sites_are) ∙ fine.0 ∙ ap (length {A = Dec}) ratios_are, subst (AllByRecursion AreConstituents) sites_are fine.1)

-- ---- type definitions

magnetic_fine : (words : List (List ℕ)) (kind : TypeKind) → IsMagnetic words kind → IsTypeKind kind
magnetic_fine [] kind is = absurd is
magnetic_fine (f ∷ []) kind is = absurd is
magnetic_fine (f ∷ p ∷ rest) (Magnetic factor fraction) is = (is.0.within, is.1.within)
magnetic_fine (f ∷ p ∷ rest) Plain is = tt
magnetic_fine (f ∷ p ∷ rest) Other is = tt

plain_fine : (b : Bool) (kind : TypeKind) → kind ≡ cond b Plain Other → IsTypeKind kind
plain_fine true kind e = subst IsTypeKind (sym e) tt
plain_fine false kind e = subst IsTypeKind (sym e) tt

amended_fine : (what : List ℕ) (rest : List (List ℕ)) (kind : TypeKind) → IsAmendedBy what rest kind → IsTypeKind kind
amended_fine what rest kind is = by_order (fits_pattern (codes "MAGNETIC_ORDERING") what) is
  where
    by_order : (b : Bool) → MatchBool b (IsMagnetic rest kind) (kind ≡ cond (is_plain what) Plain Other) → IsTypeKind kind
    by_order true is = magnetic_fine rest kind is
    by_order false is = plain_fine (is_plain what) kind is

amends_fine : (words : List (List ℕ)) (phase : List ℕ) (kind : TypeKind) → Amends words phase kind → IsTypeKind kind
amends_fine [] phase kind is = absurd is
amends_fine (a ∷ []) phase kind is = absurd is
amends_fine (a ∷ what ∷ rest) phase kind is = amended_fine what rest kind is.1

gives_fine : (words : List (List ℕ)) (phase : List ℕ) (kind : TypeKind) → GivesType words phase kind → IsTypeKind kind
gives_fine words phase kind is = by_amends (is_amendment words) is
  where
    by_amends : (b : Bool) → MatchBool b (Amends (drop 2 words) phase kind) ((phase ≡ codes "@") × (kind ≡ cond (is_sequence words) Plain Other)) → IsTypeKind kind
    by_amends true is = amends_fine (drop 2 words) phase kind is
    by_amends false is = plain_fine (is_sequence words) kind is.1

pub type_fine : (line : ℕ) (text : List ℕ) (t : TypeText) → IsTypeDefinition line text t → IsTypeKind t.kind
type_fine line text t is = gives_fine _ t.phase t.kind is.gives
