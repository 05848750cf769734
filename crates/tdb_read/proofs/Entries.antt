-- What holds of all entries, where one is added, and of the one that is found.
use Rattle.std.proofs.Common.{◌≡◌, ℕ, zero, suc, Bor, Bool, true, false, cond, List, [], ◌∷◌, ◌++◌, Option, Some, None, is_some, slice_get, refl, sym, ap, subst, ◌∙◌}
use Rattle.std.specs.Prelude.{IfSome, nat_eq, ◌&&◌}
use Rattle.std.specs.List.{AllByRecursion}
use Rattle.std.specs.Bool.{OnTrue}
use Rattle.std.proofs.lemmas.Bool.{OnTrue_from, and_parts, eqb-true}
use Rattle.std.specs.Cmp.Lexicographic.{same_text, pointwise, pointwise_decides, bytes_decides}
use Rattle.std.specs.Map.{lookup, set_value, keys_of}
use Rattle.std.specs.Option.{option_copied}
use Rattle.indexmap.specs.IndexMap.{insert_entry}
use Rattle.cal_scan.specs.Names.{same_name}
use Rattle.tdb_read.specs.declared.key.Key.{Key}
use Rattle.tdb_read.specs.Database.{same_key, same_array}

-- ---- keys that are the same

pub same_name-true : (a b : List ℕ) → same_name a b ≡ true → a ≡ b
same_name-true a b h = same_text a b (sym h)

same_array-true : (a b : List (List (List ℕ))) → same_array a b ≡ true → a ≡ b
same_array-true a b h = (pointwise_decides (pointwise_decides bytes_decides) a b).0 h

pub same_key-true : (a b : Key) → same_key a b ≡ true → a ≡ b
same_key-true a b h =
    let one = and_parts (same_name a.kind_name b.kind_name) (same_name a.phase b.phase && (same_array a.array b.array && nat_eq a.order b.order)) h in
    let two = and_parts (same_name a.phase b.phase) (same_array a.array b.array && nat_eq a.order b.order) one.1 in
    let three = and_parts (same_array a.array b.array) (nat_eq a.order b.order) two.1 in
    let kinds = same_name-true a.kind_name b.kind_name one.0 in
    let phases = same_name-true a.phase b.phase two.0 in
    let arrays = same_array-true a.array b.array three.0 in
    let orders = eqb-true a.order b.order three.1 in
    λ i. record { kind_name = kinds i; phase = phases i; array = arrays i; order = orders i }

-- ---- one more entry

pub All-insert : {K X : Type 0} (eq : K → K → Bool) (P : K × X → Type 0) (same : (a b : K) → eq a b ≡ true → a ≡ b) (es : List (K × X)) (k : K) (v : X)
    → AllByRecursion P es → P (k, v) → AllByRecursion P (insert_entry eq es k v)
All-insert eq P same [] k v all p = (p, tt)
All-insert {K = K} {X = X} eq P same (e ∷ es) k v all p = by_key (eq k e.0) refl (All-insert eq P same es k v all.1 p)
  where
    at_key : (q : K) → k ≡ q → P (q, v)
    at_key q is = subst (λ (z : K). P (z, v)) is p

    by_key : (b : Bool) → eq k e.0 ≡ b → AllByRecursion P (insert_entry eq es k v) → AllByRecursion P (cond b ((e.0, v) ∷ es) (e ∷ insert_entry eq es k v))
    by_key true is rest = (at_key e.0 (same k e.0 is), all.1)
    by_key false is rest = (all.0, rest)

pub All-push : {A : Type 0} (P : A → Type 0) (xs : List A) (x : A) → AllByRecursion P xs → P x → AllByRecursion P (xs ++ x ∷ [])
All-push P [] x all p = (p, tt)
All-push P (y ∷ ys) x all p = (all.0, All-push P ys x all.1 p)

-- ---- what is found

pub set_value-insert : {X : Type 0} (k : List ℕ) (es : List (List ℕ × X)) (v w : X) → lookup (same_name k) es ≡ Some v → set_value (same_name k) es w ≡ insert_entry same_name es k w
set_value-insert k [] v w found = absurd cc
set_value-insert {X = X} k (e ∷ es) v w found = by_key (same_name k e.0) found (set_value-insert k es v w)
  where
    by_key : (b : Bool) → cond b (Some e.1) (lookup (same_name k) es) ≡ Some v → (lookup (same_name k) es ≡ Some v → set_value (same_name k) es w ≡ insert_entry same_name es k w)
        → cond b ((e.0, w) ∷ es) (e ∷ set_value (same_name k) es w) ≡ cond b ((e.0, w) ∷ es) (e ∷ insert_entry same_name es k w)
    by_key true found behind = refl
    by_key false found behind = ap (λ (zs : List (List ℕ × X)). e ∷ zs) (behind found)

-- what holds of each name holds of a name that is among them
pub found_name : {X : Type 0} (P : List ℕ → Type 0) (name : List ℕ) (es : List (List ℕ × X)) → AllByRecursion (λ e. P e.0) es → is_some (lookup (same_name name) es) ≡ true → P name
found_name P name [] all found = absurd cc
found_name {X = X} P name (e ∷ es) all found = by_name (same_name name e.0) refl found (found_name P name es all.1)
  where
    by_name : (b : Bool) → same_name name e.0 ≡ b → is_some (cond b (Some e.1) (lookup (same_name name) es)) ≡ true → (is_some (lookup (same_name name) es) ≡ true → P name) → P name
    by_name true is f behind = subst P (sym (same_text name e.0 (sym is))) all.0
    by_name false is f behind = behind f

pub known_name : {X : Type 0} (P : List ℕ → Type 0) (known : Bool) (name : List ℕ) (es : List (List ℕ × X)) → AllByRecursion (λ e. P e.0) es → known ≡ is_some (lookup (same_name name) es) → OnTrue known (P name)
known_name P known name es all is = OnTrue_from known (P name) (λ yes_it. found_name P name es all (sym is ∙ yes_it))

pub IfSome-lookup : {K X : Type 0} (test : K → Bool) (Q : X → Type 0) (es : List (K × X)) → AllByRecursion (λ e. Q e.1) es → IfSome (lookup test es) Q
IfSome-lookup test Q [] all = tt
IfSome-lookup test Q (e ∷ es) all = by_key (test e.0) (IfSome-lookup test Q es all.1)
  where
    by_key : (b : Bool) → IfSome (lookup test es) Q → IfSome (cond b (Some e.1) (lookup test es)) Q
    by_key true rest = all.0
    by_key false rest = rest

pub IfSome-copied : {X : Type 0} (Q : X → Type 0) (r : Option (Bor X)) (o : Option X) → option_copied r ≡ o → IfSome o Q → IfSome r (λ x. Q x.now)
IfSome-copied Q None o e q = tt
IfSome-copied Q (Some x) o e q = subst (λ z. IfSome z Q) (sym e) q

-- the name that a look-up found
pub IfSome-name : {X : Type 0} (P : List ℕ → Type 0) (r : Option (Bor X)) (name : List ℕ) (es : List (List ℕ × X)) → AllByRecursion (λ e. P e.0) es → option_copied r ≡ lookup (same_name name) es → IfSome r (λ x. P name)
IfSome-name P None name es all e = tt
IfSome-name P (Some x) name es all e = found_name P name es all (ap is_some (sym e))

pub values_hold : {K X : Type 0} (P : K → Type 0) (Q : X → Type 0) (es : List (K × X)) → AllByRecursion (λ e. P e.0 × Q e.1) es → AllByRecursion (λ e. Q e.1) es
values_hold P Q [] all = tt
values_hold P Q (e ∷ es) all = (all.0.1, values_hold P Q es all.1)

pub names_hold : {K X : Type 0} (P : K → Type 0) (Q : X → Type 0) (es : List (K × X)) → AllByRecursion (λ e. P e.0 × Q e.1) es → AllByRecursion (λ e. P e.0) es
names_hold P Q [] all = tt
names_hold P Q (e ∷ es) all = (all.0.0, names_hold P Q es all.1)

pub keys_hold : {K X : Type 0} (P : K → Type 0) (es : List (K × X)) → AllByRecursion (λ e. P e.0) es → AllByRecursion P (keys_of es)
keys_hold P [] all = tt
keys_hold P (e ∷ es) all = (all.0, keys_hold P es all.1)

pub at_place : {A : Type 0} (P : A → Type 0) (xs : List A) (i : ℕ) (x : A) → AllByRecursion P xs → slice_get xs i ≡ Some x → P x
at_place P [] i x all e = absurd cc
at_place P (y ∷ ys) zero x all e = let same : y ≡ x = cc in subst P same all.0
at_place P (y ∷ ys) (suc i) x all e = at_place P ys i x all.1 e

pub weaker : {A : Type 0} (P Q : A → Type 0) (xs : List A) → ((x : A) → P x → Q x) → AllByRecursion P xs → AllByRecursion Q xs
weaker P Q [] then all = tt
weaker P Q (x ∷ xs) then all = (then x all.0, weaker P Q xs then all.1)

pub value_known : {X : Type 0} (Q : X → Type 0) (name : List ℕ) (es : List (List ℕ × X)) (v : X) → AllByRecursion (λ e. Q e.1) es → lookup (same_name name) es ≡ Some v → Q v
value_known {X = X} Q name es v all known = let found : IfSome (lookup (same_name name) es) Q = IfSome-lookup (same_name name) Q es all in subst (λ (o : Option X). IfSome o Q) known found

pub name_known : {X : Type 0} (P : List ℕ → Type 0) (name : List ℕ) (es : List (List ℕ × X)) (v : X) → AllByRecursion (λ e. P e.0) es → lookup (same_name name) es ≡ Some v → P name
name_known P name es v all known = found_name P name es all (ap is_some known)
