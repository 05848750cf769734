-- What is known of every entry of a database.
use Rattle.std.proofs.Common.{◌≡◌, List, [], ◌∷◌, map, Bool, true, false, cond, refl, ◌∙◌}
use Rattle.std.specs.Prelude.{filter, ◌||◌}
use Rattle.std.specs.Cmp.Lexicographic.{pointwise}
use Rattle.std.specs.List.{AllByRecursion, IsDistinct, list_any}
use Rattle.std.specs.Map.{keys_of}
use Rattle.std.proofs.lemmas.Bool.{eq-eqb}
use Rattle.cal_scan.specs.Names.{same_name}
use Rattle.tdb_read.specs.declared.key.Key.{Key}
use Rattle.tdb_read.specs.Database.{Database, same_key}
use Rattle.cal_select.specs.Chosen.{Word, PhaseEntry}
use Rattle.cal_select.specs.Parameters.{Entry, has_order, of_order}
use Rattle.cal_select.proofs.Any.{lookup-any}
use Rattle.cal_select.proofs.Everywhere.{all-in}
use Rattle.cal_select.proofs.Formed.{own_name}

own_row : {A : Type 0} (R : A → A → Bool) → ((x : A) → R x x ≡ true) → (xs : List A) → pointwise R xs xs ≡ true
own_row R own [] = refl
own_row R own (x ∷ xs) = rw (own x) (own_row R own xs)

own_key : (key : Key) → same_key (of_order key key.order) key ≡ true
own_key key =
    rw (own_name key.kind_name) (rw (own_name key.phase) (rw (own_row (pointwise same_name) (own_row same_name own_name) key.array) (eq-eqb key.order key.order refl)))

either_true : (a b : Bool) → b ≡ true → (a || b) ≡ true
either_true true b e = refl
either_true false b e = e

own_among : {A : Type 0} (R : A → A → Bool) → ((x : A) → R x x ≡ true) → (xs : List A) → AllByRecursion (λ x. list_any (R x) xs ≡ true) xs
own_among R own [] = tt
own_among R own (y ∷ ys) = (
  rw (own y) refl,
  all-in (λ x. list_any (R x) ys ≡ true) (λ x. (R x y || list_any (R x) ys) ≡ true) (λ x e. either_true (R x y) (list_any (R x) ys) e) ys (own_among R own ys),
)

-- a parameter of the database is there under its own order
pub own_order : (db : Database) → AllByRecursion (λ e. has_order db e.0 e.0.order ≡ true) db.parameters
own_order db =
    all-in (λ (e : Entry). list_any (λ (other : Entry). same_key (of_order e.0 e.0.order) other.0) db.parameters ≡ true) (λ e. has_order db e.0 e.0.order ≡ true)
    (λ e found. lookup-any (same_key (of_order e.0 e.0.order)) db.parameters ∙ found) db.parameters
    (own_among (λ (e other : Entry). same_key (of_order e.0 e.0.order) other.0) (λ (e : Entry). own_key e.0) db.parameters)

kept_apart : (x : Word) (p : PhaseEntry → Bool) (xs : List PhaseEntry) → AllByRecursion (λ y. same_name x y ≡ false) (keys_of xs) → AllByRecursion (λ y. same_name x y ≡ false) (map (λ e. e.0) (filter p xs))
kept_apart x p [] all = tt
kept_apart x p (e ∷ xs) all = by_test (p e) (kept_apart x p xs all.1)
  where
    by_test : (b : Bool) → AllByRecursion (λ y. same_name x y ≡ false) (map (λ (f : PhaseEntry). f.0) (filter p xs)) → AllByRecursion (λ y. same_name x y ≡ false) (map (λ (f : PhaseEntry). f.0) (cond b (e ∷ filter p xs) (filter p xs)))
    by_test true rest = (all.0, rest)
    by_test false rest = rest

-- the names of what is kept are none twice
pub distinct-kept : (p : PhaseEntry → Bool) (xs : List PhaseEntry) → IsDistinct same_name (keys_of xs) → IsDistinct same_name (map (λ e. e.0) (filter p xs))
unfolding IsDistinct
distinct-kept p [] distinct = tt
distinct-kept p (x ∷ xs) distinct = by_test (p x) (distinct-kept p xs distinct.1) (kept_apart x.0 p xs distinct.0)
  where
    by_test : (b : Bool) → IsDistinct same_name (map (λ (e : PhaseEntry). e.0) (filter p xs)) → AllByRecursion (λ y. same_name x.0 y ≡ false) (map (λ (e : PhaseEntry). e.0) (filter p xs)) →
        IsDistinct same_name (map (λ (e : PhaseEntry). e.0) (cond b (x ∷ filter p xs) (filter p xs)))
    by_test true rest apart = (apart, rest)
    by_test false rest apart = rest
