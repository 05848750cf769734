-- The parameters that a phase needs, their forms, and what they are at a temperature.
use Rattle.std.specs.Prelude.{ℕ, nat_lt, nat_le, List, [], ◌∷◌, length, map, filter, Bool, true, false, not, ◌&&◌, ◌||◌, is_some, Ok, Err, ◌==◌, ℤ, pos, ◌*ℤ◌}
use Rattle.std.specs.List.{list_any, list_all, position}
use Rattle.std.specs.Map.{lookup}
use Rattle.std.specs.Option.{unwrap_or}
use Rattle.std.specs.Int.{int_div_euclid}
use Rattle.cal_scan.specs.Names.{same_name}
use Rattle.cef_kind.specs.declared.kind.Kind.{Kind}
use Rattle.cef_kind.specs.declared.kind.Kind.TheVariants.{G, Tc, Beta, Unread, Other}
use Rattle.cef_core.specs.declared.phase.ParamAt.{ParamAt}
use Rattle.tdb_read.specs.declared.key.Key.{Key}
use Rattle.tdb_read.specs.declared.parameter.ParamText.{ParamText}
use Rattle.tdb_read.specs.Database.{Database, same_key}
use Rattle.cal_select.specs.Chosen.{Word, is_in}
use Rattle.cal_select.specs.Valuations.{Outcome, Valuation}

-- a parameter of the database: its key and its text
abbrev pub Entry : Type 0
Entry = Key × ParamText

abbrev pub is_of : Word → Entry → Bool
is_of name e = same_name e.0.phase name

-- the parameters of a phase in the order of the database
abbrev pub parameters_of : Database → Word → List Entry
parameters_of db name = filter (is_of name) db.parameters

abbrev pub has_wrong_number : List (List Word) → List (List Word) → Bool
has_wrong_number kept array = not (length array == length kept)

-- each constituent is kept on the sublattice of its place
abbrev pub are_kept : List (List Word) → List (List Word) → Bool
are_kept [] array = true
are_kept (names ∷ kept) [] = true
are_kept (names ∷ kept) (list ∷ array) = list_all (is_in names) list && are_kept kept array

-- for a phase with these kept constituents; an array of another number of lists is needed too
abbrev pub is_needed : List (List Word) → List (List Word) → Bool
is_needed kept array = has_wrong_number kept array || are_kept kept array

-- Unread parameters have no effect, and magnetic ones none in a phase without magnetism.
abbrev pub has_effect : Bool → Kind → Bool
has_effect magnetic G = true
has_effect magnetic Tc = magnetic
has_effect magnetic Beta = magnetic
has_effect magnetic Unread = false
has_effect magnetic Other = true

abbrev pub counts : Bool → List (List Word) → Entry → Bool
counts magnetic kept e = has_effect magnetic e.1.kind && is_needed kept e.0.array

-- the parameters of a phase that it needs and that have an effect
abbrev pub needed_of : Bool → List (List Word) → List Entry → List Entry
needed_of magnetic kept entries = filter (counts magnetic kept) entries

abbrev pub is_other : Kind → Bool
is_other G = false
is_other Tc = false
is_other Beta = false
is_other Unread = false
is_other Other = true

abbrev pub has_twice : List Word → Bool
has_twice [] = false
has_twice (name ∷ names) = is_in names name || has_twice names

-- how many constituents each list of two or more has
abbrev pub interactions : List (List Word) → List ℕ
interactions array = filter (λ n. nat_lt 1 n) (map length array)

-- The forms: no interaction, and the order 0; one list of two, and any order; one list of three, and an order of at most
-- 2; two lists of two, and the order 0.
abbrev pub may_have_order : List ℕ → ℕ → Bool
may_have_order [] v = v == 0
may_have_order (n ∷ []) v = n == 2 || (n == 3 && nat_le v 2)
may_have_order (m ∷ n ∷ []) v = m == 2 && (n == 2 && v == 0)
may_have_order (l ∷ m ∷ n ∷ more) v = false

-- another kind, another number of lists, a form that is none of these, or a constituent twice in a list
abbrev pub is_unsupported : List (List Word) → Entry → Bool
is_unsupported kept e =
    is_other e.1.kind
    || (has_wrong_number kept e.0.array
    || (not (may_have_order (interactions e.0.array) e.0.order)
    || list_any has_twice e.0.array))

-- ---- at a temperature

-- in nano; 0 where there is no value
abbrev pub nano_of : Outcome → ℤ
nano_of (Ok v) = v
nano_of (Err fault) = pos 0

-- the kind G is scaled to the whole formula unit
abbrev pub scale_for : ℕ → Kind → ℕ
scale_for scale G = scale
scale_for scale Tc = 1
scale_for scale Beta = 1
scale_for scale Unread = 1
scale_for scale Other = 1

-- floor (v * scale / 1000), in µJ, µK or millionths
abbrev pub micro_of : ℕ → ℤ → ℤ
micro_of scale v = int_div_euclid (v *ℤ pos scale) (pos 1000)

-- the places of constituents among the kept ones
abbrev pub places_of : List Word → List Word → List ℕ
places_of names list = map (λ name. unwrap_or (position (λ other. same_name other name) names) 0) list

abbrev pub array_at : List (List Word) → List (List Word) → List (List ℕ)
array_at [] array = []
array_at (names ∷ kept) [] = []
array_at (names ∷ kept) (list ∷ array) = places_of names list ∷ array_at kept array

-- the same parameter of another order
abbrev pub of_order : Key → ℕ → Key
of_order key v = record { kind_name = key.kind_name; phase = key.phase; array = key.array; order = v }

abbrev pub has_order : Database → Key → ℕ → Bool
has_order db key v = is_some (lookup (same_key (of_order key v)) db.parameters)

-- a list of three
abbrev pub is_ternary : List ℕ → Bool
is_ternary [] = false
is_ternary (n ∷ more) = n == 3

-- A ternary interaction is weighted by composition where the database has it with the order 1 or 2.
abbrev pub is_weighted : Database → Key → Bool
is_weighted db key = is_ternary (interactions key.array) && (has_order db key 1 || has_order db key 2)

abbrev pub parameter_at : Valuation → Database → ℕ → List (List Word) → Entry → ParamAt
parameter_at outcome db scale kept e = record {
  kind = e.1.kind;
  micro = micro_of (scale_for scale e.1.kind) (nano_of (outcome e.1.ranged));
  array = array_at kept e.0.array;
  order = e.0.order;
  weighted = is_weighted db e.0;
}
