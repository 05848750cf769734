-- What a database holds: entries by name or key, in the order in which each was entered first, and type definitions.
use Rattle.std.specs.Prelude.{ℕ, ◌&&◌, ◌==◌, List, [], ◌∷◌, ◌++◌, Bool, nat_eq}
use Rattle.std.specs.Cmp.Lexicographic.{pointwise}
use Rattle.indexmap.specs.IndexMap.{insert_entry}
use Rattle.cal_scan.specs.Names.{same_name}
use Rattle.tdb_expr.specs.declared.ranged.Ranged.{Ranged}
use Rattle.tdb_read.specs.declared.key.Key.{Key}
use Rattle.tdb_read.specs.declared.phase.PhaseText.{PhaseText}
use Rattle.tdb_read.specs.declared.parameter.ParamText.{ParamText}
use Rattle.tdb_read.specs.declared.type_definition.TypeText.{TypeText}

pub record Database : Type 0 where
  -- the line of each element's command
  pub elements : List (List ℕ × ℕ)
  pub functions : List (List ℕ × Ranged)
  pub phases : List (List ℕ × PhaseText)
  pub parameters : List (Key × ParamText)
  pub types : List TypeText

abbrev pub database_with : List (List ℕ × ℕ) → List (List ℕ × Ranged) → List (List ℕ × PhaseText) → List (Key × ParamText) → List TypeText → Database
database_with elements functions phases parameters types =
    record { elements = elements; functions = functions; phases = phases; parameters = parameters; types = types }

abbrev pub empty : Database
empty = database_with [] [] [] [] []

abbrev pub same_array : List (List (List ℕ)) → List (List (List ℕ)) → Bool
same_array a b = pointwise (pointwise same_name) a b

-- arrays that list the same constituents in another order are different
abbrev pub same_key : Key → Key → Bool
same_key a b = same_name a.kind_name b.kind_name && (same_name a.phase b.phase && (same_array a.array b.array && nat_eq a.order b.order))

-- a repeated entry replaces the earlier one in its place
abbrev pub with_element : Database → List ℕ → ℕ → Database
with_element d name line = database_with (insert_entry same_name d.elements name line) d.functions d.phases d.parameters d.types

abbrev pub with_function : Database → List ℕ → Ranged → Database
with_function d name ranged = database_with d.elements (insert_entry same_name d.functions name ranged) d.phases d.parameters d.types

abbrev pub with_phase : Database → List ℕ → PhaseText → Database
with_phase d name text = database_with d.elements d.functions (insert_entry same_name d.phases name text) d.parameters d.types

abbrev pub with_parameter : Database → Key → ParamText → Database
with_parameter d key text = database_with d.elements d.functions d.phases (insert_entry same_key d.parameters key text) d.types

abbrev pub with_type : Database → TypeText → Database
with_type d text = database_with d.elements d.functions d.phases d.parameters (d.types ++ text ∷ [])
