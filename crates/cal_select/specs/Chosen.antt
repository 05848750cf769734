-- What a job selects from a database: components, phases, and the constituents that a phase keeps.
use Rattle.std.specs.Prelude.{ℕ, List, length, map, filter, codes, Bool, true, not, ◌&&◌, ◌||◌, Option, Some, None, ◌==◌}
use Rattle.std.specs.List.{list_any, list_all, position}
use Rattle.std.specs.Map.{keys_of}
use Rattle.cal_scan.specs.Names.{same_name}
use Rattle.cef_core.specs.declared.job.Job.{Job}
use Rattle.tdb_read.specs.declared.phase.PhaseText.{PhaseText}
use Rattle.tdb_read.specs.Database.{Database}

abbrev pub Word : Type 0
Word = List ℕ

-- a phase of the database: its name and its text
abbrev pub PhaseEntry : Type 0
PhaseEntry = Word × PhaseText

abbrev pub is_in : List Word → Word → Bool
is_in names name = list_any (same_name name) names

abbrev pub is_vacancy : Word → Bool
is_vacancy name = same_name name (codes "VA")

-- the asked elements in the order of the database
abbrev pub components_of : Database → Job → List Word
components_of db job = filter (is_in job.elements) (keys_of db.elements)

-- a sublattice keeps the components and the vacancy, in written order
abbrev pub is_kept : List Word → Word → Bool
is_kept components name = is_vacancy name || is_in components name

abbrev pub kept_of : List Word → List Word → List Word
kept_of components sublattice = filter (is_kept components) sublattice

abbrev pub all_kept_of : List Word → List (List Word) → List (List Word)
all_kept_of components sites = map (kept_of components) sites

-- it has constituents, each sublattice keeps one, and some sublattice has a component
abbrev pub qualifies : List Word → PhaseText → Bool
qualifies components text =
    not (length text.sites == 0)
    && (list_all (list_any (is_kept components)) text.sites
    && list_any (list_any (is_in components)) text.sites)

-- where phases are listed, only those can be selected
abbrev pub is_listed : Option (List Word) → Word → Bool
is_listed None name = true
is_listed (Some names) name = is_in names name

abbrev pub is_selected : List Word → Option (List Word) → PhaseEntry → Bool
is_selected components listed e = is_listed listed e.0 && qualifies components e.1

-- the selected phases in the order of the database
abbrev pub selected : Database → Job → List PhaseEntry
selected db job = filter (is_selected (components_of db job) job.phases) db.phases

-- the place of a component; none for the vacancy
abbrev pub component_of : List Word → Word → Option ℕ
component_of components name = position (λ other. same_name other name) components

-- for each sublattice the components of what it keeps
abbrev pub sites_at : List Word → List (List Word) → List (List (Option ℕ))
sites_at components kept = map (map (component_of components)) kept
