-- Constitutions of the phases of a system, and which of them are known.
use Rattle.std.specs.Prelude.{◌≡◌, ℕ, ◌<◌, ◌≤◌, ◌*◌, ◌^◌, ◌&&◌, ◌+◌, cond, nat_eq, suc, List, [], ◌∷◌, ◌++◌, map, length, Option, Some, slice_get, Bool, All, pos, ◌≤ℤ◌, unsigned_abs}
use Rattle.std.specs.List.{AllZip, AllByRecursion, list_any}
use Rattle.std.specs.Cmp.Lexicographic.{pointwise}
use Rattle.cal_math.specs.Vectors.{at, sum_to}
use Rattle.lp_basis.specs.declared.column.Column.{Column}
use Rattle.cef_core.specs.declared.phase.PhaseAt.{PhaseAt}
use Rattle.cef_core.specs.declared.system.System.{System}
use Rattle.cef_report.specs.declared.entry.Entry.{Entry}
use Rattle.cef_core.specs.Constitutions.{HasShape, IsConstitution}
use Rattle.cef_core.specs.Points.{lists_of}
use Rattle.cef_report.specs.Assemblages.{content_of, energy_of}

-- a constitution of a phase of the system, in any amount
pub record IsConstitutionOf (system : System) (entry : Entry) : Type 0 where
  pub phase : PhaseAt
  pub is_phase : slice_get system.phases entry.phase ≡ Some phase
  pub constitution : IsConstitution phase entry.site

-- a list of counts of a phase of the system
pub record IsListOf (system : System) (entry : Entry) : Type 0 where
  pub phase : PhaseAt
  pub is_phase : slice_get system.phases entry.phase ≡ Some phase
  pub shape : HasShape phase.lattice phase.sites entry.site

-- its column: what it holds of each component, and its energy as the cost
pub record IsColumnOf (system : System) (entry : Entry) (column : Column) : Type 0 where
  pub same : length column.amounts.items ≡ length system.elements
  pub amounts_are : (c : ℕ) → c < length system.elements → at column.amounts.items c ≡ content_of system entry c
  pub cost_is : column.cost ≡ energy_of system entry

-- the same constitution of the same phase
abbrev pub AreSame : Entry → Entry → Type 0
AreSame a b = (a.phase ≡ b.phase) × (a.site ≡ b.site)

-- none of the known ones
abbrev pub IsNew : List Entry → Entry → Type 0
IsNew known entry = All (λ other. ¬ AreSame other entry) known

-- a known constitution with its column
pub record IsKnownAs (system : System) (entry : Entry) (column : Column) : Type 0 where
  pub is_constitution : IsConstitutionOf system entry
  pub column_is : IsColumnOf system entry column

abbrev pub AreKnown : System → List Entry → List Column → Type 0
AreKnown system known columns = AllZip (IsKnownAs system) known columns

-- whether two are the same
abbrev pub same_site : Entry → Entry → Bool
same_site a b = nat_eq a.phase b.phase && pointwise (pointwise nat_eq) a.site b.site

abbrev pub is_known : List Entry → Entry → Bool
is_known known entry = list_any (λ other. same_site other entry) known

-- all lists of counts of the phases, the first at this place, with the amount 0
abbrev pub entries_from : ℕ → List PhaseAt → List Entry
entries_from place [] = []
entries_from place (phase ∷ phases) =
    map (λ site. record { phase = place; amount = pos 0; site = site }) (lists_of phase.lattice (map length phase.sites))
    ++ entries_from (suc place) phases

-- all lists of counts of a system
abbrev pub all_entries : System → List Entry
all_entries system = entries_from 0 system.phases

-- how many of a list are not known
abbrev pub unknown : List Entry → List Entry → ℕ
unknown [] known = 0
unknown (entry ∷ all) known = cond (is_known known entry) 0 1 + unknown all known

-- how many sites all sublattices have
abbrev pub site_count : List (List (Option ℕ)) → ℕ
site_count [] = 0
site_count (sites ∷ rest) = length sites + site_count rest

-- at most 1000 parts, and sublattices of one site or more, with at most 90 in all
pub record IsShaped (phase : PhaseAt) : Type 0 where
  pub lattice : phase.lattice ≤ 1000
  pub some : AllByRecursion (λ sites. 0 < length sites) phase.sites
  pub few : site_count phase.sites ≤ 90

-- The limits of a system: 1 to 8 elements, the lattice, constitutions of a content of 1 to W in all and of a magnitude of energy of at
-- most S, with room for W^C and W^C * S.
pub record IsSized (system : System) : Type 0 where
  pub some_element : 1 ≤ length system.elements
  pub few : length system.elements ≤ 8
  pub lattice_low : 1 ≤ system.lattice
  pub lattice_high : system.lattice ≤ 1000
  pub shapes : All IsShaped system.phases
  pub wide_some : 1 ≤ system.widest
  pub wide : system.widest ≤ 10 ^ 8
  pub dearest : ℕ
  pub dear : dearest ≤ 2 ^ 55
  pub some : (entry : Entry) → IsConstitutionOf system entry → pos 1 ≤ℤ sum_to (length system.elements) (content_of system entry)
  pub narrow : (entry : Entry) → IsListOf system entry → sum_to (length system.elements) (content_of system entry) ≤ℤ pos system.widest
  pub cheap : (entry : Entry) → IsConstitutionOf system entry → unsigned_abs (energy_of system entry) ≤ dearest
  pub wide_room : system.widest ^ length system.elements ≤ 2 ^ 62
  pub dear_room : system.widest ^ length system.elements * dearest ≤ 2 ^ 94
