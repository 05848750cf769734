-- What is true of every database: each entry is one that a command can give.
use Rattle.std.specs.Prelude.{◌≡◌, ℕ, ◌≤◌, ◌<◌, ◌⊎◌, List, [], length, true, Some, unsigned_abs, pos, ◌<ℤ◌}
use Rattle.std.specs.List.{AllByRecursion, IsDistinct, list_all}
use Rattle.cal_dec.specs.declared.dec.Dec.{Dec}
use Rattle.cal_scan.specs.Bytes.{is_letter}
use Rattle.cal_scan.specs.Words.{is_name}
use Rattle.cal_scan.specs.Names.{same_name}
use Rattle.cal_scan.specs.Constituents.{is_constituent, is_element_name}
use Rattle.tdb_expr.specs.Forms.{IsRanged}
use Rattle.tdb_forms.specs.Kinds.{kind_of}
use Rattle.tdb_read.specs.declared.key.Key.{Key}
use Rattle.tdb_read.specs.declared.phase.PhaseText.{PhaseText}
use Rattle.tdb_read.specs.declared.parameter.ParamText.{ParamText}
use Rattle.tdb_read.specs.declared.type_definition.TypeText.{TypeText}
use Rattle.tdb_read.specs.declared.type_definition.TypeKind.{TypeKind}
use Rattle.tdb_read.specs.declared.type_definition.TypeKind.TheVariants.{Magnetic, Plain, Other}
use Rattle.tdb_read.specs.Database.{Database}

abbrev pub IsName : List ℕ → Type 0
IsName name = is_name name ≡ true

abbrev pub IsConstituent : List ℕ → Type 0
IsConstituent name = is_constituent name ≡ true

-- above 0, with an exponent from -200 to 200
pub record IsRatio (d : Dec) : Type 0 where
  pub above_zero : pos 0 <ℤ d.mantissa
  pub within : unsigned_abs d.exponent ≤ 200

-- one constituent or more, none twice
pub record AreConstituents (names : List (List ℕ)) : Type 0 where
  pub least : 0 < length names
  pub each : AllByRecursion IsConstituent names
  pub distinct : IsDistinct same_name names

-- 1 to 10 ratios, and no lists or as many as ratios
pub record IsPhaseText (p : PhaseText) : Type 0 where
  pub suffix : list_all is_letter p.suffix ≡ true
  pub least : 0 < length p.ratios
  pub most : length p.ratios ≤ 10
  pub ratios : AllByRecursion IsRatio p.ratios
  pub shape : (p.sites ≡ []) ⊎ (length p.sites ≡ length p.ratios)
  pub sites : AllByRecursion AreConstituents p.sites

-- a list that is empty is `*`
pub record IsEntry (key : Key) (text : ParamText) : Type 0 where
  pub kind : kind_of key.kind_name ≡ Some (text.kind, key.kind_name)
  pub phase : IsName key.phase
  pub least : 0 < length key.array
  pub array : AllByRecursion (AllByRecursion IsConstituent) key.array
  pub order : key.order ≤ 9
  pub ranged : IsRanged text.ranged

abbrev pub IsTypeKind : TypeKind → Type 0
IsTypeKind (Magnetic factor fraction) = (unsigned_abs factor.exponent ≤ 200) × (unsigned_abs fraction.exponent ≤ 200)
IsTypeKind Plain = Unit {0}
IsTypeKind Other = Unit {0}

pub record IsSound (d : Database) : Type 0 where
  pub elements : AllByRecursion (λ e. is_element_name e.0 ≡ true) d.elements
  pub functions : AllByRecursion (λ e. IsName e.0 × IsRanged e.1) d.functions
  pub phases : AllByRecursion (λ e. IsName e.0 × IsPhaseText e.1) d.phases
  pub parameters : AllByRecursion (λ e. IsEntry e.0 e.1) d.parameters
  pub types : AllByRecursion (λ t. IsTypeKind t.kind) d.types
