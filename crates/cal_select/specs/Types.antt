-- The type definitions that apply to a phase, and its magnetism.
use Rattle.std.specs.Prelude.{ℕ, List, [], ◌∷◌, filter, map, codes, Bool, true, false, not, ◌&&◌, ◌||◌, Option, Some, None, is_some, ◌==◌, cond}
use Rattle.std.specs.List.{list_any}
use Rattle.std.specs.Option.{option_or}
use Rattle.cal_scan.specs.Names.{same_name}
use Rattle.cef_core.specs.declared.phase.MagneticAt.{MagneticAt}
use Rattle.tdb_read.specs.declared.type_definition.TypeText.{TypeText}
use Rattle.tdb_read.specs.declared.type_definition.TypeKind.{TypeKind}
use Rattle.tdb_read.specs.declared.type_definition.TypeKind.TheVariants.{Magnetic, Plain, Other}
use Rattle.cal_select.specs.Chosen.{Word, PhaseEntry}
use Rattle.cal_select.specs.Wholes.{factor_of, ten_thousandths_of}

abbrev pub names_phase : Word → Word → Bool
names_phase named name = same_name named (codes "@") || same_name named name

-- the phase's codes have its code, and it names the phase
abbrev pub applies : PhaseEntry → TypeText → Bool
applies e text = list_any (λ code. code == text.code) e.1.codes && names_phase text.phase e.0

abbrev pub applying : List TypeText → PhaseEntry → List TypeText
applying texts e = filter (applies e) texts

abbrev pub magnetism : Option ℕ → Option ℕ → Option MagneticAt
magnetism (Some factor) (Some p4) = Some (record { factor = factor; p4 = p4 })
magnetism None p4 = None
magnetism (Some factor) None = None

-- the magnetism that a type definition gives
abbrev pub magnetism_of : TypeKind → Option MagneticAt
magnetism_of (Magnetic factor fraction) = magnetism (factor_of factor) (ten_thousandths_of fraction)
magnetism_of Plain = None
magnetism_of Other = None

-- it has no meaning here, or a magnetism that is out of its range
abbrev pub is_left_out : TypeKind → Bool
is_left_out (Magnetic factor fraction) = not (is_some (magnetism (factor_of factor) (ten_thousandths_of fraction)))
is_left_out Plain = false
is_left_out Other = true

-- the last one that there is
abbrev pub last_of : List (Option MagneticAt) → Option MagneticAt
last_of [] = None
last_of (m ∷ ms) = option_or (last_of ms) m

-- the magnetism of a phase: that of the last definition that applies
abbrev pub magnetic_of : List TypeText → PhaseEntry → Option MagneticAt
magnetic_of texts e = last_of (map (λ text. magnetism_of text.kind) (applying texts e))

-- ---- workings

-- the magnetism of a definition where it applies and gives one, and else the one before
abbrev pub later : Option MagneticAt → PhaseEntry → TypeText → Option MagneticAt
later before e text = cond (applies e text) (option_or (magnetism_of text.kind) before) before
