-- The magnetism of a selected phase is in its range.
use Rattle.std.proofs.Common.{◌≡◌, ℕ, ◌≤◌, List, [], ◌∷◌, map, Bool, true, false, cond, Option, Some, None, refl, arith}
use Rattle.std.specs.Prelude.{nat_le, ◌&&◌}
use Rattle.std.specs.Option.{option_or}
use Rattle.std.proofs.lemmas.Bool.Decides.{nat_tests}
use Rattle.cal_dec.specs.declared.dec.Dec.{Dec}
use Rattle.cef_core.specs.declared.phase.MagneticAt.{MagneticAt}
use Rattle.cef_core.specs.Phases.{IsMagnetic}
use Rattle.tdb_read.specs.declared.type_definition.TypeText.{TypeText}
use Rattle.tdb_read.specs.declared.type_definition.TypeKind.{TypeKind}
use Rattle.tdb_read.specs.declared.type_definition.TypeKind.TheVariants.{Magnetic, Plain, Other}
use Rattle.cal_select.specs.Chosen.{PhaseEntry}
use Rattle.cal_select.specs.Wholes.{between, scaled, is_negative, factor_of, ten_thousandths_of}
use Rattle.cal_select.specs.Types.{applying, magnetism, magnetism_of, last_of, magnetic_of}

-- nothing, or a number within the bounds
abbrev pub IsWithin : ℕ → ℕ → Option ℕ → Type 0
IsWithin least most None = Unit {0}
IsWithin least most (Some n) = (least ≤ n) × (n ≤ most)

between_within : (least most : ℕ) (o : Option ℕ) → IsWithin least most (between least most o)
between_within least most None = tt
between_within least most (Some n) = by_test (nat_le least n) (nat_le n most) refl refl
  where
    by_test : (a b : Bool) → nat_le least n ≡ a → nat_le n most ≡ b → IsWithin least most (cond (a && b) (Some n) None)
    by_test true true low high = (grind (arith, nat_tests), grind (arith, nat_tests))
    by_test true false low high = tt
    by_test false b low high = tt

factor_within : (x : Dec) → IsWithin 1 9 (factor_of x)
unfolding factor_of
factor_within x = by_test (is_negative x) (between_within 1 9 (scaled 0 x))
  where
    by_test : (b : Bool) → IsWithin 1 9 (between 1 9 (scaled 0 x)) → IsWithin 1 9 (cond b (between 1 9 (scaled 0 x)) None)
    by_test true within = within
    by_test false within = tt

fraction_within : (x : Dec) → IsWithin 1000 10000 (ten_thousandths_of x)
unfolding ten_thousandths_of
fraction_within x = by_test (is_negative x) (between_within 1000 10000 (scaled 4 x))
  where
    by_test : (b : Bool) → IsWithin 1000 10000 (between 1000 10000 (scaled 4 x)) → IsWithin 1000 10000 (cond b None (between 1000 10000 (scaled 4 x)))
    by_test true within = tt
    by_test false within = within

both_within : (factor p4 : Option ℕ) → IsWithin 1 9 factor → IsWithin 1000 10000 p4 → IsMagnetic (magnetism factor p4)
both_within None p4 f p = tt
both_within (Some n) None f p = tt
both_within (Some n) (Some m) f p = (f.0, f.1, p.0, p.1)

one_magnetic : (kind : TypeKind) → IsMagnetic (magnetism_of kind)
one_magnetic (Magnetic factor fraction) = both_within (factor_of factor) (ten_thousandths_of fraction) (factor_within factor) (fraction_within fraction)
one_magnetic Plain = tt
one_magnetic Other = tt

either_magnetic : (a b : Option MagneticAt) → IsMagnetic a → IsMagnetic b → IsMagnetic (option_or a b)
either_magnetic None b ma mb = mb
either_magnetic (Some m) b ma mb = ma

last_magnetic : (texts : List TypeText) → IsMagnetic (last_of (map (λ text. magnetism_of text.kind) texts))
last_magnetic [] = tt
last_magnetic (text ∷ texts) = either_magnetic (last_of (map (λ text. magnetism_of text.kind) texts)) (magnetism_of text.kind) (last_magnetic texts) (one_magnetic text.kind)

pub magnetic_ranged : (texts : List TypeText) (e : PhaseEntry) → IsMagnetic (magnetic_of texts e)
magnetic_ranged texts e = last_magnetic (applying texts e)
