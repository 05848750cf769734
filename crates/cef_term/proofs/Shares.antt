-- What is kept of a parameter and its divisor.
use Rattle.std.proofs.Common.{◌≡◌, ℕ, ◌-◌, ◌*◌, ◌^◌, ◌≤◌, List, arith, refl, subst}
use Rattle.std.specs.Prelude.{ℤ, pos, ◌*ℤ◌, unsigned_abs}
use Rattle.std.specs.Int.{int_div_euclid}
use Rattle.std.proofs.lemmas.Int.{ints, to_z-of_z, unsigned_abs-mul}
use Rattle.cal_math.specs.Whole.{abs-*ℤ-le}
use Rattle.cef_term.specs.declared.narrow.NarrowShare.{NarrowShare}
use Rattle.cef_term.specs.declared.wide.WideShare.{WideShare}
use Rattle.cef_term.specs.declared.share.Share.{Share}
use Rattle.cef_term.specs.declared.share.Share.TheVariants.{Narrow, Wide}
use Rattle.cef_term.specs.Bounds.{value_of}
use Rattle.cef_term.specs.Kept.{IsShare, IsWide, HasProduct, micro_of, den}
use Rattle.cef_term.proofs.Values.{value_size}

pub wide_keeps : (share : Share) (kept : WideShare) → share ≡ Wide kept → IsShare share → IsWide kept
wide_keeps share kept e keeps = let is = subst IsShare e keeps in record { den_low = is.den_low; den_high = is.den_high; size = is.size }

pub wide_room : (micro : ℤ) (product den : ℕ) (factor : ℤ) → unsigned_abs micro ≤ 2 ^ 55 → den ≤ 3 * 2 ^ 70 → product * unsigned_abs factor ≤ den → unsigned_abs (micro *ℤ (pos product *ℤ factor)) ≤ 2 ^ 127 - 1
wide_room micro product den factor h k l =
    let q : unsigned_abs (pos product *ℤ factor) ≤ 3 * 2 ^ 70 = rw (unsigned_abs-mul (pos product) factor) (omega (arith, k, l)) in
    omega (arith, abs-*ℤ-le micro (pos product *ℤ factor) (2 ^ 55) (3 * 2 ^ 70) h q)

product_within : (most bound : ℕ) (counts places : List ℕ) → most ≤ bound → HasProduct most counts places → HasProduct bound counts places
product_within most bound counts places h has = record { n = has.n; some = has.some; small = has.small; inside = has.inside; room = omega (arith, h, has.room) }

pub narrow_product : (share : Share) (kept : NarrowShare) (counts places : List ℕ) → share ≡ Narrow kept → IsShare share → HasProduct (den share) counts places → HasProduct (2 ^ 31) counts places
narrow_product share kept counts places e keeps has = product_within (den share) (2 ^ 31) counts places (rw e (keeps.narrow kept e).den_high) has

pub narrow_quotient : (share : Share) (kept : NarrowShare) (q : ℤ) → share ≡ Narrow kept → int_div_euclid (kept.micro *ℤ q) (pos kept.den) ≡ value_of (micro_of share) (den share) q
unfolding value_of
narrow_quotient share kept q e = rw e refl

pub wide_quotient : (share : Share) (kept : WideShare) (q : ℤ) → share ≡ Wide kept → int_div_euclid (kept.micro *ℤ q) (pos kept.den) ≡ value_of (micro_of share) (den share) q
unfolding value_of
wide_quotient share kept q e = rw e refl

pub value_of-size : (share : Share) (product : ℕ) (factor : ℤ) → IsShare share → product * unsigned_abs factor ≤ den share → unsigned_abs (value_of (micro_of share) (den share) (pos product *ℤ factor)) ≤ unsigned_abs (micro_of share)
value_of-size share product factor keeps h = value_size (micro_of share) (pos product *ℤ factor) (den share) (omega (arith, keeps.den_low)) (rw (unsigned_abs-mul (pos product) factor) h)

pub ruleset wide_value_rules = (wide_room, to_z-of_z)

pub ruleset signed_rules = (to_z-of_z)
