use Rattle.std.proofs.Common.{rules, arith, ◌≡◌, ◌+◌, ◌*◌, ◌^◌, ◌<◌, ◌≤◌, ◌+ℤ◌, length, pos, slice_index_or, take, to_z, of_z, ap, sym, refl, ◌∙◌}
use Rattle.std.specs.Int.{w128}
use Rattle.std.proofs.lemmas.Int.{to_z-of_z, fits_signed_from_abs}
use Rattle.cef_core.specs.declared.phase.ParamAt.{ParamAt}
use Rattle.cef_core.specs.declared.phase.PhaseAt.{PhaseAt}
use Rattle.cef_minor.specs.declared.frame.Frame.{Frame}
use Rattle.cef_minor.specs.Forms.{plane_at}
use Rattle.cef_minor.specs.Kept.{factor_most, plane_in}
use Rattle.cef_minor.specs.Planes.{Plane}
use Rattle.cef_term.proofs.Given.{lattice_some}
use Rattle.cef_minor.proofs.Given.{Holds, all_of, form_at, array_by, plane_by, few_sites, counts_room, divisor_room, power_small}
use Rattle.cef_minor.proofs.parameter_plane.raise_parameter.Goals as goal

pub place_array-count-requires-clause-room : goal.place_array-count-requires-clause-room
place_array-count-requires-clause-room c =
    let few = few_sites c.args.phase.now c.args.parameter.now c.args.range.now c.requires.has c.requires.has.degree in
    rw (c.as_slice.ensures, c.as_slice-2.ensures) (omega (arith, few))

pub divisor_of-requires-clause-power : goal.divisor_of-requires-clause-power
divisor_of-requires-clause-power c =
    let p : ParamAt = c.args.parameter.now in
    let phase : PhaseAt = c.args.phase.now in
    let count_is : c.place_array-count.result ≡ length (all_of phase p) = rw (c.as_slice.ensures, c.as_slice-2.ensures) at c.place_array-count.ensures.count in
    rw count_is (counts_room phase.lattice (length (all_of phase p)) (form_at phase p) (lattice_some phase.lattice c.requires.has.fine.keeps.lattice) (power_small phase p c.args.range.now c.requires.has c.requires.has.degree))

pub divisor_of-requires-clause-room : goal.divisor_of-requires-clause-room
divisor_of-requires-clause-room c =
    let p : ParamAt = c.args.parameter.now in
    let phase : PhaseAt = c.args.phase.now in
    let count_is : c.place_array-count.result ≡ length (all_of phase p) = rw (c.as_slice.ensures, c.as_slice-2.ensures) at c.place_array-count.ensures.count in
    let form_is : c.form_of-form.result ≡ form_at phase p = rw (c.as_slice-3.ensures, c.as_slice-4.ensures) at c.form_of-form.ensures in
    rw (count_is, form_is) (divisor_room phase.lattice (length (all_of phase p)) (form_at phase p) (power_small phase p c.args.range.now c.requires.has c.requires.has.degree))

pub raise_plane-requires-clause-count : goal.raise_plane-requires-clause-count
raise_plane-requires-clause-count c =
    let p : ParamAt = c.args.parameter.now in
    let phase : PhaseAt = c.args.phase.now in
    let count_is : c.place_array-count.result ≡ length (all_of phase p) = rw (c.as_slice.ensures, c.as_slice-2.ensures) at c.place_array-count.ensures.count in
    omega (arith, count_is, few_sites phase p c.args.range.now c.requires.has c.requires.has.degree, c.place_array-count.auto.out)

pub raise_plane-requires-clause-array : goal.raise_plane-requires-clause-array
raise_plane-requires-clause-array c =
    let p : ParamAt = c.args.parameter.now in
    let phase : PhaseAt = c.args.phase.now in
    let all_is : take c.place_array-count.result c.place_array-count.new.out ≡ all_of phase p = rw (c.as_slice.ensures, c.as_slice-2.ensures) at c.place_array-count.ensures.sites in
    let count_is : c.place_array-count.result ≡ length (all_of phase p) = rw (c.as_slice.ensures, c.as_slice-2.ensures) at c.place_array-count.ensures.count in
    let form_is : c.form_of-form.result ≡ form_at phase p = rw (c.as_slice-3.ensures, c.as_slice-4.ensures) at c.form_of-form.ensures in
    let frame : Frame = record { parts = phase.lattice; micro = to_z w128 (of_z w128 p.micro); den = c.divisor_of.result; low = c.lows.result; high = c.highs.result } in
    let micro_is : to_z w128 (of_z w128 p.micro) ≡ p.micro = to_z-of_z w128 p.micro (fits_signed_from_abs w128 p.micro (omega (arith, c.requires.micro))) in
    let den_is : c.divisor_of.result ≡ phase.lattice ^ length (all_of phase p) * factor_most phase.lattice (form_at phase p) = rw (count_is, form_is) at c.divisor_of.ensures in
    let holds : Holds phase p c.args.range.now frame = record { parts = refl; micro = micro_is; den = den_is; low = c.lows.ensures; high = c.highs.ensures } in
    array_by phase p c.args.range.now frame (length c.args.slopes.now) c.form_of-form.result (take c.place_array-count.result c.place_array-count.new.out) c.requires.has c.requires.has.degree c.requires.micro holds c.requires.sites form_is all_is

pub returns-clause-constant : goal.returns-clause-constant
returns-clause-constant c =
    let p : ParamAt = c.args.parameter.now in
    let phase : PhaseAt = c.args.phase.now in
    let all_is : take c.place_array-count.result c.place_array-count.new.out ≡ all_of phase p = rw (c.as_slice.ensures, c.as_slice-2.ensures) at c.place_array-count.ensures.sites in
    let count_is : c.place_array-count.result ≡ length (all_of phase p) = rw (c.as_slice.ensures, c.as_slice-2.ensures) at c.place_array-count.ensures.count in
    let form_is : c.form_of-form.result ≡ form_at phase p = rw (c.as_slice-3.ensures, c.as_slice-4.ensures) at c.form_of-form.ensures in
    let frame : Frame = record { parts = phase.lattice; micro = to_z w128 (of_z w128 p.micro); den = c.divisor_of.result; low = c.lows.result; high = c.highs.result } in
    let micro_is : to_z w128 (of_z w128 p.micro) ≡ p.micro = to_z-of_z w128 p.micro (fits_signed_from_abs w128 p.micro (omega (arith, c.requires.micro))) in
    let den_is : c.divisor_of.result ≡ phase.lattice ^ length (all_of phase p) * factor_most phase.lattice (form_at phase p) = rw (count_is, form_is) at c.divisor_of.ensures in
    let holds : Holds phase p c.args.range.now frame = record { parts = refl; micro = micro_is; den = den_is; low = c.lows.ensures; high = c.highs.ensures } in
    let plane : plane_in (length c.args.slopes.now) frame c.form_of-form.result (take c.place_array-count.result c.place_array-count.new.out) ≡ plane_at phase p c.args.range.now = plane_by phase p c.args.range.now frame (length c.args.slopes.now) c.form_of-form.result (take c.place_array-count.result c.place_array-count.new.out) c.requires.has holds c.requires.sites form_is all_is in
    let out_is : to_z w128 (of_z w128 c.raise_plane.result) ≡ c.raise_plane.result = search rules in
    out_is ∙ c.raise_plane.ensures.constant ∙ ap (λ (q : Plane). q.constant) plane

pub returns-clause-slopes : goal.returns-clause-slopes
returns-clause-slopes c =
    let p : ParamAt = c.args.parameter.now in
    let phase : PhaseAt = c.args.phase.now in
    let all_is : take c.place_array-count.result c.place_array-count.new.out ≡ all_of phase p = rw (c.as_slice.ensures, c.as_slice-2.ensures) at c.place_array-count.ensures.sites in
    let count_is : c.place_array-count.result ≡ length (all_of phase p) = rw (c.as_slice.ensures, c.as_slice-2.ensures) at c.place_array-count.ensures.count in
    let form_is : c.form_of-form.result ≡ form_at phase p = rw (c.as_slice-3.ensures, c.as_slice-4.ensures) at c.form_of-form.ensures in
    let frame : Frame = record { parts = phase.lattice; micro = to_z w128 (of_z w128 p.micro); den = c.divisor_of.result; low = c.lows.result; high = c.highs.result } in
    let micro_is : to_z w128 (of_z w128 p.micro) ≡ p.micro = to_z-of_z w128 p.micro (fits_signed_from_abs w128 p.micro (omega (arith, c.requires.micro))) in
    let den_is : c.divisor_of.result ≡ phase.lattice ^ length (all_of phase p) * factor_most phase.lattice (form_at phase p) = rw (count_is, form_is) at c.divisor_of.ensures in
    let holds : Holds phase p c.args.range.now frame = record { parts = refl; micro = micro_is; den = den_is; low = c.lows.ensures; high = c.highs.ensures } in
    let plane : plane_in (length c.args.slopes.now) frame c.form_of-form.result (take c.place_array-count.result c.place_array-count.new.out) ≡ plane_at phase p c.args.range.now = plane_by phase p c.args.range.now frame (length c.args.slopes.now) c.form_of-form.result (take c.place_array-count.result c.place_array-count.new.out) c.requires.has holds c.requires.sites form_is all_is in
    λ i. c.raise_plane.ensures.slopes i ∙ ap (λ (q : Plane). slice_index_or c.args.slopes.now i (pos 0) +ℤ q.slope i) plane
