use Rattle.std.proofs.Common.{◌≡◌, ◌<◌, length, arith, ◌∙◌}
use Rattle.std.specs.Prelude.{slice_index_or, []}
use Rattle.eq_cert.proofs.Blanks.{blank_room, blank_more}
use Rattle.eq_cert.proofs.blank.blank_site.Goals as goal

pub with_sublattice-requires : goal.with_sublattice-requires
with_sublattice-requires c =
    let within : c.sublattices.sublattice < length c.args.phase.now.sites = omega (arith, c.sublattices-test.true, c.sublattices-sublattice-end.ensures) in
    let zeros : length c.as_slice.result.now ≡ length (slice_index_or c.args.phase.now.sites c.sublattices.sublattice []) = c.as_slice.ensures.len ∙ c.in_ok-zeros.ensures.len ∙ c.sites_in.ensures in
    blank_room c.args.phase.now.sites c.sublattices.sublattice c.sublattices.site c.as_slice.result.now c.requires within zeros c.sublattices.invariant

pub sublattices-preserved : goal.sublattices-preserved
sublattices-preserved c =
    let within : c.sublattices.sublattice < length c.args.phase.now.sites = omega (arith, c.sublattices-test.true, c.sublattices-sublattice-end.ensures) in
    let zeros : length c.as_slice.result.now ≡ length (slice_index_or c.args.phase.now.sites c.sublattices.sublattice []) = c.as_slice.ensures.len ∙ c.in_ok-zeros.ensures.len ∙ c.sites_in.ensures in
    blank_more c.args.phase.now.sites c.sublattices.sublattice c.sublattices.site c.in_ok-site.site c.as_slice.result.now within zeros c.in_ok-site.ensures c.sublattices.invariant
