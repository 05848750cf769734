use Rattle.std.proofs.Common.{rules, ◌≡◌, ◌*◌, ◌^◌, SFits, Some, slice_get, length, refl}
use Rattle.std.specs.List.{concat}
use Rattle.std.specs.Int.{w128}
use Rattle.std.proofs.lemmas.Int.{to_z-of_z}
use Rattle.cef_core.specs.Shapes.{shape}
use Rattle.cef_term.specs.Kept.{factor_most, micro_of, den}
use Rattle.cef_term.proofs.Laws.{places_of, form_in}
use Rattle.cef_term.proofs.Rooms.{divisor-low}
use Rattle.cef_term.proofs.Given.{got, micro_small, given, divisor_high, kept}
use Rattle.cef_term.proofs.param_term.ParamTerm.new.Goals as goal

pub divisor_of-divisor-requires-clause-room : goal.divisor_of-divisor-requires-clause-room
divisor_of-divisor-requires-clause-room c =
    let here : slice_get c.args.phase.now.parameters c.args.index ≡ Some c.index-as_slice-index.result = got c.args.phase.now.parameters c.args.index c.index-as_slice-index.result c.requires.index (rw c.as_slice.ensures at c.index-as_slice-index.is) in
    let spots : c.in_ok-placed.placed.places.items ≡ concat (places_of (shape c.args.phase.now.sites) c.index-as_slice-index.result) = rw (c.as_slice-2.ensures, c.as_slice-3.ensures) at c.in_ok-placed.ensures.places in
    let form : c.form_of-form.result ≡ form_in c.args.phase.now.lattice (shape c.args.phase.now.sites) c.index-as_slice-index.result = rw (c.as_slice-4.ensures, c.in_ok-placed.ensures.mixed, c.as_slice-2.ensures, c.as_slice-3.ensures) at c.form_of-form.ensures in
    rw (c.len.ensures.value, spots, form) (divisor_high c.args.phase.now c.args.index c.index-as_slice-index.result c.requires.fine here)

pub share_of-share-requires-clause-micro : goal.share_of-share-requires-clause-micro
share_of-share-requires-clause-micro c =
    let here : slice_get c.args.phase.now.parameters c.args.index ≡ Some c.index-as_slice-index.result = got c.args.phase.now.parameters c.args.index c.index-as_slice-index.result c.requires.index (rw c.as_slice.ensures at c.index-as_slice-index.is) in
    let fits : SFits w128 c.index-as_slice-index.result.micro = search rules in
    simp to_z-of_z (micro_small c.args.phase.now c.args.index c.index-as_slice-index.result c.requires.fine here)

pub share_of-share-requires-clause-low : goal.share_of-share-requires-clause-low
share_of-share-requires-clause-low c =
    let here : slice_get c.args.phase.now.parameters c.args.index ≡ Some c.index-as_slice-index.result = got c.args.phase.now.parameters c.args.index c.index-as_slice-index.result c.requires.index (rw c.as_slice.ensures at c.index-as_slice-index.is) in
    let spots : c.in_ok-placed.placed.places.items ≡ concat (places_of (shape c.args.phase.now.sites) c.index-as_slice-index.result) = rw (c.as_slice-2.ensures, c.as_slice-3.ensures) at c.in_ok-placed.ensures.places in
    let form : c.form_of-form.result ≡ form_in c.args.phase.now.lattice (shape c.args.phase.now.sites) c.index-as_slice-index.result = rw (c.as_slice-4.ensures, c.in_ok-placed.ensures.mixed, c.as_slice-2.ensures, c.as_slice-3.ensures) at c.form_of-form.ensures in
    rw c.divisor_of-divisor.ensures (divisor-low c.args.phase.now.lattice c.len.result c.form_of-form.result (given c.args.phase.now c.args.index c.index-as_slice-index.result c.requires.fine here).some)

pub share_of-share-requires-clause-high : goal.share_of-share-requires-clause-high
share_of-share-requires-clause-high c =
    let here : slice_get c.args.phase.now.parameters c.args.index ≡ Some c.index-as_slice-index.result = got c.args.phase.now.parameters c.args.index c.index-as_slice-index.result c.requires.index (rw c.as_slice.ensures at c.index-as_slice-index.is) in
    let spots : c.in_ok-placed.placed.places.items ≡ concat (places_of (shape c.args.phase.now.sites) c.index-as_slice-index.result) = rw (c.as_slice-2.ensures, c.as_slice-3.ensures) at c.in_ok-placed.ensures.places in
    let form : c.form_of-form.result ≡ form_in c.args.phase.now.lattice (shape c.args.phase.now.sites) c.index-as_slice-index.result = rw (c.as_slice-4.ensures, c.in_ok-placed.ensures.mixed, c.as_slice-2.ensures, c.as_slice-3.ensures) at c.form_of-form.ensures in
    rw (c.divisor_of-divisor.ensures, c.len.ensures.value, spots, form) (divisor_high c.args.phase.now c.args.index c.index-as_slice-index.result c.requires.fine here)

pub invariant_of-result : goal.invariant_of-result
invariant_of-result c =
    let here : slice_get c.args.phase.now.parameters c.args.index ≡ Some c.index-as_slice-index.result = got c.args.phase.now.parameters c.args.index c.index-as_slice-index.result c.requires.index (rw c.as_slice.ensures at c.index-as_slice-index.is) in
    let spots : c.in_ok-placed.placed.places.items ≡ concat (places_of (shape c.args.phase.now.sites) c.index-as_slice-index.result) = rw (c.as_slice-2.ensures, c.as_slice-3.ensures) at c.in_ok-placed.ensures.places in
    let form : c.form_of-form.result ≡ form_in c.args.phase.now.lattice (shape c.args.phase.now.sites) c.index-as_slice-index.result = rw (c.as_slice-4.ensures, c.in_ok-placed.ensures.mixed, c.as_slice-2.ensures, c.as_slice-3.ensures) at c.form_of-form.ensures in
    let fits : SFits w128 c.index-as_slice-index.result.micro = search rules in
    let micro : micro_of c.share_of-share.result ≡ c.index-as_slice-index.result.micro = simp to_z-of_z at c.share_of-share.ensures.micro in
    let divisor : den c.share_of-share.result ≡ c.args.phase.now.lattice ^ length c.in_ok-placed.placed.places.items * factor_most c.args.phase.now.lattice c.form_of-form.result = rw (c.divisor_of-divisor.ensures, c.len.ensures.value) at c.share_of-share.ensures.divisor in
    record { valid = kept c.args.phase.now c.args.index c.index-as_slice-index.result c.in_ok-placed.placed.places.items c.form_of-form.result c.share_of-share.result c.requires.fine here spots form c.share_of-share.ensures.keeps micro divisor }

pub returns : goal.returns
returns c =
    let here : slice_get c.args.phase.now.parameters c.args.index ≡ Some c.index-as_slice-index.result = got c.args.phase.now.parameters c.args.index c.index-as_slice-index.result c.requires.index (rw c.as_slice.ensures at c.index-as_slice-index.is) in
    (refl, here)
