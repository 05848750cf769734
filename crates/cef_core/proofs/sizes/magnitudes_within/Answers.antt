use Rattle.std.proofs.Common.{◌≡◌, ◌+◌, ◌∙◌, arith, refl, length, ap, Some, None}
use Rattle.std.proofs.lemmas.Option.{slice_get_read}
use Rattle.cef_core.specs.Capped.{within}
use Rattle.cef_core.specs.Phases.{of_kind}
use Rattle.cef_core.proofs.Adding.{adding-on, adding-none, adding-all, magnitude_of, magnitudes-total}
use Rattle.cef_core.proofs.sizes.magnitudes_within.Goals as goal

pub parameters-preserved : goal.parameters-preserved
parameters-preserved c =
    let xs = c.args.parameters.now in
    let x = c.parameter-item.result in
    let next : Some c.in_ok-sum.sum ≡ within c.args.limit (c.parameters.sum + magnitude_of (of_kind c.args.kind) x) = rw c.magnitude.ensures.value at c.in_ok-sum.ensures in
    let on = adding-on (magnitude_of (of_kind c.args.kind)) xs c.args.limit c.parameters.parameter-index c.parameters.sum c.in_ok-sum.sum x
    (slice_get_read xs (length xs) c.parameters.parameter-index x refl (omega arith) c.parameter-item.is) c.parameters.invariant.counted next in
    record { counted = on.0; small = on.1 }

pub returns-in_err-sum : goal.returns-in_err-sum
returns-in_err-sum c =
    let xs = c.args.parameters.now in
    let x = c.parameter-item.result in
    let none : None ≡ within c.args.limit (c.parameters.sum + magnitude_of (of_kind c.args.kind) x) = rw c.magnitude.ensures.value at c.in_err-sum.ensures in
    c.from_residual.ensures ∙ adding-none (magnitude_of (of_kind c.args.kind)) xs c.args.limit c.parameters.parameter-index c.parameters.sum x
    (slice_get_read xs (length xs) c.parameters.parameter-index x refl (omega arith) c.parameter-item.is) c.parameters.invariant.counted none
    ∙ ap (within c.args.limit) (magnitudes-total (of_kind c.args.kind) xs)

pub returns : goal.returns
returns c =
    let xs = c.args.parameters.now in
    adding-all (magnitude_of (of_kind c.args.kind)) xs c.args.limit c.parameters.parameter-index c.parameters.sum (omega arith) c.parameters.invariant.counted c.parameters.invariant.small
    ∙ ap (within c.args.limit) (magnitudes-total (of_kind c.args.kind) xs)
