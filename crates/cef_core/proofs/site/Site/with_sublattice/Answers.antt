use Rattle.std.proofs.Common.{◌≡◌, ◌≤◌, ◌+◌, ◌++◌, ◌∷◌, [], length, arith, ap, ◌∙◌}
use Rattle.std.specs.List.{concat}
use Rattle.std.proofs.lemmas.List.{length-append}
use Rattle.cef_core.specs.Sublattices.{parts_of}
use Rattle.cef_core.proofs.Parts.{are_ends-append, parts_of-append, concat-parts_of}
use Rattle.cef_core.proofs.site.Site.with_sublattice.Goals as goal

pub overflow_cast-len : goal.overflow_cast-len
overflow_cast-len c =
    let inside = c.self.inside in
    let same : parts_of 0 inside.ends.items inside.counts.items ≡ c.args.self = c.self.view_is in
    let all : length (concat (parts_of 0 inside.ends.items inside.counts.items)) ≡ length inside.counts.items = concat-parts_of 0 inside.ends.items inside.counts.items (length inside.counts.items) (omega arith) c.self.invariant in
    omega (arith, all, ap (λ s. length (concat s)) same, c.len.ensures.value, ap length c.in_ok-extend_from_slice.ensures.ok, length-append inside.counts.items c.args.counts.now)

pub invariant_of-result : goal.invariant_of-result
invariant_of-result c =
    let inside = c.self.inside in
    let longer : length inside.counts.items ≤ c.len.result = omega (arith, c.len.ensures.value, ap length c.in_ok-extend_from_slice.ensures.ok, length-append inside.counts.items c.args.counts.now) in
    rw (c.in_ok-push.ensures.ok, ← c.len.ensures.value) (are_ends-append 0 inside.ends.items (length inside.counts.items) c.len.result c.self.invariant longer)

pub returns : goal.returns
returns c =
    let inside = c.self.inside in
    let size : c.len.result ≡ length inside.counts.items + length c.args.counts.now = omega (arith, c.len.ensures.value, ap length c.in_ok-extend_from_slice.ensures.ok, length-append inside.counts.items c.args.counts.now) in
    let parts = parts_of-append 0 inside.ends.items inside.counts.items c.args.counts.now (length inside.counts.items) c.len.result (omega arith) size c.self.invariant in
    rw (c.in_ok-push.ensures.ok, c.in_ok-extend_from_slice.ensures.ok) (parts ∙ ap (λ s. s ++ c.args.counts.now ∷ []) c.self.view_is)
