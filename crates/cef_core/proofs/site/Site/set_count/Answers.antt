use Rattle.std.proofs.Common.{◌≡◌, length, arith, ap, ◌∙◌}
use Rattle.std.specs.Prelude.{slice_set}
use Rattle.std.proofs.lemmas.List.{length-set}
use Rattle.cef_core.proofs.Written.{are_written, within_counts}
use Rattle.cef_core.proofs.site.Site.set_count.Goals as goal

pub write_at-requires : goal.write_at-requires
write_at-requires c =
    let s = c.self.inside in
    omega (arith, c.requires, within_counts s.ends.items s.counts.items c.args.self.now c.self.invariant c.self.view_is, ap length c.as_mut_slice.ensures.value)

pub returns-clause-counts : goal.returns-clause-counts
returns-clause-counts c =
    let s = c.self.inside in
    let size = ap length c.write_at.ensures ∙ (length-set _ c.args.place c.args.count ∙ ap length c.as_mut_slice.ensures.value) in
    let written = c.write_at.ensures ∙ ap (λ xs. slice_set xs c.args.place c.args.count) c.as_mut_slice.ensures.value in
    (are_written _ s.ends.items s.counts.items _ _ c.args.self.now c.args.place c.args.count c.self.invariant c.self.view_is size written).counts_are

pub returns-clause-shaped : goal.returns-clause-shaped
returns-clause-shaped c =
    let s = c.self.inside in
    let size = ap length c.write_at.ensures ∙ (length-set _ c.args.place c.args.count ∙ ap length c.as_mut_slice.ensures.value) in
    let written = c.write_at.ensures ∙ ap (λ xs. slice_set xs c.args.place c.args.count) c.as_mut_slice.ensures.value in
    (are_written _ s.ends.items s.counts.items _ _ c.args.self.now c.args.place c.args.count c.self.invariant c.self.view_is size written).shaped
