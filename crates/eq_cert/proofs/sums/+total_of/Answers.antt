use Rattle.std.proofs.Common.{◌≡◌, ◌∷◌, SFits, rules, arith, ap, length, refl, Some, slice_get, ◌<◌}
use Rattle.std.specs.Prelude.{◌*ℤ◌, ◌+ℤ◌}
use Rattle.std.specs.Int.{w128}
use Rattle.std.proofs.lemmas.Int.{ints, to_z-of_z}
use Rattle.std.proofs.lemmas.Option.{slice_get_read}
use Rattle.cef_core.specs.Constitutions.{content}
use Rattle.eq_cert.proofs.Entered.{first_within, total_step}
use Rattle.eq_cert.proofs.sums.+total_of.Goals as goal

pub returns-in-Some-clause-exact : goal.returns-in-Some-clause-exact
returns-in-Some-clause-exact t c =
    let entries : c.args.entries.now ≡ c.in-Some.entry.now ∷ c.in-Some.rest.now = search rules in
    let lt : c.in-Some.entry.now.phase < length c.args.phases.now = first_within c.args.phases.now c.args.entries.now c.in-Some.rest.now c.in-Some.entry.now entries c.requires.fine in
    let at : slice_get c.args.phases.now c.in-Some.entry.now.phase ≡ Some c.index-phases-entry.result = slice_get_read _ _ _ _ refl lt c.index-phases-entry.is in
    let fits_amount : SFits w128 c.in-Some.entry.now.amount = search rules in
    let fits_content : SFits w128 c.content_in-content.result = search rules in
    let fits_part : SFits w128 c.times-part.result = search rules in
    let fits_more : SFits w128 c.total_of-more.result = search rules in
    let fits_sum : SFits w128 (c.times-part.result +ℤ c.total_of-more.result) = omega (arith, ints, ap length entries) in
    let part : c.times-part.result ≡ c.in-Some.entry.now.amount *ℤ content c.index-phases-entry.result c.in-Some.entry.now.site c.args.component = rw (← c.content_in-content.ensures.exact) (simp to_z-of_z at c.times-part.ensures.exact) in
    λ s e. simp to_z-of_z (total_step _ s _ _ c.in-Some.entry.now _ c.args.component c.times-part.result c.total_of-more.result e entries at part (c.total_of-more.ensures.exact s e))
