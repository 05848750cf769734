use Rattle.std.proofs.Common.{◌≡◌, ◌∷◌, SFits, rules, arith, ap, length}
use Rattle.std.specs.Prelude.{◌*ℤ◌, ◌+ℤ◌}
use Rattle.std.specs.Int.{w128}
use Rattle.std.proofs.lemmas.Int.{ints, to_z-of_z}
use Rattle.cef_core.specs.Energies.{energy}
use Rattle.eq_cert.proofs.Entered.{first_model, phase_at, energy_step}
use Rattle.eq_cert.proofs.sums.+energy_of.Goals as goal

pub returns-in-Some-clause-exact : goal.returns-in-Some-clause-exact
returns-in-Some-clause-exact g t c =
    let entries : c.args.entries.now ≡ c.in-Some.entry.now ∷ c.in-Some.rest.now = search rules in
    let lt = first_model g.P.PhaseModel.phase_of c.args.models.now c.args.entries.now c.in-Some.rest.now c.in-Some.entry.now entries c.requires.fine in
    let at = phase_at g.P.PhaseModel.phase_of c.args.models.now c.in-Some.entry.now.phase c.index-models-entry.result lt c.index-models-entry.is in
    let fits_amount : SFits w128 c.in-Some.entry.now.amount = search rules in
    let fits_energy : SFits w128 c.energy_in-energy.result = search rules in
    let fits_part : SFits w128 c.times-part.result = search rules in
    let fits_more : SFits w128 c.energy_of-more.result = search rules in
    let fits_sum : SFits w128 (c.times-part.result +ℤ c.energy_of-more.result) = omega (arith, ints, ap length entries) in
    let part : c.times-part.result ≡ c.in-Some.entry.now.amount *ℤ energy (g.P.PhaseModel.phase_of c.index-models-entry.result) c.in-Some.entry.now.site = rw (← c.energy_in-energy.ensures.exact) (simp to_z-of_z at c.times-part.ensures.exact) in
    λ s e. simp to_z-of_z (energy_step _ s _ _ c.in-Some.entry.now _ c.times-part.result c.energy_of-more.result e entries at part (c.energy_of-more.ensures.exact s e))
