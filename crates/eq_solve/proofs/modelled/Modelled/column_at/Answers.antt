use Rattle.std.proofs.Common.{◌≡◌, ℕ, ◌<◌, length, refl, sym, ap, ◌∙◌, subst, Some, slice_get, rules, SFits}
use Rattle.std.specs.Int.{w128}
use Rattle.std.proofs.lemmas.Int.{to_z-of_z}
use Rattle.std.proofs.lemmas.Option.{slice_get_read, slice_get_within}
use Rattle.cal_math.specs.Vectors.{at}
use Rattle.cef_core.specs.declared.phase.PhaseAt.{PhaseAt}
use Rattle.cef_core.specs.Constitutions.{HasShape, content}
use Rattle.cef_core.specs.Energies.{energy}
use Rattle.eq_solve.proofs.Columns.{model_read, column_is}
use Rattle.eq_solve.proofs.modelled.Modelled.column_at.Goals as goal

pub value-cost-requires : goal.value-cost-requires
value-cost-requires g c =
    let list = c.requires.list in
    subst (λ (p : PhaseAt). HasShape p.lattice p.sites c.args.site.now)
    (sym (model_read (g.P.PhaseModel.phase_of) c.args.self.now.models.now c.args.self.now.system.now.phases c.args.place c.index-self-place.result list.phase c.requires.models list.is_phase)) list.shape

pub returns : goal.returns
returns g c =
    let list = c.requires.list in
    let within = slice_get_within c.args.self.now.system.now.phases c.args.place list.phase list.is_phase in
    let phase : slice_get c.args.self.now.system.now.phases c.args.place ≡ Some c.index-as_slice-place.result = slice_get_read _ _ _ _ refl within (rw c.as_slice.ensures at c.index-as_slice-place.is) in
    let model = model_read (g.P.PhaseModel.phase_of) c.args.self.now.models.now c.args.self.now.system.now.phases c.args.place c.index-self-place.result c.index-as_slice-place.result c.requires.models phase in
    let cost : c.value-cost.result ≡ energy c.index-as_slice-place.result c.args.site.now = c.value-cost.ensures.exact ∙ ap (λ (p : PhaseAt). energy p c.args.site.now) model in
    let same : length c.in_ok-amounts.amounts.items ≡ c.len.result = c.in_ok-amounts.ensures.same in
    let are : (k : ℕ) → k < c.len.result → at c.in_ok-amounts.amounts.items k ≡ content c.index-as_slice-place.result c.args.site.now k = c.in_ok-amounts.ensures.are in
    let fits : SFits w128 c.value-cost.result = search rules in
    simp to_z-of_z (column_is c.args.self.now.system.now c.args.place c.len.result c.index-as_slice-place.result c.args.site.now (record { cost = c.value-cost.result; amounts = c.in_ok-amounts.amounts }) phase c.len.ensures same are cost)
