use Rattle.std.proofs.Common.{rules, ◌≡◌, subst, List, ℕ}
use Rattle.std.specs.Prelude.{pos, ◌<ℤ◌}
use Rattle.cef_core.specs.declared.phase.PhaseAt.{PhaseAt}
use Rattle.cef_box.specs.Corners.{corner_site}
use Rattle.eq_sweep.specs.Visits.{IsVoid, IsLow, IsUnclear, IsOpen}
use Rattle.eq_sweep.proofs.Found.{low_from, unclear_from, open_from, open_has_several}
use Rattle.eq_sweep.proofs.examining.examine.Goals as goal

pub middle_cut-requires-clause-several : goal.middle_cut-requires-clause-several
middle_cut-requires-clause-several g c =
    let phase = g.P.PhaseModel.phase_of c.args.model.now in
    let not_void = subst (λ (p : PhaseAt). IsVoid p c.args.range.now → ⊥) c.phase-phase.ensures c.if-is_void.ensures.no in
    let corner = subst (λ (p : PhaseAt). c.corner_point.new.out ≡ corner_site p.lattice c.args.range.now) c.phase-phase.ensures c.corner_point.ensures.exact in
    let negative : c.choose.result <ℤ pos 0 = search rules in
    let low : IsLow phase c.args.potentials.now c.args.range.now = low_from phase c.args.potentials.now c.args.range.now c.choose.new.out c.choose.result not_void c.choose.ensures.chosen c.choose.ensures.bound negative in
    let affine_negative : c.choose_affine.result <ℤ pos 0 = search rules in
    let unclear : IsUnclear phase c.args.potentials.now c.args.range.now = unclear_from phase c.args.potentials.now c.args.range.now c.choose_affine.new.out c.choose_affine.result low c.choose_affine.ensures.chosen c.choose_affine.ensures.bound affine_negative in
    let opened : IsOpen phase c.args.potentials.now c.args.range.now = open_from phase c.args.potentials.now c.args.range.now c.corner_point.new.out unclear corner c.if-is_below.ensures.no in
    open_has_several phase c.args.potentials.now c.args.range.now
    (record {
      below = g.met.P.PhaseModel.below c.args.model.now c.args.potentials.now;
      exactly = g.met.P.PhaseModel.exactly c.args.model.now c.args.potentials.now;
      affine_below = g.met.P.PhaseModel.affine_below c.args.model.now c.args.potentials.now;
    })
    c.requires.ready opened

pub returns-clause-found : goal.returns-clause-found
returns-clause-found g c =
    let phase = g.P.PhaseModel.phase_of c.args.model.now in
    let not_void = subst (λ (p : PhaseAt). IsVoid p c.args.range.now → ⊥) c.phase-phase.ensures c.if-is_void.ensures.no in
    let corner = subst (λ (p : PhaseAt). c.corner_point.new.out ≡ corner_site p.lattice c.args.range.now) c.phase-phase.ensures c.corner_point.ensures.exact in
    let negative : c.choose.result <ℤ pos 0 = search rules in
    let low : IsLow phase c.args.potentials.now c.args.range.now = low_from phase c.args.potentials.now c.args.range.now c.choose.new.out c.choose.result not_void c.choose.ensures.chosen c.choose.ensures.bound negative in
    let affine_negative : c.choose_affine.result <ℤ pos 0 = search rules in
    let unclear : IsUnclear phase c.args.potentials.now c.args.range.now = unclear_from phase c.args.potentials.now c.args.range.now c.choose_affine.new.out c.choose_affine.result low c.choose_affine.ensures.chosen c.choose_affine.ensures.bound affine_negative in
    (open_from phase c.args.potentials.now c.args.range.now c.corner_point.new.out unclear corner c.if-is_below.ensures.no, c.middle_cut.ensures)
