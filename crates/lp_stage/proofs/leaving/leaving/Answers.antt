use Rattle.std.proofs.Common.{◌≡◌, ℕ, suc, arith, subst}
use Rattle.std.specs.Prelude.{Option, Some}
use Rattle.lp_stage.specs.Leaving.{IsBest}
use Rattle.lp_stage.specs.declared.leaving.Candidate.{Candidate}
use Rattle.lp_stage.proofs.leaving.leaving.Goals as goal

pub returns-in-None : goal.returns-in-None
returns-in-None c b w v columns can j lt =
    let none = subst (λ (o : Option Candidate). IsBest (suc b) c.args.rows.now c.args.column.now c.args.starts.now c.rows.j o) c.in-None.is (c.rows.invariant b w v columns can) in
    none j (omega (arith, c.rows-test.false, can.held.count, lt))

pub returns-in-Some : goal.returns-in-Some
returns-in-Some c b w v columns can =
    let ended : c.rows.j ≡ suc b = omega (arith, c.rows-test.false, c.rows.auto.j-end, can.held.count) in
    let best = subst (λ (o : Option Candidate). IsBest (suc b) c.args.rows.now c.args.column.now c.args.starts.now c.rows.j o) c.in-Some.is (c.rows.invariant b w v columns can) in
    (subst (λ (k : ℕ). IsBest (suc b) c.args.rows.now c.args.column.now c.args.starts.now k (Some c.in-Some.candidate)) ended best).1
