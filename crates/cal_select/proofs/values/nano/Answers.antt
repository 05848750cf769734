use Rattle.std.proofs.Common.{◌≤◌, ◌^◌, ℕ, List, Err, subst, sym, rules, ◌∙◌}
use Rattle.std.specs.Prelude.{ℤ, unsigned_abs}
use Rattle.std.specs.Int.{w128}
use Rattle.std.proofs.lemmas.Int.{to_z-of_z}
use Rattle.tdb_expr.specs.declared.ranged.Ranged.{Ranged}
use Rattle.tdb_expr.specs.Forms.{IsRanged}
use Rattle.temp_fun.specs.Functions.{Functions, AreFunctions}
use Rattle.temp_fun.specs.Keeping.{IsKept}
use Rattle.temp_fun.specs.Values.{IsValue}
use Rattle.temp_fun.specs.Stops.{IsAnswer}
use Rattle.cal_select.proofs.Valued.{all-each, valued, refused, value_small}
use Rattle.cal_select.proofs.values.nano.Goals as goal

pub value_with-requires-clause-functions : goal.value_with-requires-clause-functions
value_with-requires-clause-functions c =
    subst (λ (f : Functions). AreFunctions f) (sym c.functions.ensures.entries)
    (all-each (λ (e : List ℕ × Ranged). IsRanged e.1) c.args.db.now.functions (λ place e stands. c.functions.ensures.ranged place e.0 e.1 stands))

pub value_with-requires-clause-kept : goal.value_with-requires-clause-kept
value_with-requires-clause-kept c = subst (λ (f : Functions). IsKept f c.args.t c.args.known) (sym c.functions.ensures.entries) c.requires.known

pub returns-in-Err : goal.returns-in-Err
returns-in-Err c =
    let f = c.args.db.now.functions in
    let t = c.args.t in
    let ranged = c.args.ranged.now in
    let answer : IsAnswer f t ranged (Err c.in-Err.fault) = subst (λ (g : Functions). IsAnswer g t ranged (Err c.in-Err.fault)) c.functions.ensures.entries c.in-Err.ensures.answer in
    record {
      gives = λ outcome are. rw c.refusal.ensures (refused f t ranged (outcome ranged) c.in-Err.fault (are.each ranged c.requires.ranged) answer (c.one_outcome.ensures.refusal f t ranged) (c.one_outcome.ensures.not_both f t ranged));
      small = tt;
      known = tt;
    }

pub returns-in-Ok : goal.returns-in-Ok
returns-in-Ok c =
    let f = c.args.db.now.functions in
    let t = c.args.t in
    let ranged = c.args.ranged.now in
    let v = c.in-Ok.field-0.value in
    let computed : IsValue f t ranged v = subst (λ (g : Functions). IsValue g t ranged v) c.functions.ensures.entries c.in-Ok.ensures.answer in
    let e = sym (to_z-of_z w128 v (search rules)) in
    record {
      gives = λ outcome are.
          let both = valued f t ranged (outcome ranged) v (are.each ranged c.requires.ranged) computed (c.one_outcome.ensures.value f t ranged) (c.one_outcome.ensures.not_both f t ranged) in
          (both.0, sym e ∙ both.1);
      small = subst (λ (n : ℤ). unsigned_abs n ≤ 10 ^ 27) e (value_small f t ranged v computed);
      known = subst (λ (g : Functions). IsKept g t c.in-Ok.field-0.kept) c.functions.ensures.entries c.in-Ok.ensures.kept;
    }
