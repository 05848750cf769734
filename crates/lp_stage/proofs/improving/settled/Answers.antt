use Rattle.std.proofs.Common.{◌≡◌, ℕ, suc, List, subst, refl}
use Rattle.std.specs.Prelude.{All, Option, Some, None, MatchOption}
use Rattle.cal_math.specs.Vectors.{at}
use Rattle.lp_stage.specs.Pricing.{IsDear}
use Rattle.lp_stage.specs.Running.{IsRunning, IsBetter, IsImproved}
use Rattle.lp_basis.specs.declared.column.Column.{Column}
use Rattle.lp_stage.specs.declared.phase.Phase.{Phase}
use Rattle.lp_stage.specs.declared.stage.Stage.{Stage}
use Rattle.lp_stage.proofs.Ending.{left_falls}
use Rattle.lp_stage.proofs.improving.settled.Goals as goal

better : (b w s v : ℕ) (phase : Phase) (columns starts : List Column) (stage next : Stage) (found : Option Stage) → IsImproved phase columns starts stage found → found ≡ Some next → IsRunning b w s v phase columns starts stage →
    IsBetter b w s v phase columns starts stage next
better b w s v phase columns starts stage next found is e run =
    subst (λ (o : Option Stage). MatchOption o (All (IsDear (suc b) phase (at stage.potentials.numbers.items) stage.potentials.denominator) columns) (IsBetter b w s v phase columns starts stage)) e (is b w s v run)

-- there is none
none_of : (P : Type 0) (Q : Stage → Type 0) (found : Option Stage) → MatchOption found P Q → ((x : Stage) → found ≡ Some x → ⊥) → P
none_of P Q None p not = p
none_of P Q (Some x) q not = absurd (not x refl)

pub descend-smaller : goal.descend-smaller
descend-smaller c =
    let run = (c.descend.invariant c.requires.0 c.requires.1 c.requires.2 c.requires.3 c.requires.4).0 in
    let next = better c.requires.0 c.requires.1 c.requires.2 c.requires.3 c.args.phase c.args.columns.now c.args.starts.now c.descend.stage c.in-Some.next c.in_ok-next.field-0 c.in_ok-next.ensures c.in-Some.is run in
    left_falls c.requires.0 c.requires.1 c.requires.2 c.requires.3 c.args.phase c.args.columns.now c.args.starts.now c.descend.stage c.in-Some.next run next.running next.fallen

pub descend-preserved : goal.descend-preserved
descend-preserved c b w s v run0 =
    let run = c.descend.invariant b w s v run0 in
    let next = better b w s v c.args.phase c.args.columns.now c.args.starts.now c.descend.stage c.in-Some.next c.in_ok-next.field-0 c.in_ok-next.ensures c.in-Some.is run.0 in
    (next.running, λ j e. run.1 j (next.keeps j e))

pub returns : goal.returns
returns c b w s v run0 =
    let kept = c.descend.invariant b w s v run0 in
    let run = kept.0 in
    (run, none_of (All (IsDear (suc b) c.args.phase (at c.descend.stage.potentials.numbers.items) c.descend.stage.potentials.denominator) c.args.columns.now) (IsBetter b w s v c.args.phase c.args.columns.now c.args.starts.now c.descend.stage) c.in_ok-next.field-0 (c.in_ok-next.ensures b w s v run) (λ x e. c.in_default.not-Some x e), kept.1)
