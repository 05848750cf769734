use Rattle.tdb_forms.proofs.Loops.{mapped_on, mapped_end}
use Rattle.tdb_forms.proofs.arrays.names.Goals as goal

pub parts-preserved : goal.parts-preserved
parts-preserved c = rw (c.in_ok-push.ensures.items, c.in_ok-from_bytes.ensures) (mapped_on (λ w. w.now) c.args.parts.now c.parts.i _ c.parts.names.items _ c.parts-test.true c.parts.invariant)

pub returns : goal.returns
returns c = mapped_end (λ w. w.now) c.args.parts.now c.parts.i c.parts.names.items _ c.parts-test.false c.parts.invariant
