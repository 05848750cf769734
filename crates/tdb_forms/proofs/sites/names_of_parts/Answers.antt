use Rattle.std.proofs.Common.{◌∙◌}
use Rattle.tdb_forms.specs.Lists.{without_percent}
use Rattle.tdb_forms.proofs.Loops.{mapped_on, mapped_end, map_twice}
use Rattle.tdb_forms.proofs.sites.names_of_parts.Goals as goal

pub parts-preserved : goal.parts-preserved
parts-preserved c = rw (c.in_ok-push.ensures.ok, c.in_ok-from_bytes.ensures, c.without_percent.ensures) (mapped_on (λ w. without_percent w.now) c.args.parts.now c.parts.i _ c.parts.names _ c.parts-test.true c.parts.invariant)

pub returns : goal.returns
returns c = mapped_end (λ w. without_percent w.now) c.args.parts.now c.parts.i c.parts.names _ c.parts-test.false c.parts.invariant ∙ map_twice without_percent (λ w. w.now) c.args.parts.now
