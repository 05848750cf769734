use Rattle.std.proofs.Common.{length}
use Rattle.lp_core.proofs.Starts.{AreStarts-next}
use Rattle.lp_core.proofs.start.starts_of.Goals as goal

pub places-preserved : goal.places-preserved
places-preserved c =
    AreStarts-next (length c.args.target.now) c.args.columns.now c.args.target.now c.args.places.now c.places.j c.places.starts.items c.push-in-places.new.self.items _ c.places.invariant
    c.in_ok-push-2.ensures.items c.in_ok-amounts-2.ensures.sized c.in_ok-amounts-2.ensures.every
