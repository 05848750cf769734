use Rattle.std.proofs.Common.{◌≡◌, ◌∷◌, rules}
use Rattle.cef_box.proofs.Raised.{corner_first}
use Rattle.cef_box.proofs.corner.+corner_in.Goals as goal

pub returns-in-Some-clause-counts : goal.returns-in-Some-clause-counts
returns-in-Some-clause-counts t c =
    let whole : c.args.ends.now ≡ c.in-Some.end.now ∷ c.in-Some.rest.now = search rules in
    corner_first c.args.n c.args.from c.in-Some.end.now _ _ c.args.ends.now c.in-Some.rest.now c.args.low.now c.args.high.now _ _ _ _ _ _ _ whole c.requires.flat c.requires.within c.from.ensures c.from-count.ensures
    c.split_at.ensures.front c.split_at-in-Some.ensures.front c.split_at.ensures.back c.split_at-in-Some.ensures.back c.corner_from.ensures.counts c.corner_in.ensures.counts
