use Rattle.std.proofs.Common.{rules, tests}
use Rattle.std.proofs.lemmas.Iterator.{YieldsList-from_slice, YieldsList-from_map_by}
use Rattle.std.proofs.lemmas.Iterator.Consumers.{map_from_collect, YieldsList-at}
use Rattle.cal_job.proofs.composition.element_words.Goals as goal

pub returns : goal.returns
returns c =
    map_from_collect _ c.collect.ensures.ran
    (YieldsList-from_map_by _ (λ word. word.now) (λ item. item.0)
    (YieldsList-at c.map.ensures.source (YieldsList-from_slice c.args.items.now c.iter.ensures.rest))
    c.map.ensures.closure (λ x r q k. search (rules, tests)))
