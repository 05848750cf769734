use Rattle.cef_term.proofs.Terms.{box_low, box_high}
use Rattle.cef_term.proofs.param_term.ParamTermTerm.high.Goals as goal

pub at_least-requires-clause-low : goal.at_least-requires-clause-low
at_least-requires-clause-low c = box_low c.args.self.now c.args.range.now c.lows.result.now c.lows.ensures c.requires

pub at_least-requires-clause-high : goal.at_least-requires-clause-high
at_least-requires-clause-high c = box_high c.args.self.now c.args.range.now c.highs.result.now c.highs.ensures c.requires

pub at_greatest-requires-clause-low : goal.at_greatest-requires-clause-low
at_greatest-requires-clause-low c = box_low c.args.self.now c.args.range.now c.lows-else-self-lt0.result.now c.lows-else-self-lt0.ensures c.requires

pub at_greatest-requires-clause-high : goal.at_greatest-requires-clause-high
at_greatest-requires-clause-high c = box_high c.args.self.now c.args.range.now c.highs-else-self-lt0.result.now c.highs-else-self-lt0.ensures c.requires
