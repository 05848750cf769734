use Rattle.std.proofs.Common.{subst, List, ℕ, arith}
use Rattle.cal_dec.specs.declared.dec.Dec.{Dec}
use Rattle.std.specs.Prelude.{pos, ◌<ℤ◌}
use Rattle.tdb_forms.specs.Finding.{Finds}
use Rattle.tdb_forms.specs.Numbers.{IsReadable}
use Rattle.tdb_read.proofs.Found.{at_none, at_some}
use Rattle.tdb_read.proofs.Ratios.{held_start, held_none, held_next, held_end}
use Rattle.tdb_read.proofs.phase.ratios.Goals as goal

pub ratios-init : goal.ratios-init
ratios-init c = rw c.new-all.ensures (held_start c.args.n c.args.text.now)

pub returns-in-None : goal.returns-in-None
returns-in-None c =
    let found = subst (λ (t : List ℕ). Finds (λ (d : Dec). IsReadable t d × (pos 0 <ℤ d.mantissa)) c.ratio.result) c.split_token.ensures.token c.ratio.ensures in
    held_none c.args.n c.args.text.now c.ratios.all c.ratios.rest.now c.ratios._i c.ratios-test.true c.ratios.invariant (at_none _ c.ratio.result found c.in-None.is)

pub ratios-preserved : goal.ratios-preserved
ratios-preserved c =
    let found = subst (λ (t : List ℕ). Finds (λ (d : Dec). IsReadable t d × (pos 0 <ℤ d.mantissa)) c.ratio.result) c.split_token.ensures.token c.ratio.ensures in
    rw (c.in_ok-push-in-Some.ensures.ok, c.split_token.ensures.rest)
    (held_next c.args.n c.args.text.now c.ratios.all c.ratios.rest.now c.ratios._i c.in-Some.ratio c.ratios-test.true c.ratios.invariant (at_some _ c.ratio.result c.in-Some.ratio found c.in-Some.is))

pub returns : goal.returns
returns c = held_end c.args.n c.args.text.now c.ratios.all c.ratios.rest.now c.ratios._i c.ratios-test.false c.ratios.auto._i-end c.ratios.invariant
