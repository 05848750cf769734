use Rattle.std.proofs.Common.{arith, rules, ◌≤◌, ◌≡◌, length, subst, sym, vec_len, Option}
use Rattle.cal_base.specs.Outside.{TellsFile, Files}
use Rattle.cal_base.proofs.Pieces.{length-IsFront-le}
use Rattle.cal_base.proofs.loading.load.Goals as goal

pub returns-then-count-eq0-clause-bytes : goal.returns-then-count-eq0-clause-bytes
returns-then-count-eq0-clause-bytes g c = λ all tells.
    let tells_now = subst (λ (t : Option Files). TellsFile t c.args.name.now all) (sym c.pieces.invariant.told) tells in
    c.in_ok-count.ensures.end all tells_now (c.pieces.invariant.front all tells) c.if-count-eq0.true

pub returns-clause-too_long : goal.returns-clause-too_long
returns-clause-too_long g c = λ is all tells.
    let most : length c.pieces.bytes.items ≤ length all = length-IsFront-le all c.pieces.bytes.items (c.pieces.invariant.front all tells) in
    let same : vec_len c.pieces.bytes ≡ length c.pieces.bytes.items = search rules in
    omega arith
