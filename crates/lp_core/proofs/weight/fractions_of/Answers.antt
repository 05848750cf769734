use Rattle.std.proofs.Common.{◌≡◌, ◌^◌, length, arith, rules, ap, sym, ◌∙◌}
use Rattle.std.specs.Prelude.{unsigned_abs}
use Rattle.lp_basis.specs.Held.{own_at}
use Rattle.lp_basis.proofs.Lists.{each_of}
use Rattle.lp_basis.proofs.Placed.{row_read}
use Rattle.lp_core.specs.Ends.{target_product}
use Rattle.lp_core.specs.Weights.{IsLowest}
use Rattle.lp_core.proofs.Weighing.{fits_row}
use Rattle.lp_core.proofs.weight.fractions_of.Goals as goal

pub fraction_of-fraction-requires : goal.fraction_of-fraction-requires
fraction_of-fraction-requires c =
    let can = c.requires.3 in
    let read = row_read c.args.rows.now c.rows.j c.index-rows-j.result c.rows-test.true c.index-rows-j.is in
    (c.requires.1 ^ c.requires.0, 2 ^ 53, fits_row c.requires.0 c.requires.1 c.requires.2 c.args.rows.now c.args.target.now c.rows.j c.index-rows-j.result can (omega (arith, c.rows-test.true, can.held.count)) read.0 read.1)

pub rows-preserved : goal.rows-preserved
rows-preserved c =
    let can = c.requires.3 in
    let read = row_read c.args.rows.now c.rows.j c.index-rows-j.result c.rows-test.true c.index-rows-j.is in
    let size : length c.index-rows-j.result.numbers.items ≡ length c.args.target.now = ap length (sym read.0) ∙ can.held.lengths c.rows.j (omega (arith, c.rows-test.true, can.held.count)) ∙ sym can.size in
    let here = rw (size, ← read.0, ← read.1) at c.fraction_of-fraction.ensures in
    record {
      sized = search rules;
      every = each_of (λ k fraction. IsLowest (unsigned_abs (target_product c.args.rows.now c.args.target.now k)) (unsigned_abs (own_at c.args.rows.now k)) fraction) c.rows.fractions.items c.push.new.self.items c.fraction_of-fraction.result c.rows.j c.rows.invariant.sized c.in_ok-push.ensures.items c.rows.invariant.every here;
    }
