use Rattle.std.proofs.Common.{rules, ◌≡◌, pos, arith, slice_index_or, SFits}
use Rattle.std.specs.Int.{w128}
use Rattle.std.specs.Prelude.{unsigned_abs}
use Rattle.std.proofs.lemmas.Int.{to_z-of_z}
use Rattle.lp_basis.proofs.Lists.{divides_more}
use Rattle.lp_basis.proofs.row.shared.Goals as goal

pub share-preserved : goal.share-preserved
share-preserved c =
    let fits_row : SFits w128 (slice_index_or c.args.row.now c.share.i (pos 0)) = search rules in
    let size : c.unsigned_abs-size.result ≡ unsigned_abs (slice_index_or c.args.row.now c.share.i (pos 0)) = simp to_z-of_z at c.unsigned_abs-size.ensures.value in
    record {
      divides = divides_more c.args.row.now c.share.all c.gcd-all.result c.unsigned_abs-size.result c.share.i size c.gcd-all.ensures.0 c.gcd-all.ensures.1 c.share.invariant.divides;
      greatest = λ d h. c.gcd-all.ensures.2 d (c.share.invariant.greatest d (λ b lt. h b (omega arith))) (rw size (h c.share.i (omega arith)));
    }
