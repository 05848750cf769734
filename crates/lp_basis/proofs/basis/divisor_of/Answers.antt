use Rattle.std.proofs.Common.{arith, length}
use Rattle.std.proofs.lemmas.Int.{ints, to_z_pos, fits_signed_from_abs}
use Rattle.std.specs.Int.{w128}
use Rattle.cal_math.specs.Vectors.{at}
use Rattle.lp_basis.proofs.Next.{multiple_from, below_shared, shared_fits}
use Rattle.lp_basis.proofs.basis.divisor_of.Goals as goal

pub overflow_cast-result : goal.overflow_cast-result
overflow_cast-result c = let h = shared_fits (length c.args.row.now) (at c.args.row.now) c.shared.result c.requires c.shared.ensures.divides in fits_signed_from_abs w128 _ h.1

pub returns-clause-positive : goal.returns-clause-positive
returns-clause-positive c =
    let h = shared_fits (length c.args.row.now) (at c.args.row.now) c.shared.result c.requires c.shared.ensures.divides in
    rw (to_z_pos w128 c.shared.result h.1) (omega (arith, ints, h.0))

pub returns-clause-divides : goal.returns-clause-divides
returns-clause-divides c =
    let h = shared_fits (length c.args.row.now) (at c.args.row.now) c.shared.result c.requires c.shared.ensures.divides in
    rw (to_z_pos w128 c.shared.result h.1) (λ b lt. multiple_from c.shared.result (at c.args.row.now b) (c.shared.ensures.divides b lt))

pub returns-clause-greatest : goal.returns-clause-greatest
returns-clause-greatest c =
    let h = shared_fits (length c.args.row.now) (at c.args.row.now) c.shared.result c.requires c.shared.ensures.divides in
    rw (to_z_pos w128 c.shared.result h.1) (λ d all. omega (arith, ints, below_shared c.args.row.now c.shared.result d h.0 c.shared.ensures.greatest all))
