use Rattle.std.proofs.Common.{ℕ, ◌≤◌, ◌^◌, arith, rules, SFits, slice_index_or, List, subst}
use Rattle.std.specs.Prelude.{ℤ, pos, ◌*ℤ◌, unsigned_abs}
use Rattle.std.specs.Int.{w128}
use Rattle.std.proofs.lemmas.Int.{to_z-of_z, fits_signed_from_abs}
use Rattle.cal_math.specs.Whole.{abs-*ℤ-le}
use Rattle.cal_math.specs.Vectors.{at}
use Rattle.lp_basis.specs.Potentials.{FitsSum, IsPart}
use Rattle.lp_basis.proofs.Lists.{each_of}
use Rattle.lp_basis.proofs.potential.parts_of.Goals as goal

small : (numbers row : List ℤ) (large : ℕ) (cost own : ℤ) (c : ℕ) → FitsSum numbers large cost row own → unsigned_abs (cost *ℤ at row c) ≤ 2 ^ 118
small numbers row large cost own c fits = omega (arith, abs-*ℤ-le cost (at row c) (2 ^ 55) (2 ^ 62) fits.cost_small (fits.row_small c))

pub times-requires : goal.times-requires
times-requires c =
    let fits_cost = c.ranges.cost in
    let fits_row : SFits w128 (slice_index_or c.args.row.now c.parts.c (pos 0)) = search rules in
    simp to_z-of_z (fits_signed_from_abs w128 (c.args.cost *ℤ at c.args.row.now c.parts.c) (omega (arith, small c.args.numbers.now c.args.row.now c.args.large c.args.cost (pos c.args.own) c.parts.c c.requires)))

pub part_of-part-requires-clause-summand_small : goal.part_of-part-requires-clause-summand_small
part_of-part-requires-clause-summand_small c =
    let fits_cost = c.ranges.cost in
    let fits_row : SFits w128 (slice_index_or c.args.row.now c.parts.c (pos 0)) = search rules in
    let fits : SFits w128 c.times.result = search rules in
    let is = simp to_z-of_z at c.times.ensures in
    simp to_z-of_z (rw is (small c.args.numbers.now c.args.row.now c.args.large c.args.cost (pos c.args.own) c.parts.c c.requires))

pub parts-preserved : goal.parts-preserved
parts-preserved c =
    let fits_cost = c.ranges.cost in
    let fits_row : SFits w128 (slice_index_or c.args.row.now c.parts.c (pos 0)) = search rules in
    let fits_number : SFits w128 (slice_index_or c.args.numbers.now c.parts.c (pos 0)) = search rules in
    let fits : SFits w128 c.times.result = search rules in
    let is = simp to_z-of_z at c.times.ensures in
    let part = simp to_z-of_z at c.part_of-part.ensures in
    let here = subst (λ (z : ℤ). IsPart (at c.args.numbers.now c.parts.c) c.args.large z c.args.own c.part_of-part.result) is part in
    record {
      sized = search rules;
      every = simp to_z-of_z (each_of (λ k part. IsPart (at c.args.numbers.now k) c.args.large (c.args.cost *ℤ at c.args.row.now k) c.args.own part) c.parts.parts.items c.push.new.self.items c.part_of-part.result c.parts.c c.parts.invariant.sized c.in_ok-push.ensures.items (simp to_z-of_z at c.parts.invariant.every) here);
    }
