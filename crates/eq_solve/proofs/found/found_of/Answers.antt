use Rattle.std.proofs.Common.{◌≡◌, length, arith, rules, refl, SFits}
use Rattle.std.specs.Int.{w128}
use Rattle.std.proofs.lemmas.Int.{ints, to_z-of_z}
use Rattle.eq_solve.specs.Figures.{left_of}
use Rattle.eq_solve.proofs.Amounts.{left_low, left_small, totals_within}
use Rattle.eq_solve.proofs.Finding.{named_places}
use Rattle.eq_solve.proofs.found.found_of.Goals as goal

pub some_entries-requires : goal.some_entries-requires
some_entries-requires c = named_places (length c.args.columns.now) (length c.args.known.now) c.args.amounts.now c.requires.same c.requires.close.1.amounts_are.named

pub tolerance_of-tolerance-requires-clause-within : goal.tolerance_of-tolerance-requires-clause-within
tolerance_of-tolerance-requires-clause-within c =
    rw c.deref.ensures.value (totals_within c.args.columns.now c.args.asked.now c.in_ok-totals.totals.items c.args.amounts.now c.requires.close.1.amounts_are c.in_ok-totals.ensures.same c.in_ok-totals.ensures.are)

pub gap_of-gap-requires-clause-low : goal.gap_of-gap-requires-clause-low
gap_of-gap-requires-clause-low c =
    let fits_left : SFits w128 c.left_in-left.result = search rules in
    let is : c.left_in-left.result ≡ left_of c.args.potentials.items c.args.columns.now c.args.amounts.now = rw c.deref-2.ensures.value at c.left_in-left.ensures in
    simp to_z-of_z (rw is (left_low c.requires.close.0 c.args.columns.now c.args.asked.now c.args.potentials.items c.args.amounts.now c.requires.close.1))

pub gap_of-gap-requires-clause-high : goal.gap_of-gap-requires-clause-high
gap_of-gap-requires-clause-high c =
    let fits_left : SFits w128 c.left_in-left.result = search rules in
    let is : c.left_in-left.result ≡ left_of c.args.potentials.items c.args.columns.now c.args.amounts.now = rw c.deref-2.ensures.value at c.left_in-left.ensures in
    simp to_z-of_z (rw is (omega (arith, ints, left_small c.requires.close.0 c.args.columns.now c.args.asked.now c.args.potentials.items c.args.amounts.now c.requires.close.1)))

pub returns : goal.returns
returns c =
    let fits_left : SFits w128 c.left_in-left.result = search rules in
    let fits_gap : SFits w128 c.gap_of-gap.result = search rules in
    let fits_energy : SFits w128 c.energy_of-energy.result = search rules in
    let fits_tolerance : SFits w128 c.tolerance_of-tolerance.result = search rules in
    let is : c.left_in-left.result ≡ left_of c.args.potentials.items c.args.columns.now c.args.amounts.now = rw c.deref-2.ensures.value at c.left_in-left.ensures in
    let allowed = simp to_z-of_z at c.gap_of-gap.ensures.allowed in
    let least = simp to_z-of_z at c.gap_of-gap.ensures.least in
    let tolerance = rw c.deref.ensures.value at c.tolerance_of-tolerance.ensures in
    simp to_z-of_z (record {
      entries_are = c.in_ok-entries.ensures;
      one_each = rw c.from_vec.ensures c.in_ok-totals.ensures.same;
      totals_are = rw c.from_vec.ensures c.in_ok-totals.ensures.are;
      energy_is = c.energy_of-energy.ensures;
      tolerance_is = rw c.from_vec.ensures tolerance;
      gap_allowed = rw (← is) allowed;
      gap_least = rw (← is) least;
      potentials_are = c.from_vec-2.ensures;
      trees_are = refl;
    })
