use Rattle.std.proofs.Common.{rules, ◌≡◌, ◌≤◌, ◌∷◌, SFits, refl}
use Rattle.std.specs.Prelude.{unsigned_abs, ◌+ℤ◌, slice_index}
use Rattle.std.specs.Int.{w128}
use Rattle.std.proofs.lemmas.Int.{to_z-of_z}
use Rattle.cal_limits.specs.declared.TheConstants.{MOST_ENERGY}
use Rattle.cef_core.specs.Mixing.{mixing_of_counts}
use Rattle.cef_phase.proofs.Sublattices.{counts_size, first_within, count_size, sum_fits}
use Rattle.cef_phase.proofs.mixing.+mixing_of_counts.Goals as goal

pub plus-requires : goal.plus-requires
plus-requires t c =
    let fits : SFits w128 c.h-here.result = search rules in
    let fits_others : SFits w128 c.mixing_of_counts-others.result = search rules in
    let mix = c.args.mix.now in
    let within = first_within c.in-Some.count.now c.in-Some.rest.now c.args.counts.now mix.lattice c.in-Some.ensures.cases.0 c.requires.within in
    let here : unsigned_abs c.h-here.result ≤ MOST_ENERGY = rw c.h-here.ensures (count_size mix c.args.sublattice c.in-Some.count.now c.requires.mixable within) in
    simp to_z-of_z (sum_fits c.h-here.result c.mixing_of_counts-others.result here c.mixing_of_counts-others.ensures.size)

pub returns-in-Some-clause-size : goal.returns-in-Some-clause-size
returns-in-Some-clause-size t c =
    let fits : SFits w128 c.h-here.result = search rules in
    let fits_others : SFits w128 c.mixing_of_counts-others.result = search rules in
    let fits_result : SFits w128 c.plus.result = search rules in
    let mix = c.args.mix.now in
    let added : c.plus.result ≡ c.h-here.result +ℤ c.mixing_of_counts-others.result = simp to_z-of_z at c.plus.ensures in
    let whole : c.plus.result ≡ mixing_of_counts mix.t mix.lattice (slice_index mix.ratios c.args.sublattice) (c.in-Some.count.now ∷ c.in-Some.rest.now) = rw (added, c.h-here.ensures, c.mixing_of_counts-others.ensures.exact) refl in
    simp to_z-of_z (rw whole (counts_size mix c.args.sublattice (c.in-Some.count.now ∷ c.in-Some.rest.now) c.requires.mixable (rw c.in-Some.ensures.cases.0 at c.requires.within)))
