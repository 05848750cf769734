use Rattle.std.proofs.Common.{rules, ◌≡◌, ◌≤◌, ◌+◌, ◌-◌, ◌*◌, ◌<◌, arith, ℕ, SFits, ap, ◌∙◌}
use Rattle.std.specs.Prelude.{pos, ◌-ℤ◌, unsigned_abs}
use Rattle.std.specs.Int.{w64}
use Rattle.std.proofs.lemmas.Int.{to_z-of_z}
use Rattle.std.proofs.lemmas.Grind.{common_steps}
use Rattle.cal_limits.specs.declared.TheConstants.{MOST_ENERGY}
use Rattle.cef_mix.specs.Tables.{entry}
use Rattle.cef_mix.proofs.Rises.{rises-more, rises_small-more}
use Rattle.cef_mix.proofs.table.rises_of.Goals as goal

pub each-preserved : goal.each-preserved
each-preserved c =
    let fits : SFits w64 c.rise.result = search rules in
    let fits_here : SFits w64 (entry c.args.energies.now (c.each.k - 1)) = search rules in
    let fits_next : SFits w64 (entry c.args.energies.now c.each.k) = search rules in
    let here : c.rise.result ≡ entry c.args.energies.now c.each.k -ℤ entry c.args.energies.now (c.each.k - 1) = simp to_z-of_z at c.rise.ensures.exact in
    let top : c.each.k ≡ c.each.k - 1 + 1 = omega arith in
    let same : c.rise.result ≡ entry c.args.energies.now (c.each.k - 1 + 1) -ℤ entry c.args.energies.now (c.each.k - 1) = here ∙ ap (λ (k : ℕ). entry c.args.energies.now k -ℤ entry c.args.energies.now (c.each.k - 1)) top in
    let size : unsigned_abs c.rise.result ≤ 2 * MOST_ENERGY = c.rise.ensures.size in
    record {
      count = grind (arith, common_steps);
      entries = λ j lt. rw c.in_ok-push.ensures.items (simp to_z-of_z (rises-more c.args.energies.now c.each.rises.items (c.each.k - 1) c.rise.result (omega (arith, c.each.invariant.count)) (λ i less. c.each.invariant.entries i (omega arith)) same j (omega arith)));
      small = rw c.in_ok-push.ensures.items (simp to_z-of_z (rises_small-more c.each.rises.items c.rise.result c.each.invariant.small size));
    }
