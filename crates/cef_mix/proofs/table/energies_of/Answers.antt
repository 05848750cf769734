use Rattle.std.proofs.Common.{rules, ◌≡◌, ◌≤◌, ◌+◌, ◌*◌, ◌<◌, [], arith, ℕ, SFits}
use Rattle.std.specs.Prelude.{pos, unsigned_abs}
use Rattle.std.specs.Int.{w64}
use Rattle.std.proofs.lemmas.Int.{to_z-of_z}
use Rattle.std.proofs.lemmas.Grind.{common_steps}
use Rattle.cef_core.specs.Mixing.{mixing_at}
use Rattle.cef_mix.proofs.Energies.{entries-none, entries-more, small-none, small-more}
use Rattle.cef_mix.proofs.table.energies_of.Goals as goal

pub each-init : goal.each-init
each-init c =
    let start : c.in_ok-energies.energies.items ≡ [] = c.in_ok-energies.ensures.items in
    record {
      count = grind (arith, common_steps);
      entries = rw (c.in_ok-push.ensures.items, start) (entries-none c.args.t c.args.lattice c.args.ratio);
      small = rw (c.in_ok-push.ensures.items, start) (small-none (600000 * c.args.t * c.args.ratio));
    }

pub each-preserved : goal.each-preserved
each-preserved c =
    let fits : SFits w64 c.mixing.result = search rules in
    let here : c.mixing.result ≡ mixing_at c.args.t c.args.lattice c.args.ratio c.each.k = c.mixing.ensures.exact in
    let size : unsigned_abs c.mixing.result ≤ 600000 * c.args.t * c.args.ratio = c.mixing.ensures.small in
    record {
      count = grind (arith, common_steps);
      entries = rw c.in_ok-push-2.ensures.items (simp to_z-of_z (entries-more c.args.t c.args.lattice c.args.ratio c.each.k c.each.energies.items c.mixing.result c.each.invariant.count c.each.invariant.entries here));
      small = rw c.in_ok-push-2.ensures.items (simp to_z-of_z (small-more (600000 * c.args.t * c.args.ratio) c.each.energies.items c.mixing.result c.each.invariant.small size));
    }
