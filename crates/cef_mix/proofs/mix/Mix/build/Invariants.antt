use Rattle.std.proofs.Common.{◌≡◌, take, map}
use Rattle.std.specs.List.{AllByRecursion}
use Rattle.cef_mix.specs.Tables.{Mixed}
use Rattle.cef_mix.proofs.mix.Mix.build.Given as goal

abbrev pub invariant-each : goal.invariant-each
invariant-each l = record {
  ratios : map (λ (b : Mixed). b.ratio) l.tables.items ≡ take l.ratio-index l.phase.ratios;
  alike : AllByRecursion (λ (b : Mixed). (b.t ≡ l.phase.t) × (b.lattice ≡ l.phase.lattice)) l.tables.items;
}
