use Rattle.std.proofs.Common.{◌≡◌, length}
use Rattle.lp_basis.specs.Potentials.{AreParts}
use Rattle.lp_basis.proofs.potential.parts_of.Given as goal

abbrev pub invariant-parts : goal.invariant-parts
invariant-parts l = record {
  sized : length l.parts.items ≡ l.c;
  every : AreParts l.c l.numbers l.large l.cost l.row l.own l.parts.items;
}
