use Rattle.std.proofs.Common.{◌≡◌, ◌++◌, drop, map}
use Rattle.tdb_forms.specs.Lists.{without_percent}
use Rattle.tdb_forms.proofs.sites.names_of_parts.Given as goal

abbrev pub invariant-parts : goal.invariant-parts
invariant-parts l = l.names ++ map (λ w. without_percent w.now) (drop l.i l.parts) ≡ map (λ w. without_percent w.now) l.parts
