use Rattle.std.proofs.Common.{◌≡◌, ◌++◌, drop, map}
use Rattle.tdb_forms.proofs.arrays.names.Given as goal

abbrev pub invariant-parts : goal.invariant-parts
invariant-parts l = l.names.items ++ map (λ w. w.now) (drop l.i l.parts) ≡ map (λ w. w.now) l.parts
