use Rattle.std.proofs.Common.{◌≡◌, ◌++◌, drop, map}
use Rattle.std.specs.Option.{option_map}
use Rattle.tdb_forms.specs.Finding.{each}
use Rattle.tdb_forms.specs.Lists.{constituents_of}
use Rattle.tdb_forms.proofs.sites.all_constituents.Given as goal

abbrev pub invariant-lists : goal.invariant-lists
invariant-lists l = option_map (λ lists. l.all ++ lists) (each constituents_of (map (λ w. w.now) (drop l.i l.lists))) ≡ each constituents_of (map (λ w. w.now) l.lists)
