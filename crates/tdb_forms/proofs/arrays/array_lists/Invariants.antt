use Rattle.std.proofs.Common.{◌≡◌, ◌++◌, drop, map}
use Rattle.std.specs.Option.{option_map}
use Rattle.tdb_forms.specs.Finding.{each}
use Rattle.tdb_forms.specs.Lists.{array_list}
use Rattle.tdb_forms.proofs.arrays.array_lists.Given as goal

abbrev pub invariant-parts : goal.invariant-parts
invariant-parts l = option_map (λ lists. map (λ list. list.items) l.lists.items ++ lists) (each array_list (map (λ w. w.now) (drop l.i l.parts))) ≡ each array_list (map (λ w. w.now) l.parts)
