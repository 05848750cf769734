use Rattle.std.proofs.Common.{◌≡◌, ◌++◌, take}
use Rattle.std.specs.List.{flat_map}
use Rattle.eq_text.specs.Spacing.{spaced}
use Rattle.eq_text.proofs.write.line.put_names_line.Given as goal

abbrev pub invariant-names : goal.invariant-names
invariant-names l = l.out.items ≡ l.fn.out.items ++ l.fn.key ++ flat_map spaced (take l.name-index l.names)
