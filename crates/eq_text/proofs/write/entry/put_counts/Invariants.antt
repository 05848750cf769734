use Rattle.std.proofs.Common.{◌≡◌, ◌++◌, take}
use Rattle.std.specs.List.{flat_map}
use Rattle.std.specs.Fmt.{decimal}
use Rattle.eq_text.specs.Spacing.{spaced}
use Rattle.eq_text.proofs.write.entry.put_counts.Given as goal

abbrev pub invariant-counts : goal.invariant-counts
invariant-counts l = l.out.items ≡ l.fn.out.items ++ flat_map (λ k. spaced (decimal k)) (take l.count-index l.counts)
