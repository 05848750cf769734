use Rattle.std.proofs.Common.{◌≡◌, ◌++◌, take}
use Rattle.std.specs.List.{flat_map}
use Rattle.std.specs.Fmt.{signed_decimal}
use Rattle.eq_text.specs.Spacing.{spaced}
use Rattle.eq_text.proofs.write.line.put_numbers_line.Given as goal

abbrev pub invariant-numbers : goal.invariant-numbers
invariant-numbers l = l.out.items ≡ l.fn.out.items ++ l.fn.key ++ flat_map (λ v. spaced (signed_decimal v)) (take l.number-index l.numbers)
