use Rattle.std.proofs.Common.{rules, ◌≡◌, ◌+◌, ◌-◌, ◌<◌, arith, SFits, inl, inr, ap}
use Rattle.std.specs.Prelude.{◌≤ℤ◌}
use Rattle.std.specs.Int.{w64}
use Rattle.std.proofs.lemmas.Int.{ints, to_z-of_z}
use Rattle.std.proofs.lemmas.Bool.{cases_lt}
use Rattle.cef_mix.specs.Tables.{entry}
use Rattle.cef_mix.proofs.table.are_ordered.Goals as goal

pub each-preserved : goal.each-preserved
each-preserved c = λ j lt.
    elim (cases_lt (j + 1) c.each.k) [
      | inl before ↦ c.each.invariant j before
      | inr here ↦
          let one : c.each.k - 1 ≡ j = omega arith in
          let top : c.each.k ≡ j + 1 = omega arith in
          let le : entry c.args.rises.now (c.each.k - 1) ≤ℤ entry c.args.rises.now c.each.k = grind (arith, ints) in
          omega (arith, ints, le, ap (entry c.args.rises.now) one, ap (entry c.args.rises.now) top)
    ]
