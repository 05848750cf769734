use Rattle.std.proofs.Common.{◌≡◌, rules, SFits, get_or, ap, ◌∙◌}
use Rattle.std.specs.Prelude.{pos}
use Rattle.std.specs.Int.{w128}
use Rattle.std.proofs.lemmas.Int.{to_z-of_z}
use Rattle.std.proofs.lemmas.List.{get_or_default}
use Rattle.lp_basis.specs.Potentials.{number_at}
use Rattle.lp_basis.specs.declared.potential.Part.{Part}
use Rattle.lp_basis.proofs.Lists.{each_pushed}
use Rattle.lp_basis.proofs.potential.numbers_of.Goals as goal

pub numbers-preserved : goal.numbers-preserved
numbers-preserved c =
    let fits : SFits w128 (get_or c.args.parts.now c.numbers.c (record { whole = pos 0; rest = 0 })).whole = search rules in
    let fits_number : SFits w128 c.number_of-number.result = search rules in
    let is = simp to_z-of_z at c.number_of-number.ensures in
    let items = simp to_z-of_z at c.in_ok-push.ensures.items in
    record {
      sized = search rules;
      every = λ b d lt. each_pushed (λ k v. (d : Part) → v ≡ number_at (get_or c.args.parts.now k d) c.args.denominator c.args.divisor) c.numbers.numbers.items c.push.new.self.items c.number_of-number.result c.numbers.c c.numbers.invariant.sized items
          (λ k less e. c.numbers.invariant.every k e less) (λ e. is ∙ ap (λ (part : Part). number_at part c.args.denominator c.args.divisor) (get_or_default c.args.parts.now c.numbers.c (record { whole = pos 0; rest = 0 }) e c.numbers-test.true)) b lt d;
    }
