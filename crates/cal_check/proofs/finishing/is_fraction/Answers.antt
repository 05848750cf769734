use Rattle.std.proofs.Common.{◌∙◌, ◌≡◌, ap, subst, sym, arith, rules, ◌≤◌, ◌*◌, List, ℕ, pos}
use Rattle.std.specs.Prelude.{ℤ}
use Rattle.cal_math.specs.Sums.{sum_of}
use Rattle.cal_check.proofs.Numbers.{fraction_both}
use Rattle.cal_check.proofs.finishing.is_fraction.Goals as goal

pub returns : goal.returns
returns c =
    let both = fraction_both c.sum-rest.result c.sum-first.result c.args.path.now.stop (sum_of (λ n. n) c.args.left.now) (sum_of (λ n. n) c.args.asked.now) c.sum-rest.ensures.exact c.sum-first.ensures.exact in
    rw (c.from.ensures, ← c.requires.first) ((λ t. both.0 (search rules)), (λ h. let b = both.1 h in search (rules, b)))
