use Rattle.std.proofs.Common.{◌≡◌, ℕ, ◌*◌, ◌<◌, ◌/◌, ◌%◌, arith, ap}
use Rattle.cal_whole.proofs.Ratios.{less_from_whole, rests, rest_some, IsOrdered-moved}
use Rattle.cal_whole.proofs.ratio.+compare_ratios.Goals as goal

pub returns-then-left-right : goal.returns-then-left-right
returns-then-left-right t c = less_from_whole _ _ _ _ c.requires.first c.requires.second c.if-left-right.true

pub returns-then-right-left : goal.returns-then-right-left
returns-then-right-left t c = less_from_whole _ _ _ _ c.requires.second c.requires.first c.if-right-left.true

pub returns-then-below-eq0 : goal.returns-then-below-eq0
returns-then-below-eq0 t c =
    let same : c.args.a / c.args.b ≡ c.args.c / c.args.d = omega (arith, c.if-left-right.false, c.if-right-left.false) in
    omega (arith, rests c.args.a c.args.b c.args.c c.args.d same, ap (λ (v : ℕ). v * c.args.d) c.if-below-eq0.true, ap (λ (v : ℕ). v * c.args.b) c.if-above-eq0.true)

pub returns-else-below-eq0 : goal.returns-else-below-eq0
returns-else-below-eq0 t c =
    let same : c.args.a / c.args.b ≡ c.args.c / c.args.d = omega (arith, c.if-left-right.false, c.if-right-left.false) in
    let some : 0 < c.args.a % c.args.b = omega (arith, c.if-below-eq0.false) in
    omega (arith, rests c.args.a c.args.b c.args.c c.args.d same, rest_some _ _ some c.requires.second, ap (λ (v : ℕ). v * c.args.b) c.if-above-eq0.true)

pub returns-then-below-eq0-2 : goal.returns-then-below-eq0-2
returns-then-below-eq0-2 t c =
    let same : c.args.a / c.args.b ≡ c.args.c / c.args.d = omega (arith, c.if-left-right.false, c.if-right-left.false) in
    let some : 0 < c.args.c % c.args.d = omega (arith, c.if-above-eq0.false) in
    omega (arith, rests c.args.a c.args.b c.args.c c.args.d same, rest_some _ _ some c.requires.first, ap (λ (v : ℕ). v * c.args.d) c.if-below-eq0-2.true)

pub returns-else-below-eq0-2 : goal.returns-else-below-eq0-2
returns-else-below-eq0-2 t c =
    let same : c.args.a / c.args.b ≡ c.args.c / c.args.d = omega (arith, c.if-left-right.false, c.if-right-left.false) in
    let both = rests c.args.a c.args.b c.args.c c.args.d same in
    IsOrdered-moved c.compare_ratios.result _ _ _ _ (c.args.a / c.args.b * c.args.b * c.args.d) (omega (arith, both.0)) (omega (arith, both.1)) c.compare_ratios.ensures
