use Rattle.std.proofs.Common.{◌≡◌, ℕ, ◌+◌, rules, SFits, arith, sym, subst}
use Rattle.std.specs.Prelude.{ℤ, ◌-ℤ◌}
use Rattle.std.specs.Int.{w128}
use Rattle.std.proofs.lemmas.Int.{ints, to_z-of_z}
use Rattle.cal_math.specs.Vectors.{at}
use Rattle.eq_solve.specs.Figures.{IsGreatest}
use Rattle.eq_solve.proofs.Greatest.{IsGreatest_takes, IsGreatest_keeps}
use Rattle.eq_solve.proofs.figure.tolerance_of.Goals as goal
use Rattle.eq_solve.proofs.figure.tolerance_of.Goals.{then-here-greatest, else-here-greatest}

pub minus-here-requires : goal.minus-here-requires
minus-here-requires c =
    let fits_asked : SFits w128 (at c.args.asked.now c.components.c) = search rules in
    let fits_total : SFits w128 (at c.args.totals.now c.components.c) = search rules in
    simp to_z-of_z (omega (arith, ints, c.requires.within.least c.components.c c.components-test.true, c.requires.within.most c.components.c c.components-test.true, c.requires.within.small c.components.c))

pub components-preserved : goal.components-preserved
components-preserved c =
    let fits_asked : SFits w128 (at c.args.asked.now c.components.c) = search rules in
    let fits_total : SFits w128 (at c.args.totals.now c.components.c) = search rules in
    let fits_here : SFits w128 c.minus-here.result = search rules in
    let is : c.minus-here.result ≡ at c.args.asked.now c.components.c -ℤ at c.args.totals.now c.components.c = simp to_z-of_z at c.minus-here.ensures in
    let f : ℕ → ℤ = λ c'. at c.args.asked.now c' -ℤ at c.args.totals.now c' in
    let n : ℕ = c.components.c in
    let so_far : IsGreatest n f c.components.greatest = subst (λ (z : ℤ). IsGreatest n f z) c.components.greatest-is c.components.invariant in
    elim c.if-here-greatest.branch [
      | then-here-greatest w ↦
          let above = simp (to_z-of_z, c.components.greatest-is) at w.if-here-greatest.true in
          let next : IsGreatest (n + 1) f c.minus-here.result = IsGreatest_takes n f c.components.greatest c.minus-here.result so_far (sym is) (omega (arith, ints, above)) in
          simp (w.greatest-is, to_z-of_z) next
      | else-here-greatest w ↦
          let above = simp (to_z-of_z, c.components.greatest-is) at w.if-here-greatest.false in
          let next : IsGreatest (n + 1) f c.components.greatest = IsGreatest_keeps n f c.components.greatest so_far (rw (← is) (omega (arith, ints, above))) in
          simp (w.greatest-is, c.components.greatest-is, to_z-of_z) next
    ]
