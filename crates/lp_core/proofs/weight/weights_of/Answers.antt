use Rattle.std.proofs.Common.{◌≡◌, ℕ, suc, ◌+◌, get_or, refl, arith, rules, SFits, ap, sym, ◌∙◌}
use Rattle.std.specs.Prelude.{ℤ, pos, ◌*ℤ◌, Option, Some, None}
use Rattle.std.specs.Int.{w128}
use Rattle.std.proofs.lemmas.Int.{ints, to_z-of_z}
use Rattle.lp_core.specs.Weights.{weight_at, value_of}
use Rattle.lp_core.proofs.Weighing.{weight_read, weights_same, weights_more}
use Rattle.lp_core.proofs.weight.weights_of.Goals as goal
use Rattle.lp_core.proofs.weight.weights_of.Goals.{in-Some+then-weight-gt0+in_ok-push, in-Some+else-weight-gt0, in_default}

pub weight_of-weight-requires-clause-small : goal.weight_of-weight-requires-clause-small
weight_of-weight-requires-clause-small c =
    omega (arith, weight_read c.args.fractions.now c.args.parts c.places.j (record { numerator = 0; denominator = 0 }) (omega (arith, c.places-test.true, c.requires.sized)), c.requires.small c.places.j (omega (arith, c.places-test.true, c.requires.sized)))

no_column : (p : Option ℕ) (n : ℕ) (f : ℕ → ℤ) → ((k : ℕ) → p ≡ Some k → ⊥) → pos n *ℤ value_of f p ≡ pos 0
no_column None n f not = omega (arith, ints)
no_column (Some k) n f not = absurd (not k refl)

no_weight : (n : ℕ) (z : ℤ) → n ≡ 0 → pos n *ℤ z ≡ pos 0
no_weight n z e = ap (λ (k : ℕ). pos k *ℤ z) e ∙ omega (arith, ints)

pub places-preserved : goal.places-preserved
places-preserved c =
    let one : c.places.j + 1 ≡ suc c.places.j = omega arith in
    let read = weight_read c.args.fractions.now c.args.parts c.places.j (record { numerator = 0; denominator = 0 }) (omega (arith, c.places-test.true, c.requires.sized)) in
    elim c.match-places-j.branch [
      | in-Some+then-weight-gt0+in_ok-push w ↦
          let fits : SFits w128 w.weight_of-weight.result = search rules in
          let items = simp to_z-of_z at w.in_ok-push.ensures.items in
          let above = simp to_z-of_z at w.if-weight-gt0.true in
          rw (one, w.weights-is, items)
          (weights_more c.args.places.now c.args.fractions.now c.args.parts c.places.j c.places.weights.items (w.in-Some.k, w.weight_of-weight.result) c.requires c.places-test.true w.in-Some.is
          (w.weight_of-weight.ensures ∙ ap pos (sym read)) (omega (arith, ints, above)) c.places.invariant)
      | in-Some+else-weight-gt0 w ↦
          let fits : SFits w128 w.weight_of-weight.result = search rules in
          let above = simp to_z-of_z at w.if-weight-gt0.false in
          let none : weight_at c.args.fractions.now c.args.parts c.places.j ≡ 0 = omega (arith, ints, above, read, w.weight_of-weight.ensures) in
          rw (one, w.weights-is) (weights_same c.args.places.now c.args.fractions.now c.args.parts c.places.j c.places.weights.items (λ f. no_weight (weight_at c.args.fractions.now c.args.parts c.places.j) (value_of f (get_or c.args.places.now c.places.j None)) none) c.places.invariant)
      | in_default w ↦
          rw (one, w.weights-is) (weights_same c.args.places.now c.args.fractions.now c.args.parts c.places.j c.places.weights.items (λ f. no_column (get_or c.args.places.now c.places.j None) (weight_at c.args.fractions.now c.args.parts c.places.j) f w.in_default.not-Some) c.places.invariant)
    ]
