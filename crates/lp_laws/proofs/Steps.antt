-- A step from one basis to the next: the rows' lists and the costs.
use Rattle.std.proofs.Common.{◌≡◌, ℕ, ◌<◌, ◌≢◌, refl, arith, ap, sym, subst, ◌∙◌}
use Rattle.std.specs.Prelude.{ℤ, pos, ◌-ℤ◌, ◌*ℤ◌, ◌≤ℤ◌, ◌<ℤ◌}
use Rattle.std.proofs.lemmas.Int.{ints}
use Rattle.cal_math.specs.Whole.{*ℤ--ℤ, *ℤ_left}
use Rattle.cal_math.specs.Vectors.{dot}
use Rattle.cal_math.proofs.Products.{one-le-*ℤ}
use Rattle.cal_math.proofs.Vectors.{dot_same, dot_scaled}
use Rattle.lp_laws.proofs.Falling.{lists_above, prices_fall}
use Rattle.lp_laws.specs.Orders.{IsLexAbove}
use Rattle.lp_laws.specs.Descents.{ListsStayAbove, CostsFall}

pub lists_stay : ListsStayAbove
lists_stay n m i columns rows own columns' rows' own' basis basis' step some size starts above first =
    lists_above n m i columns rows own columns' rows' own' (columns' i) basis basis' step.within (λ c lt. refl) step.stays some size starts above first

same_list : (size : ℕ) (f g : ℕ → ℤ) → ((k : ℕ) → f k ≡ g k) → IsLexAbove size f → IsLexAbove size g
same_list size f g h v = record { place = v.place; within = v.within; zeros = λ c q. sym (h c) ∙ v.zeros c q; above = subst (λ (z : ℤ). pos 1 ≤ℤ z) (h v.place) v.above }

pub costs_fall_at : CostsFall
costs_fall_at n m i columns columns' rows' own' costs costs' numbers numbers' d d' basis' step same_costs priced priced' cheap size starts above =
    same_list size (λ k. dot n old (starts k) -ℤ dot n new (starts k)) (λ k. pos d' *ℤ dot n numbers (starts k) -ℤ pos d *ℤ dot n numbers' (starts k)) (λ k. omega (arith, ints, old_is (starts k), new_is (starts k)))
    (prices_fall n m columns' rows' own' basis' old new i step.within same lower size starts above)
  where
    old : ℕ → ℤ
    old c = pos d' *ℤ numbers c

    new : ℕ → ℤ
    new c = pos d *ℤ numbers' c

    old_is : (x : ℕ → ℤ) → dot n old x ≡ pos d' *ℤ dot n numbers x
    old_is x = dot_scaled n (pos d') numbers old x (λ c less. refl)

    new_is : (x : ℕ → ℤ) → dot n new x ≡ pos d *ℤ dot n numbers' x
    new_is x = dot_scaled n (pos d) numbers' new x (λ c less. refl)

    new_at : (j : ℕ) → j < m → dot n new (columns' j) ≡ pos d' *ℤ (pos d *ℤ costs' j)
    new_at j q = new_is (columns' j) ∙ ap (λ (z : ℤ). pos d *ℤ z) (priced'.meets j q) ∙ *ℤ_left (pos d) (pos d') (costs' j)

    same : (j : ℕ) → j < m → j ≢ i → dot n new (columns' j) ≡ dot n old (columns' j)
    same j q ne =
        new_at j q ∙ ap (λ (z : ℤ). pos d' *ℤ (pos d *ℤ z)) (same_costs j q ne) ∙ ap (λ (z : ℤ). pos d' *ℤ z) (sym (priced.meets j q)) ∙ sym (old_is (columns j))
        ∙ dot_same n old (columns j) old (columns' j) (λ c r. refl) (λ c r. sym (step.stays j q ne c r))

    lower : dot n new (columns' i) <ℤ dot n old (columns' i)
    lower =
        let gap : pos 1 ≤ℤ (dot n numbers (columns' i) -ℤ pos d *ℤ costs' i) = omega (arith, ints, cheap) in
        omega (
          arith,
          ints,
          new_at i step.within,
          old_is (columns' i),
          *ℤ--ℤ (pos d') (dot n numbers (columns' i)) (pos d *ℤ costs' i),
          one-le-*ℤ (pos d') (dot n numbers (columns' i) -ℤ pos d *ℤ costs' i) (omega (arith, ints, priced'.positive)) gap,
        )
