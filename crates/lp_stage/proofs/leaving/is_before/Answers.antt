use Rattle.std.proofs.Common.{◌≡◌, ℕ, ◌<◌, rules, arith, slice_index_or, length, SFits, ℤ, pos, ◌*ℤ◌, ◌-ℤ◌, ◌<ℤ◌, inl, sym}
use Rattle.std.specs.Int.{w128}
use Rattle.std.proofs.lemmas.Int.{ints, to_z-of_z}
use Rattle.cal_math.specs.Whole.{*ℤ_comm}
use Rattle.cal_math.specs.Vectors.{at}
use Rattle.lp_laws.specs.Orders.{IsLexAbove}
use Rattle.lp_stage.proofs.leaving.is_before.Goals as goal

found : (size k : ℕ) (f g : ℕ → ℤ) (a b : ℤ) → k < size → ((j : ℕ) → j < k → a *ℤ g j ≡ b *ℤ f j) → (f k *ℤ b) <ℤ (g k *ℤ a) → IsLexAbove size (λ k. a *ℤ g k -ℤ b *ℤ f k)
found size k f g a b lt same less = record {
  place = k;
  within = lt;
  zeros = λ c q. omega (arith, ints, same c q);
  above = omega (arith, ints, less, *ℤ_comm a (g k), *ℤ_comm b (f k));
}

pub returns-in-Less-clause-yes : goal.returns-in-Less-clause-yes
returns-in-Less-clause-yes c =
    let fits_a = c.ranges.a in
    let fits_b = c.ranges.b in
    let fits_first : SFits w128 (slice_index_or c.args.first.now c.places.k (pos 0)) = search rules in
    let fits_second : SFits w128 (slice_index_or c.args.second.now c.places.k (pos 0)) = search rules in
    let less = simp to_z-of_z at c.in-Less.ensures in
    found (length c.args.first.now) c.places.k (at c.args.first.now) (at c.args.second.now) c.args.a c.args.b c.places-test.true (simp to_z-of_z at c.places.invariant) less

pub returns-in-Greater-clause-no : goal.returns-in-Greater-clause-no
returns-in-Greater-clause-no c =
    let fits_a = c.ranges.a in
    let fits_b = c.ranges.b in
    let fits_first : SFits w128 (slice_index_or c.args.first.now c.places.k (pos 0)) = search rules in
    let fits_second : SFits w128 (slice_index_or c.args.second.now c.places.k (pos 0)) = search rules in
    let less = simp to_z-of_z at c.in-Greater.ensures in
    let kept = simp to_z-of_z at c.places.invariant in
    inl (found (length c.args.first.now) c.places.k (at c.args.second.now) (at c.args.first.now) c.args.b c.args.a c.places-test.true (λ j lt. sym (kept j lt)) less)
