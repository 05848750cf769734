use Rattle.std.proofs.Common.{◌≡◌, ℕ, suc, ◌+◌, ◌<◌, refl, arith, ap, sym, ◌∙◌, subst, rules, SFits, slice_index_or}
use Rattle.std.specs.Prelude.{ℤ, pos, unsigned_abs, ◌≤ℤ◌}
use Rattle.std.specs.Int.{w128}
use Rattle.std.proofs.lemmas.Int.{ints, to_z-of_z}
use Rattle.cal_math.specs.Vectors.{at}
use Rattle.lp_basis.specs.Held.{own_at}
use Rattle.lp_basis.specs.Potentials.{IsPotentials}
use Rattle.lp_basis.proofs.Placed.{row_read}
use Rattle.lp_basis.proofs.Pricing.{front, fits_sum, potentials_more, no_potentials, all_potentials}
use Rattle.lp_basis.proofs.potential.potentials_of.Goals as goal

own_read : (own : ℤ) (size : ℕ) → size ≡ unsigned_abs own → pos 1 ≤ℤ own → own ≡ pos size
own_read own size e h = omega (arith, ints, e, h)

pub places-init : goal.places-init
places-init c b w s columns can =
    no_potentials (suc b) columns (at c.args.costs.now) _ (c.in_ok-zeros.ensures.sized ∙ can.held.count) c.in_ok-zeros.ensures.every refl

pub added-requires : goal.added-requires
added-requires c =
    let can = c.requires.4 in
    let lt : c.places.j < suc c.requires.0 = omega (arith, c.places-test.true, can.held.count) in
    let read = row_read c.args.rows.now c.places.j c.index-rows-j.result c.places-test.true c.index-rows-j.is in
    let fits_cost : SFits w128 (slice_index_or c.args.costs.now c.places.j (pos 0)) = search rules in
    let fits_own : SFits w128 c.index-rows-j.result.own = search rules in
    let size : c.unsigned_abs-own.result ≡ unsigned_abs c.index-rows-j.result.own = simp to_z-of_z at c.unsigned_abs-own.ensures.value in
    let above = can.held.basis.above c.places.j lt in
    let own_is : own_at c.args.rows.now c.places.j ≡ pos c.unsigned_abs-own.result = own_read (own_at c.args.rows.now c.places.j) c.unsigned_abs-own.result (size ∙ ap unsigned_abs (sym read.1)) above in
    let fits = fits_sum c.requires.0 c.requires.1 c.requires.2 c.requires.3 c.args.rows.now c.args.costs.now c.places.j c.places.sum can lt (c.places.invariant c.requires.0 c.requires.1 c.requires.2 c.requires.3 can) in
    simp (to_z-of_z, c.deref.ensures.value, c.deref-in-places.ensures.value) (rw (read.0, own_is) at fits)

pub places-preserved : goal.places-preserved
places-preserved c b w s columns can =
    let lt : c.places.j < suc b = omega (arith, c.places-test.true, can.held.count) in
    let read = row_read c.args.rows.now c.places.j c.index-rows-j.result c.places-test.true c.index-rows-j.is in
    let fits_cost : SFits w128 (slice_index_or c.args.costs.now c.places.j (pos 0)) = search rules in
    let fits_own : SFits w128 c.index-rows-j.result.own = search rules in
    let size : c.unsigned_abs-own.result ≡ unsigned_abs c.index-rows-j.result.own = simp to_z-of_z at c.unsigned_abs-own.ensures.value in
    let above = can.held.basis.above c.places.j lt in
    let own_is : own_at c.args.rows.now c.places.j ≡ pos c.unsigned_abs-own.result = own_read (own_at c.args.rows.now c.places.j) c.unsigned_abs-own.result (size ∙ ap unsigned_abs (sym read.1)) above in
    let same = rw c.deref.ensures.value at c.in_ok-sum.ensures.sized in
    let first = simp to_z-of_z at c.in_ok-sum.ensures.summed in
    let summed = rw (c.deref.ensures.value, c.deref-in-places.ensures.value, ← read.0, ← own_is) at first in
    let one : c.places.j + 1 ≡ suc c.places.j = omega arith in
    rw one (potentials_more b w s columns c.args.rows.now c.args.costs.now c.places.j c.places.sum c.in_ok-sum.sum can lt (c.places.invariant b w s columns can) same summed)

pub returns : goal.returns
returns c b w s columns can =
    let ended : c.places.j ≡ suc b = omega (arith, c.places-test.false, c.places.auto.j-end, can.held.count) in
    all_potentials (suc b) columns (at c.args.costs.now) c.places.sum (subst (λ (k : ℕ). IsPotentials (suc b) columns (front k (at c.args.costs.now)) c.places.sum) ended (c.places.invariant b w s columns can))
