use Rattle.std.proofs.Common.{◌≡◌, ℕ, ◌<◌, ◌^◌, suc, arith, rules, length, List, SFits, ℤ, ◌∙◌, sym, ap}
use Rattle.std.specs.Int.{w128}
use Rattle.std.proofs.lemmas.Int.{to_z-of_z}
use Rattle.lp_basis.proofs.Held.{fits_product}
use Rattle.lp_basis.proofs.Lists.{each_of}
use Rattle.lp_basis.proofs.Placed.{CanPlace-from, turn_mixed, met_small, read_back, IsHeld-placed}
use Rattle.cal_math.specs.Vectors.{at, dot}
use Rattle.lp_basis.specs.Held.{numbers_at}
use Rattle.lp_basis.specs.Steps.{IsPlaced}
use Rattle.lp_basis.proofs.basis.exchange.Goals as goal

pub product-met-requires : goal.product-met-requires
product-met-requires c =
    let can = c.requires.3 in
    let lt : c.args.i < length c.args.rows.now = omega (arith, can.held.count, can.within) in
    let read = read_back c.args.rows.now c.args.i c.index-rows-i.result lt in
    let row_is : numbers_at c.args.rows.now c.args.i ≡ c.deref.result.now = read.0 ∙ sym c.deref.ensures.value in
    let fits = fits_product c.requires.0 c.requires.1 c.requires.2 c.args.rows.now c.args.i c.args.column.now can c.args.i can.within in
    (_, _, rw row_is at fits)

pub turn_of-turn-requires : goal.turn_of-turn-requires
turn_of-turn-requires c =
    let can = c.requires.3 in
    let lt : c.args.i < length c.args.rows.now = omega (arith, can.held.count, can.within) in
    let read = read_back c.args.rows.now c.args.i c.index-rows-i.result lt in
    let row_is : c.deref.result.now ≡ numbers_at c.args.rows.now c.args.i = c.deref.ensures.value ∙ sym read.0 in
    let met_is : c.product-met.result ≡ dot (suc c.requires.0) (at (numbers_at c.args.rows.now c.args.i)) (at c.args.column.now) =
    c.product-met.ensures ∙ ap (λ (xs : List ℤ). dot (length xs) (at xs) (at c.args.column.now)) row_is ∙ ap (λ (k : ℕ). dot k (at (numbers_at c.args.rows.now c.args.i)) (at c.args.column.now)) (can.held.lengths c.args.i can.within) in
    let fits : SFits w128 c.product-met.result = search rules in
    let small = met_small c.requires.0 c.requires.1 c.requires.2 c.args.rows.now c.args.i c.args.column.now can c.product-met.result met_is in
    simp to_z-of_z small

pub mixed-requires-clause-fits : goal.mixed-requires-clause-fits
mixed-requires-clause-fits c =
    let can = c.requires.3 in
    let lt : c.args.i < length c.args.rows.now = omega (arith, can.held.count, can.within) in
    let read = read_back c.args.rows.now c.args.i c.index-rows-i.result lt in
    let fits_turn : SFits w128 c.turn_of-turn.result = search rules in
    let fits = rw read.0 at (turn_mixed c.requires.0 c.requires.1 c.requires.2 c.args.rows.now c.args.i c.args.column.now can c.turn_of-turn.result c.turn_of-turn.ensures.one) in
    (c.requires.1 ^ c.requires.0, 1, simp (to_z-of_z, c.deref-2.ensures.value, c.deref-3.ensures.value) fits)

pub placed-requires-clause-can : goal.placed-requires-clause-can
placed-requires-clause-can c =
    let can = c.requires.3 in
    let lt : c.args.i < length c.args.rows.now = omega (arith, can.held.count, can.within) in
    let read = read_back c.args.rows.now c.args.i c.index-rows-i.result lt in
    let row_is : c.deref.result.now ≡ numbers_at c.args.rows.now c.args.i = c.deref.ensures.value ∙ sym read.0 in
    let row_is2 : c.deref-2.result.now ≡ numbers_at c.args.rows.now c.args.i = c.deref-2.ensures.value ∙ sym read.0 in
    let row_is3 : c.deref-3.result.now ≡ numbers_at c.args.rows.now c.args.i = c.deref-3.ensures.value ∙ sym read.0 in
    let met_is : c.product-met.result ≡ dot (suc c.requires.0) (at (numbers_at c.args.rows.now c.args.i)) (at c.args.column.now) =
    c.product-met.ensures ∙ ap (λ (xs : List ℤ). dot (length xs) (at xs) (at c.args.column.now)) row_is ∙ ap (λ (k : ℕ). dot k (at (numbers_at c.args.rows.now c.args.i)) (at c.args.column.now)) (can.held.lengths c.args.i can.within) in
    let fits_met : SFits w128 c.product-met.result = search rules in
    let fits_turn : SFits w128 c.turn_of-turn.result = search rules in
    let fits_p : SFits w128 c.times-p.result = search rules in
    let size = simp to_z-of_z at c.turn_of-turn.ensures.size in
    let p_is = simp to_z-of_z at c.times-p.ensures in
    let long = can.held.lengths c.args.i can.within in
    let same = c.in_ok-mine.ensures.sized ∙ ap length row_is2 ∙ long in
    let is = rw (row_is2, row_is3, long) at (simp to_z-of_z at c.in_ok-mine.ensures.exact) in
    let place = CanPlace-from c.requires.0 c.requires.1 c.requires.2 c.args.rows.now c.args.i c.args.column.now can c.turn_of-turn.result c.product-met.result c.times-p.result c.in_ok-mine.mine.items
    c.turn_of-turn.ensures.one size met_is p_is same is in
    (c.requires.0, c.requires.1, c.requires.2, simp (to_z-of_z, c.deref-in-exchange.ensures.value) place)

pub exchange-preserved : goal.exchange-preserved
exchange-preserved c =
    let fits_p : SFits w128 c.times-p.result = search rules in
    let was = simp to_z-of_z at c.exchange.invariant.placed in
    let here = simp (to_z-of_z, c.deref-in-exchange.ensures.value) at c.in_ok-one.ensures in
    record {
      sized = search rules;
      placed = simp to_z-of_z (each_of (λ k r. IsPlaced c.args.i k (length c.args.column.now) c.times-p.result c.in_ok-mine.mine.items c.args.column.now c.args.rows.now r)
          c.exchange.next.items c.push.new.self.items c.in_ok-one.one c.exchange.j c.exchange.invariant.sized c.in_ok-push.ensures.items was here);
    }

pub returns : goal.returns
returns c b w columns columns' can is_put =
    let lt : c.args.i < length c.args.rows.now = omega (arith, can.held.count, can.within) in
    let read = read_back c.args.rows.now c.args.i c.index-rows-i.result lt in
    let row_is : c.deref.result.now ≡ numbers_at c.args.rows.now c.args.i = c.deref.ensures.value ∙ sym read.0 in
    let row_is2 : c.deref-2.result.now ≡ numbers_at c.args.rows.now c.args.i = c.deref-2.ensures.value ∙ sym read.0 in
    let row_is3 : c.deref-3.result.now ≡ numbers_at c.args.rows.now c.args.i = c.deref-3.ensures.value ∙ sym read.0 in
    let long = can.held.lengths c.args.i can.within in
    let met_is : c.product-met.result ≡ dot (suc b) (at (numbers_at c.args.rows.now c.args.i)) (at c.args.column.now) =
    c.product-met.ensures ∙ ap (λ (xs : List ℤ). dot (length xs) (at xs) (at c.args.column.now)) row_is ∙ ap (λ (k : ℕ). dot k (at (numbers_at c.args.rows.now c.args.i)) (at c.args.column.now)) long in
    let fits_met : SFits w128 c.product-met.result = search rules in
    let fits_turn : SFits w128 c.turn_of-turn.result = search rules in
    let fits_p : SFits w128 c.times-p.result = search rules in
    let size = simp to_z-of_z at c.turn_of-turn.ensures.size in
    let p_is = simp to_z-of_z at c.times-p.ensures in
    let same = c.in_ok-mine.ensures.sized ∙ ap length row_is2 ∙ long in
    let is = rw (row_is2, row_is3, long) at (simp to_z-of_z at c.in_ok-mine.ensures.exact) in
    let place = CanPlace-from b w columns c.args.rows.now c.args.i c.args.column.now can c.turn_of-turn.result c.product-met.result c.times-p.result c.in_ok-mine.mine.items
    c.turn_of-turn.ensures.one size met_is p_is same is in
    let all = simp to_z-of_z at c.exchange.invariant.placed in
    let ended : c.exchange.j ≡ suc b = omega (arith, c.exchange-test.false, c.exchange.auto.j-end, can.held.count) in
    IsHeld-placed b w columns columns' c.args.rows.now c.args.i c.args.column.now c.times-p.result c.in_ok-mine.mine.items c.exchange.next.items c.index-rows-i.result place is_put (c.exchange.invariant.sized ∙ ended) (λ k d less. all k d (omega (arith, ended)))
