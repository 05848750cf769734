use Rattle.std.proofs.Common.{◌≡◌, ℕ, ◌<◌, ◌^◌, ◌*◌, suc, arith, rules, length, List, SFits, ℤ, ◌∙◌, sym, ap}
use Rattle.std.specs.Int.{w128}
use Rattle.std.proofs.lemmas.Int.{to_z-of_z}
use Rattle.lp_basis.proofs.Held.{fits_product}
use Rattle.lp_basis.proofs.Placed.{row_read, place_mixed, place_copy, place_own, place_keeps, IsPlaced-there}
use Rattle.cal_math.specs.Vectors.{at, dot}
use Rattle.lp_basis.specs.Held.{numbers_at}
use Rattle.lp_basis.proofs.basis.placed.Goals as goal

pub mixed-requires-clause-fits : goal.mixed-requires-clause-fits
mixed-requires-clause-fits c = (_, _, place_copy c.requires.can.0 c.requires.can.1 c.requires.can.2 c.args.rows.now c.args.i c.args.p c.args.mine.now c.args.column.now c.requires.can.3)

pub product-q-requires : goal.product-q-requires
product-q-requires c =
    let can = c.requires.can.3 in
    let read = row_read c.args.rows.now c.args.j c.index-rows-j.result c.requires.within c.index-rows-j.is in
    let row_is : numbers_at c.args.rows.now c.args.j ≡ c.deref.result.now = read.0 ∙ sym c.deref.ensures.value in
    let within : c.args.j < suc c.requires.can.0 = omega (arith, c.requires.within, can.can.held.count) in
    let fits = fits_product c.requires.can.0 c.requires.can.1 c.requires.can.2 c.args.rows.now c.args.i c.args.column.now can.can c.args.j within in
    (_, _, rw row_is at fits)

pub next_row-requires-clause-sized : goal.next_row-requires-clause-sized
next_row-requires-clause-sized c =
    let can = c.requires.can.3 in
    let read = row_read c.args.rows.now c.args.j c.index-rows-j.result c.requires.within c.index-rows-j.is in
    let within : c.args.j < suc c.requires.can.0 = omega (arith, c.requires.within, can.can.held.count) in
    ap length (c.deref-else-j-i.ensures.value ∙ sym read.0) ∙ can.can.held.lengths c.args.j within ∙ sym can.sized

pub next_row-requires-clause-fits : goal.next_row-requires-clause-fits
next_row-requires-clause-fits c =
    let can = c.requires.can.3 in
    let read = row_read c.args.rows.now c.args.j c.index-rows-j.result c.requires.within c.index-rows-j.is in
    let within : c.args.j < suc c.requires.can.0 = omega (arith, c.requires.within, can.can.held.count) in
    let row_is : c.deref.result.now ≡ numbers_at c.args.rows.now c.args.j = c.deref.ensures.value ∙ sym read.0 in
    let row_is2 : numbers_at c.args.rows.now c.args.j ≡ c.deref-else-j-i.result.now = read.0 ∙ sym c.deref-else-j-i.ensures.value in
    let q_is : dot (suc c.requires.can.0) (at (numbers_at c.args.rows.now c.args.j)) (at c.args.column.now) ≡ c.product-q.result =
    sym (c.product-q.ensures ∙ ap (λ (xs : List ℤ). dot (length xs) (at xs) (at c.args.column.now)) row_is ∙ ap (λ (k : ℕ). dot k (at (numbers_at c.args.rows.now c.args.j)) (at c.args.column.now)) (can.can.held.lengths c.args.j within)) in
    let fits_p = c.ranges.p in
    let fits_q : SFits w128 c.product-q.result = search rules in
    let fits = place_mixed c.requires.can.0 c.requires.can.1 c.requires.can.2 c.args.rows.now c.args.i c.args.p c.args.mine.now c.args.column.now can c.args.j within in
    (c.requires.can.1 ^ c.requires.can.0, c.requires.can.1 ^ c.requires.can.0 * c.requires.can.1, simp to_z-of_z (rw (q_is, row_is2) at fits))

pub next_row-requires-clause-own_fits : goal.next_row-requires-clause-own_fits
next_row-requires-clause-own_fits c =
    let can = c.requires.can.3 in
    let read = row_read c.args.rows.now c.args.j c.index-rows-j.result c.requires.within c.index-rows-j.is in
    let within : c.args.j < suc c.requires.can.0 = omega (arith, c.requires.within, can.can.held.count) in
    let fits_p = c.ranges.p in
    let fits_own : SFits w128 c.index-rows-j.result.own = search rules in
    let fits = place_own c.requires.can.0 c.requires.can.1 c.requires.can.2 c.args.rows.now c.args.i c.args.p c.args.mine.now c.args.column.now can c.args.j within in
    simp to_z-of_z (rw read.1 at fits)

pub next_row-requires-clause-keeps : goal.next_row-requires-clause-keeps
next_row-requires-clause-keeps c =
    let can = c.requires.can.3 in
    let read = row_read c.args.rows.now c.args.j c.index-rows-j.result c.requires.within c.index-rows-j.is in
    let row_is2 : numbers_at c.args.rows.now c.args.j ≡ c.deref-else-j-i.result.now = read.0 ∙ sym c.deref-else-j-i.ensures.value in
    let within : c.args.j < suc c.requires.can.0 = omega (arith, c.requires.within, can.can.held.count) in
    let fits_p = c.ranges.p in
    let fits_own : SFits w128 c.index-rows-j.result.own = search rules in
    let keeps = place_keeps c.requires.can.0 c.requires.can.1 c.requires.can.2 c.args.rows.now c.args.i c.args.p c.args.mine.now c.args.column.now can c.args.j within c.if-j-i.false in
    simp to_z-of_z (rw (row_is2, read.1) at keeps)

pub returns-in_ok-next : goal.returns-in_ok-next
returns-in_ok-next c =
    let can = c.requires.can.3 in
    let read = row_read c.args.rows.now c.args.j c.index-rows-j.result c.requires.within c.index-rows-j.is in
    let within : c.args.j < suc c.requires.can.0 = omega (arith, c.requires.within, can.can.held.count) in
    let row_is : c.deref.result.now ≡ numbers_at c.args.rows.now c.args.j = c.deref.ensures.value ∙ sym read.0 in
    let row_is2 : c.deref-else-j-i.result.now ≡ numbers_at c.args.rows.now c.args.j = c.deref-else-j-i.ensures.value ∙ sym read.0 in
    let q_is : c.product-q.result ≡ dot (suc c.requires.can.0) (at (numbers_at c.args.rows.now c.args.j)) (at c.args.column.now) =
    c.product-q.ensures ∙ ap (λ (xs : List ℤ). dot (length xs) (at xs) (at c.args.column.now)) row_is ∙ ap (λ (k : ℕ). dot k (at (numbers_at c.args.rows.now c.args.j)) (at c.args.column.now)) (can.can.held.lengths c.args.j within) in
    let fits_p = c.ranges.p in
    let fits_q : SFits w128 c.product-q.result = search rules in
    let fits_own : SFits w128 c.index-rows-j.result.own = search rules in
    let first = simp to_z-of_z at c.in_ok-next.ensures.exact in
    let is = rw (row_is2, q_is, ← read.1) at first in
    let same = ap length row_is2 ∙ can.can.held.lengths c.args.j within in
    IsPlaced-there c.requires.can.0 c.requires.can.1 c.requires.can.2 c.args.rows.now c.args.i c.args.p c.args.mine.now c.args.column.now can c.args.j within c.if-j-i.false c.in_ok-next.next
    (c.in_ok-next.ensures.sized ∙ same) is
