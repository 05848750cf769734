use Rattle.std.proofs.Common.{rules, arith, ◌≡◌, ℕ, suc, ◌+◌, ◌*◌, ◌^◌, ◌<◌, ◌≤◌, ◌+ℤ◌, ◌*ℤ◌, length, pos, slice_index, slice_index_or, unsigned_abs, to_z, of_z, ap, sym, subst, ◌∙◌}
use Rattle.std.specs.Int.{w128}
use Rattle.std.specs.List.{AllByRecursion}
use Rattle.cef_minor.specs.Kept.{IsFrame}
use Rattle.cef_minor.specs.Slopes.{rise_of, site_slope, slope_of, slopes_behind, share}
use Rattle.cef_minor.proofs.Steps.{fewer_room}
use Rattle.cef_minor.proofs.Rooms.{next_small, next_room, weight_room, share_size, later_room, places_step, rise_step}
use Rattle.cef_minor.proofs.places.+raise_behind.Goals as goal

pub product_in-requires-clause-room : goal.product_in-requires-clause-room
product_in-requires-clause-room t c =
    let power = rw c.in-Some.ensures.cases.0 at c.requires.power in
    fewer_room c.args.frame.parts (length c.in-Some.later.now) (2 ^ 100) c.requires.frame.some power

pub overflow_mul-next : goal.overflow_mul-next
overflow_mul-next t c =
    let small = rw c.in-Some.ensures.cases.0 at c.requires.small in
    let count : c.from-in-Some.result ≤ c.args.frame.parts = rw c.from-in-Some.ensures (c.requires.earlier_small c.from.result) in
    let next : c.args.before * c.from-in-Some.result ≤ 2 ^ 70 = next_small c.args.frame.parts c.args.before c.from-in-Some.result (length c.in-Some.later.now) (2 ^ 70) c.requires.frame.some count small in
    omega (arith, next)

pub raise_behind-rest-requires : goal.raise_behind-rest-requires
raise_behind-rest-requires t c =
    let size : ℕ = length c.in-Some.later.now in
    let within = rw c.in-Some.ensures.cases.0 at c.requires.within in
    let power = rw c.in-Some.ensures.cases.0 at c.requires.power in
    let small = rw c.in-Some.ensures.cases.0 at c.requires.small in
    let weight = rw c.in-Some.ensures.cases.0 at c.requires.weight in
    let few = rw c.in-Some.ensures.cases.0 at c.requires.few in
    let weight_is : to_z w128 (of_z w128 c.args.weight) ≡ c.args.weight = search rules in
    let slope_is : to_z w128 (of_z w128 c.slope_from-slope.result) ≡ c.slope_from-slope.result = search rules in
    let count : c.from-in-Some.result ≤ c.args.frame.parts = rw c.from-in-Some.ensures (c.requires.earlier_small c.from.result) in
    let next : c.args.before * c.from-in-Some.result * c.args.frame.parts ^ size ≤ c.args.before * c.args.frame.parts ^ suc size = next_room c.args.frame.parts c.args.before c.from-in-Some.result size count in
    let inside : AllByRecursion (λ s. s < length c.raise.new.slopes) c.in-Some.later.now =
    subst (λ (k : ℕ). AllByRecursion (λ s. s < k) c.in-Some.later.now) (sym c.raise.auto.slopes) within.1 in
    let frame : IsFrame c.args.frame (length c.raise.new.slopes) = subst (λ (k : ℕ). IsFrame c.args.frame k) (sym c.raise.auto.slopes) c.requires.frame in
    let long : length c.args.earlier.now ≡ length c.raise.new.slopes = c.requires.earlier_length ∙ sym c.raise.auto.slopes in
    let raised : (i : ℕ) → slice_index_or c.raise.new.slopes i (pos 0) ≡ slice_index_or c.args.slopes.now i (pos 0) +ℤ share c.in-Some.site.now c.slope_from-slope.result i = λ i.
    c.raise.ensures i ∙ ap (λ s. slice_index_or c.args.slopes.now i (pos 0) +ℤ share c.in-Some.site.now s i) slope_is in
    let room : (i : ℕ) → unsigned_abs (slice_index_or c.raise.new.slopes i (pos 0)) + size * 2 ^ 72 ≤ 2 ^ 125 = λ i.
    let before = rw c.in-Some.ensures.cases.0 at (c.requires.room i) in
    later_room (slice_index_or c.args.slopes.now i (pos 0)) (slice_index_or c.raise.new.slopes i (pos 0)) (share c.in-Some.site.now c.slope_from-slope.result i) size (raised i) (share_size c.in-Some.site.now i c.slope_from-slope.result (2 ^ 72) c.slope_from-slope.ensures.size) before in
    (search rules, (frame, (long, (c.requires.earlier_small, (inside, (omega (arith, few), (fewer_room c.args.frame.parts size (2 ^ 100) c.requires.frame.some power, (omega (arith, next, small), (rw weight_is (weight_room (unsigned_abs c.args.weight) _ _ _ next weight), room)))))))))

pub returns-in-Some-clause-exact : goal.returns-in-Some-clause-exact
returns-in-Some-clause-exact t c =
    let weight_is : to_z w128 (of_z w128 c.args.weight) ≡ c.args.weight = search rules in
    let slope_is : to_z w128 (of_z w128 c.slope_from-slope.result) ≡ c.slope_from-slope.result = search rules in
    let raised : (i : ℕ) → slice_index_or c.raise.new.slopes i (pos 0) ≡ slice_index_or c.args.slopes.now i (pos 0) +ℤ share c.in-Some.site.now c.slope_from-slope.result i = λ i.
    c.raise.ensures i ∙ ap (λ s. slice_index_or c.args.slopes.now i (pos 0) +ℤ share c.in-Some.site.now s i) slope_is in
    let next : (i : ℕ) → slice_index_or c.raise_behind-rest.new.slopes i (pos 0) ≡ slice_index_or c.raise.new.slopes i (pos 0) +ℤ site_slope (slopes_behind (slope_of (to_z w128 (of_z w128 c.args.weight)) c.args.frame.den) (λ s. slice_index c.args.earlier.now s) (λ s. slice_index c.args.frame.low.now s) (c.args.before * c.from-in-Some.result) c.in-Some.later.now) i = c.raise_behind-rest.ensures.exact in
    let count : c.from-in-Some.result ≡ slice_index c.args.earlier.now c.in-Some.site.now = c.from-in-Some.ensures ∙ ap (λ k. slice_index c.args.earlier.now k) c.from.ensures in
    λ i.
    places_step c.args.weight (to_z w128 (of_z w128 c.args.weight)) c.args.frame.den (λ s. slice_index c.args.earlier.now s) (λ s. slice_index c.args.frame.low.now s) c.args.before c.in-Some.site.now c.product_in.result c.from-in-Some.result c.args.sites.now c.in-Some.later.now c.slope_from-slope.result (slice_index_or c.args.slopes.now i (pos 0)) (slice_index_or c.raise.new.slopes i (pos 0)) (slice_index_or c.raise_behind-rest.new.slopes i (pos 0)) i weight_is c.in-Some.ensures.cases.0 c.product_in.ensures.exact c.slope_from-slope.ensures.exact count (raised i) (next i)

pub returns-in-Some-clause-lows : goal.returns-in-Some-clause-lows
returns-in-Some-clause-lows t c =
    let weight_is : to_z w128 (of_z w128 c.args.weight) ≡ c.args.weight = search rules in
    let slope_is : to_z w128 (of_z w128 c.slope_from-slope.result) ≡ c.slope_from-slope.result = search rules in
    let rest_is : to_z w128 (of_z w128 c.raise_behind-rest.result) ≡ c.raise_behind-rest.result = search rules in
    let out_is : to_z w128 (of_z w128 c.with_part.result) ≡ c.with_part.result = search rules in
    let part : c.with_part.result ≡ c.slope_from-slope.result *ℤ pos (slice_index c.args.frame.low.now c.from-in-Some-2.result) +ℤ c.raise_behind-rest.result =
    c.with_part.ensures.exact ∙ ap (λ x. x *ℤ pos (slice_index c.args.frame.low.now c.from-in-Some-2.result) +ℤ to_z w128 (of_z w128 c.raise_behind-rest.result)) slope_is ∙ ap (λ x. c.slope_from-slope.result *ℤ pos (slice_index c.args.frame.low.now c.from-in-Some-2.result) +ℤ x) rest_is in
    let here : slice_index c.args.frame.low.now c.from-in-Some-2.result ≡ slice_index c.args.frame.low.now c.in-Some.site.now = ap (λ k. slice_index c.args.frame.low.now k) c.from-in-Some-2.ensures in
    let count : c.from-in-Some.result ≡ slice_index c.args.earlier.now c.in-Some.site.now = c.from-in-Some.ensures ∙ ap (λ k. slice_index c.args.earlier.now k) c.from.ensures in
    let lows : c.raise_behind-rest.result ≡ rise_of (λ s. pos (slice_index c.args.frame.low.now s)) (slopes_behind (slope_of (to_z w128 (of_z w128 c.args.weight)) c.args.frame.den) (λ s. slice_index c.args.earlier.now s) (λ s. slice_index c.args.frame.low.now s) (c.args.before * c.from-in-Some.result) c.in-Some.later.now) = c.raise_behind-rest.ensures.lows in
    out_is
    ∙ rise_step c.args.weight (to_z w128 (of_z w128 c.args.weight)) c.args.frame.den (λ s. slice_index c.args.earlier.now s) (λ s. slice_index c.args.frame.low.now s) c.args.before c.in-Some.site.now c.product_in.result c.from-in-Some.result (slice_index c.args.frame.low.now c.from-in-Some-2.result) c.args.sites.now c.in-Some.later.now c.slope_from-slope.result c.raise_behind-rest.result c.with_part.result weight_is c.in-Some.ensures.cases.0 c.product_in.ensures.exact c.slope_from-slope.ensures.exact count here lows part

pub returns-in-Some-clause-size : goal.returns-in-Some-clause-size
returns-in-Some-clause-size t c =
    let out_is : to_z w128 (of_z w128 c.with_part.result) ≡ c.with_part.result = search rules in
    let rest_is : to_z w128 (of_z w128 c.raise_behind-rest.result) ≡ c.raise_behind-rest.result = search rules in
    let rest : unsigned_abs c.raise_behind-rest.result ≤ length c.in-Some.later.now * 2 ^ 88 = c.raise_behind-rest.ensures.size in
    let part : unsigned_abs c.with_part.result ≤ unsigned_abs (to_z w128 (of_z w128 c.raise_behind-rest.result)) + 2 ^ 88 = c.with_part.ensures.size in
    let part' = rw rest_is at part in
    let long : length c.args.sites.now ≡ length c.in-Some.later.now + 1 = omega (arith, c.in-Some.ensures.cases.1) in
    rw out_is (omega (arith, rest, part', long))
