use Rattle.std.proofs.Common.{◌≡◌, ◌≤◌, ◌+◌, ◌-◌, length, take, drop, Some, slice_index, arith, ap, sym, ◌∙◌, ℕ}
use Rattle.std.proofs.lemmas.List.{length-take-le, drop-take}
use Rattle.cef_core.specs.Sublattices.{start_at}
use Rattle.cef_core.proofs.Parts.{part_is}
use Rattle.cef_core.proofs.site.part_at.Goals as goal

pub split_at-requires : goal.split_at-requires
split_at-requires c =
    let part = part_is 0 c.args.ends.now c.args.counts.now (length c.args.counts.now) c.args.place (omega arith) c.requires.ends c.requires.place in
    omega (arith, part.within)

pub split_at-requires-2 : goal.split_at-requires-2
split_at-requires-2 c =
    let part = part_is 0 c.args.ends.now c.args.counts.now (length c.args.counts.now) c.args.place (omega arith) c.requires.ends c.requires.place in
    let front : length c.split_at.result.0.now ≡ c.from.result = ap length c.split_at.ensures.front ∙ length-take-le c.from.result c.args.counts.now (omega (arith, part.within)) in
    omega (arith, part.rises, front)

pub returns : goal.returns
returns c =
    let start : ℕ = start_at 0 c.args.ends.now c.args.place in
    let end : ℕ = slice_index c.args.ends.now c.args.place in
    let part = part_is 0 c.args.ends.now c.args.counts.now (length c.args.counts.now) c.args.place (omega arith) c.requires.ends c.requires.place in
    let rises : start ≤ end = part.rises in
    let whole : start + (end - start) ≡ end = omega arith in
    let middle : drop start (take end c.args.counts.now) ≡ take (end - start) (drop start c.args.counts.now) =
    ap (λ (k : ℕ). drop start (take k c.args.counts.now)) (sym whole) ∙ drop-take start (end - start) c.args.counts.now in
    let result_is : c.split_at-2.result.1.now ≡ drop start (take end c.args.counts.now) =
    c.split_at-2.ensures.back ∙ ap (λ (k : ℕ). drop k c.split_at.result.0.now) c.start_of.ensures ∙ ap (drop start) (c.split_at.ensures.front ∙ ap (λ (k : ℕ). take k c.args.counts.now) c.from.ensures) in
    let none : start - 0 ≡ start = omega arith in
    part.is ∙ ap (λ (k : ℕ). Some (take (end - start) (drop k c.args.counts.now))) none ∙ ap Some (sym (result_is ∙ middle))
