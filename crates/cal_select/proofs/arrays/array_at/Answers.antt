use Rattle.std.proofs.Common.{◌≡◌, ◌≤◌, ◌∙◌, ap, arith, List, ℕ, length, refl, take, ◌++◌, ◌∷◌, []}
use Rattle.std.proofs.lemmas.Option.{slice_get_read}
use Rattle.std.proofs.lemmas.List.{take_all}
use Rattle.cal_select.specs.Chosen.{Word}
use Rattle.cal_select.specs.Parameters.{array_at, places_of}
use Rattle.cal_select.proofs.Zipped.{array-next}
use Rattle.cal_select.proofs.arrays.array_at.Goals as goal

pub lists-preserved : goal.lists-preserved
lists-preserved c =
    let names = c.index-kept-place.result in
    let list = c.list.result.now in
    let is : c.in_ok-places_of.field-0 ≡ places_of names list = rw c.as_slice.ensures at c.in_ok-places_of.ensures in
    array-next c.args.kept.now c.args.array.now c.lists.place names list c.lists.all _
    (slice_get_read c.args.kept.now (length c.args.kept.now) c.lists.place names refl (omega arith) c.index-kept-place.is) c.list.ensures c.lists.invariant
    (c.in_ok-push.ensures.ok ∙ ap (λ (places : List ℕ). c.lists.all ++ places ∷ []) is)

pub returns : goal.returns
returns c =
    let all : length c.args.array.now ≤ c.lists.place = omega (arith, c.requires.lists, c.lists-test.false) in
    c.lists.invariant
    ∙ ap (λ (kept : List (List Word)). array_at kept (take c.lists.place c.args.array.now)) (take_all c.lists.place c.args.kept.now c.lists-test.false)
    ∙ ap (array_at c.args.kept.now) (take_all c.lists.place c.args.array.now all)
