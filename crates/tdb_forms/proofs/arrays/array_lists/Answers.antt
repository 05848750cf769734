use Rattle.std.proofs.Common.{sym, ap, ◌∙◌, map, [], ◌∷◌}
use Rattle.std.proofs.lemmas.List.{map-append}
use Rattle.std.specs.Option.{option_map}
use Rattle.tdb_forms.specs.Lists.{array_list}
use Rattle.tdb_forms.proofs.Loops.{each_none, each_on, each_end, each_start}
use Rattle.tdb_forms.proofs.arrays.array_lists.Goals as goal

pub parts-init : goal.parts-init
parts-init c = rw c.new-lists.ensures.items (each_start _)

pub returns-in-None : goal.returns-in-None
returns-in-None c = each_none array_list (λ w. w.now) c.args.parts.now c.parts.i _ (map (λ list. list.items) c.parts.lists.items) _ c.parts-test.true (sym c.in_ok-found.ensures ∙ ap (option_map (λ list. list.items)) c.in-None.is) c.parts.invariant

pub parts-preserved : goal.parts-preserved
parts-preserved c =
    rw (c.in_ok-push-in-Some.ensures.items, map-append (λ list. list.items) c.parts.lists.items (c.in-Some.list ∷ []))
    (each_on array_list (λ w. w.now) c.args.parts.now c.parts.i _ (map (λ list. list.items) c.parts.lists.items) c.in-Some.list.items _ c.parts-test.true (sym c.in_ok-found.ensures ∙ ap (option_map (λ list. list.items)) c.in-Some.is) c.parts.invariant)

pub returns : goal.returns
returns c = each_end array_list (λ w. w.now) c.args.parts.now c.parts.i (map (λ list. list.items) c.parts.lists.items) _ c.parts-test.false c.parts.invariant
