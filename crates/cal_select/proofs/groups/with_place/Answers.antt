use Rattle.std.proofs.Common.{◌≡◌, ◌∙◌, ◌++◌, ◌∷◌, [], ℕ, List, Option, Some, ap, sym}
use Rattle.std.specs.Map.{lookup}
use Rattle.std.specs.Option.{option_copied_mut, unwrap_or}
use Rattle.indexmap.specs.IndexMap.{insert_entry}
use Rattle.cal_scan.specs.Names.{same_name}
use Rattle.cal_select.specs.Measures.{places_in}
use Rattle.tdb_read.proofs.Entries.{set_value-insert}
use Rattle.cal_select.proofs.groups.with_place.Goals as goal

pub returns-in-Some : goal.returns-in-Some
returns-in-Some c =
    let phase = c.args.phase.now in
    let groups = c.args.groups.entries in
    let read : Some c.in-Some.places.now ≡ lookup (same_name phase) groups = ap option_copied_mut (sym c.in-Some.is) ∙ c.get_mut.ensures.value in
    let before : c.in-Some.places.now ≡ places_in groups phase = ap (λ (o : Option (List ℕ)). unwrap_or o []) read in
    let after : c.push.new.self ≡ places_in groups phase ++ c.args.place ∷ [] = c.in_ok-push.ensures.ok ∙ ap (λ (places : List ℕ). places ++ c.args.place ∷ []) before in
    (c.get_mut.follows.holds c.push.new.self).0
    ∙ (set_value-insert phase groups c.in-Some.places.now c.push.new.self (sym read) ∙ ap (λ (places : List ℕ). insert_entry same_name groups phase places) after)
