use Rattle.std.proofs.Common.{◌∙◌, refl}
use Rattle.std.proofs.lemmas.List.{length-map}
use Rattle.std.specs.Hash as fed
use Rattle.tdb_forms.proofs.Lists.{flat_map-map}
use Rattle.tdb_forms.proofs.arrays.ArrayHash.hash.Goals as goal

pub returns : goal.returns
returns g c =
    rw (← c.self.view_is) (c.hash.ensures ∙ rw (c.as_slice.ensures.value, length-map c.self.inside.lists.items (λ list. list.items), ← flat_map-map (fed.slice (fed.slice fed.u8)) (λ list. list.items) c.self.inside.lists.items) refl)
