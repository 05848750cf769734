use Rattle.std.proofs.Common.{◌∙◌, ap, ◌++◌, ◌∷◌, [], List, None}
use Rattle.std.specs.Prelude.{Option, ℕ}
use Rattle.std.proofs.lemmas.List.{replicate_more}
use Rattle.lp_core.proofs.first.places_of_units.Goals as goal

pub places-preserved : goal.places-preserved
places-preserved c = c.in_ok-push.ensures.items ∙ ap (λ (xs : List (Option ℕ)). xs ++ None ∷ []) c.places.invariant ∙ replicate_more c.places._j None
