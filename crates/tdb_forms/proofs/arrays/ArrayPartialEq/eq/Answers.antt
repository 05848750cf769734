use Rattle.std.proofs.Common.{◌∙◌}
use Rattle.std.specs.Prelude.{nat_eq}
use Rattle.std.specs.Cmp.Lexicographic.{pointwise}
use Rattle.tdb_forms.proofs.Lists.{pointwise-map}
use Rattle.tdb_forms.proofs.arrays.ArrayPartialEq.eq.Goals as goal

pub returns : goal.returns
returns c = rw (← c.self.view_is, ← c.other.view_is) (c.eq.ensures ∙ rw (c.as_slice.ensures.value, c.as_slice-2.ensures.value) (pointwise-map (pointwise (pointwise nat_eq)) (λ list. list.items) c.self.inside.lists.items c.other.inside.lists.items))
