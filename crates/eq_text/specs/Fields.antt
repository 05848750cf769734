-- The fields of the parts that are read, in the order of their lines.
use Rattle.eq_text.specs.declared.read.parts.Bounds.{Bounds}
use Rattle.eq_text.specs.declared.read.parts.Sums.{Sums}
use Rattle.eq_text.specs.declared.read.parts.Body.{Body}
use Rattle.eq_text.specs.declared.read.parts.Named.{Named}
use Rattle.std.specs.Prelude.{List}
use Rattle.cef_tree.specs.declared.tree.Tree.{Tree}
use Rattle.eq_text.specs.Parsing as lines

abbrev pub closed : List Tree → lines.Closing
closed trees = (trees, tt)

abbrev pub bounds_of : Bounds → lines.Bounds
bounds_of b = (b.tolerance, (b.gap, b.potentials))

abbrev pub sums_of : Sums → lines.Sums
sums_of s = (s.totals, (s.energy, bounds_of s.bounds))

abbrev pub body_of : Body → lines.Body
body_of b = (b.asked, (b.entries, (sums_of b.sums, (b.trees, tt))))

abbrev pub named_of : Named → lines.Named
named_of n = (n.elements, (n.phases, body_of n.body))
