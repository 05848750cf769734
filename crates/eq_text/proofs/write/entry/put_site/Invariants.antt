use Rattle.std.proofs.Common.{◌≡◌, ◌++◌, take}
use Rattle.cef_report.specs.Texts.{counts_words}
use Rattle.eq_text.specs.Spacing.{spelled}
use Rattle.eq_text.proofs.write.entry.put_site.Given as goal

abbrev pub invariant-places : goal.invariant-places
invariant-places l = l.out.items ≡ l.fn.out.items ++ spelled (counts_words (take l.place l.site))
