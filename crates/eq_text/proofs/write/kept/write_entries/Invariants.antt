use Rattle.std.proofs.Common.{◌≡◌, take}
use Rattle.std.specs.List.{flat_map}
use Rattle.cal_scan.specs.Lines.{line}
use Rattle.cef_report.specs.Texts.{entry_words}
use Rattle.eq_text.proofs.write.kept.write_entries.Given as goal

abbrev pub invariant-entries : goal.invariant-entries
invariant-entries l = l.out.items ≡ flat_map (λ entry. line (entry_words l.phases entry)) (take l.entry-index l.entries)
