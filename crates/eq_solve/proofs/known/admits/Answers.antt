use Rattle.std.proofs.Common.{◌≡◌, length, refl, arith, Some, slice_get}
use Rattle.std.proofs.lemmas.Option.{slice_get_read}
use Rattle.eq_solve.proofs.Grown.{admits_yes, admits_no}
use Rattle.eq_solve.proofs.known.admits.Goals as goal

pub returns-clause-yes : goal.returns-clause-yes
returns-clause-yes c =
    admits_yes c.is_before.result c.args.entries.now c.args.entry.now c.index-entries-place.result c.args.place (slice_get_read c.args.entries.now (length c.args.entries.now) c.args.place c.index-entries-place.result refl (omega (arith, c.if-place-entries.false)) c.index-entries-place.is) c.is_before.ensures.yes

pub returns-clause-no : goal.returns-clause-no
returns-clause-no c =
    admits_no c.is_before.result c.args.entries.now c.args.entry.now c.index-entries-place.result c.args.place (slice_get_read c.args.entries.now (length c.args.entries.now) c.args.place c.index-entries-place.result refl (omega (arith, c.if-place-entries.false)) c.index-entries-place.is) c.is_before.ensures.no
