use Rattle.std.proofs.Common.{rules, SFits}
use Rattle.std.specs.Int.{w64}
use Rattle.std.proofs.lemmas.Int.{to_z-of_z}
use Rattle.tdb_forms.specs.Numbers.{IsReadable}
use Rattle.tdb_read.proofs.Found.{at_none, at_some}
use Rattle.tdb_read.proofs.Ratios.{not_above}
use Rattle.tdb_read.proofs.phase.ratio.Goals as goal

pub returns-in-None : goal.returns-in-None
returns-in-None c = λ v is. at_none (IsReadable c.args.token.now) c.readable.result c.readable.ensures c.in-None.is v is.0

pub returns-else-ratio-gt0 : goal.returns-else-ratio-gt0
returns-else-ratio-gt0 c =
    let fits : SFits w64 c.in-Some.ratio.mantissa = search rules in
    let off = simp to_z-of_z at c.if-ratio-gt0.false in
    not_above c.args.token.now c.in-Some.ratio (at_some (IsReadable c.args.token.now) c.readable.result c.in-Some.ratio c.readable.ensures c.in-Some.is) (λ h. rw off at h.lt)
