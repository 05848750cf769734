use Rattle.std.proofs.Common.{List, ℕ}
use Rattle.cal_dec.specs.declared.dec.Dec.{Dec}
use Rattle.tdb_forms.specs.Numbers.{BeginsWithNumber}
use Rattle.tdb_forms.specs.Ranges.{IsHigh}
use Rattle.tdb_forms.proofs.Ranging.{none_then, no_high}
use Rattle.tdb_forms.proofs.pieces.high_limit.Goals as goal

pub returns-in-Some-clause-none : goal.returns-in-Some-clause-none
returns-in-Some-clause-none c =
    let text = c.args.text.now in
    none_then c.number_at.result ((d : Dec) (rest : List ℕ) → BeginsWithNumber text d rest → ⊥) ((high : Dec) (rest : List ℕ) → IsHigh text high rest → ⊥)
    (no_high text c.in-Some.field-0.0.now c.in-Some.field-0.1.now c.in-Some.ensures.found) c.number_at.ensures.none
