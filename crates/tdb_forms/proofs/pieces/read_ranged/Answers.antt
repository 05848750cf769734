use Rattle.std.proofs.Common.{refl, subst, List, ℕ}
use Rattle.cal_dec.specs.declared.dec.Dec.{Dec}
use Rattle.tdb_forms.specs.Finding.{Finds}
use Rattle.tdb_forms.specs.Numbers.{BeginsWithNumber}
use Rattle.tdb_forms.specs.Ranges.{ArePieces}
use Rattle.tdb_forms.proofs.Ranging.{no_low, no_pieces}
use Rattle.tdb_forms.proofs.pieces.read_ranged.Goals as goal

pub returns-in-None-clause-value : goal.returns-in-None-clause-value
returns-in-None-clause-value c =
    no_low c.args.text.now c.args.line (subst (λ (t : List ℕ). (d : Dec) (rest : List ℕ) → BeginsWithNumber t d rest → ⊥) c.behind_spaces.ensures c.in-None.ensures.none)

pub returns-in-None-found-clause-value : goal.returns-in-None-found-clause-value
returns-in-None-found-clause-value c =
    let begins = subst (λ (t : List ℕ). BeginsWithNumber t c.in-Some.field-0-0 c.in-Some.behind.now) c.behind_spaces.ensures c.in-Some.ensures.found in
    no_pieces c.args.text.now c.in-Some.behind.now c.args.line c.in-Some.field-0-0 begins (subst (Finds (ArePieces c.in-Some.behind.now)) c.in-None-found.is c.in_ok-found-in-Some.ensures.value)

pub returns-in-Some-found-clause-value : goal.returns-in-Some-found-clause-value
returns-in-Some-found-clause-value c =
    let begins = subst (λ (t : List ℕ). BeginsWithNumber t c.in-Some.field-0-0 c.in-Some.behind.now) c.behind_spaces.ensures c.in-Some.ensures.found in
    record { low = c.in-Some.field-0-0; behind = c.in-Some.behind.now; begins = begins; line_is = refl; pieces = subst (Finds (ArePieces c.in-Some.behind.now)) c.in-Some-found.is c.in_ok-found-in-Some.ensures.value }
