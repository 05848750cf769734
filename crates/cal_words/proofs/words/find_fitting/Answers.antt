use Rattle.std.proofs.Common.{rules, ◌≡◌, ◌≤◌, length, slice_get, Some, true, false, arith}
use Rattle.std.proofs.lemmas.List.{length-map}
use Rattle.cal_words.specs.Found.{texts_of}
use Rattle.cal_words.specs.Words.{fits_entry}
use Rattle.cal_words.proofs.Finding.{FindsBelow-fits, FindsBelow-misses, FindsBelow-all, slice_get-texts_of}
use Rattle.cal_words.proofs.words.find_fitting.Goals as goal
use Rattle.cal_words.proofs.words.find_fitting.Goals.{then-fits, else-fits}

pub entries-preserved : goal.entries-preserved
entries-preserved c =
    let is : slice_get (texts_of c.args.entries.now) c.entries.place ≡ Some c.as_bytes.result.now =
    rw c.as_bytes.ensures.value (slice_get-texts_of c.args.entries.now c.entries.place _ c.entries-test.true)
    in
    elim c.if-fits.branch [
      | then-fits w ↦ let fits : fits_entry c.args.word.now c.as_bytes.result.now ≡ true = search rules in rw (w.found-is, w.and-found.ensures) (FindsBelow-fits _ _ _ c.entries.place c.entries.found is fits c.entries.invariant)
      | else-fits w ↦ let misses : fits_entry c.args.word.now c.as_bytes.result.now ≡ false = search rules in rw w.found-is (FindsBelow-misses _ _ _ c.entries.place c.entries.found is misses c.entries.invariant)
    ]

pub returns : goal.returns
returns c =
    let short : length (texts_of c.args.entries.now) ≤ c.entries.place = omega (arith, length-map c.args.entries.now (λ text. text.now)) in
    FindsBelow-all (texts_of c.args.entries.now) c.args.word.now c.entries.place c.entries.found short c.entries.invariant
