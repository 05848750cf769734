use Rattle.std.proofs.Common.{◌≡◌, sym, ◌∙◌, slice_index_or, [], rules, SFits, refl}
use Rattle.std.proofs.lemmas.Option.{slice_get_read, get_or_from_slice_get}
use Rattle.std.specs.Int.{w128}
use Rattle.std.specs.Fmt.{decimal}
use Rattle.std.proofs.lemmas.Int.{to_z-of_z}
use Rattle.cal_table.specs.Tables.{kelvin, constitution}
use Rattle.cal_table.proofs.Plain.{plain_fields}
use Rattle.cal_table.proofs.tabling.put_entry.Goals as goal

pub put_row-requires-clause-plain : goal.put_row-requires-clause-plain
put_row-requires-clause-plain c =
    let phases = c.args.phases.now in
    let e = c.args.entry.now in
    let fits_amount : SFits w128 e.amount = search rules in
    let number : c.as_bytes.result.now ≡ decimal c.args.number = c.as_bytes.ensures.value ∙ c.in_ok-step.ensures.ok in
    let temperature : c.as_slice.result.now ≡ kelvin c.args.t = search rules in
    let phase : c.bytes.result.now ≡ slice_index_or phases e.phase [] = c.bytes.ensures ∙ sym (get_or_from_slice_get phases e.phase c.index-phases-entry.result [] (slice_get_read _ _ _ _ refl c.requires.entry.phase c.index-phases-entry.is)) in
    let amount = simp to_z-of_z at c.in_ok-amount.ensures.ok in
    let counts : c.as_slice-2.result.now ≡ constitution e.site = search rules in
    plain_fields c.args.number c.args.t phases e _ _ _ _ _ c.ranges.number.fits c.ranges.t.fits c.requires.names c.requires.entry number temperature phase (c.as_bytes-2.ensures.value ∙ amount) counts
