use Rattle.std.proofs.Common.{◌≡◌, Some, None, sym, ap, ◌∙◌}
use Rattle.std.specs.Map.{lookup}
use Rattle.std.specs.Option.{option_copied_mut}
use Rattle.cal_scan.specs.Names.{same_name}
use Rattle.tdb_read.specs.declared.phase.PhaseText.{PhaseText}
use Rattle.tdb_read.specs.Constituent.{sited}
use Rattle.tdb_read.proofs.Entries.{set_value-insert}
use Rattle.tdb_read.proofs.db.sited_phases.Goals as goal

pub returns-in-Some : goal.returns-in-Some
returns-in-Some c = λ text known.
    let read : Some c.in-Some.text.now ≡ lookup (same_name c.args.name.now) c.args.phases.entries = ap option_copied_mut (sym c.in-Some.is) ∙ c.get_mut.ensures.value in
    let same : c.in-Some.text.now ≡ text = cc in
    (c.get_mut.follows.holds (sited c.in-Some.text.now c.args.sites)).0
    ∙ rw same (set_value-insert c.args.name.now c.args.phases.entries text (sited text c.args.sites) known)

pub returns : goal.returns
returns c = λ text known.
    let read : None ≡ lookup (same_name c.args.name.now) c.args.phases.entries = ap option_copied_mut (sym c.in_default.is) ∙ c.get_mut.ensures.value in
    absurd cc
