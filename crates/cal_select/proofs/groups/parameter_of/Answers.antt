use Rattle.std.proofs.Common.{◌∙◌, sym, get_or}
use Rattle.std.proofs.lemmas.Option.{slice_get-get_or, slice_get_within}
use Rattle.cal_select.specs.Parameters.{parameters_of}
use Rattle.cal_select.proofs.By_phase.{standing, own_phase}
use Rattle.cal_select.proofs.groups.parameter_of.Goals as goal

pub parameter_at-requires : goal.parameter_at-requires
parameter_at-requires c =
    let db = c.args.db.now in
    let places = c.args.group.now.places.now in
    let number = c.args.number in
    let found = standing db.parameters (parameters_of db c.args.group.now.phase.now) places number (get_or places number 0) c.requires.places (slice_get-get_or places number 0 c.requires.number) in
    slice_get_within db.parameters (get_or places number 0) found.0 found.1

pub returns-clause-entry : goal.returns-clause-entry
returns-clause-entry c =
    let db = c.args.db.now in
    let places = c.args.group.now.places.now in
    let number = c.args.number in
    let found = standing db.parameters (parameters_of db c.args.group.now.phase.now) places number (get_or places number 0) c.requires.places (slice_get-get_or places number 0 c.requires.number) in
    found.2 ∙ (sym found.1 ∙ c.parameter_at.ensures.entry)

pub returns-clause-phase : goal.returns-clause-phase
returns-clause-phase c =
    let db = c.args.db.now in
    let phase = c.args.group.now.phase.now in
    let places = c.args.group.now.places.now in
    let number = c.args.number in
    let found = standing db.parameters (parameters_of db phase) places number (get_or places number 0) c.requires.places (slice_get-get_or places number 0 c.requires.number) in
    own_phase db phase number (c.parameter_at.result.0.now, c.parameter_at.result.1.now) (found.2 ∙ (sym found.1 ∙ c.parameter_at.ensures.entry))
