use Rattle.std.proofs.Common.{◌≡◌, ◌≤◌, ◌∙◌, sym, ap, arith, List, length}
use Rattle.std.specs.List.{list_any}
use Rattle.std.proofs.lemmas.List.{take_all}
use Rattle.tdb_read.specs.Database.{same_key}
use Rattle.cal_select.specs.Chosen.{Word}
use Rattle.cal_select.specs.Parameters.{of_order, Entry, parameters_of, has_order}
use Rattle.cal_select.proofs.Any.{any-next, any-found}
use Rattle.cal_select.proofs.By_phase.{order_among, as_many}
use Rattle.cal_select.proofs.arrays.has_order.Goals as goal

pub numbers-preserved : goal.numbers-preserved
numbers-preserved c =
    any-next (λ (e : Entry). same_key (of_order c.args.key.now c.args.order) e.0) (parameters_of c.args.db.now c.args.group.now.phase.now) c.numbers.number (c.parameter_of.result.0.now, c.parameter_of.result.1.now)
    c.parameter_of.ensures.entry c.numbers.invariant (sym c.is_of_order.ensures ∙ c.if-is_of_order.false)

pub returns-then-is_of_order : goal.returns-then-is_of_order
returns-then-is_of_order c =
    let db = c.args.db.now in
    let key = c.args.key.now in
    let among : has_order db key c.args.order ≡ list_any (λ (e : Entry). same_key (of_order key c.args.order) e.0) (parameters_of db c.args.group.now.phase.now) =
    order_among db key c.args.order ∙ ap (λ (name : Word). list_any (λ (e : Entry). same_key (of_order key c.args.order) e.0) (parameters_of db name)) c.requires.phase in
    sym (among
    ∙ any-found (λ (e : Entry). same_key (of_order key c.args.order) e.0) (parameters_of db c.args.group.now.phase.now) c.numbers.number (c.parameter_of.result.0.now, c.parameter_of.result.1.now)
    c.parameter_of.ensures.entry (sym c.is_of_order.ensures ∙ c.if-is_of_order.true))

pub returns : goal.returns
returns c =
    let db = c.args.db.now in
    let key = c.args.key.now in
    let own = parameters_of db c.args.group.now.phase.now in
    let passed : length own ≤ c.numbers.number = omega (arith, c.numbers-test.false, as_many db.parameters own c.args.group.now.places.now c.requires.places) in
    let among : has_order db key c.args.order ≡ list_any (λ (e : Entry). same_key (of_order key c.args.order) e.0) own =
    order_among db key c.args.order ∙ ap (λ (name : Word). list_any (λ (e : Entry). same_key (of_order key c.args.order) e.0) (parameters_of db name)) c.requires.phase in
    sym (among ∙ ap (λ (es : List Entry). list_any (λ (e : Entry). same_key (of_order key c.args.order) e.0) es) (sym (take_all c.numbers.number own passed)) ∙ c.numbers.invariant)
