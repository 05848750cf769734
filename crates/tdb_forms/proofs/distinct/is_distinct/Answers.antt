use Rattle.std.proofs.Common.{◌≡◌, ◌∙◌, ◌++◌, ◌∷◌, [], true, false, take, drop, get_or, sym, ap, refl, List, ℕ}
use Rattle.tdb_forms.specs.Lists.{is_distinct}
use Rattle.tdb_forms.proofs.Apart.{nothing_seen, seen_twice, seen_once, seen_all}
use Rattle.tdb_forms.proofs.distinct.is_distinct.Goals as goal

pub names-init : goal.names-init
unfolding is_distinct
names-init c = record { keys = nothing_seen c.new-seen.result.keys c.new-seen.ensures.len; apart = refl }

pub returns-then-not-added : goal.returns-then-not-added
returns-then-not-added c = sym (seen_twice c.args.names.now c.names.i c.bytes.result c.names.seen.keys _ _ c.names-test.true c.index-names-i.is c.bytes.ensures c.names.invariant.keys c.in_ok-added.ensures.added c.if-not-added.true)

pub names-preserved : goal.names-preserved
names-preserved c =
    let on = seen_once c.args.names.now c.names.i c.bytes.result c.names.seen.keys c.insert.new.self.keys _ _ c.names-test.true c.index-names-i.is c.bytes.ensures c.names.invariant.keys c.names.invariant.apart c.in_ok-added.ensures.added c.if-not-added.false c.in_ok-added.ensures.keys in
    record { keys = on.0; apart = on.1 }

pub returns : goal.returns
returns c = sym (seen_all c.args.names.now c.names.i c.names-test.false c.names.invariant.apart)
