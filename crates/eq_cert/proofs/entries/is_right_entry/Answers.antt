use Rattle.std.proofs.Common.{◌≡◌, ◌<◌, slice_get, Some, length, refl, ◌-◌, arith, true, false}
use Rattle.std.proofs.lemmas.Bool.{OnTrue_at, OnTrue_from, OnFalse_at, OnFalse_from}
use Rattle.std.proofs.lemmas.Option.{slice_get_read}
use Rattle.eq_cert.specs.Rules.{IsRightEntryAt}
use Rattle.eq_cert.proofs.Entered.{entry_no_constitution, entry_first, entry_behind, entry_not_behind}
use Rattle.eq_cert.proofs.entries.is_right_entry.Goals as goal

pub returns-then-not-is_constitution-clause-no : goal.returns-then-not-is_constitution-clause-no
returns-then-not-is_constitution-clause-no c =
    let is = slice_get_read _ _ _ _ refl c.requires.place c.index-entries-k.is in
    let lt = c.requires.phases c.args.k c.index-entries-k.result is in
    let at : slice_get c.args.phases.now c.index-entries-k.result.phase ≡ Some c.index-phases-entry.result = slice_get_read _ _ _ _ refl lt c.index-phases-entry.is in
    entry_no_constitution _ _ _ _ _ is at c.if-not-is_constitution.ensures.no

pub returns-then-k-eq0-clause-yes : goal.returns-then-k-eq0-clause-yes
returns-then-k-eq0-clause-yes c =
    let is = slice_get_read _ _ _ _ refl c.requires.place c.index-entries-k.is in
    let lt = c.requires.phases c.args.k c.index-entries-k.result is in
    let at : slice_get c.args.phases.now c.index-entries-k.result.phase ≡ Some c.index-phases-entry.result = slice_get_read _ _ _ _ refl lt c.index-phases-entry.is in
    entry_first _ _ _ _ _ is at c.if-k-eq0.true c.if-not-is_constitution.ensures.yes

pub returns-clause-no : goal.returns-clause-no
returns-clause-no c =
    let is = slice_get_read _ _ _ _ refl c.requires.place c.index-entries-k.is in
    let lt = c.requires.phases c.args.k c.index-entries-k.result is in
    let at : slice_get c.args.phases.now c.index-entries-k.result.phase ≡ Some c.index-phases-entry.result = slice_get_read _ _ _ _ refl lt c.index-phases-entry.is in
    let less : c.args.k - 1 < length c.args.entries.now = omega arith in
    let some : 0 < c.args.k = omega arith in
    let before : slice_get c.args.entries.now (c.args.k - 1) ≡ Some c.index-entries-k-2.result = slice_get_read _ _ _ _ refl less c.index-entries-k-2.is in
    OnFalse_from c.is_before.result (IsRightEntryAt c.args.phases.now c.args.entries.now c.args.k → ⊥) (λ (e : c.is_before.result ≡ false).
    entry_not_behind _ _ _ _ _ is at c.index-entries-k-2.result some before (OnFalse_at e c.is_before.ensures.no))

pub returns-clause-yes : goal.returns-clause-yes
returns-clause-yes c =
    let is = slice_get_read _ _ _ _ refl c.requires.place c.index-entries-k.is in
    let lt = c.requires.phases c.args.k c.index-entries-k.result is in
    let at : slice_get c.args.phases.now c.index-entries-k.result.phase ≡ Some c.index-phases-entry.result = slice_get_read _ _ _ _ refl lt c.index-phases-entry.is in
    let less : c.args.k - 1 < length c.args.entries.now = omega arith in
    let some : 0 < c.args.k = omega arith in
    let before : slice_get c.args.entries.now (c.args.k - 1) ≡ Some c.index-entries-k-2.result = slice_get_read _ _ _ _ refl less c.index-entries-k-2.is in
    OnTrue_from c.is_before.result (IsRightEntryAt c.args.phases.now c.args.entries.now c.args.k) (λ (e : c.is_before.result ≡ true).
    entry_behind _ _ _ _ _ is at c.index-entries-k-2.result some before c.if-not-is_constitution.ensures.yes (OnTrue_at e c.is_before.ensures.yes))
