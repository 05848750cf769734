use Rattle.std.proofs.Common.{◌≡◌, ◌∙◌, ◌∷◌, sym, rules, true, false}
use Rattle.std.specs.List.{list_all}
use Rattle.cal_select.specs.Chosen.{is_in}
use Rattle.cal_select.proofs.Zipped.{kept_yes, kept_no}
use Rattle.cal_select.proofs.parameters.+are_kept_from.Goals as goal

pub returns-then-all_in : goal.returns-then-all_in
returns-then-all_in t c =
    let e : c.args.kept.now ≡ c.in-Some.names.now ∷ c.in-Some.rest.now = search rules in
    let all : list_all (is_in c.in-Some.names.now) c.list.result.now ≡ true = rw (← c.as_slice.ensures) (sym c.all_in.ensures ∙ c.if-all_in.true) in
    kept_yes c.args.kept.now c.in-Some.names.now c.in-Some.rest.now c.args.array.now c.args.place c.list.result.now c.are_kept_from.result e c.list.ensures all c.are_kept_from.ensures

pub returns-else-all_in : goal.returns-else-all_in
returns-else-all_in t c =
    let e : c.args.kept.now ≡ c.in-Some.names.now ∷ c.in-Some.rest.now = search rules in
    let none : list_all (is_in c.in-Some.names.now) c.list.result.now ≡ false = rw (← c.as_slice.ensures) (sym c.all_in.ensures ∙ c.if-all_in.false) in
    c.if-all_in.false ∙ kept_no c.args.kept.now c.in-Some.names.now c.in-Some.rest.now c.args.array.now c.args.place c.list.result.now e c.list.ensures none
