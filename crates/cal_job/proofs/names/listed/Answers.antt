use Rattle.std.proofs.Common.{rules, ◌≡◌, true, false, sym, ap, ◌∙◌}
use Rattle.std.specs.List.{list_all}
use Rattle.std.proofs.lemmas.Bool.{true≢false}
use Rattle.cal_scan.specs.Words.{is_name}
use Rattle.cal_job.specs.Forms.{listed_in}
use Rattle.cal_job.proofs.Listing.{all_names, names_all}
use Rattle.cal_job.proofs.names.listed.Goals as goal

pub returns-then-not-are_all_names-clause-usage : goal.returns-then-not-are_all_names-clause-usage
returns-then-not-are_all_names-clause-usage c = λ e all.
    let off : false ≡ list_all is_name c.in_ok-names.names = search rules in
    let are : c.in_ok-names.names ≡ listed_in c.args.text.now = search rules in
    true≢false (sym (names_all _ all) ∙ ap (list_all is_name) (sym are) ∙ sym off)

pub returns-clause-names : goal.returns-clause-names
returns-clause-names c =
    let on : true ≡ list_all is_name c.in_ok-names.names = search rules in
    all_names _ (sym on)
