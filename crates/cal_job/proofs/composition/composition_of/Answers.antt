use Rattle.std.proofs.Common.{rules, ◌≡◌, ◌≤◌, length, map, ap, ◌∙◌, sym, arith}
use Rattle.std.proofs.lemmas.List.{length-map}
use Rattle.cal_limits.specs.declared.TheConstants.{MOST_ELEMENTS}
use Rattle.cal_job.proofs.Items.{each_amount, total_of}
use Rattle.cal_job.proofs.composition.composition_of.Goals as goal

pub total-requires : goal.total-requires
total-requires c =
    let are : c.as_slice-in-Some.result.now ≡ map (λ item. item.1) c.args.items.now = search rules in
    let names : c.in-Some.elements ≡ map (λ item. item.0) c.args.items.now = search rules in
    let few : length c.in-Some.elements ≤ MOST_ELEMENTS = search rules in
    rw are (total_of c.args.items.now (omega (arith, few, ap length names, length-map c.args.items.now (λ item. item.0))) c.requires)

pub returns-clause-range : goal.returns-clause-range
returns-clause-range c =
    let are : c.in_ok-amounts-in-Some.amounts ≡ map (λ item. item.1) c.args.items.now = search rules in
    let names : c.in-Some.elements ≡ map (λ item. item.0) c.args.items.now = search rules in
    record {
      names = search rules;
      one_each = ap length are ∙ length-map c.args.items.now (λ item. item.1) ∙ sym (ap length names ∙ length-map c.args.items.now (λ item. item.0));
      each = rw are (each_amount c.args.items.now c.requires);
      total = search rules;
    }
