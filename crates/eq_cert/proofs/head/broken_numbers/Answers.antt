use Rattle.std.proofs.Common.{◌≡◌, ◌+◌, length, arith, ap, sym, ◌∙◌, SFits, to_z, of_z, rules}
use Rattle.std.specs.Int.{w128}
use Rattle.std.proofs.lemmas.Int.{to_z-of_z}
use Rattle.cef_report.specs.Assemblages.{total_energy}
use Rattle.cef_report.specs.Certificates.{MeetsGap}
use Rattle.eq_cert.specs.Rules.{AreSmall, HasTotals, HasEnergy, AreNear, Keeps}
use Rattle.eq_cert.specs.declared.rule.CheckRule.TheVariants.{Total, Energy, Tolerance, Gap, Potentials}
use Rattle.eq_cert.proofs.Judging.{fine_entries, asked_small, totals_small, at_line}
use Rattle.eq_cert.proofs.Sized.{all_fine}
use Rattle.eq_cert.proofs.Order.{wrong_totals, wrong_energy, wrong_tolerance, wrong_gap, wrong_potentials}
use Rattle.eq_cert.proofs.head.broken_numbers.Goals as goal

pub are_totals-requires-clause-fine : goal.are_totals-requires-clause-fine
are_totals-requires-clause-fine g c =
    let fine = fine_entries c.args.system.now.phases (all_fine c.args.system.now c.args.system.now.phases c.requires.system.phases) (length c.args.report.now.phases) c.args.report.now.entries c.requires.entries c.requires.spelled.entries in
    rw (c.as_slice-entries.ensures, c.as_slice.ensures) fine

pub energy_of-energy-requires-clause-fine : goal.energy_of-energy-requires-clause-fine
energy_of-energy-requires-clause-fine g c =
    let fine = fine_entries c.args.system.now.phases (all_fine c.args.system.now c.args.system.now.phases c.requires.system.phases) (length c.args.report.now.phases) c.args.report.now.entries c.requires.entries c.requires.spelled.entries in
    rw (c.as_slice-entries.ensures, c.requires.models) fine

pub are_near-requires-clause-asked_small : goal.are_near-requires-clause-asked_small
are_near-requires-clause-asked_small g c =
    rw c.as_slice-2.ensures (asked_small c.args.report.now.asked c.requires.spelled.asked.1)

pub meets_gap-requires-clause-totals : goal.meets_gap-requires-clause-totals
meets_gap-requires-clause-totals g c =
    let fits_tolerance : SFits w128 c.args.report.now.tolerance = search rules in
    let near : AreNear c.args.report.now.asked c.args.report.now.totals c.args.report.now.tolerance = rw (← c.as_slice-2.ensures, ← c.as_slice-totals.ensures) (simp to_z-of_z at c.if-not-are_near.ensures.yes) in
    let lengths : length c.args.report.now.asked ≡ length c.args.report.now.totals = c.requires.spelled.asked.0 ∙ sym c.requires.spelled.totals.0 in
    rw c.as_slice-totals.ensures (totals_small c.args.report.now.asked c.args.report.now.totals c.args.report.now.tolerance lengths c.requires.spelled.asked.1 c.requires.spelled.tolerance_high near)

pub returns-then-not-are_totals-clause-some : goal.returns-then-not-are_totals-clause-some
returns-then-not-are_totals-clause-some g c =
    let wrong : HasTotals c.args.system.now c.args.report.now → ⊥ = rw (c.as_slice-totals.ensures, c.as_slice-entries.ensures) at (c.if-not-are_totals.ensures.no c.args.system.now (sym c.as_slice.ensures)) in
    at_line (Keeps c.args.system.now c.args.report.now) _ (7 + length c.args.report.now.entries) Total (omega (arith, ap length c.as_slice-entries.ensures))
    (wrong_totals c.args.system.now c.args.report.now c.requires.elements c.requires.phases c.requires.entries wrong)

pub returns-then-report-energy-clause-some : goal.returns-then-report-energy-clause-some
returns-then-report-energy-clause-some g c =
    let totals : HasTotals c.args.system.now c.args.report.now = rw (c.as_slice-totals.ensures, c.as_slice-entries.ensures) at (c.if-not-are_totals.ensures.yes c.args.system.now (sym c.as_slice.ensures)) in
    let found : c.energy_of-energy.result ≡ total_energy c.args.system.now c.args.report.now.entries = rw c.as_slice-entries.ensures at (c.energy_of-energy.ensures.exact c.args.system.now (sym c.requires.models)) in
    at_line (Keeps c.args.system.now c.args.report.now) _ (8 + length c.args.report.now.entries) Energy (omega (arith, ap length c.as_slice-entries.ensures))
    (wrong_energy c.args.system.now c.args.report.now c.requires.elements c.requires.phases c.requires.entries totals (λ (e : HasEnergy c.args.system.now c.args.report.now). c.if-report-energy.true (ap (of_z w128) (e ∙ sym found))))

pub returns-then-not-are_near-clause-some : goal.returns-then-not-are_near-clause-some
returns-then-not-are_near-clause-some g c =
    let totals : HasTotals c.args.system.now c.args.report.now = rw (c.as_slice-totals.ensures, c.as_slice-entries.ensures) at (c.if-not-are_totals.ensures.yes c.args.system.now (sym c.as_slice.ensures)) in
    let fits_printed : SFits w128 c.args.report.now.energy = search rules in
    let fits_found : SFits w128 c.energy_of-energy.result = search rules in
    let found : c.energy_of-energy.result ≡ total_energy c.args.system.now c.args.report.now.entries = rw c.as_slice-entries.ensures at (c.energy_of-energy.ensures.exact c.args.system.now (sym c.requires.models)) in
    let same : c.args.report.now.energy ≡ c.energy_of-energy.result = sym (to_z-of_z w128 c.args.report.now.energy fits_printed) ∙ ap (to_z w128) c.if-report-energy.false ∙ to_z-of_z w128 c.energy_of-energy.result fits_found in
    let energy : HasEnergy c.args.system.now c.args.report.now = same ∙ found in
    let fits_tolerance : SFits w128 c.args.report.now.tolerance = search rules in
    let wrong : AreNear c.args.report.now.asked c.args.report.now.totals c.args.report.now.tolerance → ⊥ = rw (← c.as_slice-2.ensures, ← c.as_slice-totals.ensures) (simp to_z-of_z at c.if-not-are_near.ensures.no) in
    at_line (Keeps c.args.system.now c.args.report.now) _ (9 + length c.args.report.now.entries) Tolerance (omega (arith, ap length c.as_slice-entries.ensures))
    (wrong_tolerance c.args.system.now c.args.report.now c.requires.elements c.requires.phases c.requires.entries totals energy wrong)

pub returns-then-not-meets_gap-clause-some : goal.returns-then-not-meets_gap-clause-some
returns-then-not-meets_gap-clause-some g c =
    let totals : HasTotals c.args.system.now c.args.report.now = rw (c.as_slice-totals.ensures, c.as_slice-entries.ensures) at (c.if-not-are_totals.ensures.yes c.args.system.now (sym c.as_slice.ensures)) in
    let fits_printed : SFits w128 c.args.report.now.energy = search rules in
    let fits_found : SFits w128 c.energy_of-energy.result = search rules in
    let found : c.energy_of-energy.result ≡ total_energy c.args.system.now c.args.report.now.entries = rw c.as_slice-entries.ensures at (c.energy_of-energy.ensures.exact c.args.system.now (sym c.requires.models)) in
    let same : c.args.report.now.energy ≡ c.energy_of-energy.result = sym (to_z-of_z w128 c.args.report.now.energy fits_printed) ∙ ap (to_z w128) c.if-report-energy.false ∙ to_z-of_z w128 c.energy_of-energy.result fits_found in
    let energy : HasEnergy c.args.system.now c.args.report.now = same ∙ found in
    let fits_tolerance : SFits w128 c.args.report.now.tolerance = search rules in
    let near : AreNear c.args.report.now.asked c.args.report.now.totals c.args.report.now.tolerance = rw (← c.as_slice-2.ensures, ← c.as_slice-totals.ensures) (simp to_z-of_z at c.if-not-are_near.ensures.yes) in
    let fits_gap : SFits w128 c.args.report.now.gap = search rules in
    let wrong : MeetsGap c.args.report.now.potentials c.args.report.now.totals c.args.report.now.energy c.args.report.now.gap → ⊥ = rw (← c.as_slice-potentials.ensures, ← c.as_slice-totals.ensures, same) (simp to_z-of_z at c.if-not-meets_gap.ensures.no) in
    at_line (Keeps c.args.system.now c.args.report.now) _ (10 + length c.args.report.now.entries) Gap (omega (arith, ap length c.as_slice-entries.ensures))
    (wrong_gap c.args.system.now c.args.report.now c.requires.elements c.requires.phases c.requires.entries totals energy near wrong)

pub returns-then-not-are_small_for-clause-some : goal.returns-then-not-are_small_for-clause-some
returns-then-not-are_small_for-clause-some g c =
    let totals : HasTotals c.args.system.now c.args.report.now = rw (c.as_slice-totals.ensures, c.as_slice-entries.ensures) at (c.if-not-are_totals.ensures.yes c.args.system.now (sym c.as_slice.ensures)) in
    let fits_printed : SFits w128 c.args.report.now.energy = search rules in
    let fits_found : SFits w128 c.energy_of-energy.result = search rules in
    let found : c.energy_of-energy.result ≡ total_energy c.args.system.now c.args.report.now.entries = rw c.as_slice-entries.ensures at (c.energy_of-energy.ensures.exact c.args.system.now (sym c.requires.models)) in
    let same : c.args.report.now.energy ≡ c.energy_of-energy.result = sym (to_z-of_z w128 c.args.report.now.energy fits_printed) ∙ ap (to_z w128) c.if-report-energy.false ∙ to_z-of_z w128 c.energy_of-energy.result fits_found in
    let energy : HasEnergy c.args.system.now c.args.report.now = same ∙ found in
    let fits_tolerance : SFits w128 c.args.report.now.tolerance = search rules in
    let near : AreNear c.args.report.now.asked c.args.report.now.totals c.args.report.now.tolerance = rw (← c.as_slice-2.ensures, ← c.as_slice-totals.ensures) (simp to_z-of_z at c.if-not-are_near.ensures.yes) in
    let fits_gap : SFits w128 c.args.report.now.gap = search rules in
    let gap : MeetsGap c.args.report.now.potentials c.args.report.now.totals c.args.report.now.energy c.args.report.now.gap = rw (← c.as_slice-potentials.ensures, ← c.as_slice-totals.ensures, same) (simp to_z-of_z at c.if-not-meets_gap.ensures.yes) in
    let wrong : AreSmall c.args.system.now.widest c.args.report.now.potentials → ⊥ = rw (← c.as_slice-potentials.ensures) c.if-not-are_small_for.ensures.no in
    at_line (Keeps c.args.system.now c.args.report.now) _ (11 + length c.args.report.now.entries) Potentials (omega (arith, ap length c.as_slice-entries.ensures))
    (wrong_potentials c.args.system.now c.args.report.now c.requires.elements c.requires.phases c.requires.entries totals energy near gap wrong)

pub returns-clause-none : goal.returns-clause-none
returns-clause-none g c =
    let totals : HasTotals c.args.system.now c.args.report.now = rw (c.as_slice-totals.ensures, c.as_slice-entries.ensures) at (c.if-not-are_totals.ensures.yes c.args.system.now (sym c.as_slice.ensures)) in
    let fits_printed : SFits w128 c.args.report.now.energy = search rules in
    let fits_found : SFits w128 c.energy_of-energy.result = search rules in
    let found : c.energy_of-energy.result ≡ total_energy c.args.system.now c.args.report.now.entries = rw c.as_slice-entries.ensures at (c.energy_of-energy.ensures.exact c.args.system.now (sym c.requires.models)) in
    let same : c.args.report.now.energy ≡ c.energy_of-energy.result = sym (to_z-of_z w128 c.args.report.now.energy fits_printed) ∙ ap (to_z w128) c.if-report-energy.false ∙ to_z-of_z w128 c.energy_of-energy.result fits_found in
    let energy : HasEnergy c.args.system.now c.args.report.now = same ∙ found in
    let fits_tolerance : SFits w128 c.args.report.now.tolerance = search rules in
    let near : AreNear c.args.report.now.asked c.args.report.now.totals c.args.report.now.tolerance = rw (← c.as_slice-2.ensures, ← c.as_slice-totals.ensures) (simp to_z-of_z at c.if-not-are_near.ensures.yes) in
    let fits_gap : SFits w128 c.args.report.now.gap = search rules in
    let gap : MeetsGap c.args.report.now.potentials c.args.report.now.totals c.args.report.now.energy c.args.report.now.gap = rw (← c.as_slice-potentials.ensures, ← c.as_slice-totals.ensures, same) (simp to_z-of_z at c.if-not-meets_gap.ensures.yes) in
    let small : AreSmall c.args.system.now.widest c.args.report.now.potentials = rw (← c.as_slice-potentials.ensures) c.if-not-are_small_for.ensures.yes in
    record {
      elements = c.requires.elements;
      phases = c.requires.phases;
      entries = c.requires.entries;
      totals = totals;
      energy = energy;
      tolerance = near;
      gap = gap;
      potentials = small;
    }
