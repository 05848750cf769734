use Rattle.std.proofs.Common.{◌++◌, ap, ◌∙◌, ℕ, List, rules, SFits}
use Rattle.std.specs.Int.{w128}
use Rattle.std.proofs.lemmas.Int.{to_z-of_z}
use Rattle.std.specs.Prelude.{ℤ, codes}
use Rattle.cal_scan.specs.Lines.{line}
use Rattle.cef_report.specs.Texts.{number_words, number_line, sum_lines}
use Rattle.eq_text.proofs.Joined.{five_lines}
use Rattle.eq_text.proofs.write.report.put_sums.Goals as goal

pub returns : goal.returns
unfolding sum_lines
returns c =
    let r = c.args.report.now in
    let fits_energy : SFits w128 r.energy = search rules in
    let fits_tolerance : SFits w128 r.tolerance = search rules in
    let fits_gap : SFits w128 r.gap = search rules in
    let energy = simp to_z-of_z at c.in_ok-put_numbers_line-2.ensures in
    let tolerance = simp to_z-of_z at c.in_ok-put_numbers_line-3.ensures in
    let gap = simp to_z-of_z at c.in_ok-put_numbers_line-4.ensures in
    let o4 : List ℕ = c.put_numbers_line-4.new.out.items in
    five_lines
    (line (number_words (codes "total") r.totals))
    (number_line (codes "energy") r.energy)
    (number_line (codes "tolerance") r.tolerance)
    (number_line (codes "gap") r.gap)
    (line (number_words (codes "potentials") r.potentials))
    c.args.out.now.items c.put_numbers_line.new.out.items c.put_numbers_line-2.new.out.items c.put_numbers_line-3.new.out.items o4 c.put_numbers_line-5.new.out.items
    (c.in_ok-put_numbers_line.ensures ∙ ap (λ (vs : List ℤ). c.args.out.now.items ++ line (number_words (codes "total") vs)) c.as_slice.ensures)
    energy
    tolerance
    gap
    (c.in_ok-put_numbers_line-5.ensures ∙ ap (λ (vs : List ℤ). o4 ++ line (number_words (codes "potentials") vs)) c.as_slice-2.ensures)
