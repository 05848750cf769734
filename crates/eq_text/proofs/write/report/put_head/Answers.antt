use Rattle.std.proofs.Common.{◌++◌, ◌∷◌, [], ap, ◌∙◌, ℕ, List}
use Rattle.std.specs.Prelude.{ℤ, codes}
use Rattle.std.specs.Fmt.{decimal}
use Rattle.cal_scan.specs.Lines.{line}
use Rattle.cef_report.specs.Texts.{number_words, head_lines}
use Rattle.eq_text.proofs.Joined.{six_lines}
use Rattle.eq_text.proofs.write.report.put_head.Goals as goal

pub returns : goal.returns
unfolding head_lines
returns c =
    let r = c.args.report.now in
    let o1 : List ℕ = c.put_kind.new.out.items in
    let o2 : List ℕ = c.put_count_line.new.out.items in
    let o3 : List ℕ = c.put_count_line-2.new.out.items in
    let o4 : List ℕ = c.put_names_line.new.out.items in
    let o5 : List ℕ = c.put_names_line-2.new.out.items in
    six_lines
    (line (codes "equilibrium" ∷ codes "1" ∷ []))
    (line (codes "temperature" ∷ decimal r.t ∷ []))
    (line (codes "lattice" ∷ decimal r.lattice ∷ []))
    (line (codes "elements" ∷ r.elements))
    (line (codes "phases" ∷ r.phases))
    (line (number_words (codes "asked") r.asked))
    c.args.out.now.items o1 o2 o3 o4 o5 c.put_numbers_line.new.out.items
    c.in_ok-put_kind.ensures
    (c.in_ok-put_count_line.ensures ∙ ap (λ (n : ℕ). o1 ++ line (codes "temperature" ∷ decimal n ∷ [])) c.from.ensures)
    (c.in_ok-put_count_line-2.ensures ∙ ap (λ (n : ℕ). o2 ++ line (codes "lattice" ∷ decimal n ∷ [])) c.from-2.ensures)
    (c.in_ok-put_names_line.ensures ∙ ap (λ (ns : List (List ℕ)). o3 ++ line (codes "elements" ∷ ns)) c.as_slice.ensures)
    (c.in_ok-put_names_line-2.ensures ∙ ap (λ (ns : List (List ℕ)). o4 ++ line (codes "phases" ∷ ns)) c.as_slice-2.ensures)
    (c.in_ok-put_numbers_line.ensures ∙ ap (λ (vs : List ℤ). o5 ++ line (number_words (codes "asked") vs)) c.as_slice-3.ensures)
