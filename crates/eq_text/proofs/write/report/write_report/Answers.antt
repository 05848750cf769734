use Rattle.std.proofs.Common.{◌++◌, ap, ◌∙◌, List, ℕ, [], rules}
use Rattle.std.specs.List.{concat}
use Rattle.cef_report.specs.Texts.{text, head_lines, entry_lines, sum_lines, tree_lines, end_lines}
use Rattle.eq_text.proofs.Joined.{five_parts}
use Rattle.eq_text.proofs.write.report.write_report.Goals as goal

pub returns : goal.returns
unfolding text
returns c =
    let r = c.args.report.now in
    five_parts (head_lines r) (entry_lines r.phases r.entries) (sum_lines r) (tree_lines r.phases r.trees) end_lines
    [] c.put_head.new.out.items c.put_entries.new.out.items c.put_sums.new.out.items c.put_trees.new.out.items c.put_end.new.out.items
    (c.in_ok-put_head.ensures ∙ ap (λ (z : List ℕ). z ++ concat (head_lines r)) c.new-out.ensures.items)
    (search rules)
    c.in_ok-put_sums.ensures
    (search rules)
    c.in_ok-put_end.ensures
