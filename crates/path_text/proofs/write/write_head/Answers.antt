use Rattle.path_text.proofs.Joins.{head_joined}
use Rattle.path_text.proofs.write.write_head.Goals as goal

pub returns : goal.returns
returns c =
    head_joined c.args.liquid.now _ c.args.descent c.args.floor c.args.stop _ _ _ _ _ _ _ _ _
    c.new-out.ensures.items c.bytes.ensures c.from.ensures c.from-2.ensures c.from-3.ensures
    c.in_ok-put_word_line.ensures c.in_ok-put_word_line-2.ensures c.in_ok-put_count_line.ensures c.in_ok-put_count_line-2.ensures c.in_ok-put_count_line-3.ensures
