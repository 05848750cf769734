use Rattle.path_text.proofs.Joins.{finish_joined}
use Rattle.path_text.proofs.write.write_finish.Goals as goal

pub returns : goal.returns
returns c =
    finish_joined c.args.finish c.args.solids.now c.args.remains.now c.args.lost.now _ _ _ _ _ _
    c.new-out.ensures.items c.finish_word.ensures c.in_ok-put_word_line.ensures c.in_ok-put_numbers_line.ensures c.in_ok-put_numbers_line-2.ensures c.in_ok-put_numbers_line-3.ensures
