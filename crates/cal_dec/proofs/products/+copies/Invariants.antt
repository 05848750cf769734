use Rattle.cal_dec.proofs.products.+copies.Given as goal

abbrev pub decreases-copies : goal.decreases-copies
decreases-copies l = l.count
