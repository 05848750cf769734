use Rattle.cal_scan.proofs.Neighbours.{is_distinct}
use Rattle.cal_scan.proofs.distinct.are_distinct.Goals as goal

pub returns : goal.returns
returns c = is_distinct (λ w. w.now) c.args.words.now c.in_ok-sorted.sorted.items c.sort_unstable.new.self.items c.as_slice.result.now c.do_neighbours_differ-distinct.result c.in_ok-sorted.ensures c.sort_unstable.ensures.permutation c.as_slice.ensures.value c.sort_unstable.ensures.sorted c.do_neighbours_differ-distinct.ensures
