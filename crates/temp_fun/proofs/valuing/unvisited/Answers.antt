use Rattle.std.proofs.Common.{◌≡◌, subst, ℕ, arith}
use Rattle.temp_fun.specs.States.{AreUnvisited}
use Rattle.temp_fun.proofs.Marking.{unvisited_push, unvisited_none}
use Rattle.temp_fun.proofs.valuing.unvisited.Goals as goal

pub marks-init : goal.marks-init
marks-init c = record { unvisited = unvisited_none c.in_ok-marks.marks.items c.in_ok-marks.ensures.items }

pub marks-preserved : goal.marks-preserved
marks-preserved c = record { unvisited = unvisited_push c.marks.counter c.marks.marks.items c.push.new.self.items c.in_ok-push.ensures.items c.marks.invariant.unvisited }

pub returns : goal.returns
returns c =
    let same : c.marks.counter ≡ c.args.count = omega arith in
    subst (λ (n : ℕ). AreUnvisited n c.marks.marks.items) same c.marks.invariant.unvisited
