use Rattle.std.proofs.Common.{◌≡◌, ◌+◌, ◌*◌, ◌/◌, ◌^◌, arith, refl, sym, ◌∙◌, lit≤}
use Rattle.cef_core.specs.Points.{number_of}
use Rattle.cef_core.proofs.Capped.{within-no, next_number, number_of-rises, number_of-one}
use Rattle.cef_core.proofs.points.lists_within.Goals as goal

pub sites-init : goal.sites-init
sites-init c = record { counted = sym (number_of-one c.args.total); within = lit≤ tt }

pub sites-preserved : goal.sites-preserved
sites-preserved c =
    record {
      counted = rw (c.from.ensures, c.from-in-sites.ensures, c.sites.invariant.counted) (next_number c.sites.more c.args.total c.sites.auto.more);
      within = c.if-next.false;
    }

pub returns-then-next : goal.returns-then-next
returns-then-next c =
    let e : c.from.result * (c.from-in-sites.result + c.sites.more) / c.sites.more ≡ number_of (c.sites.more + 1) c.args.total =
    rw (c.from.ensures, c.from-in-sites.ensures, c.sites.invariant.counted) (next_number c.sites.more c.args.total c.sites.auto.more) in
    sym (within-no (2 ^ 40) (number_of c.args.sites c.args.total) (omega (arith, e, c.if-next.true, number_of-rises (c.sites.more + 1) c.args.sites c.args.total (omega arith))))
