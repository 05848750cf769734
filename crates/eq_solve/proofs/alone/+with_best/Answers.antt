use Rattle.std.proofs.Common.{◌≡◌, ◌∷◌, ◌+◌, ◌^◌, ◌<◌, length, arith}
use Rattle.std.specs.List.{concat}
use Rattle.eq_solve.specs.Points.{site_count}
use Rattle.eq_solve.proofs.Best.{length-alone, concat_push}
use Rattle.eq_solve.proofs.alone.+with_best.Goals as goal

pub with_sublattice-requires : goal.with_sublattice-requires
with_sublattice-requires t c =
    let few : length (concat c.args.site) + site_count (c.in-Some.first.now ∷ c.in-Some.rest.now) < 2 ^ 16 = rw c.in-Some.ensures.cases.0 at c.requires.few in
    let count : length c.deref.result.now ≡ length c.in-Some.first.now = rw (c.deref.ensures.value, c.in_ok-counts-in-Some.ensures, c.as_slice-sites.ensures) (length-alone c.args.n c.best_of-place.result (length c.in-Some.first.now)) in
    omega (arith, few, count)

pub with_best-requires : goal.with_best-requires
with_best-requires t c =
    let few : length (concat c.args.site) + site_count (c.in-Some.first.now ∷ c.in-Some.rest.now) < 2 ^ 16 = rw c.in-Some.ensures.cases.0 at c.requires.few in
    let some = rw c.in-Some.ensures.cases.0 at c.requires.some in
    let count : length c.deref.result.now ≡ length c.in-Some.first.now = rw (c.deref.ensures.value, c.in_ok-counts-in-Some.ensures, c.as_slice-sites.ensures) (length-alone c.args.n c.best_of-place.result (length c.in-Some.first.now)) in
    let longer : length (concat c.in_ok-longer-in-Some.longer) ≡ length (concat c.args.site) + length c.deref.result.now = rw c.in_ok-longer-in-Some.ensures (concat_push c.args.site c.deref.result.now) in
    (omega (arith, c.in-Some.ensures.cases.1, c.decreases), (some.1, omega (arith, few, count, longer)))
