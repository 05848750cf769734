use Rattle.std.proofs.Common.{ℕ, zero, suc, ◌<◌, ◌≤◌, List, length, arith}
use Rattle.std.specs.Prelude.{ℤ}
use Rattle.lp_laws.proofs.Skip.{unit, unit_same, unit_other}
use Rattle.lp_laws.specs.Bases.{IsUnit}
use Rattle.lp_basis.specs.Held.{IsHeld, AreRows}
use Rattle.lp_basis.specs.declared.row.Row.{Row}
use Rattle.plans_tests.proofs.basis.check.Goals as goal

are_rows : (n w : ℕ) (rows : List Row) → 1 ≤ n → ((columns : ℕ → ℕ → ℤ) → ((j : ℕ) → j < n → IsUnit n j (columns j)) → IsHeld n w columns rows) → AreRows w rows
are_rows zero w rows some h = absurd (omega arith)
are_rows (suc b) w rows some h = (b, unit, h unit (λ j lt. record { one = unit_same j; zeros = λ c less ne. unit_other j c ne }))

pub enter-init : goal.enter-init
enter-init g c = are_rows (length c.args.columns.now) c.args.width c.in_ok-rows.rows.items c.requires.positive (λ columns is. c.in_ok-rows.ensures c.args.width columns c.requires.wide c.requires.room is)
