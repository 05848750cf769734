-- Quotients that need no division.
use Rattle.std.proofs.Common.{◌≡◌, ℕ, ◌+◌, ◌*◌, ◌/◌, ◌<◌}
use Rattle.std.proofs.Math.Nat.{div-eq_of_lt, div-one}

pub smaller : (a b : ℕ) → a < b → a / b ≡ 0
smaller a b h = div-eq_of_lt h

pub by_one : (a : ℕ) → a / (2 * 0 + 1) ≡ a
by_one a = div-one a

pub ruleset quick = (smaller, by_one)
