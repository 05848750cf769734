-- Powers of ten.
use Rattle.std.proofs.Common.{ℕ, ◌^◌, ◌<◌, ◌≤◌, lit≤}
use Rattle.std.proofs.Math.Nat.{one-le-pow, pow-le-pow_right}

pub ten-pow-pos : (k : ℕ) → 0 < 10 ^ k
ten-pow-pos k = one-le-pow k 10 (lit≤ tt)

pub ten-pow-le : (j k : ℕ) → j ≤ k → 10 ^ j ≤ 10 ^ k
ten-pow-le j k h = pow-le-pow_right {n = 10} (lit≤ tt) h
