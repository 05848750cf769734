-- Numbers that are kept in two halves.
use Rattle.std.specs.Prelude.{ℕ, ℤ, pos, ◌+ℤ◌, ◌*ℤ◌}

-- 2^60
abbrev pub half : ℕ
half = 1152921504606846976

-- this times the high half, and the low half
abbrev pub joined : ℤ → ℤ → ℤ
joined high low = pos half *ℤ high +ℤ low
