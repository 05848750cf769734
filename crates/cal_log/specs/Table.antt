-- A table of logarithms: entry k is the logarithm of k + 1.
use Rattle.std.proofs.Common.{◌≡◌, ℕ, ◌+◌, ◌<◌, List, [], ◌∷◌, ◌++◌, length, slice_index, arith}
use Rattle.std.proofs.lemmas.Grind.{common_steps}
use Rattle.cal_math.specs.Logarithm.{log_of}

abbrev pub IsTable : List ℕ → Type 0
IsTable entries = (k : ℕ) → k < length entries → slice_index entries k ≡ log_of (k + 1)

pub IsTable-push : (xs : List ℕ) (v : ℕ) → IsTable xs → v ≡ log_of (length xs + 1) → IsTable (xs ++ v ∷ [])
IsTable-push xs v is e = λ k within. grind (arith, common_steps, is k)
