-- A number that equal words share, by which words are put in order. Words that differ may share it too.
use Rattle.std.specs.Prelude.{ℕ, ◌+◌, ◌*◌, ◌%◌, ◌^◌, fold}
use Rattle.cal_scan.specs.Lines.{Word}
use Rattle.cal_scan.specs.declared.distinct.TheConstants.{FACTOR}

abbrev pub more : ℕ → ℕ → ℕ
more key byte = ((key * FACTOR) % 2 ^ 64 + byte) % 2 ^ 64

unfoldable pub key_of : Word → ℕ
key_of word = fold more 0 word
