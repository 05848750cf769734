use Rattle.std.proofs.Common.{◌≡◌, ◌+◌, ◌-◌, ◌≤◌, ℕ, List, length, vec_len}
use Rattle.cal_base.specs.Outside.{TellsFile, LacksFile, IsFront, Raised}
use Rattle.cal_base.proofs.loading.load.Given as goal

abbrev pub invariant-pieces : goal.invariant-pieces
invariant-pieces g l = record {
  told : g.L.Library.told l.files ≡ g.L.Library.told l.fn.files;
  front : (all : List ℕ) → TellsFile (g.L.Library.told l.fn.files) l.fn.name all → IsFront all l.bytes.items;
  lacks : LacksFile (g.L.Library.told l.fn.files) l.fn.name → (vec_len l.bytes ≡ 0) × (g.L.Library.faults l.files ≡ g.L.Library.faults l.fn.files);
  within : vec_len l.bytes ≤ l.limit + 1;
  buffer : length l.buf ≡ 4096;
  given : Raised (g.L.Library.given l.fn.files) (g.L.Library.given l.files) (vec_len l.bytes);
  later : g.L.Library.faults l.fn.files ≤ g.L.Library.faults l.files;
}

abbrev pub decreases-pieces : goal.decreases-pieces
decreases-pieces g l = l.limit + 1 - vec_len l.bytes
