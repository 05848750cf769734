-- A line whose words are read.
use Rattle.std.proofs.Common.{◌≡◌, List, Option, Some, None, Ok, Err, refl}
use Rattle.cal_scan.specs.Lines.{Word}
use Rattle.cal_lines.specs.declared.fault.TextFault.{TextFault}
use Rattle.cal_lines.specs.declared.fault.TextFault.TheVariants as faults
use Rattle.cal_lines.specs.Reading.{Lines, Fails, line_at, of_line}

pub line_fails : {A : Type 0} (meaning : List Word → Option A) (e : TextFault) (at : Lines) → Fails e (line_at at) → Fails e (of_line meaning at)
unfolding of_line
line_fails meaning faults.Memory at fails = tt
line_fails meaning (faults.Line n) at fails = rw fails refl

pub line_unread : {A : Type 0} (meaning : List Word → Option A) (at after : Lines) (ws : List Word) → line_at at ≡ Ok (ws, after) → None ≡ meaning ws → of_line meaning at ≡ Err at.0
unfolding of_line
line_unread meaning at after ws read none = rw (read, ← none) refl

pub line_read : {A : Type 0} (meaning : List Word → Option A) (at after : Lines) (ws : List Word) (a : A) → line_at at ≡ Ok (ws, after) → Some a ≡ meaning ws → of_line meaning at ≡ Ok (a, after)
unfolding of_line
line_read meaning at after ws a read is = rw (read, ← is) refl
