-- The factor of each form, as code finds it.
use Rattle.std.proofs.Common.{◌≡◌, ℕ, List, arith, slice_index}
use Rattle.std.specs.Prelude.{pos, ◌-ℤ◌}
use Rattle.std.proofs.lemmas.Int.{ints, to_z-of_z}
use Rattle.cef_term.specs.declared.form.Form.{Form}
use Rattle.cef_term.specs.declared.form.Form.TheVariants.{Binary}
use Rattle.cef_term.specs.Kept.{HasFactor, IsRoomy}

pub roomy_low : (low high : List ℕ) (form : Form) (i j v : ℕ) → form ≡ Binary i j v → HasFactor form low high → IsRoomy (pos (slice_index low i) -ℤ pos (slice_index high j)) v
roomy_low low high form i j v e has = record {
  most = has.n;
  some = has.some;
  small = omega (arith, ints, has.low_small i, has.high_small j);
  room = rw e at has.room;
}

pub roomy_high : (low high : List ℕ) (form : Form) (i j v : ℕ) → form ≡ Binary i j v → HasFactor form low high → IsRoomy (pos (slice_index high i) -ℤ pos (slice_index low j)) v
roomy_high low high form i j v e has = record {
  most = has.n;
  some = has.some;
  small = omega (arith, ints, has.low_small j, has.high_small i);
  room = rw e at has.room;
}

pub ruleset factor_rules = (roomy_low, to_z-of_z)

pub ruleset ends_rules = (roomy_low, roomy_high, to_z-of_z)
