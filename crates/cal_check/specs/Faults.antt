-- What a fault of the judge says, for any rules at lines: which are kept, what is refused at a line, and what is given in front of a line.
use Rattle.std.specs.Prelude.{ℕ, ◌<◌}
use Rattle.cal_select.specs.declared.fault.SystemFault.{SystemFault}
use Rattle.eq_cert.specs.declared.rule.CheckRule.{CheckRule}
use Rattle.eq_cert.specs.Rules.{IsFirstBroken}
use Rattle.cal_check.specs.declared.fault.DocumentFault.{DocumentFault}
use Rattle.cal_check.specs.declared.fault.DocumentFault.TheVariants.{Broken, System, Memory}

-- The rule is broken at the line. All rules of earlier lines and all earlier rules of the line are kept, and nothing is refused in front
-- of the line.
pub record IsFirstRule (Kept : ℕ → CheckRule → Type 0) (Given : ℕ → Type 0) (line : ℕ) (rule : CheckRule) : Type 0 where
  pub first : IsFirstBroken Kept line rule
  pub given : Given line

-- The refusal is that of the line, the rules of all earlier lines are kept, and nothing is refused in front of the line.
pub record IsFirstRefusal
    (Kept : ℕ → CheckRule → Type 0) (Refused : ℕ → SystemFault → Type 0) (Given : ℕ → Type 0)
    (line : ℕ) (fault : SystemFault) : Type 0 where
  pub refused : Refused line fault
  pub before : (k : ℕ) (rule : CheckRule) → k < line → Kept k rule
  pub given : Given line

-- The first of all faults. Only want of memory is free.
abbrev pub IsFirst : (ℕ → CheckRule → Type 0) → (ℕ → SystemFault → Type 0) → (ℕ → Type 0) → DocumentFault → Type 0
IsFirst Kept Refused Given (Broken rule line) = IsFirstRule Kept Given line rule
IsFirst Kept Refused Given (System fault) = (line : ℕ) × IsFirstRefusal Kept Refused Given line fault
IsFirst Kept Refused Given Memory = Unit {0}
