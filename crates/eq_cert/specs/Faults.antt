-- What a fault of the checker says.
use Rattle.std.specs.Prelude.{◌≡◌, ℕ, ◌+◌}
use Rattle.cef_core.specs.declared.system.System.{System}
use Rattle.cef_report.specs.declared.report.Report.{Report}
use Rattle.eq_cert.specs.declared.rule.CheckRule.{CheckRule}
use Rattle.eq_cert.specs.declared.fault.CertFault.{CertFault}
use Rattle.eq_cert.specs.declared.fault.CertFault.TheVariants.{Broken, Memory}
use Rattle.eq_cert.specs.Rules.{Keeps, MeetsRules, IsFirstBroken}

-- The first line at which a rule is not kept, where the first of all lines has this number. Only want
-- of memory is free.
abbrev pub IsFault : (ℕ → CheckRule → Type 0) → ℕ → CertFault → Type 0
IsFault Kept first (Broken rule line) = (k : ℕ) × (line ≡ first + k) × IsFirstBroken Kept k rule
IsFault Kept first Memory = Unit {0}

-- at most one rule at one line is the first that is broken
abbrev pub OneIsFirst : Type 0
OneIsFirst =
    (system : System) (report : Report) (line other : ℕ) (rule second : CheckRule) →
    IsFirstBroken (Keeps system report) line rule → IsFirstBroken (Keeps system report) other second →
    (line ≡ other) × (rule ≡ second)

-- and none is where all rules are kept
abbrev pub NoneIsFirst : Type 0
NoneIsFirst =
    (system : System) (report : Report) (line : ℕ) (rule : CheckRule) →
    MeetsRules system report → IsFirstBroken (Keeps system report) line rule → ⊥
