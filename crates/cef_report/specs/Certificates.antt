-- The plane of the potentials, which shows that no rival is lower by more than the gap.
use Rattle.std.specs.Prelude.{◌≡◌, ℕ, ◌<◌, List, Some, length, slice_get, ℤ, pos, ◌+ℤ◌, ◌-ℤ◌, ◌*ℤ◌, ◌≤ℤ◌}
use Rattle.std.specs.Int.{int_div_euclid}
use Rattle.cal_math.specs.Sums.{sum_of}
use Rattle.cal_math.specs.Vectors.{at}
use Rattle.cef_core.specs.declared.phase.PhaseAt.{PhaseAt}
use Rattle.cef_core.specs.declared.system.System.{System}
use Rattle.cef_report.specs.declared.report.Report.{Report}
use Rattle.cef_core.specs.Constitutions.{IsConstitution, content}
use Rattle.cef_core.specs.Energies.{energy}
use Rattle.cef_core.specs.Worth.{worth}
use Rattle.cef_report.specs.Assemblages.{IsWithin}

-- every constitution of every phase lies on or above the plane: M*b <= 2^16*G
abbrev pub IsAbove : System → List ℤ → Type 0
IsAbove system potentials =
    (p : ℕ) (phase : PhaseAt) (counts : List (List ℕ)) → slice_get system.phases p ≡ Some phase → IsConstitution phase counts →
    worth potentials (content phase counts) ≤ℤ (pos 65536 *ℤ energy phase counts)

-- the rule on the gap: 2^16*energy - M*totals <= 2^16*gap
abbrev pub MeetsGap : List ℤ → List ℤ → ℤ → ℤ → Type 0
MeetsGap potentials totals least gap = (pos 65536 *ℤ least -ℤ worth potentials (at totals)) ≤ℤ (pos 65536 *ℤ gap)

-- The numbers of a report's certificate, for the asked gap in µJ per mol of components: the potentials lie below every
-- constitution, the gap is the least number of at least 0 that the rule allows, and it is at most
-- ceil (asked gap * sum of totals / N). No total is above the asked one, and one differs from it by the tolerance.
pub record IsCertified (system : System) (asked_gap : ℕ) (report : Report) : Type 0 where
  pub one_each : length report.potentials ≡ length system.elements
  pub above : IsAbove system report.potentials
  pub gap_low : pos 0 ≤ℤ report.gap
  pub gap_allowed : MeetsGap report.potentials report.totals report.energy report.gap
  pub gap_least : (g : ℤ) → pos 0 ≤ℤ g → MeetsGap report.potentials report.totals report.energy g → report.gap ≤ℤ g
  pub gap_small : report.gap ≤ℤ int_div_euclid (pos asked_gap *ℤ sum_of (λ n. n) report.totals +ℤ (pos system.lattice -ℤ pos 1)) (pos system.lattice)
  pub none_above : (c : ℕ) → c < length system.elements → at report.totals c ≤ℤ at report.asked c
  pub tolerance_met : (c : ℕ) × (c < length system.elements) × (at report.asked c -ℤ at report.totals c ≡ report.tolerance)

-- A certificate is sound: where the potentials lie below every constitution and the rule on the gap holds, no rival is
-- lower than the energy by more than the gap.
abbrev pub CertificateIsSound : Type 0
CertificateIsSound = (system : System) (potentials totals : List ℤ) (energy gap : ℤ) → length potentials ≡ length totals →
    IsAbove system potentials → MeetsGap potentials totals energy gap → IsWithin system totals energy gap
