-- Why a certificate is sound: every rival lies on or above the plane of the potentials, and so does its total.
use Rattle.std.proofs.Common.{◌≡◌, ℕ, suc, ◌<◌, List, [], ◌∷◌, length, refl, arith, ap, sym, ◌∙◌}
use Rattle.std.specs.Prelude.{ℤ, pos, ◌+ℤ◌, ◌-ℤ◌, ◌*ℤ◌, ◌≤ℤ◌}
use Rattle.std.proofs.lemmas.Int.{ints}
use Rattle.cal_math.specs.Whole.{*ℤ-+ℤ, *ℤ_left, *ℤ-≤, pos-*ℤ-≤, halves_cancel}
use Rattle.cal_math.specs.Vectors.{at}
use Rattle.cal_math.proofs.Vectors.{dot-zero, dot-plus, dot-scale, dot_same}
use Rattle.cef_report.specs.Assemblages.{content_of, energy_of, total, total_energy, IsEntry, IsAssemblage, IsWithin}
use Rattle.cef_report.specs.Certificates.{IsAbove, MeetsGap}
use Rattle.cef_core.specs.Worth.{worth}
use Rattle.cef_report.specs.declared.entry.Entry.{Entry}
use Rattle.cef_core.specs.declared.system.System.{System}

pub entry_above : (s : System) (ms : List ℤ) → IsAbove s ms → (e : Entry) → IsEntry s e → worth ms (content_of s e) ≤ℤ (pos 65536 *ℤ energy_of s e)
entry_above s ms above e is = simp is.is_phase (above e.phase is.phase e.site is.is_phase is.constitution)

pub assemblage_above : (s : System) (ms : List ℤ) → IsAbove s ms → (x : List Entry) → IsAssemblage s x → worth ms (total s x) ≤ℤ (pos 65536 *ℤ total_energy s x)
assemblage_above s ms above [] all = omega (arith, ints, dot-zero (length ms) (at ms))
assemblage_above s ms above (e ∷ x) all =
    let is : IsEntry s e = all 0 e (omega arith) in
    let some : pos 1 ≤ℤ e.amount = is.present in
    let first : worth ms (content_of s e) ≤ℤ (pos 65536 *ℤ energy_of s e) = entry_above s ms above e is in
    let rest : worth ms (total s x) ≤ℤ (pos 65536 *ℤ total_energy s x) = assemblage_above s ms above x (λ k d lt. all (suc k) d (omega arith)) in
    omega (
      arith,
      ints,
      dot-plus (length ms) (at ms) (λ c. e.amount *ℤ content_of s e c) (total s x),
      dot-scale (length ms) e.amount (at ms) (content_of s e),
      *ℤ-≤ e.amount _ _ (omega (arith, ints)) first,
      *ℤ-+ℤ (pos 65536) (e.amount *ℤ energy_of s e) (total_energy s x),
      *ℤ_left (pos 65536) e.amount (energy_of s e),
    )

pub IsWithin-from_certificate : (s : System) (ms : List ℤ) (totals : List ℤ) (least gap : ℤ) → length ms ≡ length totals →
    IsAbove s ms → MeetsGap ms totals least gap → IsWithin s totals least gap
IsWithin-from_certificate s ms totals least gap len above meets m x rival =
    let above_all : worth ms (total s x) ≤ℤ (pos 65536 *ℤ total_energy s x) = assemblage_above s ms above x rival.assemblage in
    let same : worth ms (total s x) ≡ worth ms (λ c. pos m *ℤ at totals c) = dot_same (length ms) (at ms) (total s x) (at ms) (λ c. pos m *ℤ at totals c) (λ c lt. refl) (λ c lt. rival.totals_are c (omega arith)) in
    let scaled : worth ms (λ c. pos m *ℤ at totals c) ≡ pos m *ℤ worth ms (at totals) = dot-scale (length ms) (pos m) (at ms) (at totals) in
    let plane : (pos 65536 *ℤ (least -ℤ gap)) ≤ℤ worth ms (at totals) = omega (arith, ints, *ℤ-+ℤ (pos 65536) least gap) in
    let times : (pos m *ℤ (pos 65536 *ℤ (least -ℤ gap))) ≤ℤ (pos m *ℤ worth ms (at totals)) = pos-*ℤ-≤ m _ _ plane in
    halves_cancel _ _ (omega (arith, ints, *ℤ_left (pos m) (pos 65536) (least -ℤ gap)))
