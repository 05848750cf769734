-- Tables of the energy of mixing, and the least of an energy less a slope.
use Rattle.std.specs.Prelude.{◌≡◌, ℕ, ◌≤◌, List, refl, ℤ, pos, ◌-ℤ◌, ◌*ℤ◌, ◌≤ℤ◌}
use Rattle.std.specs.Coded.{Coded, code_by, coded×, coded_list, coded_ℕ}
use Rattle.cef_core.specs.declared.phase.PhaseAt.{PhaseAt}

-- what mixing depends on: the temperature, the lattice's number, the ratios of the sublattices
pub record Mixing : Type 0 where
  pub t : ℕ
  pub lattice : ℕ
  pub ratios : List ℕ

abbrev pub mixing_code : Coded Mixing
mixing_code =
    code_by (ℕ × (ℕ × List ℕ)) (coded× coded_ℕ (coded× coded_ℕ (coded_list coded_ℕ))) (λ m. (m.t, (m.lattice, m.ratios))) (λ p. record { t = p.0; lattice = p.1.0; ratios = p.1.1 }) (λ _. refl)

-- that of a phase
abbrev pub mixing_of_phase : PhaseAt → Mixing
mixing_of_phase phase = record { t = phase.t; lattice = phase.lattice; ratios = phase.ratios }

-- the height of an energy h above a slope: 2^16*h(k) - slope*k
abbrev pub height : (ℕ → ℤ) → ℤ → ℕ → ℤ
height h slope k = pos 65536 *ℤ h k -ℤ slope *ℤ pos k

-- the least height from one count to another: the place has it, and none is below
pub record IsLeastOn (h : ℕ → ℤ) (slope : ℤ) (low high place : ℕ) (least : ℤ) : Type 0 where
  pub from : low ≤ place
  pub to : place ≤ high
  pub reached : least ≡ height h slope place
  pub below : (k : ℕ) → low ≤ k → k ≤ high → least ≤ℤ height h slope k
