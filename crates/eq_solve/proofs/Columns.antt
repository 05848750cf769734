-- The columns of lists of counts, and the models of a system's phases.
use Rattle.std.proofs.Common.{◌≡◌, ℕ, zero, suc, ◌<◌, List, [], ◌∷◌, Some, length, map, get_or, refl, arith, ◌∙◌}
use Rattle.std.specs.Prelude.{pos, slice_get}
use Rattle.cal_math.specs.Vectors.{at}
use Rattle.cef_core.specs.declared.phase.PhaseAt.{PhaseAt}
use Rattle.cef_core.specs.declared.system.System.{System}
use Rattle.cef_core.specs.Constitutions.{content}
use Rattle.cef_core.specs.Energies.{energy}
use Rattle.lp_basis.specs.declared.column.Column.{Column}
use Rattle.eq_solve.specs.Points.{IsColumnOf}

-- the models of the system's phases
pub model_read : {P : Type 0} (phase_of : P → PhaseAt) (models : List P) (phases : List PhaseAt) (place : ℕ) (d : P) (phase : PhaseAt) → map phase_of models ≡ phases → slice_get phases place ≡ Some phase → phase_of (get_or models place d) ≡ phase
model_read phase_of [] [] place d phase are is_phase = absurd cc
model_read phase_of [] (p ∷ phases) place d phase are is_phase = absurd cc
model_read phase_of (m ∷ models) [] place d phase are is_phase = absurd cc
model_read phase_of (m ∷ models) (p ∷ phases) zero d phase are is_phase =
    let first : phase_of m ≡ p = cc in
    let other : p ≡ phase = cc in
    first ∙ other
model_read phase_of (m ∷ models) (p ∷ phases) (suc place) d phase are is_phase =
    let rest : map phase_of models ≡ phases = cc in
    model_read phase_of models phases place d phase rest is_phase

pub column_is : (system : System) (place n : ℕ) (phase : PhaseAt) (site : List (List ℕ)) (column : Column) → slice_get system.phases place ≡ Some phase → n ≡ length system.elements → length column.amounts.items ≡ n →
    ((c : ℕ) → c < n → at column.amounts.items c ≡ content phase site c) → column.cost ≡ energy phase site → IsColumnOf system (record { phase = place; amount = pos 0; site = site }) column
column_is system place n phase site column is size len are cost = record {
  same = len ∙ size;
  amounts_are = λ c lt. are c (omega (arith, lt, size)) ∙ simp is refl;
  cost_is = cost ∙ simp is refl;
}
