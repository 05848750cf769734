-- A known column comes in at a place: the columns of the basis, their rows and their costs.
use Rattle.std.proofs.Common.{◌≡◌, ℕ, zero, suc, ◌<◌, List, [], ◌∷◌, length, get_or, set, arith, ap, sym, ◌∙◌, subst, inl, inr}
use Rattle.std.specs.Prelude.{ℤ, pos, ◌*ℤ◌, Option, Some, None}
use Rattle.std.proofs.lemmas.Bool.{cases_eq, cases_lt}
use Rattle.std.proofs.lemmas.List.{get_or-set_same, get_or-set_other, length-set}
use Rattle.cal_math.specs.Vectors.{at}
use Rattle.lp_basis.specs.Held.{IsHeld, CanEnter, IsPut}
use Rattle.lp_basis.specs.Potentials.{CanPrice, IsPotentials}
use Rattle.lp_stage.specs.Pricing.{cost_in}
use Rattle.lp_stage.specs.Leaving.{amounts_at}
use Rattle.lp_stage.specs.Stages.{column_at, known_cost, IsKnown, basis_columns, basis_costs, IsPhase, IsPlacedBasis, CanMove}
use Rattle.lp_basis.specs.declared.row.Row.{Row}
use Rattle.lp_basis.specs.declared.column.Column.{Column}
use Rattle.lp_stage.specs.declared.phase.Phase.{Phase}
use Rattle.lp_basis.specs.declared.potential.Potentials.{Potentials}
use Rattle.lp_basis.proofs.Held.{at_past}

pub cost_read : (phase : Phase) (columns : List Column) (k : ℕ) (x : Column) → k < length columns → x ≡ get_or columns k x → known_cost phase columns k ≡ cost_in phase x
cost_read phase [] k x lt e = absurd (omega arith)
cost_read phase (y ∷ columns) zero x lt e = ap (cost_in phase) (sym e)
cost_read phase (y ∷ columns) (suc k) x lt e = cost_read phase columns k x (omega arith) e

pub can_enter : (b w s : ℕ) (phase : Phase) (columns : List Column) (places : List (Option ℕ)) (rows : List Row) (i k : ℕ) → CanMove b w s phase columns places rows i k →
    CanEnter (suc b) w (basis_columns columns places) rows i (amounts_at columns k)
can_enter b w s phase columns places rows i k can =
    let start = can.during.fine k can.known in
    record { held = can.basis.held; within = can.place; sized = start.sized; least = start.least; sum = start.sum; met = can.met }

pub put_place : (b w s : ℕ) (phase : Phase) (columns : List Column) (places : List (Option ℕ)) (rows : List Row) (i k : ℕ) → CanMove b w s phase columns places rows i k →
    IsPut (suc b) i (basis_columns columns places) (amounts_at columns k) (basis_columns columns (set places i (Some k)))
put_place b w s phase columns places rows i k can = record {
  enters = λ c lt. ap (λ (p : Option ℕ). column_at columns p i c) (get_or-set_same places i (Some k) None (omega (arith, can.place, can.basis.count)));
  stays = λ j lt ne c less. ap (λ (p : Option ℕ). column_at columns p j c) (get_or-set_other places i j (Some k) None ne);
}

pub placed_basis : (b w s : ℕ) (phase : Phase) (columns : List Column) (places : List (Option ℕ)) (rows : List Row) (i k : ℕ) (next : List Row) → CanMove b w s phase columns places rows i k →
    IsHeld (suc b) w (basis_columns columns (set places i (Some k))) next → IsPlacedBasis b w columns (set places i (Some k)) next
placed_basis b w s phase columns places rows i k next can held = record {
  count = length-set places i (Some k) ∙ can.basis.count;
  known = λ j lt. elim (cases_eq j i) [
    | inl e ↦ subst (λ (l : ℕ). IsKnown (length columns) (get_or (set places i (Some k)) l None)) (sym e) (subst (IsKnown (length columns)) (sym (get_or-set_same places i (Some k) None (omega (arith, can.place, can.basis.count)))) can.known)
    | inr ne ↦ subst (IsKnown (length columns)) (sym (get_or-set_other places i j (Some k) None ne)) (can.basis.known j (omega (arith, length-set places i (Some k), lt)))
  ];
  held = held;
}

pub can_price : (b w s : ℕ) (phase : Phase) (columns : List Column) (places : List (Option ℕ)) (rows : List Row) (costs : List ℤ) → IsPhase b w s phase columns → IsPlacedBasis b w columns places rows → length costs ≡ length places →
    ((j : ℕ) → j < length places → at costs j ≡ basis_costs phase columns places j) → CanPrice b w s (basis_columns columns places) rows costs
can_price b w s phase columns places rows costs during basis same are = record {
  held = basis.held;
  few = during.few;
  sized = same ∙ basis.count;
  small = λ j. elim (cases_lt j (length places)) [
    | inl lt ↦ rw (are j lt) (during.small (get_or places j None))
    | inr le ↦ rw (at_past costs j (omega (arith, same))) (omega arith)
  ];
  cost_room = during.cost_room;
  room = during.room;
}

pub potentials_costs : (n : ℕ) (columns : ℕ → ℕ → ℤ) (f g : ℕ → ℤ) (potentials : Potentials) → ((j : ℕ) → j < n → f j ≡ g j) → IsPotentials n columns f potentials → IsPotentials n columns g potentials
potentials_costs n columns f g potentials same is = record {
  sized = is.sized;
  priced = record { positive = is.priced.positive; meets = λ j lt. is.priced.meets j lt ∙ ap (λ (z : ℤ). pos potentials.denominator *ℤ z) (same j lt) };
  reduced = is.reduced;
}
