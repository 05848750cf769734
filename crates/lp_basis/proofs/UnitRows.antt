-- The rows of the unit columns.
use Rattle.std.proofs.Common.{◌≡◌, ℕ, ◌<◌, ◌≤◌, ◌^◌, ◌≢◌, List, [], ◌∷◌, length, get_or, refl, arith, ap, sym, ◌∙◌, subst}
use Rattle.std.specs.Prelude.{ℤ, pos}
use Rattle.lp_laws.proofs.Units.{IsBasis-units, IsPrimitive-unit, IsPlain-units}
use Rattle.lp_laws.specs.Bases.{IsUnit}
use Rattle.cal_math.specs.Vectors.{at}
use Rattle.lp_basis.specs.Held.{IsHeld, numbers_at, own_at}
use Rattle.lp_basis.specs.Steps.{IsUnitRow}
use Rattle.lp_basis.specs.declared.row.Row.{Row}
use Rattle.lp_basis.proofs.Placed.{read_back}

pub IsUnit-from_numbers : (n k : ℕ) (f : ℕ → ℤ) → k < n → ((c : ℕ) → c < n → (c ≡ k → f c ≡ pos 1) × (c ≢ k → f c ≡ pos 0)) → IsUnit n k f
IsUnit-from_numbers n k f lt h = record { one = (h k lt).0 refl; zeros = λ c less ne. (h c less).1 ne }

held_from : (n w : ℕ) (columns : ℕ → ℕ → ℤ) (rows : List Row) (d : Row) → 1 ≤ n → 1 ≤ w → w ^ n ≤ 2 ^ 62 → ((j : ℕ) → j < n → IsUnit n j (columns j)) → length rows ≡ n →
    ((j : ℕ) (d : Row) → j < n → IsUnitRow n j (get_or rows j d)) → IsHeld n w columns rows
held_from n w columns rows d size some room units count each = record {
  count = count;
  lengths = λ j lt. ap length (read j lt).0 ∙ (each j d lt).sized;
  basis = IsBasis-units n columns (λ j. at (numbers_at rows j)) (own_at rows) units unit_rows (λ j lt. (read j lt).1 ∙ (each j d lt).one);
  primitive = λ j lt. IsPrimitive-unit n j (at (numbers_at rows j)) lt (unit_rows j lt);
  plain = IsPlain-units n w columns some units;
  positive = size;
  wide = some;
  room = room;
}
  where
    read : (j : ℕ) → j < n → (numbers_at rows j ≡ (get_or rows j d).numbers.items) × (own_at rows j ≡ (get_or rows j d).own)
    read j lt = read_back rows j d (omega (arith, count))

    unit_rows : (j : ℕ) → j < n → IsUnit n j (at (numbers_at rows j))
    unit_rows j lt = subst (λ (xs : List ℤ). IsUnit n j (at xs)) (sym (read j lt).0) (each j d lt).unit

pub IsHeld-units : (n w : ℕ) (columns : ℕ → ℕ → ℤ) (rows : List Row) → 1 ≤ n → 1 ≤ w → w ^ n ≤ 2 ^ 62 → ((j : ℕ) → j < n → IsUnit n j (columns j)) → length rows ≡ n →
    ((j : ℕ) (d : Row) → j < n → IsUnitRow n j (get_or rows j d)) → IsHeld n w columns rows
IsHeld-units n w columns [] size some room units count each = absurd (omega (arith, count))
IsHeld-units n w columns (row ∷ rows) size some room units count each = held_from n w columns (row ∷ rows) row size some room units count each
