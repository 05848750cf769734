-- Amounts of known columns as entries: the same totals, the same energy.
use Rattle.std.proofs.Common.{◌≡◌, ℕ, zero, suc, ◌<◌, ◌≤◌, List, [], ◌∷◌, length, map, Bool, true, false, cond, refl, arith, ap, sym, ◌∙◌, inl, inr}
use Rattle.std.specs.Prelude.{ℤ, pos, negsuc, ◌+ℤ◌, ◌-ℤ◌, ◌*ℤ◌, ◌≤ℤ◌, All, filter, ◌⊎◌}
use Rattle.std.specs.List.{AllByRecursion}
use Rattle.std.proofs.lemmas.Int.{ints}
use Rattle.std.proofs.lemmas.Bool.{lt-ltb}
use Rattle.cal_math.specs.Sums.{sum_of}
use Rattle.cal_math.specs.Whole.{*ℤ-+ℤ, *ℤ--ℤ, *ℤ_left}
use Rattle.cal_math.specs.Vectors.{at, dot}
use Rattle.cal_math.proofs.Vectors.{dot-scale}
use Rattle.lp_basis.specs.declared.column.Column.{Column}
use Rattle.lp_stage.specs.Leaving.{amounts_at}
use Rattle.lp_core.specs.Plans.{Weight, given_amount, column_cost, cost_of}
use Rattle.cal_math.proofs.Vectors.{dot-plus, dot-zero}
use Rattle.cef_report.specs.declared.entry.Entry.{Entry}
use Rattle.cef_core.specs.declared.system.System.{System}
use Rattle.cef_report.specs.Assemblages.{content_of, energy_of, total, total_energy, IsEntry}
use Rattle.eq_solve.specs.Points.{IsConstitutionOf, AreKnown}
use Rattle.eq_solve.specs.Figures.{is_above, is_some, entry_at, left_at, left_of}
use Rattle.eq_solve.proofs.Amounts.{here}
use Rattle.eq_solve.proofs.Knowing.{column_of}

pub all_from : {A : Type 0} (P : A → Type 0) (xs : List A) → AllByRecursion P xs → All P xs
all_from P [] all k d lt = absurd (omega arith)
all_from P (x ∷ xs) all zero d lt = all.0
all_from P (x ∷ xs) all (suc k) d lt = all_from P xs all.1 k d (omega arith)

-- ---- amounts of 0 count for nothing

above_cases : (z : ℤ) → pos 0 ≤ℤ z → ((is_above z ≡ true) × (pos 1 ≤ℤ z)) ⊎ ((is_above z ≡ false) × (z ≡ pos 0))
above_cases (pos zero) least = inr (refl, refl)
above_cases (pos (suc n)) least = inl (lt-ltb 0 (suc n) (omega arith), omega (arith, ints))
above_cases (negsuc n) least = absurd (omega (arith, ints))

pub sum_some : (f : ℕ → ℤ) (m : ℕ) (amounts : List Weight) → AllByRecursion (λ w. (w.0 < m) × (pos 0 ≤ℤ w.1)) amounts → sum_of (λ w. w.1 *ℤ f w.0) (filter is_some amounts) ≡ sum_of (λ w. w.1 *ℤ f w.0) amounts
sum_some f m [] named = refl
sum_some f m (w ∷ amounts) named =
    elim (above_cases w.1 named.0.1) [
      | inl yes_ ↦ rw yes_.0 (ap (λ (z : ℤ). w.1 *ℤ f w.0 +ℤ z) (sum_some f m amounts named.1))
      | inr no_ ↦ rw no_.0 (omega (arith, ints, sum_some f m amounts named.1, ap (λ (z : ℤ). z *ℤ f w.0) no_.1))
    ]

-- those of at least 1
abbrev pub IsCounted : ℕ → Weight → Type 0
IsCounted m w = (w.0 < m) × (pos 1 ≤ℤ w.1)

pub some_counted : (m : ℕ) (amounts : List Weight) → AllByRecursion (λ w. (w.0 < m) × (pos 0 ≤ℤ w.1)) amounts → AllByRecursion (IsCounted m) (filter is_some amounts)
some_counted m [] named = tt
some_counted m (w ∷ amounts) named =
    elim (above_cases w.1 named.0.1) [
      | inl yes_ ↦ rw yes_.0 ((named.0.0, yes_.1), some_counted m amounts named.1)
      | inr no_ ↦ rw no_.0 (some_counted m amounts named.1)
    ]

pub some-few : (amounts : List Weight) → length (filter is_some amounts) ≤ length amounts
some-few [] = omega arith
some-few (w ∷ amounts) = by_test (is_some w) (some-few amounts)
  where
    by_test : (b : Bool) → length (filter is_some amounts) ≤ length amounts → length (cond b (w ∷ filter is_some amounts) (filter is_some amounts)) ≤ suc (length amounts)
    by_test true h = omega (arith, h)
    by_test false h = omega (arith, h)

-- ---- entries

-- the entry of an amount, and its column
pub record IsEntryOf (system : System) (known : List Entry) (columns : List Column) (w : Weight) : Type 0 where
  pub is_constitution : IsConstitutionOf system (entry_at known w)
  pub content_is : (c : ℕ) → c < length system.elements → content_of system (entry_at known w) c ≡ at (amounts_at columns w.0) c
  pub energy_is : energy_of system (entry_at known w) ≡ column_cost columns w.0

abbrev none : Entry
none = record { phase = 0; amount = pos 0; site = [] }

pub entry_is : (system : System) (known : List Entry) (columns : List Column) (w : Weight) → AreKnown system known columns → w.0 < length known → IsEntryOf system known columns w
entry_is system known columns w are lt =
    let has = column_of system known columns w.0 none are lt in
    let h = here columns w.0 has.within in
    let same : h.column ≡ has.column = sym (h.read has.column) ∙ has.read has.column in
    let constitution = has.is.is_constitution in
    record {
      is_constitution = record { phase = constitution.phase; is_phase = constitution.is_phase; constitution = constitution.constitution };
      content_is = λ c less. sym (rw (h.amounts, same) (has.is.column_is.amounts_are c less));
      energy_is = sym (rw (h.cost, same) has.is.column_is.cost_is);
    }

pub total_is : (system : System) (known : List Entry) (columns : List Column) (amounts : List Weight) (c : ℕ) → AreKnown system known columns → AllByRecursion (λ w. w.0 < length known) amounts → c < length system.elements →
    total system (map (entry_at known) amounts) c ≡ given_amount columns amounts c
total_is system known columns [] c are named lt = refl
total_is system known columns (w ∷ amounts) c are named lt =
    ap (λ (z : ℤ). w.1 *ℤ z +ℤ total system (map (entry_at known) amounts) c) ((entry_is system known columns w are named.0).content_is c lt)
    ∙ ap (λ (z : ℤ). w.1 *ℤ at (amounts_at columns w.0) c +ℤ z) (total_is system known columns amounts c are named.1 lt)

pub total_energy_is : (system : System) (known : List Entry) (columns : List Column) (amounts : List Weight) → AreKnown system known columns → AllByRecursion (λ w. w.0 < length known) amounts →
    total_energy system (map (entry_at known) amounts) ≡ cost_of columns amounts
total_energy_is system known columns [] are named = refl
total_energy_is system known columns (w ∷ amounts) are named =
    ap (λ (z : ℤ). w.1 *ℤ z +ℤ total_energy system (map (entry_at known) amounts)) (entry_is system known columns w are named.0).energy_is
    ∙ ap (λ (z : ℤ). w.1 *ℤ column_cost columns w.0 +ℤ z) (total_energy_is system known columns amounts are named.1)

pub entries_are : (system : System) (known : List Entry) (columns : List Column) (amounts : List Weight) → AreKnown system known columns → AllByRecursion (IsCounted (length known)) amounts →
    AllByRecursion (IsEntry system) (map (entry_at known) amounts)
entries_are system known columns [] are counted = tt
entries_are system known columns (w ∷ amounts) are counted =
    let is = (entry_is system known columns w are counted.0.0).is_constitution in
    (record { phase = is.phase; is_phase = is.is_phase; constitution = is.constitution; present = counted.0.1 }, entries_are system known columns amounts are counted.1)

-- ---- what the plane leaves, from the energy and the totals

turned : (a g v rest_g rest_v : ℤ) → a *ℤ (pos 65536 *ℤ g -ℤ v) +ℤ (pos 65536 *ℤ rest_g -ℤ rest_v) ≡ pos 65536 *ℤ (a *ℤ g +ℤ rest_g) -ℤ (a *ℤ v +ℤ rest_v)
turned a g v rest_g rest_v = omega (arith, ints, *ℤ--ℤ a (pos 65536 *ℤ g) v, *ℤ_left a (pos 65536) g, *ℤ-+ℤ (pos 65536) (a *ℤ g) rest_g)

pub left_sum : (potentials : List ℤ) (columns : List Column) (amounts : List Weight) →
    left_of potentials columns amounts ≡ pos 65536 *ℤ cost_of columns amounts -ℤ dot (length potentials) (at potentials) (given_amount columns amounts)
left_sum potentials columns [] = omega (arith, ints, dot-zero (length potentials) (at potentials))
left_sum potentials columns (w ∷ amounts) =
    let n : ℕ = length potentials in
    let p : ℕ → ℤ = at potentials in
    let b : ℕ → ℤ = at (amounts_at columns w.0) in
    let g : ℤ = column_cost columns w.0 in
    ap (λ (z : ℤ). w.1 *ℤ left_at potentials columns w.0 +ℤ z) (left_sum potentials columns amounts)
    ∙ turned w.1 g (dot n p b) (cost_of columns amounts) (dot n p (given_amount columns amounts))
    ∙ ap (λ (z : ℤ). pos 65536 *ℤ (w.1 *ℤ g +ℤ cost_of columns amounts) -ℤ z)
    (ap (λ (z : ℤ). z +ℤ dot n p (given_amount columns amounts)) (sym (dot-scale n w.1 p b)) ∙ sym (dot-plus n p (λ c. w.1 *ℤ b c) (given_amount columns amounts)))
