-- A phase runs from a stage with no weight below 0.
use Rattle.std.proofs.Common.{◌≡◌, ℕ, zero, suc, ◌+◌, ◌*◌, ◌^◌, ◌<◌, ◌≤◌, List, length, refl, arith, ap, sym, ◌∙◌, subst, inl, inr}
use Rattle.std.specs.Prelude.{ℤ, pos, negsuc, ◌≤ℤ◌, ◌⊎◌}
use Rattle.std.proofs.lemmas.Int.{ints}
use Rattle.std.proofs.lemmas.Bool.{cases_eq, cases_lt}
use Rattle.std.proofs.Math.Nat.{pow-suc, mul-le-mul_right}
use Rattle.std.proofs.lemmas.Nat.{mul-le}
use Rattle.cal_math.specs.Vectors.{at, sum_to, dot}
use Rattle.cal_math.proofs.Vectors.{sum-same, sum-le, dot_same}
use Rattle.lp_laws.proofs.Bounds.{sum_times}
use Rattle.lp_laws.specs.Bases.{IsBasis}
use Rattle.lp_laws.specs.Orders.{IsLexAbove}
use Rattle.lp_basis.specs.Held.{IsHeld, numbers_at, own_at}
use Rattle.lp_basis.proofs.Held.{at_past}
use Rattle.lp_basis.specs.declared.column.Column.{Column}
use Rattle.lp_stage.specs.Leaving.{amounts_at, start_product, IsStart}
use Rattle.lp_stage.specs.Stages.{basis_columns}
use Rattle.lp_stage.specs.Running.{IsRunning, IsSettled}
use Rattle.lp_stage.specs.declared.phase.Phase.{Phase}
use Rattle.lp_stage.specs.declared.stage.Stage.{Stage}
use Rattle.lp_core.specs.Fitting.{IsTarget}
use Rattle.lp_core.specs.Starts.{AreStarts, CanRun, HasRun}

-- the greatest sum of a start
pub start_width : ℕ → ℕ
start_width w = w + 2 ^ 53

IsBasis-same : (n m : ℕ) (columns columns' rows : ℕ → ℕ → ℤ) (own : ℕ → ℤ) → ((j c : ℕ) → j < m → c < n → columns' j c ≡ columns j c) → IsBasis n m columns rows own → IsBasis n m columns' rows own
IsBasis-same n m columns columns' rows own same basis = record {
  owns = λ j lt. dot_same n (rows j) (columns' j) (rows j) (columns j) (λ c q. refl) (λ c q. same j c lt q) ∙ basis.owns j lt;
  kills = λ i j p lt ne. dot_same n (rows i) (columns' j) (rows i) (columns j) (λ c q. refl) (λ c q. same j c lt q) ∙ basis.kills i j p lt ne;
  above = basis.above;
  complete = basis.complete;
}

pub target_sum : (b : ℕ) (target : List ℤ) → length target ≡ suc b → IsTarget target → sum_to (suc b) (at target) ≤ℤ pos (2 ^ 53)
target_sum b target size aim =
    let most = sum-le (suc b) (at target) (λ c. pos (2 ^ 50)) (λ c lt. aim.most c) in
    let small : suc b ≤ 8 = omega (arith, aim.few, size) in
    let few : suc b * 2 ^ 50 ≤ 8 * 2 ^ 50 = mul-le-mul_right (2 ^ 50) small in
    omega (arith, ints, most, sum_times (suc b) (2 ^ 50), few)

pub room_is : (b w : ℕ) → 1 ≤ w → w ^ suc b ≤ 2 ^ 62 → w ^ b * (w + 2 ^ 53) < 2 ^ 126
room_is b w some room =
    let less : w ^ b ≤ 2 ^ 62 = omega (arith, room, pow-suc w b, mul-le (w ^ b) 1 (w ^ b) w (omega arith) some) in
    omega (arith, room, pow-suc w b, mul-le-mul_right (2 ^ 53) less)

start_fits : (b w s : ℕ) (phase : Phase) (columns : List Column) (target : List ℤ) (stage : Stage) (starts : List Column) → CanRun b w s phase columns target stage →
    AreStarts (suc b) columns target stage.places.items (suc b) starts → (k : ℕ) → k < suc (suc b) → IsStart (suc b) (start_width w) (amounts_at starts k)
unfolding start_width
start_fits b w s phase columns target stage starts can are zero lt =
    rw are.first (record { sized = can.size; least = can.aim.least; sum = omega (arith, ints, target_sum b target can.size can.aim) })
start_fits b w s phase columns target stage starts can are (suc j) lt =
    let plain = can.basis.held.plain in
    let cols : ℕ → ℕ → ℤ = basis_columns columns stage.places.items in
    record {
      sized = are.lengths j (omega arith);
      least = λ c. elim (cases_lt c (suc b)) [
        | inl less ↦ rw (are.others j c (omega arith) less) (plain.least j c (omega arith) less)
        | inr le ↦ rw (at_past (amounts_at starts (suc j)) c (omega (arith, are.lengths j (omega arith)))) (omega (arith, ints))
      ];
      sum = omega (arith, ints, sum-same (suc b) (at (amounts_at starts (suc j))) (cols j) (λ c less. are.others j c (omega arith) less), plain.sums j (omega arith));
    }

zero_or_some : (x : ℤ) → pos 0 ≤ℤ x → (x ≡ pos 0) ⊎ (pos 1 ≤ℤ x)
zero_or_some (pos zero) h = inl refl
zero_or_some (pos (suc n)) h = inr (omega (arith, ints))
zero_or_some (negsuc n) h = absurd (omega (arith, ints))

list_above : (b w s : ℕ) (phase : Phase) (columns : List Column) (target : List ℤ) (stage : Stage) (starts : List Column) → CanRun b w s phase columns target stage →
    AreStarts (suc b) columns target stage.places.items (suc b) starts → (j : ℕ) → j < suc b → IsLexAbove (suc (suc b)) (λ k. start_product (suc b) starts (numbers_at stage.rows.items j) k)
list_above b w s phase columns target stage starts can are j lt =
    elim (zero_or_some (dot (suc b) row (at target)) least) [
      | inr some ↦ record { place = 0; within = omega arith; zeros = λ c less. absurd (omega arith); above = subst (λ (z : ℤ). pos 1 ≤ℤ z) (sym first) some }
      | inl none ↦ record {
        place = suc j;
        within = omega arith;
        zeros = zeros none;
        above = subst (λ (z : ℤ). pos 1 ≤ℤ z) (sym (other j lt ∙ held.basis.owns j lt)) (held.basis.above j lt);
      }
    ]
  where
    held : IsHeld (suc b) w (basis_columns columns stage.places.items) stage.rows.items
    held = can.basis.held

    row : ℕ → ℤ
    row = at (numbers_at stage.rows.items j)

    least : pos 0 ≤ℤ dot (suc b) row (at target)
    least = subst (λ (n : ℕ). pos 0 ≤ℤ dot n row (at target)) can.size (can.least j lt)

    first : start_product (suc b) starts (numbers_at stage.rows.items j) 0 ≡ dot (suc b) row (at target)
    first = ap (λ (xs : List ℤ). dot (suc b) row (at xs)) are.first

    other : (i : ℕ) → i < suc b → start_product (suc b) starts (numbers_at stage.rows.items j) (suc i) ≡ dot (suc b) row (basis_columns columns stage.places.items i)
    other i less = dot_same (suc b) row (at (amounts_at starts (suc i))) row (basis_columns columns stage.places.items i) (λ c q. refl) (λ c q. are.others i c less q)

    zeros : dot (suc b) row (at target) ≡ pos 0 → (k : ℕ) → k < suc j → start_product (suc b) starts (numbers_at stage.rows.items j) k ≡ pos 0
    zeros none zero less = first ∙ none
    zeros none (suc i) less = other i (omega arith) ∙ held.basis.kills j i lt (omega arith) (λ e. omega (arith, e))

pub running_from : (b w s : ℕ) (phase : Phase) (columns : List Column) (target : List ℤ) (stage : Stage) (starts : List Column) → CanRun b w s phase columns target stage →
    AreStarts (length target) columns target stage.places.items (length target) starts → IsRunning b w s (start_width w) phase columns starts stage
unfolding start_width
running_from b w s phase columns target stage starts can are =
    let at_size = subst (λ (n : ℕ). AreStarts n columns target stage.places.items n starts) can.size are in
    let held = can.basis.held in
    record {
      during = can.during;
      fine = can.fine;
      basis = can.basis;
      potentials = can.potentials;
      count = at_size.count;
      fits = start_fits b w s phase columns target stage starts can at_size;
      room = room_is b w held.wide held.room;
      rows0 = λ j. at (numbers_at stage.rows.items j);
      own0 = own_at stage.rows.items;
      begun = IsBasis-same (suc b) (suc b) (basis_columns columns stage.places.items) (λ k. at (amounts_at starts (suc k))) (λ j. at (numbers_at stage.rows.items j)) (own_at stage.rows.items) (λ j c lt less. at_size.others j c lt less) held.basis;
      above = list_above b w s phase columns target stage starts can at_size;
    }

least_of : (n : ℕ) (f : ℕ → ℤ) → IsLexAbove (suc n) f → pos 0 ≤ℤ f 0
least_of n f above =
    elim (cases_eq above.place 0) [
      | inl e ↦ let some : pos 1 ≤ℤ f 0 = subst (λ (k : ℕ). pos 1 ≤ℤ f k) e above.above in omega (arith, ints, some)
      | inr ne ↦ omega (arith, ints, above.zeros 0 (omega arith))
    ]

pub has_run : (b w s : ℕ) (phase : Phase) (columns : List Column) (target : List ℤ) (stage end : Stage) (starts : List Column) → CanRun b w s phase columns target stage →
    AreStarts (length target) columns target stage.places.items (length target) starts → IsSettled phase columns starts stage end → HasRun b w s phase columns target stage end
has_run b w s phase columns target stage end starts can are settled =
    let done = settled b w s (start_width w) (running_from b w s phase columns target stage starts can are) in
    let run = done.0 in
    record {
      run = record {
        during = run.during;
        fine = run.fine;
        aim = can.aim;
        size = can.size;
        basis = run.basis;
        potentials = run.potentials;
        least = λ j lt. subst (λ (n : ℕ). pos 0 ≤ℤ dot n (at (numbers_at end.rows.items j)) (at target)) (sym can.size)
            (subst (λ (xs : List ℤ). pos 0 ≤ℤ dot (suc b) (at (numbers_at end.rows.items j)) (at xs)) are.first (least_of (suc b) (λ k. start_product (suc b) starts (numbers_at end.rows.items j) k) (run.above j lt)));
      };
      dear = done.1;
      keeps = done.2;
    }
