use Rattle.std.proofs.Common.{◌≡◌, ◌<◌, ◌≤◌, ◌∙◌, ℕ, List, length, map, sym, ap, true, false, arith}
use Rattle.std.specs.Prelude.{filter, nat_lt}
use Rattle.std.proofs.lemmas.List.{take_all}
use Rattle.std.proofs.lemmas.Bool.Decides.{nat_tests}
use Rattle.cal_select.specs.Chosen.{Word}
use Rattle.cal_select.proofs.Taken.{kept-next, left_out-next}
use Rattle.cal_select.proofs.Kept_lists.{filter-map}
use Rattle.cal_select.proofs.parameters.interactions.Goals as goal
use Rattle.cal_select.proofs.parameters.interactions.Goals.{then-length-gt1+in_ok-push, else-length-gt1}

above : (n : ℕ) → 1 < n → nat_lt 1 n ≡ true
above n h = grind (arith, nat_tests)

not_above : (n : ℕ) → n ≤ 1 → nat_lt 1 n ≡ false
not_above n h = grind (arith, nat_tests)

pub lists-preserved : goal.lists-preserved
lists-preserved c =
    let list = c.list-length.result.now in
    elim c.if-length-gt1.branch [
      | then-length-gt1+in_ok-push w ↦
          rw w.lengths-is (kept-next (λ (names : List Word). length names) (λ names. nat_lt 1 (length names)) c.args.array.now c.lists.place list c.lists.lengths _ c.list-length.ensures
          (above (length list) w.if-length-gt1.true) c.lists.invariant w.in_ok-push.ensures.ok)
      | else-length-gt1 w ↦
          rw w.lengths-is (left_out-next (λ (names : List Word). length names) (λ names. nat_lt 1 (length names)) c.args.array.now c.lists.place list c.lists.lengths c.list-length.ensures
          (not_above (length list) w.if-length-gt1.false) c.lists.invariant)
    ]

pub returns : goal.returns
returns c =
    let passed : length c.args.array.now ≤ c.lists.place = omega arith in
    c.lists.invariant ∙ ap (λ (lists : List (List Word)). map (λ (names : List Word). length names) (filter (λ names. nat_lt 1 (length names)) lists)) (take_all c.lists.place c.args.array.now passed)
    ∙ sym (filter-map (λ (names : List Word). length names) (λ n. nat_lt 1 n) c.args.array.now)
