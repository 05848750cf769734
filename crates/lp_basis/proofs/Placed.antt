-- What stands at each place after an exchange, and that its numbers fit.
use Rattle.std.proofs.Common.{◌≡◌, ℕ, zero, suc, ◌*◌, ◌^◌, ◌<◌, ◌≤◌, ◌≢◌, List, [], ◌∷◌, length, get_or, refl, arith, ap, sym, ◌∙◌, subst, inl, inr}
use Rattle.std.specs.Prelude.{ℤ, pos, ◌-ℤ◌, ◌*ℤ◌, unsigned_abs, FitsSigned}
use Rattle.std.specs.Int.{w128}
use Rattle.std.proofs.lemmas.Int.{ints, unsigned_abs-mul, fits_signed_from_abs}
use Rattle.std.proofs.lemmas.Nat.{mul-le}
use Rattle.std.proofs.Math.Nat.{mul-le-mul_left}
use Rattle.std.proofs.lemmas.Bool.{cases_eq, cases_lt}
use Rattle.cal_math.specs.Whole.{abs-*ℤ-le}
use Rattle.cal_math.specs.Vectors.{at, sum_to, dot}
use Rattle.cal_math.proofs.Vectors.{dot_scaled, dot_bounded}
use Rattle.lp_basis.proofs.Held.{IsHeld-exchange, at_past, number_small, product_small, powers_room}
use Rattle.lp_basis.specs.Rows.{FitsMixed}
use Rattle.lp_basis.specs.Held.{IsHeld, CanEnter, IsPut, numbers_at, own_at}
use Rattle.lp_basis.specs.Steps.{Keeps, IsNext, CanPlace, IsPlaced}
use Rattle.lp_basis.specs.declared.row.Row.{Row}

pub row_read : (rows : List Row) (j : ℕ) (r : Row) → j < length rows → r ≡ get_or rows j r → (numbers_at rows j ≡ r.numbers.items) × (own_at rows j ≡ r.own)
row_read [] j r lt e = absurd (omega arith)
row_read (x ∷ xs) zero r lt e = (ap (λ (v : Row). v.numbers.items) (sym e), ap (λ (v : Row). v.own) (sym e))
row_read (x ∷ xs) (suc j) r lt e = row_read xs j r (omega arith) e

turn_size : (turn : ℤ) → turn *ℤ turn ≡ pos 1 → unsigned_abs turn ≡ 1
turn_size turn e = one (unsigned_abs turn) (sym (unsigned_abs-mul turn turn) ∙ ap unsigned_abs e)
  where
    one : (a : ℕ) → a * a ≡ 1 → a ≡ 1
    one zero e = omega arith
    one (suc zero) e = refl
    one (suc (suc a)) e = absurd (omega (arith, e))

turned_size : (turn z : ℤ) → turn *ℤ turn ≡ pos 1 → unsigned_abs (turn *ℤ z) ≡ unsigned_abs z
turned_size turn z e = unsigned_abs-mul turn z ∙ ap (λ (a : ℕ). a * unsigned_abs z) (turn_size turn e) ∙ omega arith

mine_small : (b w : ℕ) (columns : ℕ → ℕ → ℤ) (rows : List Row) (i : ℕ) (p : ℤ) (mine column : List ℤ) → CanPlace b w columns rows i p mine column → (c : ℕ) → unsigned_abs (at mine c) ≤ w ^ b
mine_small b w columns rows i p mine column can c =
    elim (cases_lt c (suc b)) [
      | inl less ↦ omega (arith, ap unsigned_abs (can.exact c less), turned_size can.turn (at (numbers_at rows i) c) can.one, number_small b w columns rows can.can.held i can.can.within c)
      | inr le ↦ rw (at_past mine c (omega (arith, can.sized))) (omega arith)
    ]

p_small : (b w : ℕ) (columns : ℕ → ℕ → ℤ) (rows : List Row) (i : ℕ) (p : ℤ) (mine column : List ℤ) → CanPlace b w columns rows i p mine column → unsigned_abs p ≤ w ^ b * w
p_small b w columns rows i p mine column can =
    omega (
      arith,
      ap unsigned_abs (can.p_is ∙ dot_scaled (suc b) can.turn (at (numbers_at rows i)) (at mine) (at column) can.exact),
      turned_size can.turn (dot (suc b) (at (numbers_at rows i)) (at column)) can.one,
      product_small b w columns rows i column can.can i can.can.within,
    )

own_small : (b w : ℕ) (columns : ℕ → ℕ → ℤ) (rows : List Row) → IsHeld (suc b) w columns rows → (j : ℕ) → j < suc b → unsigned_abs (own_at rows j) ≤ w ^ b * w
own_small b w columns rows held j lt =
    let h = dot_bounded (suc b) (w ^ b) (at (numbers_at rows j)) (columns j) (λ c less. number_small b w columns rows held j lt c) (λ c less. held.plain.least j c lt less) in
    let sum : unsigned_abs (sum_to (suc b) (columns j)) ≤ w = omega (arith, ints, held.plain.sums j lt, h.0) in
    omega (arith, ap unsigned_abs (held.basis.owns j lt), h.1, mul-le-mul_left (w ^ b) sum)

pub place_mixed : (b w : ℕ) (columns : ℕ → ℕ → ℤ) (rows : List Row) (i : ℕ) (p : ℤ) (mine column : List ℤ) → CanPlace b w columns rows i p mine column → (j : ℕ) → j < suc b →
    FitsMixed (w ^ b) (w ^ b * w) p (numbers_at rows j) (dot (suc b) (at (numbers_at rows j)) (at column)) mine
place_mixed b w columns rows i p mine column can j lt =
    let room = powers_room b w can.can.held.wide can.can.held.room in
    record {
      row_small = number_small b w columns rows can.can.held j lt;
      other_small = mine_small b w columns rows i p mine column can;
      p_small = p_small b w columns rows i p mine column can;
      q_small = product_small b w columns rows i column can.can j lt;
      room = omega (arith, mul-le (w ^ b * w) (w ^ b) (2 ^ 62) (2 ^ 62) room.0 room.1);
    }

pub place_copy : (b w : ℕ) (columns : ℕ → ℕ → ℤ) (rows : List Row) (i : ℕ) (p : ℤ) (mine column : List ℤ) → CanPlace b w columns rows i p mine column → FitsMixed (w ^ b) 1 (pos 1) mine (pos 0) mine
place_copy b w columns rows i p mine column can =
    let room = powers_room b w can.can.held.wide can.can.held.room in
    record {
      row_small = mine_small b w columns rows i p mine column can;
      other_small = mine_small b w columns rows i p mine column can;
      p_small = omega (arith, ints);
      q_small = omega (arith, ints);
      room = omega (arith, room.1);
    }

pub place_own : (b w : ℕ) (columns : ℕ → ℕ → ℤ) (rows : List Row) (i : ℕ) (p : ℤ) (mine column : List ℤ) → CanPlace b w columns rows i p mine column → (j : ℕ) → j < suc b → FitsSigned w128 (p *ℤ own_at rows j)
place_own b w columns rows i p mine column can j lt =
    let room = powers_room b w can.can.held.wide can.can.held.room in
    fits_signed_from_abs w128 _ (omega (arith, abs-*ℤ-le p (own_at rows j) (2 ^ 62) (2 ^ 62) (omega (arith, p_small b w columns rows i p mine column can, room.0)) (omega (arith, own_small b w columns rows can.can.held j lt, room.0))))

pub place_keeps : (b w : ℕ) (columns : ℕ → ℕ → ℤ) (rows : List Row) (i : ℕ) (p : ℤ) (mine column : List ℤ) → CanPlace b w columns rows i p mine column → (j : ℕ) → j < suc b → j ≢ i → Keeps p (numbers_at rows j) (own_at rows j) mine
place_keeps b w columns rows i p mine column can j lt ne = record {
  column = columns j;
  owns = rw (can.can.held.lengths j lt) (can.can.held.basis.owns j lt);
  killed = rw (can.can.held.lengths j lt) (dot_scaled (suc b) can.turn (at (numbers_at rows i)) (at mine) (columns j) can.exact ∙ ap (λ (z : ℤ). can.turn *ℤ z) (can.can.held.basis.kills i j can.can.within lt (λ e. ne (sym e))) ∙ omega (arith, ints));
  p_some = can.positive;
  own_some = can.can.held.basis.above j lt;
}

pub IsPlaced-there : (b w : ℕ) (columns : ℕ → ℕ → ℤ) (rows : List Row) (i : ℕ) (p : ℤ) (mine column : List ℤ) → CanPlace b w columns rows i p mine column → (j : ℕ) → j < suc b → j ≢ i →
    (next : Row) → length next.numbers.items ≡ suc b → IsNext p (numbers_at rows j) (own_at rows j) (dot (suc b) (at (numbers_at rows j)) (at column)) mine next.numbers.items next.own →
    IsPlaced i j (length column) p mine column rows next
IsPlaced-there b w columns rows i p mine column can j lt ne next same is = rw can.can.sized (record { sized = same; here = λ e. absurd (ne e); there = λ other. is })

pub CanPlace-from : (b w : ℕ) (columns : ℕ → ℕ → ℤ) (rows : List Row) (i : ℕ) (column : List ℤ) → CanEnter (suc b) w columns rows i column → (turn met p : ℤ) (mine : List ℤ) →
    turn *ℤ turn ≡ pos 1 → turn *ℤ met ≡ pos (unsigned_abs met) → met ≡ dot (suc b) (at (numbers_at rows i)) (at column) → p ≡ turn *ℤ met → length mine ≡ suc b →
    ((c : ℕ) → c < suc b → at mine c ≡ turn *ℤ at (numbers_at rows i) c -ℤ pos 0 *ℤ at (numbers_at rows i) c) → CanPlace b w columns rows i p mine column
CanPlace-from b w columns rows i column can turn met p mine one size met_is p_is same is =
    let mine_is : (c : ℕ) → c < suc b → at mine c ≡ turn *ℤ at (numbers_at rows i) c = λ c lt. is c lt ∙ omega (arith, ints) in
    record {
      can = can;
      turn = turn;
      one = one;
      sized = same;
      exact = mine_is;
      positive = elim (cases_eq (unsigned_abs met) 0) [
        | inl e ↦ absurd (can.met (sym met_is ∙ omega (arith, ints)))
        | inr ne ↦ omega (arith, ints, p_is, size)
      ];
      p_is = p_is ∙ ap (λ (z : ℤ). turn *ℤ z) met_is ∙ sym (dot_scaled (suc b) turn (at (numbers_at rows i)) (at mine) (at column) mine_is);
    }

pub turn_mixed : (b w : ℕ) (columns : ℕ → ℕ → ℤ) (rows : List Row) (i : ℕ) (column : List ℤ) → CanEnter (suc b) w columns rows i column → (turn : ℤ) → turn *ℤ turn ≡ pos 1 → FitsMixed (w ^ b) 1 turn (numbers_at rows i) (pos 0) (numbers_at rows i)
turn_mixed b w columns rows i column can turn one = record {
  row_small = number_small b w columns rows can.held i can.within;
  other_small = number_small b w columns rows can.held i can.within;
  p_small = omega (arith, turn_size turn one);
  q_small = omega (arith, ints);
  room = omega (arith, (powers_room b w can.held.wide can.held.room).1);
}

pub met_small : (b w : ℕ) (columns : ℕ → ℕ → ℤ) (rows : List Row) (i : ℕ) (column : List ℤ) → CanEnter (suc b) w columns rows i column → (met : ℤ) → met ≡ dot (suc b) (at (numbers_at rows i)) (at column) → unsigned_abs met < 2 ^ 127
met_small b w columns rows i column can met e = rw e (omega (arith, product_small b w columns rows i column can i can.within, (powers_room b w can.held.wide can.held.room).0))

pub read_back : (rows : List Row) (j : ℕ) (d : Row) → j < length rows → (numbers_at rows j ≡ (get_or rows j d).numbers.items) × (own_at rows j ≡ (get_or rows j d).own)
read_back [] j d lt = absurd (omega arith)
read_back (x ∷ xs) zero d lt = (refl, refl)
read_back (x ∷ xs) (suc j) d lt = read_back xs j d (omega arith)

pub IsHeld-placed : (b w : ℕ) (columns columns' : ℕ → ℕ → ℤ) (rows : List Row) (i : ℕ) (column : List ℤ) (p : ℤ) (mine : List ℤ) (next : List Row) (d : Row) → CanPlace b w columns rows i p mine column →
    IsPut (suc b) i columns column columns' → length next ≡ suc b → ((k : ℕ) (d : Row) → k < suc b → IsPlaced i k (length column) p mine column rows (get_or next k d)) → IsHeld (suc b) w columns' next
IsHeld-placed b w columns columns' rows i column p mine next d can is_put count all =
    IsHeld-exchange (suc b) w columns rows i column mine can.turn p next columns' can.can is_put can.one can.exact can.positive can.p_is count
    (λ j lt. (get_or next j d, (read_back next j d (omega (arith, count))).0, (read_back next j d (omega (arith, count))).1, subst (λ (n : ℕ). IsPlaced i j n p mine column rows (get_or next j d)) can.can.sized (all j d lt)))
