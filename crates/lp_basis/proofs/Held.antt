-- An exchange keeps the rows of a basis, and its numbers fit 128 bits.
use Rattle.std.proofs.Common.{◌≡◌, ℕ, zero, suc, ◌*◌, ◌^◌, ◌<◌, ◌≤◌, List, [], ◌∷◌, length, refl, arith, ap, sym, ◌∙◌, subst, inl, inr}
use Rattle.std.specs.Prelude.{ℤ, pos, ◌-ℤ◌, ◌*ℤ◌, ◌≤ℤ◌, unsigned_abs}
use Rattle.std.proofs.lemmas.Int.{ints}
use Rattle.std.proofs.Math.Nat.{pow-suc, mul-le-mul_left, le-mul_of_pos_right}
use Rattle.std.proofs.lemmas.Bool.{cases_eq, cases_lt}
use Rattle.cal_math.specs.Whole.{*ℤ_left, *ℤ_assoc}
use Rattle.lp_laws.proofs.Skip.{put, put_same, put_other}
use Rattle.cal_math.specs.Vectors.{at, sum_to, dot}
use Rattle.cal_math.proofs.Vectors.{sum-same}
use Rattle.lp_laws.proofs.Exchange.{IsDivided, IsBasis-from_divided, IsBasis-from_exchange}
use Rattle.lp_basis.proofs.Products.{dot_small}
use Rattle.lp_laws.proofs.Bounds.{number-le}
use Rattle.lp_laws.specs.Bases.{IsBasis, IsExchange}
use Rattle.lp_basis.specs.Rows.{FitsProduct}
use Rattle.lp_laws.specs.Bases.{IsPrimitive}
use Rattle.lp_basis.specs.Held.{IsHeld, CanEnter, IsPut, numbers_at, own_at}
use Rattle.lp_basis.specs.Steps.{IsPlaced}
use Rattle.lp_basis.specs.declared.row.Row.{Row}

pub at_past : (xs : List ℤ) (c : ℕ) → length xs ≤ c → at xs c ≡ pos 0
at_past [] c h = refl
at_past (x ∷ xs) zero h = absurd (omega arith)
at_past (x ∷ xs) (suc c) h = at_past xs c (omega arith)

-- every number of a row
pub number_small : (b w : ℕ) (columns : ℕ → ℕ → ℤ) (rows : List Row) → IsHeld (suc b) w columns rows → (j : ℕ) → j < suc b → (c : ℕ) → unsigned_abs (at (numbers_at rows j) c) ≤ w ^ b
number_small b w columns rows held j lt c =
    elim (cases_lt c (suc b)) [
      | inl less ↦ number-le b w columns (λ j. at (numbers_at rows j)) (own_at rows) held.basis held.plain j c lt less (held.primitive j lt)
      | inr le ↦ rw (at_past (numbers_at rows j) c (omega (arith, held.lengths j lt))) (omega arith)
    ]

pub powers_room : (b w : ℕ) → 1 ≤ w → w ^ suc b ≤ 2 ^ 62 → (w ^ b * w ≤ 2 ^ 62) × (w ^ b ≤ 2 ^ 62)
powers_room b w some room = (rw (sym (pow-suc w b)) room, omega (arith, pow-suc w b, room, le-mul_of_pos_right {m = w} (w ^ b) some))

-- a column whose sum is at most w
pub fits_column : (b w : ℕ) (columns : ℕ → ℕ → ℤ) (rows : List Row) (column : List ℤ) → IsHeld (suc b) w columns rows → length column ≡ suc b → ((c : ℕ) → pos 0 ≤ℤ at column c) → sum_to (suc b) (at column) ≤ℤ pos w →
    (j : ℕ) → j < suc b → FitsProduct (w ^ b) w (numbers_at rows j) column
fits_column b w columns rows column held same least sum j lt = record {
  sized = held.lengths j lt ∙ sym same;
  row_small = number_small b w columns rows held j lt;
  least = least;
  sum = rw (held.lengths j lt) sum;
  room = omega (arith, (powers_room b w held.wide held.room).0);
}

pub fits_product : (b w : ℕ) (columns : ℕ → ℕ → ℤ) (rows : List Row) (i : ℕ) (column : List ℤ) → CanEnter (suc b) w columns rows i column → (j : ℕ) → j < suc b → FitsProduct (w ^ b) w (numbers_at rows j) column
fits_product b w columns rows i column can = fits_column b w columns rows column can.held can.sized can.least can.sum

pub product_small : (b w : ℕ) (columns : ℕ → ℕ → ℤ) (rows : List Row) (i : ℕ) (column : List ℤ) → CanEnter (suc b) w columns rows i column → (j : ℕ) → j < suc b →
    unsigned_abs (dot (suc b) (at (numbers_at rows j)) (at column)) ≤ w ^ b * w
product_small b w columns rows i column can j lt =
    let h = dot_small (suc b) (w ^ b) (at (numbers_at rows j)) (at column) (number_small b w columns rows can.held j lt) can.least in
    let sum : unsigned_abs (sum_to (suc b) (at column)) ≤ w = omega (arith, ints, can.sum, h.0) in
    omega (arith, h.1, mul-le-mul_left (w ^ b) sum)

turned_primitive : (n : ℕ) (turn : ℤ) (row mine next : ℕ → ℤ) → turn *ℤ turn ≡ pos 1 → ((c : ℕ) → c < n → mine c ≡ turn *ℤ row c) → ((c : ℕ) → c < n → next c ≡ mine c) → IsPrimitive n row → IsPrimitive n next
unfolding IsPrimitive
turned_primitive n turn row mine next one is same primitive g divides =
    primitive g (λ c lt. (
      turn *ℤ (divides c lt).0,
      *ℤ_left (pos g) turn (divides c lt).0 ∙ ap (λ (z : ℤ). turn *ℤ z) ((divides c lt).1 ∙ same c lt ∙ is c lt) ∙ sym (*ℤ_assoc turn turn (row c)) ∙ ap (λ (z : ℤ). z *ℤ row c) one ∙ omega (arith, ints),
    ))

-- the rows after an exchange
pub IsHeld-exchange : (n w : ℕ) (columns : ℕ → ℕ → ℤ) (rows : List Row) (i : ℕ) (column mine : List ℤ) (turn p : ℤ) (next : List Row) (columns' : ℕ → ℕ → ℤ) → CanEnter n w columns rows i column → IsPut n i columns column columns' →
    turn *ℤ turn ≡ pos 1 → ((c : ℕ) → c < n → at mine c ≡ turn *ℤ at (numbers_at rows i) c) → pos 1 ≤ℤ p → p ≡ dot n (at mine) (at column) → length next ≡ n →
    ((j : ℕ) → j < n → (r : Row) × (numbers_at next j ≡ r.numbers.items) × (own_at next j ≡ r.own) × IsPlaced i j n p mine column rows r) →
    IsHeld n w columns' next
IsHeld-exchange n w columns rows i column mine turn p next columns' can is_put one mine_is some p_is count placed = record {
  count = count;
  lengths = λ j lt. ap length (placed j lt).1 ∙ (placed j lt).3.sized;
  basis = IsBasis-from_divided n n columns' raw raw_own (λ j. at (numbers_at next j)) (own_at next) basis1 each;
  primitive = λ j lt. elim (cases_eq j i) [
    | inl e ↦ turned_primitive n turn (at (numbers_at rows i)) (at mine) (at (numbers_at next j)) one mine_is (λ c less. ap (λ (xs : List ℤ). at xs c) (placed j lt).1 ∙ ((placed j lt).3.here e).0 c less) (can.held.primitive i can.within)
    | inr ne ↦ rw (placed j lt).1 (subst (λ (k : ℕ). IsPrimitive k (at (placed j lt).0.numbers.items)) (can.held.lengths j lt) ((placed j lt).3.there ne).primitive)
  ];
  plain = record {
    least = λ j c lt less. elim (cases_eq j i) [
      | inl e ↦ subst (λ (z : ℤ). pos 0 ≤ℤ z) (sym (ap (λ (k : ℕ). columns' k c) e ∙ is_put.enters c less)) (can.least c)
      | inr ne ↦ subst (λ (z : ℤ). pos 0 ≤ℤ z) (sym (is_put.stays j lt ne c less)) (can.held.plain.least j c lt less)
    ];
    sums = λ j lt. elim (cases_eq j i) [
      | inl e ↦ subst (λ (z : ℤ). z ≤ℤ pos w) (sym (sum-same n (columns' j) (at column) (λ c less. ap (λ (k : ℕ). columns' k c) e ∙ is_put.enters c less))) can.sum
      | inr ne ↦ subst (λ (z : ℤ). z ≤ℤ pos w) (sym (sum-same n (columns' j) (columns j) (λ c less. is_put.stays j lt ne c less))) (can.held.plain.sums j lt)
    ];
  };
  positive = can.held.positive;
  wide = can.held.wide;
  room = can.held.room;
}
  where
    old_raw : ℕ → ℕ → ℤ
    old_raw j c = p *ℤ at (numbers_at rows j) c -ℤ dot n (at (numbers_at rows j)) (at column) *ℤ at mine c

    raw : ℕ → ℕ → ℤ
    raw = put i (at mine) old_raw

    old_own : ℕ → ℤ
    old_own j = p *ℤ own_at rows j

    raw_own : ℕ → ℤ
    raw_own = put i p old_own

    exchange : IsExchange n n i columns (λ j. at (numbers_at rows j)) (own_at rows) (at column) turn columns' raw raw_own
    exchange = record {
      turned = record { one = one; exact = λ c less. ap (λ (f : ℕ → ℤ). f c) (put_same i (at mine) old_raw) ∙ mine_is c less };
      positive = rw (put_same i p old_own) some;
      enters = is_put.enters;
      stays = is_put.stays;
      own_is = put_same i p old_own ∙ p_is ∙ ap (λ (f : ℕ → ℤ). dot n f (at column)) (sym (put_same i (at mine) old_raw));
      rows_are = λ j less ne c inside. rw (put_same i (at mine) old_raw, put_same i p old_own) (ap (λ (f : ℕ → ℤ). f c) (put_other i (at mine) old_raw j ne));
      owns_are = λ j less ne. rw (put_same i p old_own) (put_other i p old_own j ne);
    }

    basis1 : IsBasis n n columns' raw raw_own
    basis1 = IsBasis-from_exchange n n i columns (λ j. at (numbers_at rows j)) (own_at rows) (at column) turn columns' raw raw_own can.within can.held.basis exchange

    each : (j : ℕ) → j < n → IsDivided n (raw j) (raw_own j) (at (numbers_at next j)) (own_at next j)
    each j lt = elim (cases_eq j i) [
      | inl e ↦ record {
        shared = pos 1;
        positive = omega (arith, ints);
        row_is = λ c less. ap (λ (f : ℕ → ℤ). f c) (ap raw e ∙ put_same i (at mine) old_raw) ∙ sym (((placed j lt).3.here e).0 c less) ∙ ap (λ (xs : List ℤ). at xs c) (sym (placed j lt).1) ∙ omega (arith, ints);
        own_is = ap raw_own e ∙ put_same i p old_own ∙ sym ((placed j lt).3.here e).1 ∙ sym (placed j lt).2 ∙ omega (arith, ints);
      }
      | inr ne ↦ record {
        shared = ((placed j lt).3.there ne).shared;
        positive = ((placed j lt).3.there ne).positive;
        row_is = λ c less. ap (λ (f : ℕ → ℤ). f c) (put_other i (at mine) old_raw j ne) ∙ ((placed j lt).3.there ne).numbers_are c (omega (arith, can.held.lengths j lt)) ∙ ap (λ (xs : List ℤ). ((placed j lt).3.there ne).shared *ℤ at xs c) (sym (placed j lt).1);
        own_is = put_other i p old_own j ne ∙ ((placed j lt).3.there ne).own_is ∙ ap (λ (z : ℤ). ((placed j lt).3.there ne).shared *ℤ z) (sym (placed j lt).2);
      }
    ]
