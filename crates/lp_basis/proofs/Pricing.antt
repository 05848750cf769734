-- Potentials of the first places of a basis, and those with one place more.
use Rattle.std.proofs.Common.{◌≡◌, ℕ, zero, suc, ◌*◌, ◌^◌, ◌<◌, ◌≤◌, ◌≢◌, List, [], ◌∷◌, ◌++◌, length, refl, arith, ap, sym, ◌∙◌, subst, inl, inr}
use Rattle.std.specs.Prelude.{ℤ, pos, ◌*ℤ◌, unsigned_abs}
use Rattle.std.proofs.lemmas.Int.{ints, unsigned_abs-mul}
use Rattle.std.proofs.lemmas.Bool.{cases_eq, cases_lt}
use Rattle.std.proofs.Math.Nat.{pow-suc, mul-le-mul_right, le-mul_of_pos_right}
use Rattle.cal_math.specs.Vectors.{at, dot}
use Rattle.cal_math.proofs.Vectors.{sum-zero}
use Rattle.lp_laws.proofs.Skip.{put, put_same, put_other}
use Rattle.lp_laws.proofs.Own.{own-le}
use Rattle.lp_laws.proofs.Reduced.{reduced_denominator-le, reduced_potential-le}
use Rattle.lp_laws.proofs.Summands.{IsPriced-more}
use Rattle.lp_laws.specs.Bases.{IsPriced, IsReduced}
use Rattle.lp_basis.specs.Held.{numbers_at, own_at}
use Rattle.lp_basis.specs.Potentials.{IsSummed, FitsSum, CanPrice, IsPotentials}
use Rattle.lp_basis.specs.declared.row.Row.{Row}
use Rattle.lp_basis.specs.declared.potential.Potentials.{Potentials}
use Rattle.lp_basis.proofs.Held.{at_past, number_small, powers_room}

-- the costs of the first k places, and 0 at the others
pub front : ℕ → (ℕ → ℤ) → ℕ → ℤ
front zero costs = λ j. pos 0
front (suc k) costs = put k (costs k) (front k costs)

pub front_past : (k j : ℕ) (costs : ℕ → ℤ) → k ≤ j → front k costs j ≡ pos 0
unfolding front
front_past zero j costs le = refl
front_past (suc k) j costs le = ap (λ (z : ℤ). z) (put_other k (costs k) (front k costs) j (λ e. omega arith)) ∙ front_past k j costs (omega arith)

pub front_here : (k : ℕ) (costs : ℕ → ℤ) → front (suc k) costs k ≡ costs k
unfolding front
front_here k costs = put_same k (costs k) (front k costs)

pub front_other : (k j : ℕ) (costs : ℕ → ℤ) → j ≢ k → front (suc k) costs j ≡ front k costs j
unfolding front
front_other k j costs ne = put_other k (costs k) (front k costs) j ne

pub front_is : (k j : ℕ) (costs : ℕ → ℤ) → j < k → front k costs j ≡ costs j
front_is zero j costs lt = absurd (omega arith)
front_is (suc k) j costs lt =
    elim (cases_eq j k) [
      | inl e ↦ subst (λ (i : ℕ). front (suc k) costs i ≡ costs i) (sym e) (front_here k costs)
      | inr ne ↦ front_other k j costs ne ∙ front_is k j costs (omega arith)
    ]

front_small : (k j s : ℕ) (costs : ℕ → ℤ) → ((j : ℕ) → unsigned_abs (costs j) ≤ s) → unsigned_abs (front k costs j) ≤ s
front_small k j s costs small = elim (cases_lt j k) [
  | inl lt ↦ rw (front_is k j costs lt) (small j)
  | inr le ↦ rw (front_past k j costs le) (omega arith)
]

-- ---- what fits

pub potential_room : (b w s v : ℕ) → b < 8 → 1 ≤ w → w ^ suc b * s ≤ 2 ^ 94 → v ≤ 3 * suc b * s * w ^ b → v ≤ 2 ^ 100
potential_room b w s v few some room h =
    let x : ℕ = w ^ b * s in
    let less : w ^ b ≤ w ^ suc b = omega (arith, pow-suc w b, le-mul_of_pos_right {m = w} (w ^ b) some) in
    let x_most : x ≤ 2 ^ 94 = omega (arith, room, mul-le-mul_right s less) in
    omega (arith, h, x_most, mul-le-mul_right x few)

pub PricesFit : ℕ → ℕ → (ℕ → ℤ) → ℕ → Type 0
PricesFit n w numbers d = (d ≤ 2 ^ 62) × ((c : ℕ) → c < n → unsigned_abs (numbers c) ≤ 2 ^ 100)

prices_fit : (b w s : ℕ) (columns : ℕ → ℕ → ℤ) (rows : List Row) (costs : List ℤ) (k : ℕ) (numbers : ℕ → ℤ) (d : ℕ) → CanPrice b w s columns rows costs →
    IsPriced (suc b) (suc b) columns (front k (at costs)) numbers d → IsReduced (suc b) numbers d → PricesFit (suc b) w numbers d
unfolding PricesFit
prices_fit b w s columns rows costs k numbers d can priced reduced = (
  omega (arith, reduced_denominator-le (suc b) w columns (λ j. at (numbers_at rows j)) (own_at rows) (front k (at costs)) numbers d can.held.basis can.held.plain priced reduced, can.held.room),
  λ c lt. potential_room b w s (unsigned_abs (numbers c)) can.few can.held.wide can.room
      (reduced_potential-le b w s columns (λ j. at (numbers_at rows j)) (own_at rows) (front k (at costs)) numbers d can.few can.held.basis can.held.plain priced reduced (λ j less. front_small k j s (at costs) can.small) c lt),
)

-- the summand of place k
pub priced_more : (b w s : ℕ) (columns : ℕ → ℕ → ℤ) (rows : List Row) (costs : List ℤ) (k : ℕ) (numbers numbers' : ℕ → ℤ) (d d' : ℕ) → CanPrice b w s columns rows costs → k < suc b →
    IsPriced (suc b) (suc b) columns (front k (at costs)) numbers d → IsSummed (suc b) numbers d (at costs k) (at (numbers_at rows k)) (own_at rows k) numbers' d' →
    IsPriced (suc b) (suc b) columns (front (suc k) (at costs)) numbers' d'
priced_more b w s columns rows costs k numbers numbers' d d' can lt priced summed =
    IsPriced-more (suc b) (suc b) k columns (λ j. at (numbers_at rows j)) (own_at rows) (at costs) (front k (at costs)) (front (suc k) (at costs)) numbers numbers' d d' can.held.basis lt
    (front_past k k (at costs) (omega arith)) (front_here k (at costs)) (λ j less ne. front_other k j (at costs) ne) priced summed.positive summed.exact

pub fits_sum : (b w s : ℕ) (columns : ℕ → ℕ → ℤ) (rows : List Row) (costs : List ℤ) (k : ℕ) (sum : Potentials) → CanPrice b w s columns rows costs → k < suc b →
    IsPotentials (suc b) columns (front k (at costs)) sum → FitsSum sum.numbers.items sum.denominator (at costs k) (numbers_at rows k) (own_at rows k)
unfolding PricesFit
fits_sum b w s columns rows costs k sum can lt is =
    let now = prices_fit b w s columns rows costs k (at sum.numbers.items) sum.denominator can is.priced is.reduced in
    let room = powers_room b w can.held.wide can.held.room in
    record {
      sized = can.held.lengths k lt ∙ sym is.sized;
      d_some = is.priced.positive;
      d_small = now.0;
      own_some = can.held.basis.above k lt;
      own_small = omega (arith, ints, own-le b w columns (λ j. at (numbers_at rows j)) (own_at rows) can.held.basis can.held.plain k lt (can.held.primitive k lt), can.held.room);
      small = λ c. elim (cases_lt c (suc b)) [
        | inl less ↦ now.1 c less
        | inr le ↦ rw (at_past sum.numbers.items c (omega (arith, is.sized))) (omega arith)
      ];
      row_small = λ c. omega (arith, number_small b w columns rows can.held k lt c, room.1);
      cost_small = omega (arith, can.small k, can.cost_room);
      sum_small = λ numbers' d' summed. rw is.sized (prices_fit b w s columns rows costs (suc k) numbers' d' can (priced_more b w s columns rows costs k (at sum.numbers.items) numbers' sum.denominator d' can lt is.priced (rw is.sized at summed)) (rw is.sized at summed.reduced));
    }

pub potentials_more : (b w s : ℕ) (columns : ℕ → ℕ → ℤ) (rows : List Row) (costs : List ℤ) (k : ℕ) (sum next : Potentials) → CanPrice b w s columns rows costs → k < suc b →
    IsPotentials (suc b) columns (front k (at costs)) sum → length next.numbers.items ≡ length sum.numbers.items →
    IsSummed (length sum.numbers.items) (at sum.numbers.items) sum.denominator (at costs k) (at (numbers_at rows k)) (own_at rows k) (at next.numbers.items) next.denominator →
    IsPotentials (suc b) columns (front (suc k) (at costs)) next
potentials_more b w s columns rows costs k sum next can lt is same summed = record {
  sized = same ∙ is.sized;
  priced = priced_more b w s columns rows costs k (at sum.numbers.items) (at next.numbers.items) sum.denominator next.denominator can lt is.priced (rw is.sized at summed);
  reduced = rw is.sized at summed.reduced;
}

-- ---- at the start and at the end

pub at_zeros : (xs : List ℤ) (c : ℕ) → ((c : ℕ) → at xs c ≡ pos 0) → at (xs ++ pos 0 ∷ []) c ≡ pos 0
at_zeros [] zero h = refl
at_zeros [] (suc c) h = refl
at_zeros (x ∷ xs) zero h = h 0
at_zeros (x ∷ xs) (suc c) h = at_zeros xs c (λ k. h (suc k))

pub no_potentials : (n : ℕ) (columns : ℕ → ℕ → ℤ) (costs : ℕ → ℤ) (sum : Potentials) → length sum.numbers.items ≡ n → ((c : ℕ) → at sum.numbers.items c ≡ pos 0) → sum.denominator ≡ 1 → IsPotentials n columns (front 0 costs) sum
unfolding front dot IsReduced
no_potentials n columns costs sum same zeros one = record {
  sized = same;
  priced = record {
    positive = omega (arith, one);
    meets = λ j lt. sum-zero n (λ c. at sum.numbers.items c *ℤ columns j c) (λ c less. ap (λ (z : ℤ). z *ℤ columns j c) (zeros c) ∙ omega (arith, ints)) ∙ omega (arith, ints);
  };
  reduced = λ g first each. one_divisor g first.0 (first.1 ∙ ap pos one);
}
  where
    one_divisor : (g : ℕ) (s : ℤ) → pos g *ℤ s ≡ pos 1 → g ≡ 1
    one_divisor g s e = only g (unsigned_abs s) (sym (unsigned_abs-mul (pos g) s) ∙ ap unsigned_abs e)
      where
        only : (a b : ℕ) → a * b ≡ 1 → a ≡ 1
        only zero b e = absurd (omega (arith, e))
        only (suc zero) b e = refl
        only (suc (suc a)) zero e = absurd (omega (arith, e))
        only (suc (suc a)) (suc b) e = absurd (omega (arith, e))

pub all_potentials : (n : ℕ) (columns : ℕ → ℕ → ℤ) (costs : ℕ → ℤ) (sum : Potentials) → IsPotentials n columns (front n costs) sum → IsPotentials n columns costs sum
all_potentials n columns costs sum is = record {
  sized = is.sized;
  priced = record { positive = is.priced.positive; meets = λ j lt. is.priced.meets j lt ∙ ap (λ (z : ℤ). pos sum.denominator *ℤ z) (front_is n j costs lt) };
  reduced = is.reduced;
}
