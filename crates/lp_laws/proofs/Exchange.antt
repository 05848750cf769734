-- An exchange of one column keeps the rows' properties, and so does the division of a row by what its numbers share.
use Rattle.std.proofs.Common.{◌≡◌, ℕ, ◌<◌, ◌≢◌, refl, arith, ap, sym, ◌∙◌, subst, inl, inr}
use Rattle.std.specs.Prelude.{ℤ, pos, ◌-ℤ◌, ◌*ℤ◌, ◌≤ℤ◌}
use Rattle.std.proofs.lemmas.Int.{ints}
use Rattle.std.proofs.lemmas.Bool.{cases_eq}
use Rattle.cal_math.specs.Whole.{*ℤ_comm, *ℤ_assoc}
use Rattle.cal_math.specs.Vectors.{dot}
use Rattle.cal_math.proofs.Products.{one-le-*ℤ, one_from_product, same_from_product, times_zero, zero_from_product}
use Rattle.cal_math.proofs.Vectors.{dot_same, dot_scaled, dot_difference}
use Rattle.lp_laws.specs.Bases.{IsBasis, IsExchange, IsTurn}

turned_dot : (n : ℕ) (turn : ℤ) (row turned x : ℕ → ℤ) → IsTurn n turn row turned → dot n row x ≡ turn *ℤ dot n turned x
turned_dot n turn row turned x h =
    let e : dot n turned x ≡ turn *ℤ dot n row x = dot_scaled n turn row turned x h.exact in
    let one : turn *ℤ (turn *ℤ dot n row x) ≡ pos 1 *ℤ dot n row x = sym (*ℤ_assoc turn turn (dot n row x)) ∙ ap (λ (z : ℤ). z *ℤ dot n row x) h.one in
    omega (arith, ints, one, ap (λ (z : ℤ). turn *ℤ z) e)

pub IsBasis-from_exchange : (n m i : ℕ) (columns rows : ℕ → ℕ → ℤ) (own new : ℕ → ℤ) (turn : ℤ) (columns' rows' : ℕ → ℕ → ℤ) (own' : ℕ → ℤ) → i < m →
    IsBasis n m columns rows own → IsExchange n m i columns rows own new turn columns' rows' own' → IsBasis n m columns' rows' own'
IsBasis-from_exchange n m i columns rows own new turn columns' rows' own' lt basis step = record {
  owns = λ j less. elim (cases_eq j i) [
    | inl e ↦ subst (λ (k : ℕ). dot n (rows' k) (columns' k) ≡ own' k) (sym e) (meets_new ∙ sym step.own_is)
    | inr ne ↦ owns_other j less ne
  ];
  kills = λ a b p q ne. elim (cases_eq a i) [
    | inl e ↦ subst (λ (k : ℕ). dot n (rows' k) (columns' b) ≡ pos 0) (sym e) (kills_mine b q (λ f. ne (e ∙ sym f)))
    | inr other ↦ elim (cases_eq b i) [
      | inl e ↦ subst (λ (k : ℕ). dot n (rows' a) (columns' k) ≡ pos 0) (sym e) (kills_new a p other)
      | inr far ↦ kills_other a b p q ne other far
    ]
  ];
  above = λ j less. elim (cases_eq j i) [
    | inl e ↦ subst (λ (k : ℕ). pos 1 ≤ℤ own' k) (sym e) step.positive
    | inr ne ↦ rw (step.owns_are j less ne) (one-le-*ℤ (own' i) (own j) step.positive (basis.above j less))
  ];
  complete = λ x zeros c less. basis.complete x (λ j within. elim (cases_eq j i) [
    | inl e ↦ subst (λ (k : ℕ). dot n (rows k) x ≡ pos 0) (sym e) (mine_zero x (zeros i lt))
    | inr ne ↦ other_zero x j within ne (zeros i lt) (zeros j within)
  ]) c less;
}
  where
    meets_new : dot n (rows' i) (columns' i) ≡ dot n (rows' i) new
    meets_new = dot_same n (rows' i) (columns' i) (rows' i) new (λ c less. refl) step.enters

    other_is : (j : ℕ) → j < m → j ≢ i → (x : ℕ → ℤ) → dot n (rows' j) x ≡ own' i *ℤ dot n (rows j) x -ℤ dot n (rows j) new *ℤ dot n (rows' i) x
    other_is j less ne x = dot_difference n (own' i) (dot n (rows j) new) (rows j) (rows' i) (rows' j) x (step.rows_are j less ne)

    kept : (a b : ℕ) → b < m → b ≢ i → dot n (rows' a) (columns' b) ≡ dot n (rows' a) (columns b)
    kept a b less ne = dot_same n (rows' a) (columns' b) (rows' a) (columns b) (λ c within. refl) (step.stays b less ne)

    mine_old : (b : ℕ) → b < m → b ≢ i → dot n (rows' i) (columns b) ≡ pos 0
    mine_old b less ne = dot_scaled n turn (rows i) (rows' i) (columns b) step.turned.exact ∙ ap (λ (z : ℤ). turn *ℤ z) (basis.kills i b lt less (λ e. ne (sym e))) ∙ times_zero turn

    kills_mine : (b : ℕ) → b < m → b ≢ i → dot n (rows' i) (columns' b) ≡ pos 0
    kills_mine b less ne = kept i b less ne ∙ mine_old b less ne

    kills_new : (a : ℕ) → a < m → a ≢ i → dot n (rows' a) (columns' i) ≡ pos 0
    kills_new a less ne =
        dot_same n (rows' a) (columns' i) (rows' a) new (λ c within. refl) step.enters ∙ other_is a less ne new
        ∙ omega (arith, ints, *ℤ_comm (own' i) (dot n (rows a) new), ap (λ (z : ℤ). dot n (rows a) new *ℤ z) step.own_is)

    kills_other : (a b : ℕ) → a < m → b < m → a ≢ b → a ≢ i → b ≢ i → dot n (rows' a) (columns' b) ≡ pos 0
    kills_other a b p q ne na nb =
        kept a b q nb ∙ other_is a p na (columns b)
        ∙ omega (arith, ints, ap (λ (z : ℤ). own' i *ℤ z) (basis.kills a b p q ne), times_zero (own' i), ap (λ (z : ℤ). dot n (rows a) new *ℤ z) (mine_old b q nb), times_zero (dot n (rows a) new))

    owns_other : (j : ℕ) → j < m → j ≢ i → dot n (rows' j) (columns' j) ≡ own' j
    owns_other j less ne =
        kept j j less ne ∙ other_is j less ne (columns j)
        ∙ omega (arith, ints, step.owns_are j less ne, ap (λ (z : ℤ). own' i *ℤ z) (basis.owns j less), ap (λ (z : ℤ). dot n (rows j) new *ℤ z) (mine_old j less ne), times_zero (dot n (rows j) new))

    mine_zero : (x : ℕ → ℤ) → dot n (rows' i) x ≡ pos 0 → dot n (rows i) x ≡ pos 0
    mine_zero x h = turned_dot n turn (rows i) (rows' i) x step.turned ∙ ap (λ (z : ℤ). turn *ℤ z) h ∙ times_zero turn

    other_zero : (x : ℕ → ℤ) (j : ℕ) → j < m → j ≢ i → dot n (rows' i) x ≡ pos 0 → dot n (rows' j) x ≡ pos 0 → dot n (rows j) x ≡ pos 0
    other_zero x j less ne h k =
        zero_from_product (own' i) (dot n (rows j) x) step.positive
        (omega (arith, ints, other_is j less ne x, ap (λ (z : ℤ). dot n (rows j) new *ℤ z) h, times_zero (dot n (rows j) new)))

-- a row divided by a number above 0 that all its numbers share
pub record IsDivided (n : ℕ) (row : ℕ → ℤ) (own : ℤ) (row' : ℕ → ℤ) (own' : ℤ) : Type 0 where
  pub shared : ℤ
  pub positive : pos 1 ≤ℤ shared
  pub row_is : (c : ℕ) → c < n → row c ≡ shared *ℤ row' c
  pub own_is : own ≡ shared *ℤ own'

pub IsBasis-from_divided : (n m : ℕ) (columns rows : ℕ → ℕ → ℤ) (own : ℕ → ℤ) (rows' : ℕ → ℕ → ℤ) (own' : ℕ → ℤ) →
    IsBasis n m columns rows own → ((j : ℕ) → j < m → IsDivided n (rows j) (own j) (rows' j) (own' j)) → IsBasis n m columns rows' own'
IsBasis-from_divided n m columns rows own rows' own' basis each = record {
  owns = λ j lt. same_from_product (each j lt).shared (dot n (rows' j) (columns j)) (own' j) (each j lt).positive (sym (was j lt (columns j)) ∙ basis.owns j lt ∙ (each j lt).own_is);
  kills = λ i j p q ne. zero_from_product (each i p).shared (dot n (rows' i) (columns j)) (each i p).positive (sym (was i p (columns j)) ∙ basis.kills i j p q ne);
  above = λ j lt. one_from_product (each j lt).shared (own' j) (each j lt).positive (subst (λ (z : ℤ). pos 1 ≤ℤ z) (each j lt).own_is (basis.above j lt));
  complete = λ x zeros c lt. basis.complete x (λ j within. was j within x ∙ ap (λ (z : ℤ). (each j within).shared *ℤ z) (zeros j within) ∙ times_zero (each j within).shared) c lt;
}
  where
    was : (j : ℕ) → (lt : j < m) → (x : ℕ → ℤ) → dot n (rows j) x ≡ (each j lt).shared *ℤ dot n (rows' j) x
    was j lt x = dot_scaled n (each j lt).shared (rows' j) (rows j) x (each j lt).row_is
