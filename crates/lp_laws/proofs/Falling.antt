-- A step by the lexicographic rule lowers the list of costs, and keeps each row's list above 0.
use Rattle.std.proofs.Common.{◌≡◌, ℕ, ◌<◌, ◌≢◌, refl, arith, ap, sym, ◌∙◌, subst, inl, inr}
use Rattle.std.specs.Prelude.{ℤ, pos, ◌-ℤ◌, ◌*ℤ◌, ◌≤ℤ◌, ◌<ℤ◌}
use Rattle.std.proofs.lemmas.Int.{ints, by_lt_z}
use Rattle.std.proofs.lemmas.Bool.{cases_eq}
use Rattle.cal_math.specs.Whole.{*ℤ--ℤ, *ℤ_comm, *ℤ-≤}
use Rattle.cal_math.specs.Vectors.{dot}
use Rattle.cal_math.proofs.Products.{times_zero, one-le-*ℤ}
use Rattle.cal_math.proofs.Vectors.{sum-zero, sum-le, dot_same, dot_difference}
use Rattle.lp_laws.proofs.Fraction.{Common, common, expanded}
use Rattle.lp_laws.proofs.Unique.{kills_all, only_place}
use Rattle.lp_laws.proofs.Lexicographic.{IsLexAbove-scale, IsLexAbove-sum, IsLexAbove-divided}
use Rattle.lp_laws.specs.Bases.{IsBasis}
use Rattle.lp_laws.specs.Orders.{IsLexAbove}

-- two rows have no two lists in one ratio: P times the one less q times the other kills not all starting columns
pub no_tie : (n m m0 : ℕ) (columns rows : ℕ → ℕ → ℤ) (own : ℕ → ℤ) (columns0 rows0 : ℕ → ℕ → ℤ) (own0 : ℕ → ℤ) → IsBasis n m columns rows own → IsBasis n m0 columns0 rows0 own0 →
    (i j : ℕ) (P q : ℤ) → i < m → j < m → j ≢ i → pos 1 ≤ℤ P → (u : ℕ → ℤ) → ((c : ℕ) → c < n → u c ≡ P *ℤ rows j c -ℤ q *ℤ rows i c) →
    ((k : ℕ) → k < m0 → dot n u (columns0 k) ≡ pos 0) → ⊥
no_tie n m m0 columns rows own columns0 rows0 own0 basis basis0 i j P q lti ltj ne some u is zeros =
    let zero_is : dot n u (columns j) ≡ pos 0 = kills_all n m0 columns0 rows0 own0 basis0 u zeros (columns j) in
    let value : dot n u (columns j) ≡ P *ℤ dot n (rows j) (columns j) -ℤ q *ℤ dot n (rows i) (columns j) = dot_difference n P q (rows j) (rows i) u (columns j) is in
    omega (arith, ints, zero_is, value, ap (λ (z : ℤ). P *ℤ z) (basis.owns j ltj), ap (λ (z : ℤ). q *ℤ z) (basis.kills i j lti ltj (λ e. ne (sym e))), times_zero q, one-le-*ℤ P (own j) some (basis.above j ltj))

-- the new prices less the old, at anything, are a number below 0 times the entering place's row
pub prices_fall : (n m : ℕ) (columns' rows' : ℕ → ℕ → ℤ) (own' : ℕ → ℤ) → IsBasis n m columns' rows' own' → (old new : ℕ → ℤ) (i : ℕ) → i < m →
    ((j : ℕ) → j < m → j ≢ i → dot n new (columns' j) ≡ dot n old (columns' j)) → dot n new (columns' i) <ℤ dot n old (columns' i) →
    (size : ℕ) (starts : ℕ → ℕ → ℤ) → IsLexAbove size (λ k. dot n (rows' i) (starts k)) →
    IsLexAbove size (λ k. dot n old (starts k) -ℤ dot n new (starts k))
prices_fall n m columns' rows' own' basis old new i lt same less size starts above =
    let u : ℕ → ℤ = λ c. old c -ℤ new c in
    let d : ℕ → ℤ = λ k. dot n old (starts k) -ℤ dot n new (starts k) in
    let u_is : (x : ℕ → ℤ) → dot n u x ≡ dot n old x -ℤ dot n new x = λ x.
    dot_difference n (pos 1) (pos 1) old new u x (λ c q. omega (arith, ints)) ∙ omega (arith, ints) in
    let gap : pos 1 ≤ℤ dot n u (columns' i) = omega (arith, ints, u_is (columns' i), less) in
    let line : (x : ℕ → ℤ) → own' i *ℤ dot n u x ≡ dot n u (columns' i) *ℤ dot n (rows' i) x = only_place n m columns' rows' own' basis u i lt (λ j q ne. omega (arith, ints, u_is (columns' j), same j q ne)) in
    let scaled : IsLexAbove size (λ k. own' i *ℤ d k) = IsLexAbove-scale size (dot n u (columns' i)) (λ k. dot n (rows' i) (starts k)) (λ k. own' i *ℤ d k) gap above
    (λ k q. ap (λ (z : ℤ). own' i *ℤ z) (sym (u_is (starts k))) ∙ line (starts k)) in
    IsLexAbove-divided size (own' i) (λ k. own' i *ℤ d k) d (basis.above i lt) (λ k q. refl) scaled

-- a column with a cost below its price that meets no row above 0 has a number below 0: there is always a place for it
pub some_place : (n m : ℕ) (columns rows : ℕ → ℕ → ℤ) (own : ℕ → ℤ) → IsBasis n m columns rows own → ((j c : ℕ) → j < m → c < n → pos 0 ≤ℤ columns j c) →
    (x : ℕ → ℤ) → ((j : ℕ) → j < m → dot n (rows j) x ≤ℤ pos 0) → (c : ℕ) → c < n → x c ≤ℤ pos 0
some_place n m columns rows own basis least x none c lt =
    let all : Common m own = common m own basis.above in
    by_lt_z (pos 0) (x c)
    (λ above. absurd (omega (
      arith,
      ints,
      expanded n m columns rows own all.all all.parts basis all.exact x c lt,
      sum-le m (λ j. (all.parts j *ℤ dot n (rows j) x) *ℤ columns j c) (λ j. pos 0) (λ j less. below (all.parts j) (dot n (rows j) x) (columns j c) (all.exact.parts_some j less) (none j less) (least j c less lt)),
      sum-zero m (λ j. pos 0) (λ j less. refl),
      one-le-*ℤ all.all (x c) all.exact.positive (omega (arith, ints, above)),
    )))
    (λ le. le)
  where
    below : (q r b : ℤ) → pos 1 ≤ℤ q → r ≤ℤ pos 0 → pos 0 ≤ℤ b → ((q *ℤ r) *ℤ b) ≤ℤ pos 0
    below q r b h k p =
        let first : (q *ℤ r) ≤ℤ pos 0 = omega (arith, ints, *ℤ-≤ q r (pos 0) (omega (arith, ints)) k) in
        omega (arith, ints, *ℤ-≤ b (q *ℤ r) (pos 0) p first, *ℤ_comm (q *ℤ r) b)

-- ---- the rows' lists stay above 0

-- a vector that kills all columns of a basis but one, and meets that one above 0, has a list above 0 only with the row of its place
line_above : (n m : ℕ) (columns rows : ℕ → ℕ → ℤ) (own : ℕ → ℤ) → IsBasis n m columns rows own → (u : ℕ → ℤ) (i : ℕ) → i < m → ((j : ℕ) → j < m → j ≢ i → dot n u (columns j) ≡ pos 0) →
    (p : ℤ) → dot n u (columns i) ≡ p → pos 1 ≤ℤ p → (size : ℕ) (starts : ℕ → ℕ → ℤ) → IsLexAbove size (λ k. dot n u (starts k)) → IsLexAbove size (λ k. dot n (rows i) (starts k))
line_above n m columns rows own basis u i lt zeros p p_is some size starts above =
    IsLexAbove-divided size p (λ k. own i *ℤ dot n u (starts k)) (λ k. dot n (rows i) (starts k)) some
    (λ k less. only_place n m columns rows own basis u i lt zeros (starts k) ∙ ap (λ (z : ℤ). z *ℤ dot n (rows i) (starts k)) p_is)
    (IsLexAbove-scale size (own i) (λ k. dot n u (starts k)) (λ k. own i *ℤ dot n u (starts k)) (basis.above i lt) above (λ k less. refl))

-- column `new` comes in at place i, whose row meets it in p above 0 and leaves by the lexicographic rule
pub lists_above : (n m i : ℕ) (columns rows : ℕ → ℕ → ℤ) (own : ℕ → ℤ) (columns' rows' : ℕ → ℕ → ℤ) (own' new : ℕ → ℤ) → IsBasis n m columns rows own → IsBasis n m columns' rows' own' → i < m →
    ((c : ℕ) → c < n → columns' i c ≡ new c) → ((j : ℕ) → j < m → j ≢ i → (c : ℕ) → c < n → columns' j c ≡ columns j c) → pos 1 ≤ℤ dot n (rows i) new →
    (size : ℕ) (starts : ℕ → ℕ → ℤ) → ((j : ℕ) → j < m → IsLexAbove size (λ k. dot n (rows j) (starts k))) →
    ((j : ℕ) → j < m → j ≢ i → pos 1 ≤ℤ dot n (rows j) new → IsLexAbove size (λ k. dot n (rows i) new *ℤ dot n (rows j) (starts k) -ℤ dot n (rows j) new *ℤ dot n (rows i) (starts k))) →
    (j : ℕ) → j < m → IsLexAbove size (λ k. dot n (rows' j) (starts k))
lists_above n m i columns rows own columns' rows' own' new basis basis' lt enters stays some size starts above first j less =
    elim (cases_eq j i) [
      | inl e ↦ subst (λ (l : ℕ). IsLexAbove size (λ k. dot n (rows' l) (starts k))) (sym e) (line_above n m columns' rows' own' basis' (rows i) i lt (λ l within ne. kept i l within ne ∙ basis.kills i l lt within (λ f. ne (sym f))) p (meets i) some size starts (above i lt))
      | inr ne ↦ line_above n m columns' rows' own' basis' (u j) j less (u_zeros j less ne) (p *ℤ own j) (u_meets j less ne) (one-le-*ℤ p (own j) some (basis.above j less)) size starts (u_above j less ne)
    ]
  where
    p : ℤ
    p = dot n (rows i) new

    u : ℕ → ℕ → ℤ
    u j c = p *ℤ rows j c -ℤ dot n (rows j) new *ℤ rows i c

    u_is : (j : ℕ) (x : ℕ → ℤ) → dot n (u j) x ≡ p *ℤ dot n (rows j) x -ℤ dot n (rows j) new *ℤ dot n (rows i) x
    u_is j x = dot_difference n p (dot n (rows j) new) (rows j) (rows i) (u j) x (λ c q. refl)

    kept : (a l : ℕ) → l < m → l ≢ i → dot n (rows a) (columns' l) ≡ dot n (rows a) (columns l)
    kept a l within ne = dot_same n (rows a) (columns' l) (rows a) (columns l) (λ c q. refl) (stays l within ne)

    meets : (a : ℕ) → dot n (rows a) (columns' i) ≡ dot n (rows a) new
    meets a = dot_same n (rows a) (columns' i) (rows a) new (λ c q. refl) enters

    u_zeros : (j : ℕ) → j < m → j ≢ i → (l : ℕ) → l < m → l ≢ j → dot n (u j) (columns' l) ≡ pos 0
    u_zeros j q ne l within other = elim (cases_eq l i) [
      | inl e ↦ subst (λ (k : ℕ). dot n (u j) (columns' k) ≡ pos 0) (sym e) (omega (arith, ints, u_is j (columns' i), ap (λ (z : ℤ). p *ℤ z) (meets j), ap (λ (z : ℤ). dot n (rows j) new *ℤ z) (meets i), *ℤ_comm p (dot n (rows j) new)))
      | inr far ↦ omega (
        arith,
        ints,
        u_is j (columns' l),
        ap (λ (z : ℤ). p *ℤ z) (kept j l within far ∙ basis.kills j l q within (λ f. other (sym f))),
        ap (λ (z : ℤ). dot n (rows j) new *ℤ z) (kept i l within far ∙ basis.kills i l lt within (λ f. far (sym f))),
        times_zero p,
        times_zero (dot n (rows j) new),
      )
    ]

    u_meets : (j : ℕ) → j < m → j ≢ i → dot n (u j) (columns' j) ≡ p *ℤ own j
    u_meets j q ne = omega (
      arith,
      ints,
      u_is j (columns' j),
      ap (λ (z : ℤ). p *ℤ z) (kept j j q ne ∙ basis.owns j q),
      ap (λ (z : ℤ). dot n (rows j) new *ℤ z) (kept i j q ne ∙ basis.kills i j lt q (λ f. ne (sym f))),
      times_zero (dot n (rows j) new),
    )

    same : (f g : ℕ → ℤ) → ((k : ℕ) → f k ≡ g k) → IsLexAbove size f → IsLexAbove size g
    same f g h v = record { place = v.place; within = v.within; zeros = λ c q. sym (h c) ∙ v.zeros c q; above = subst (λ (z : ℤ). pos 1 ≤ℤ z) (h v.place) v.above }

    mixed : ℕ → ℕ → ℤ
    mixed j k = p *ℤ dot n (rows j) (starts k) -ℤ dot n (rows j) new *ℤ dot n (rows i) (starts k)

    u_above : (j : ℕ) → j < m → j ≢ i → IsLexAbove size (λ k. dot n (u j) (starts k))
    u_above j q ne = same (mixed j) (λ k. dot n (u j) (starts k)) (λ k. sym (u_is j (starts k)))
        (by_lt_z (pos 0) (dot n (rows j) new) (λ more. first j q ne (omega (arith, ints, more)))
        (λ le. IsLexAbove-sum size (λ k. dot n (rows j) (starts k)) (λ k. dot n (rows i) (starts k)) (mixed j) p (pos 0 -ℤ dot n (rows j) new) some (omega (arith, ints, le)) (above j q) (above i lt)
        (λ k less. omega (arith, ints, *ℤ_comm (pos 0 -ℤ dot n (rows j) new) (dot n (rows i) (starts k)), *ℤ--ℤ (dot n (rows i) (starts k)) (pos 0) (dot n (rows j) new), *ℤ_comm (dot n (rows i) (starts k)) (dot n (rows j) new)))))
