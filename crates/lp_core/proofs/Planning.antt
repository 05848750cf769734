-- The plan of the last stage: its weights and their parts, its potentials and their denominator.
use Rattle.std.proofs.Common.{◌≡◌, ℕ, zero, suc, ◌-◌, ◌*◌, ◌/◌, ◌^◌, ◌<◌, ◌≤◌, List, [], ◌∷◌, length, get_or, refl, arith, ap, sym, ◌∙◌, subst, inl, inr}
use Rattle.std.specs.Prelude.{ℤ, pos, ◌*ℤ◌, ◌≤ℤ◌, unsigned_abs, Option, Some, None, slice_get}
use Rattle.std.specs.Int.{◌∣◌}
use Rattle.std.proofs.lemmas.Int.{ints, unsigned_abs-mul}
use Rattle.std.proofs.lemmas.Bool.{cases_eq, cases_lt}
use Rattle.std.proofs.lemmas.Nat.{mul-le}
use Rattle.std.proofs.lemmas.Nat.Gcd.{le_of_dvd}
use Rattle.std.proofs.lemmas.List.{get_or_default}
use Rattle.cal_math.specs.Whole.{*ℤ-≤, *ℤ_comm}
use Rattle.cal_math.specs.Vectors.{at, sum_to, dot}
use Rattle.cal_math.proofs.Products.{least-*ℤ}
use Rattle.cal_math.proofs.Vectors.{sum-same}
use Rattle.lp_laws.proofs.Own.{own-le}
use Rattle.lp_laws.proofs.Parts.{parts-le}
use Rattle.lp_laws.proofs.Reduced.{reduced_denominator-le, reduced_potential-le}
use Rattle.lp_laws.proofs.Weights.{weights_add}
use Rattle.lp_laws.specs.Bases.{IsWholeAt}
use Rattle.lp_basis.specs.Held.{numbers_at, own_at}
use Rattle.lp_basis.specs.declared.column.Column.{Column}
use Rattle.lp_stage.specs.Leaving.{amounts_at}
use Rattle.lp_stage.specs.Stages.{column_at, known_cost, cost_at, IsKnown, basis_columns, basis_costs}
use Rattle.lp_stage.specs.declared.phase.Phase.TheVariants.{Second}
use Rattle.lp_stage.specs.declared.stage.Stage.{Stage}
use Rattle.lp_core.specs.Fitting.{widest, dearest}
use Rattle.lp_core.specs.Plans.{Weight, given_amount, IsFeasible, IsPlan}
use Rattle.lp_core.specs.Ends.{target_product, IsLast}
use Rattle.lp_core.specs.Weights.{CanWeigh, AreFractions, IsCommon, FitsCommon, numerator_over, weight_at, value_of, FitsWeights, AreWeights}
use Rattle.lp_core.specs.declared.plan.Plan.{Plan}
use Rattle.lp_core.specs.declared.weight.Fraction.{Fraction}
use Rattle.lp_core.proofs.Beginning.{cost_small_second}
use Rattle.cal_math.proofs.Divisors.{dvd_from, times_quotient}
use Rattle.lp_core.proofs.Weighing.{weight_read}

nothing : Fraction
nothing = record { numerator = 0; denominator = 0 }

-- ---- the last stage

pub can_weigh : (b : ℕ) (columns : List Column) (target : List ℤ) (stage : Stage) → IsLast b columns target stage → CanWeigh b (widest (suc b) columns) (basis_columns columns stage.places.items) stage.rows.items target
can_weigh b columns target stage last = record { held = last.basis.held; size = last.size; aim = last.fits.aim; least = last.reached.least }

-- the product of the row at a place with the target, over n components
met_is : (b : ℕ) (columns : List Column) (target : List ℤ) (stage : Stage) → IsLast b columns target stage → (j : ℕ) → target_product stage.rows.items target j ≡ dot (suc b) (at (numbers_at stage.rows.items j)) (at target)
met_is b columns target stage last j = ap (λ (n : ℕ). dot n (at (numbers_at stage.rows.items j)) (at target)) last.size

-- a number that makes all weights whole is a multiple of each denominator
whole_divides : (b : ℕ) (columns : List Column) (target : List ℤ) (stage : Stage) (fractions : List Fraction) → IsLast b columns target stage → AreFractions stage.rows.items target fractions →
    (h : ℕ) → IsWholeAt (suc b) (suc b) (λ j. at (numbers_at stage.rows.items j)) (own_at stage.rows.items) (at target) h → (j : ℕ) (d : Fraction) → j < length fractions → (get_or fractions j d).denominator ∣ h
unfolding IsWholeAt
whole_divides b columns target stage fractions last are h whole j d lt =
    let within : j < suc b = omega (arith, lt, are.sized, last.basis.held.count) in
    let e = whole j within in
    (are.every j d (omega (arith, lt, are.sized))).lowest h
    (dvd_from (unsigned_abs (own_at stage.rows.items j)) (h * unsigned_abs (target_product stage.rows.items target j)) (unsigned_abs e.0)
    (sym (unsigned_abs-mul (pos h) (target_product stage.rows.items target j)) ∙ ap (λ (z : ℤ). unsigned_abs (pos h *ℤ z)) (met_is b columns target stage last j) ∙ ap unsigned_abs e.1 ∙ unsigned_abs-mul (own_at stage.rows.items j) e.0))

-- what is at most every common multiple of the denominators
common_bound : (b : ℕ) (columns : List Column) (target : List ℤ) (stage : Stage) (fractions : List Fraction) → IsLast b columns target stage → AreFractions stage.rows.items target fractions →
    (p : ℕ) → ((h : ℕ) → 1 ≤ h → ((j : ℕ) (d : Fraction) → j < length fractions → (get_or fractions j d).denominator ∣ h) → p ≤ h) → p ≤ widest (suc b) columns ^ suc b
common_bound b columns target stage fractions last are p least =
    parts-le (suc b) (widest (suc b) columns) (basis_columns columns stage.places.items) (λ j. at (numbers_at stage.rows.items j)) (own_at stage.rows.items) (at target) p last.basis.held.basis last.basis.held.plain
    (λ h some whole. least h some (whole_divides b columns target stage fractions last are h whole))

pub fits_common : (b : ℕ) (columns : List Column) (target : List ℤ) (stage : Stage) (fractions : List Fraction) → IsLast b columns target stage → AreFractions stage.rows.items target fractions → FitsCommon fractions
fits_common b columns target stage fractions last are = record {
  positive = λ j d lt. (are.every j d (omega (arith, lt, are.sized))).positive;
  most = λ j d lt.
      let within : j < suc b = omega (arith, lt, are.sized, last.basis.held.count) in
      let held = last.basis.held in
      omega (
        arith,
        ints,
        (are.every j d (omega (arith, lt, are.sized))).most,
        held.room,
        held.basis.above j within,
        own-le b (widest (suc b) columns) (basis_columns columns stage.places.items) (λ j. at (numbers_at stage.rows.items j)) (own_at stage.rows.items) held.basis held.plain j within (held.primitive j within),
      );
  small = λ p least. omega (arith, common_bound b columns target stage fractions last are p least, last.basis.held.room);
}

pub parts_small : (b : ℕ) (columns : List Column) (target : List ℤ) (stage : Stage) (fractions : List Fraction) (parts : ℕ) → IsLast b columns target stage → AreFractions stage.rows.items target fractions → IsCommon fractions (length fractions) parts →
    parts ≤ widest (suc b) columns ^ suc b
parts_small b columns target stage fractions parts last are common =
    common_bound b columns target stage fractions last are parts (λ h some all. le_of_dvd some (common.least h all))

-- ---- the weights of the places

over_own : (above below parts : ℕ) (fraction : Fraction) → fraction.numerator * below ≡ above * fraction.denominator → fraction.denominator ∣ parts → numerator_over fraction parts * below ≡ parts * above
over_own above below parts fraction is divides =
    let q : ℕ = parts / fraction.denominator in
    let parts_is : parts ≡ fraction.denominator * q = times_quotient fraction.denominator parts divides in
    omega (arith, ap (λ (v : ℕ). v * q) is, ap (λ (v : ℕ). v * above) parts_is)

signs : (weight parts : ℕ) (own met : ℤ) → pos 1 ≤ℤ own → pos 0 ≤ℤ met → weight * unsigned_abs own ≡ parts * unsigned_abs met → pos weight *ℤ own ≡ pos parts *ℤ met
signs weight parts own met own_some met_least e =
    let own_is : own ≡ pos (unsigned_abs own) = omega (arith, ints, own_some) in
    let met_is : met ≡ pos (unsigned_abs met) = omega (arith, ints, met_least) in
    ap (λ (z : ℤ). pos weight *ℤ z) own_is ∙ omega (arith, ints, e) ∙ ap (λ (z : ℤ). pos parts *ℤ z) (sym met_is)

weight_own : (b : ℕ) (columns : List Column) (target : List ℤ) (stage : Stage) (fractions : List Fraction) (parts : ℕ) → IsLast b columns target stage → AreFractions stage.rows.items target fractions → IsCommon fractions (length fractions) parts →
    (j : ℕ) → j < suc b → pos (weight_at fractions parts j) *ℤ own_at stage.rows.items j ≡ pos parts *ℤ dot (suc b) (at (numbers_at stage.rows.items j)) (at target)
weight_own b columns target stage fractions parts last are common j lt =
    let within : j < length fractions = omega (arith, lt, are.sized, last.basis.held.count) in
    let met : ℤ = target_product stage.rows.items target j in
    let own : ℤ = own_at stage.rows.items j in
    let lowest = are.every j nothing (omega (arith, lt, last.basis.held.count)) in
    let product = over_own (unsigned_abs met) (unsigned_abs own) parts (get_or fractions j nothing) lowest.exact (common.divides j nothing within) in
    signs (weight_at fractions parts j) parts own met (last.basis.held.basis.above j lt) (last.reached.least j lt) (ap (λ (v : ℕ). v * unsigned_abs own) (weight_read fractions parts j nothing within) ∙ product)
    ∙ ap (λ (z : ℤ). pos parts *ℤ z) (met_is b columns target stage last j)

weights_give : (b : ℕ) (columns : List Column) (target : List ℤ) (stage : Stage) (fractions : List Fraction) (parts : ℕ) → IsLast b columns target stage → AreFractions stage.rows.items target fractions → IsCommon fractions (length fractions) parts →
    (c : ℕ) → c < suc b → sum_to (suc b) (λ j. pos (weight_at fractions parts j) *ℤ basis_columns columns stage.places.items j c) ≡ pos parts *ℤ at target c
weights_give b columns target stage fractions parts last are common c lt =
    weights_add (suc b) (suc b) (basis_columns columns stage.places.items) (λ j. at (numbers_at stage.rows.items j)) (own_at stage.rows.items) (at target) (λ j. pos (weight_at fractions parts j)) (pos parts) last.basis.held.basis
    (weight_own b columns target stage fractions parts last are common) c lt

-- ---- how large a weight is

some_component : (n : ℕ) (v x : ℕ → ℤ) → pos 1 ≤ℤ dot n v x → ((c : ℕ) → c < n → pos 0 ≤ℤ x c) → (c : ℕ) × (c < n) × (pos 1 ≤ℤ x c)
unfolding dot
some_component zero v x h least = absurd (omega (arith, ints))
some_component (suc n) v x h least =
    elim (cases_lt 0 (unsigned_abs (x n))) [
      | inl lt ↦ (n, omega arith, omega (arith, ints, lt, least n (omega arith)))
      | inr le ↦
          let z : x n ≡ pos 0 = omega (arith, ints) in
          let rest = some_component n v x (omega (arith, ints, h, ap (λ (a : ℤ). v n *ℤ a) z)) (λ c less. least c (omega arith)) in
          (rest.0, omega (arith, rest.1), rest.2)
    ]

sum_at_least : (n : ℕ) (f : ℕ → ℤ) → ((i : ℕ) → i < n → pos 0 ≤ℤ f i) → pos 0 ≤ℤ sum_to n f
sum_at_least zero f h = omega (arith, ints)
sum_at_least (suc n) f h = omega (arith, ints, sum_at_least n f (λ i lt. h i (omega arith)), h n (omega arith))

term-le : (n j : ℕ) (f : ℕ → ℤ) → j < n → ((i : ℕ) → i < n → pos 0 ≤ℤ f i) → f j ≤ℤ sum_to n f
term-le zero j f lt h = absurd (omega arith)
term-le (suc n) j f lt h = elim (cases_eq j n) [
  | inl e ↦ subst (λ (k : ℕ). f k ≤ℤ sum_to (suc n) f) (sym e) (omega (arith, ints, sum_at_least n f (λ i less. h i (omega arith))))
  | inr ne ↦ omega (arith, ints, term-le n j f (omega arith) (λ i less. h i (omega arith)), h n (omega arith))
]

pub weight_small : (b : ℕ) (columns : List Column) (target : List ℤ) (stage : Stage) (fractions : List Fraction) (parts : ℕ) → IsLast b columns target stage → AreFractions stage.rows.items target fractions → IsCommon fractions (length fractions) parts →
    (j : ℕ) → j < suc b → weight_at fractions parts j ≤ 2 ^ 112
weight_small b columns target stage fractions parts last are common j lt =
    let held = last.basis.held in
    let cols : ℕ → ℕ → ℤ = basis_columns columns stage.places.items in
    let weight : ℕ → ℕ = weight_at fractions parts in
    let own_is = held.basis.owns j lt in
    let some = some_component (suc b) (at (numbers_at stage.rows.items j)) (cols j) (subst (λ (z : ℤ). pos 1 ≤ℤ z) (sym own_is) (held.basis.above j lt)) (λ c less. held.plain.least j c lt less) in
    let term = term-le (suc b) j (λ i. pos (weight i) *ℤ cols i some.0) lt (λ i less. least-*ℤ (pos (weight i)) (cols i some.0) (omega (arith, ints)) (held.plain.least i some.0 less some.1)) in
    let total = weights_give b columns target stage fractions parts last are common some.0 some.1 in
    let one = *ℤ-≤ (pos (weight j)) (pos 1) (cols j some.0) (omega (arith, ints)) some.2 in
    let small : parts ≤ 2 ^ 62 = omega (arith, parts_small b columns target stage fractions parts last are common, held.room) in
    let amount : unsigned_abs (at target some.0) ≤ 2 ^ 50 = omega (arith, ints, last.fits.aim.least some.0, last.fits.aim.most some.0) in
    let amount_is : at target some.0 ≡ pos (unsigned_abs (at target some.0)) = omega (arith, ints, last.fits.aim.least some.0) in
    let product : pos parts *ℤ at target some.0 ≡ pos (parts * unsigned_abs (at target some.0)) = ap (λ (z : ℤ). pos parts *ℤ z) amount_is ∙ omega (arith, ints) in
    omega (arith, ints, one, term, total, product, mul-le parts (unsigned_abs (at target some.0)) (2 ^ 62) (2 ^ 50) small amount)

-- ---- the places of the known columns

apart : (b : ℕ) (columns : List Column) (target : List ℤ) (stage : Stage) → IsLast b columns target stage → (i j k : ℕ) → i < suc b → j < suc b → get_or stage.places.items i None ≡ Some k → get_or stage.places.items j None ≡ Some k → i ≡ j
apart b columns target stage last i j k p q first second = elim (cases_eq i j) [
  | inl e ↦ e
  | inr ne ↦
      let basis = last.basis.held.basis in
      let at_i : basis_columns columns stage.places.items i ≡ at (amounts_at columns k) = ap (λ (o : Option ℕ). column_at columns o i) first in
      let at_j : basis_columns columns stage.places.items j ≡ at (amounts_at columns k) = ap (λ (o : Option ℕ). column_at columns o j) second in
      let row : ℕ → ℤ = at (numbers_at stage.rows.items i) in
      let same : dot (suc b) row (basis_columns columns stage.places.items i) ≡ dot (suc b) row (basis_columns columns stage.places.items j) = ap (dot (suc b) row) (at_i ∙ sym at_j) in
      absurd (omega (arith, ints, basis.owns i p, basis.kills i j p q ne, basis.above i p, same))
]

pub fits_weights : (b : ℕ) (columns : List Column) (target : List ℤ) (stage : Stage) (fractions : List Fraction) (parts : ℕ) → IsLast b columns target stage → AreFractions stage.rows.items target fractions → IsCommon fractions (length fractions) parts →
    FitsWeights stage.places.items fractions parts
fits_weights b columns target stage fractions parts last are common = record {
  sized = are.sized ∙ last.basis.held.count ∙ sym last.basis.count;
  positive = λ j d lt. (are.every j d (omega (arith, lt, are.sized))).positive;
  small = λ j lt. weight_small b columns target stage fractions parts last are common j (omega (arith, lt, are.sized, last.basis.held.count));
  different = λ i j k p q first second. apart b columns target stage last i j k (omega (arith, p, last.basis.count)) (omega (arith, q, last.basis.count)) first second;
}

-- ---- what the weights give

-- an amount of a unit times no weight
idle_weight : (weight : ℕ) (own : ℤ) (parts : ℕ) → pos 1 ≤ℤ own → pos weight *ℤ own ≡ pos parts *ℤ pos 0 → weight ≡ 0
idle_weight zero own parts some e = refl
idle_weight (suc weight) own parts some e =
    absurd (omega (arith, ints, e, *ℤ-≤ (pos (suc weight)) (pos 1) own (omega (arith, ints)) some))

value_is : (columns : List Column) (place : Option ℕ) (weight j c : ℕ) → (place ≡ None → weight ≡ 0) → pos weight *ℤ value_of (λ k. at (amounts_at columns k) c) place ≡ pos weight *ℤ column_at columns place j c
value_is columns None weight j c none = no_weight weight (column_at columns None j c) (none refl)
  where
    no_weight : (weight : ℕ) (z : ℤ) → weight ≡ 0 → pos weight *ℤ pos 0 ≡ pos weight *ℤ z
    no_weight weight z e = rw e (omega (arith, ints))
value_is columns (Some k) weight j c none = refl

given_is : (b : ℕ) (columns : List Column) (target : List ℤ) (stage : Stage) (fractions : List Fraction) (parts : ℕ) (weights : List Weight) → IsLast b columns target stage → AreFractions stage.rows.items target fractions →
    IsCommon fractions (length fractions) parts → AreWeights stage.places.items fractions parts (suc b) weights → (c : ℕ) → c < suc b → given_amount columns weights c ≡ pos parts *ℤ at target c
given_is b columns target stage fractions parts weights last are common weighed c lt =
    let places : List (Option ℕ) = stage.places.items in
    let weight : ℕ → ℕ = weight_at fractions parts in
    let rows : ℕ → ℕ → ℤ = λ j. at (numbers_at stage.rows.items j) in
    weighed.total (λ k. at (amounts_at columns k) c)
    ∙ sum-same (suc b) (λ j. pos (weight j) *ℤ value_of (λ k. at (amounts_at columns k) c) (get_or places j None)) (λ j. pos (weight j) *ℤ basis_columns columns places j c)
    (λ j less. value_is columns (get_or places j None) (weight j) j c (λ none.
    idle_weight (weight j) (own_at stage.rows.items j) parts (last.basis.held.basis.above j less)
    (weight_own b columns target stage fractions parts last are common j less ∙ ap (λ (z : ℤ). pos parts *ℤ z) (sym (met_is b columns target stage last j) ∙ last.reached.idle j less none))))
    ∙ weights_give b columns target stage fractions parts last are common c lt

feasible : (b : ℕ) (columns : List Column) (target : List ℤ) (stage : Stage) (fractions : List Fraction) (parts : ℕ) (weights : List Weight) → IsLast b columns target stage → AreFractions stage.rows.items target fractions →
    IsCommon fractions (length fractions) parts → AreWeights stage.places.items fractions parts (suc b) weights → IsFeasible columns target parts weights
feasible b columns target stage fractions parts weights last are common weighed = record {
  positive = common.positive;
  named = λ i d lt.
      let w = weighed.each i d lt in
      (subst (IsKnown (length columns)) w.column (last.basis.known w.place (omega (arith, w.within, last.basis.count))), omega (arith, ints, w.above));
  gives = λ c lt. given_is b columns target stage fractions parts weights last are common weighed c (omega (arith, lt, last.size));
}

-- ---- the potentials

potential_small : (b : ℕ) (columns : List Column) (target : List ℤ) (stage : Stage) → IsLast b columns target stage → (c : ℕ) → c < suc b →
    unsigned_abs (at stage.potentials.numbers.items c) ≤ 3 * suc b * dearest columns * widest (suc b) columns ^ b
potential_small b columns target stage last c lt =
    reduced_potential-le b (widest (suc b) columns) (dearest columns) (basis_columns columns stage.places.items) (λ j. at (numbers_at stage.rows.items j)) (own_at stage.rows.items) (basis_costs Second columns stage.places.items)
    (at stage.potentials.numbers.items) stage.potentials.denominator (omega (arith, last.size, last.fits.aim.few)) last.basis.held.basis last.basis.held.plain last.potentials.priced last.potentials.reduced
    (λ j less. cost_small_second columns (get_or stage.places.items j None)) c lt

pub denominator_small : (b : ℕ) (columns : List Column) (target : List ℤ) (stage : Stage) → IsLast b columns target stage → stage.potentials.denominator ≤ widest (suc b) columns ^ suc b
denominator_small b columns target stage last =
    reduced_denominator-le (suc b) (widest (suc b) columns) (basis_columns columns stage.places.items) (λ j. at (numbers_at stage.rows.items j)) (own_at stage.rows.items) (basis_costs Second columns stage.places.items)
    (at stage.potentials.numbers.items) stage.potentials.denominator last.basis.held.basis last.basis.held.plain last.potentials.priced last.potentials.reduced

-- a known column and its cost, as they are read
column_got : (columns : List Column) (k : ℕ) (column : Column) → slice_get columns k ≡ Some column → (amounts_at columns k ≡ column.amounts.items) × (known_cost Second columns k ≡ column.cost)
column_got [] k column e = cc
column_got (x ∷ columns) zero column e = same x column e
  where
    same : (x y : Column) → Some x ≡ Some y → (x.amounts.items ≡ y.amounts.items) × (x.cost ≡ y.cost)
    same x y e = let f : x ≡ y = cc in (ap (λ (v : Column). v.amounts.items) f, ap (λ (v : Column). v.cost) f)
column_got (x ∷ columns) (suc k) column e = column_got columns k column e

tight_at : (b : ℕ) (columns : List Column) (target : List ℤ) (stage : Stage) (j k : ℕ) (column : Column) → IsLast b columns target stage → j < suc b → get_or stage.places.items j None ≡ Some k → slice_get columns k ≡ Some column →
    dot (suc b) (at stage.potentials.numbers.items) (at column.amounts.items) ≡ column.cost *ℤ pos stage.potentials.denominator
tight_at b columns target stage j k column last lt place e =
    let got = column_got columns k column e in
    let numbers : ℕ → ℤ = at stage.potentials.numbers.items in
    let column_is : basis_columns columns stage.places.items j ≡ at column.amounts.items = ap (λ (o : Option ℕ). column_at columns o j) place ∙ ap at got.0 in
    let cost_is : basis_costs Second columns stage.places.items j ≡ column.cost = ap (cost_at Second columns) place ∙ got.1 in
    ap (dot (suc b) numbers) (sym column_is) ∙ last.potentials.priced.meets j lt ∙ ap (λ (z : ℤ). pos stage.potentials.denominator *ℤ z) cost_is ∙ *ℤ_comm (pos stage.potentials.denominator) column.cost

-- ---- the plan

pub record IsMade (stage : Stage) (parts : ℕ) (weights : List Weight) (plan : Plan) : Type 0 where
  pub weights_are : plan.weights.items ≡ weights
  pub parts_are : plan.parts ≡ pos parts
  pub potentials_are : plan.potentials.items ≡ stage.potentials.numbers.items
  pub denominator_is : plan.denominator ≡ pos stage.potentials.denominator

pub plan_is : (b : ℕ) (columns : List Column) (target : List ℤ) (stage : Stage) (fractions : List Fraction) (parts : ℕ) (weights : List Weight) (plan : Plan) → IsLast b columns target stage → AreFractions stage.rows.items target fractions →
    IsCommon fractions (length fractions) parts → AreWeights stage.places.items fractions parts (length stage.places.items) weights → IsMade stage parts weights plan → IsPlan columns target plan
plan_is b columns target stage fractions parts weights plan last are common all made =
    let weighed : AreWeights stage.places.items fractions parts (suc b) weights = subst (λ (n : ℕ). AreWeights stage.places.items fractions parts n weights) last.basis.count all in
    let numbers : List ℤ = stage.potentials.numbers.items in
    let less : suc b - 1 ≡ b = omega arith in
    record {
      parts = parts;
      parts_are = made.parts_are;
      parts_small = rw last.size (parts_small b columns target stage fractions parts last are common);
      feasible = rw made.weights_are (feasible b columns target stage fractions parts weights last are common weighed);
      above = rw made.weights_are (λ i d lt. (weighed.each i d lt).above);
      few = rw (made.weights_are, last.size) weighed.few;
      different = rw made.weights_are weighed.different;
      one_each = rw (made.potentials_are, last.size) last.potentials.sized;
      small = rw (made.potentials_are, last.size, less) (λ c d lt. rw (get_or_default numbers c d (pos 0) lt) (potential_small b columns target stage last c (omega (arith, lt, last.potentials.sized))));
      denominator_some = omega (arith, ints, made.denominator_is, last.potentials.priced.positive);
      denominator_small = rw last.size (omega (arith, ints, made.denominator_is, denominator_small b columns target stage last));
      priced = rw (made.potentials_are, made.denominator_is, last.size) (λ k d lt. omega (arith, ints, last.dear k d lt, *ℤ_comm (pos stage.potentials.denominator) (get_or columns k d).cost));
      tight = rw (made.weights_are, made.potentials_are, made.denominator_is, last.size) (λ i d lt column got.
          let w = weighed.each i d lt in
          tight_at b columns target stage w.place (get_or weights i d).0 column last w.within w.column got);
    }
