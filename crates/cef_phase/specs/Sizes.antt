-- How large energies are: lemmas for proofs.
use Rattle.std.proofs.Common.{◌≡◌, ℕ, zero, suc, ◌+◌, ◌-◌, ◌*◌, ◌/◌, ◌^◌, ◌≤◌, List, [], ◌∷◌, Option, Some, None, Bool, true, false, length, map, filter, slice_index, refl, arith, ap, ◌∙◌}
use Rattle.std.specs.Prelude.{ℤ, pos, neg_ℤ, ◌+ℤ◌, ◌-ℤ◌, ◌*ℤ◌, unsigned_abs, sum, ◌==◌, ◌||◌}
use Rattle.std.specs.Int.{int_div_euclid}
use Rattle.std.specs.List.{AllByRecursion, list_any}
use Rattle.std.proofs.lemmas.Bool.{eqb-true}
use Rattle.std.proofs.Math.Nat.{div-mul-le_self, mul-le-mul_left, le_of_mul-le-mul_right, one-le-pow, pow-suc, pow-zero}
use Rattle.std.proofs.lemmas.Int.{ints, unsigned_abs-mul}
use Rattle.std.proofs.lemmas.List.Sums.{sum_by-cons}
use Rattle.std.proofs.lemmas.Nat.{mul-le, pow-add}
use Rattle.cal_math.specs.Sums.{sum_of}
use Rattle.cal_math.specs.Whole.{abs-*ℤ-le}
use Rattle.cal_math.specs.Logarithm.{log_of}
use Rattle.cal_log.specs.Laws.{log_of-le, log_of-1000}
use Rattle.cef_kind.specs.declared.kind.Kind.{Kind}
use Rattle.cal_limits.specs.declared.TheConstants.{MOST_CURIE, MOST_MOMENT}
use Rattle.cef_core.specs.declared.lattice.TheConstants.{LATTICES}
use Rattle.cef_core.specs.declared.phase.MagneticAt.{MagneticAt}
use Rattle.cef_core.specs.declared.phase.ParamAt.{ParamAt}
use Rattle.cef_core.specs.declared.phase.PhaseAt.{PhaseAt}
use Rattle.cef_core.specs.Constitutions.{HasShape}
use Rattle.cef_core.specs.Energies.{is_energy, is_curie, is_moment, sum_of_kind, magnetic_energy, energy}
use Rattle.cef_core.specs.Lattices.{is_lattice}
use Rattle.cef_core.specs.Mixing.{mixing_at, mixing_of_counts, mixing_over}
use Rattle.cef_core.specs.Parameters.{picked, product_of, product_over, interacting, factor_of, factor_divisor, parameter_value}
use Rattle.cef_core.specs.Phases.{IsFine, IsMagnetic, IsPhase, magnitudes, magnetic_size as size_of_magnetism, sigma}
use Rattle.cef_mag.specs.Laws.{magnetic_size}
use Rattle.cef_term.proofs.Picking.{interacting_all}
use Rattle.cef_term.proofs.Sizes.{power_size}
use Rattle.cef_term.proofs.Values.{floor_size}

-- all counts are at most n
abbrev pub AreUpTo : ℕ → List (List ℕ) → Type 0
AreUpTo n site = AllByRecursion (AllByRecursion (λ k. k ≤ n)) site

index_small : (n : ℕ) (counts : List ℕ) (p : ℕ) → AllByRecursion (λ k. k ≤ n) counts → slice_index counts p ≤ n
index_small n [] p h = omega arith
index_small n (k ∷ counts) zero h = h.0
index_small n (k ∷ counts) (suc p) h = index_small n counts p h.1

indices_small : (n : ℕ) (counts places : List ℕ) → AllByRecursion (λ k. k ≤ n) counts → AllByRecursion (λ k. k ≤ n) (map (λ p. slice_index counts p) places)
indices_small n counts [] h = tt
indices_small n counts (p ∷ places) h = (index_small n counts p h, indices_small n counts places h)

picked_small : (n : ℕ) (array site : List (List ℕ)) → AreUpTo n site → AreUpTo n (picked array site)
picked_small n [] site h = tt
picked_small n (places ∷ array) [] h = tt
picked_small n (places ∷ array) (counts ∷ site) h = (indices_small n counts places h.0, picked_small n array site h.1)

-- the product of the counts
product_small : (n : ℕ) (counts : List ℕ) → AllByRecursion (λ k. k ≤ n) counts → product_of counts ≤ n ^ length counts
product_small n [] h = omega (arith, pow-zero n)
product_small n (k ∷ counts) h = omega (arith, mul-le k (product_of counts) n (n ^ length counts) h.0 (product_small n counts h.1), pow-suc n (length counts))

products_small : (n : ℕ) (lists : List (List ℕ)) → AreUpTo n lists → product_over lists ≤ n ^ sum (map length lists)
products_small n [] h = omega (arith, pow-zero n)
products_small n (counts ∷ lists) h =
    omega (
      arith,
      mul-le (product_of counts) (product_over lists) (n ^ length counts) (n ^ sum (map length lists)) (product_small n counts h.0) (products_small n lists h.1),
      pow-add n (length counts) (sum (map length lists)),
      ap (λ (d : ℕ). n ^ d) (sum_by-cons (λ (x : ℕ). x) (length counts) (map length lists)),
    )

-- the factor behind it, against its divisor
pub record IsFactorSmall (n v : ℕ) (weighted : Bool) (lists : List (List ℕ)) : Type 0 where
  pub small : unsigned_abs (factor_of n v weighted lists) ≤ factor_divisor n v weighted lists
  pub some : 1 ≤ factor_divisor n v weighted lists

difference_small : (n i j : ℕ) → i ≤ n → j ≤ n → unsigned_abs (pos i -ℤ pos j) ≤ n
difference_small n i j h k = omega (arith, ints)

weight_small : (n o i j k : ℕ) → i ≤ n → j ≤ n → k ≤ n → o ≤ i + j + k → o ≤ n → unsigned_abs (pos (3 * o + n) -ℤ pos (i + j + k)) ≤ 3 * n
weight_small n o i j k a b c d e = omega (arith, ints)

factor_small : (n v : ℕ) (weighted : Bool) (lists : List (List ℕ)) → 1 ≤ n → AreUpTo n lists → IsFactorSmall n v weighted lists
factor_small n v w [] one h = record { small = omega arith; some = omega arith }
factor_small n v w ([] ∷ rest) one h = record { small = omega arith; some = omega arith }
factor_small n v w ((i ∷ []) ∷ rest) one h = record { small = omega arith; some = omega arith }
factor_small n v w ((i ∷ j ∷ []) ∷ []) one h = record { small = power_size (pos i -ℤ pos j) n v (difference_small n i j h.0.0 h.0.1.0); some = one-le-pow v n one }
factor_small n v w ((i ∷ j ∷ []) ∷ m ∷ rest) one h = record { small = omega arith; some = omega arith }
factor_small n v false ((i ∷ j ∷ k ∷ []) ∷ []) one h = record { small = omega arith; some = omega arith }
factor_small n zero true ((i ∷ j ∷ k ∷ []) ∷ []) one h = record { small = weight_small n i i j k h.0.0 h.0.1.0 h.0.1.1.0 (omega arith) h.0.0; some = omega arith }
factor_small n (suc zero) true ((i ∷ j ∷ k ∷ []) ∷ []) one h = record { small = weight_small n j i j k h.0.0 h.0.1.0 h.0.1.1.0 (omega arith) h.0.1.0; some = omega arith }
factor_small n (suc (suc zero)) true ((i ∷ j ∷ k ∷ []) ∷ []) one h = record { small = weight_small n k i j k h.0.0 h.0.1.0 h.0.1.1.0 (omega arith) h.0.1.1.0; some = omega arith }
factor_small n (suc (suc (suc v))) true ((i ∷ j ∷ k ∷ []) ∷ []) one h = record { small = weight_small n 0 i j k h.0.0 h.0.1.0 h.0.1.1.0 (omega arith) (omega arith); some = omega arith }
factor_small n v true ((i ∷ j ∷ k ∷ []) ∷ m ∷ rest) one h = record { small = omega arith; some = omega arith }
factor_small n v false ((i ∷ j ∷ k ∷ []) ∷ m ∷ rest) one h = record { small = omega arith; some = omega arith }
factor_small n v true ((i ∷ j ∷ k ∷ l ∷ more) ∷ rest) one h = record { small = omega arith; some = omega arith }
factor_small n v false ((i ∷ j ∷ k ∷ l ∷ more) ∷ rest) one h = record { small = omega arith; some = omega arith }

share_small : (micro f : ℤ) (k high divisor : ℕ) → k ≤ high → 1 ≤ high → unsigned_abs f ≤ divisor → 1 ≤ divisor → unsigned_abs (int_div_euclid (micro *ℤ (pos k *ℤ f)) (pos (high * divisor))) ≤ unsigned_abs micro
share_small micro f k high divisor hk one hf some =
    floor_size (micro *ℤ (pos k *ℤ f)) (unsigned_abs micro) (high * divisor) (omega (arith, mul-le 1 1 high divisor one some))
    (rw (unsigned_abs-mul micro (pos k *ℤ f)) (mul-le-mul_left (unsigned_abs micro) (abs-*ℤ-le (pos k) f high divisor hk hf)))

-- The value of a parameter at counts of at most n is at most its own size.
pub parameter_size : (n : ℕ) (p : ParamAt) (counts : List (List ℕ)) → 1 ≤ n → AreUpTo n counts → unsigned_abs (parameter_value n p counts) ≤ unsigned_abs p.micro
unfolding parameter_value
parameter_size n p counts one h =
    let ks : List (List ℕ) = picked p.array counts in
    let small : AreUpTo n ks = picked_small n p.array counts h in
    let factor : IsFactorSmall n p.order p.weighted (interacting ks) = factor_small n p.order p.weighted (interacting ks) one (interacting_all (AllByRecursion (λ k. k ≤ n)) ks small) in
    share_small p.micro (factor_of n p.order p.weighted (interacting ks)) (product_over ks) (n ^ sum (map length ks)) (factor_divisor n p.order p.weighted (interacting ks)) (products_small n ks small) (one-le-pow (sum (map length ks)) n one) factor.small factor.some

pub plus_small : (a b : ℤ) (m n : ℕ) → unsigned_abs a ≤ m → unsigned_abs b ≤ n → unsigned_abs (a +ℤ b) ≤ m + n
plus_small a b m n h k = omega (arith, ints)

-- the parameters of one kind
pub parameters_size : (is_kind : Kind → Bool) (n : ℕ) (parameters : List ParamAt) (counts : List (List ℕ)) → 1 ≤ n → AreUpTo n counts →
    unsigned_abs (sum_of (λ p. parameter_value n p counts) (filter (λ p. is_kind p.kind) parameters)) ≤ magnitudes is_kind parameters
parameters_size is_kind n [] counts one h = omega arith
parameters_size is_kind n (p ∷ parameters) counts one h = by (is_kind p.kind) refl (parameters_size is_kind n parameters counts one h)
  where
    by : (b : Bool) → is_kind p.kind ≡ b → unsigned_abs (sum_of (λ p. parameter_value n p counts) (filter (λ p. is_kind p.kind) parameters)) ≤ magnitudes is_kind parameters →
        unsigned_abs (sum_of (λ p. parameter_value n p counts) (filter (λ p. is_kind p.kind) (p ∷ parameters))) ≤ magnitudes is_kind (p ∷ parameters)
    by true e rest = rw e (plus_small (parameter_value n p counts) (sum_of (λ p. parameter_value n p counts) (filter (λ p. is_kind p.kind) parameters)) (unsigned_abs p.micro) (magnitudes is_kind parameters) (parameter_size n p counts one h) rest)
    by false e rest = rw e (omega (arith, rest))

-- ideal mixing

lattice_among : (n : ℕ) (ls : List ℕ) → AllByRecursion (λ l. (1 ≤ l) × (l ≤ 1000)) ls → list_any (λ l. n == l) ls ≡ true → (1 ≤ n) × (n ≤ 1000)
lattice_among n [] h e = absurd cc
lattice_among n (l ∷ ls) h e = by (n == l) refl e (lattice_among n ls h.1)
  where
    by : (b : Bool) → (n == l) ≡ b → (b || list_any (λ l. n == l) ls) ≡ true → (list_any (λ l. n == l) ls ≡ true → (1 ≤ n) × (n ≤ 1000)) → (1 ≤ n) × (n ≤ 1000)
    by true e f rest = (omega (arith, eqb-true n l e, h.0.0), omega (arith, eqb-true n l e, h.0.1))
    by false e f rest = rest f

pub lattice_size : (n : ℕ) → is_lattice n ≡ true → (1 ≤ n) × (n ≤ 1000)
lattice_size n e = lattice_among n LATTICES all e
  where
    all : AllByRecursion (λ l. (1 ≤ l) × (l ≤ 1000)) LATTICES
    all = ((omega arith, omega arith), ((omega arith, omega arith), ((omega arith, omega arith), ((omega arith, omega arith), ((omega arith, omega arith), ((omega arith, omega arith), ((omega arith, omega arith), ((omega arith, omega arith), ((omega arith, omega arith), ((omega arith, omega arith), ((omega arith, omega arith), tt)))))))))))

-- k parts of n take no more than k/n of 600000*t*a
spent_share : (t n a k log : ℕ) → log ≤ 7216000000000000 → 831451 * t * a * k * log / (n * 10000000000000000) * n ≤ 600000 * t * a * k
spent_share t n a k log h =
    let spent : ℕ = 831451 * t * a * k * log / (n * 10000000000000000) in
    let x : ℕ = t * a * k in
    let whole : spent * (n * 10000000000000000) ≤ 831451 * t * a * k * log = div-mul-le_self (831451 * t * a * k * log) (n * 10000000000000000) in
    let high : x * log ≤ x * 7216000000000000 = mul-le-mul_left x h in
    let left : spent * (n * 10000000000000000) ≡ 10000000000000000 * (spent * n) = omega arith in
    let right : 831451 * t * a * k * log ≡ 831451 * (x * log) = omega arith in
    let goal : 600000 * t * a * k ≡ 600000 * x = omega arith in
    omega (arith, whole, high, left, right, goal)

log_small : (n k : ℕ) → n ≤ 1000 → log_of n - log_of k ≤ 7216000000000000
log_small n k h = omega (arith, log_of-le n 1000 h, log_of-1000)

neg_size : (n : ℕ) → unsigned_abs (neg_ℤ (pos n)) ≡ n
neg_size n = omega (arith, ints)

mixing_share : (t n a k : ℕ) → n ≤ 1000 → unsigned_abs (mixing_at t n a k) * n ≤ 600000 * t * a * k
unfolding mixing_at
mixing_share t n a k h =
    rw (neg_size (831451 * t * a * k * (log_of n - log_of k) / (n * 10000000000000000))) (spent_share t n a k (log_of n - log_of k) (log_small n k h))

plus_share : (a b : ℤ) (n x y : ℕ) → unsigned_abs a * n ≤ x → unsigned_abs b * n ≤ y → unsigned_abs (a +ℤ b) * n ≤ x + y
plus_share a b n x y h k =
    let both : unsigned_abs (a +ℤ b) ≤ unsigned_abs a + unsigned_abs b = plus_small a b (unsigned_abs a) (unsigned_abs b) (omega arith) (omega arith) in
    let times : unsigned_abs (a +ℤ b) * n ≤ (unsigned_abs a + unsigned_abs b) * n = mul-le (unsigned_abs (a +ℤ b)) n (unsigned_abs a + unsigned_abs b) n both (omega arith) in
    omega (arith, times, h, k)

row_share : (t n a : ℕ) (counts : List ℕ) → n ≤ 1000 → unsigned_abs (mixing_of_counts t n a counts) * n ≤ 600000 * t * a * sum counts
row_share t n a [] h = omega arith
row_share t n a (k ∷ counts) h =
    let both = plus_share (mixing_at t n a k) (mixing_of_counts t n a counts) n (600000 * t * a * k) (600000 * t * a * sum counts) (mixing_share t n a k h) (row_share t n a counts h) in
    let all : 600000 * t * a * sum (k ∷ counts) ≡ 600000 * t * a * k + 600000 * t * a * sum counts = ap (λ (m : ℕ). 600000 * t * a * m) (sum_by-cons (λ (x : ℕ). x) k counts) ∙ omega arith in
    omega (arith, both, all)

-- counts of each sublattice that add to n at most
abbrev pub AddUpTo : ℕ → List (List ℕ) → Type 0
AddUpTo n site = AllByRecursion (λ counts. sum counts ≤ n) site

pub row_size : (t n a : ℕ) (counts : List ℕ) → 1 ≤ n → n ≤ 1000 → sum counts ≤ n → unsigned_abs (mixing_of_counts t n a counts) ≤ 600000 * t * a
row_size t n a counts one h e =
    let share : unsigned_abs (mixing_of_counts t n a counts) * n ≤ 600000 * t * a * sum counts = row_share t n a counts h in
    let whole : 600000 * t * a * sum counts ≤ 600000 * t * a * n = mul-le-mul_left (600000 * t * a) e in
    le_of_mul-le-mul_right {m = unsigned_abs (mixing_of_counts t n a counts)} {n = 600000 * t * a} {k = n} (omega (arith, share, whole)) one

-- The energy of mixing of a phase is at most 600000*t times the sum of its ratios.
pub mixing_size : (t n : ℕ) (ratios : List ℕ) (counts : List (List ℕ)) → 1 ≤ n → n ≤ 1000 → AddUpTo n counts → unsigned_abs (mixing_over t n ratios counts) ≤ 600000 * t * sum ratios
mixing_size t n [] counts one h adds = omega arith
mixing_size t n (a ∷ ratios) [] one h adds = omega arith
mixing_size t n (a ∷ ratios) (ks ∷ counts) one h adds =
    let both = plus_small (mixing_of_counts t n a ks) (mixing_over t n ratios counts) (600000 * t * a) (600000 * t * sum ratios) (row_size t n a ks one h adds.0) (mixing_size t n ratios counts one h adds.1) in
    let all : 600000 * t * sum (a ∷ ratios) ≡ 600000 * t * a + 600000 * t * sum ratios = ap (λ (m : ℕ). 600000 * t * m) (sum_by-cons (λ (x : ℕ). x) a ratios) ∙ omega arith in
    omega (arith, both, all)

-- counts that add to n are at most n
row_up_to : (n : ℕ) (counts : List ℕ) → sum counts ≤ n → AllByRecursion (λ k. k ≤ n) counts
row_up_to n [] h = tt
row_up_to n (k ∷ counts) h =
    let all : sum (k ∷ counts) ≡ k + sum counts = sum_by-cons (λ (x : ℕ). x) k counts in
    (omega (arith, all, h), row_up_to n counts (omega (arith, all, h)))

pub shape_up_to : (n : ℕ) (sites : List (List (Option ℕ))) (counts : List (List ℕ)) → HasShape n sites counts → AreUpTo n counts
shape_up_to n [] [] h = tt
shape_up_to n [] (ks ∷ counts) h = absurd h
shape_up_to n (row ∷ sites) [] h = absurd h
shape_up_to n (row ∷ sites) (ks ∷ counts) h = (row_up_to n ks (omega (arith, h.1)), shape_up_to n sites counts h.2)

pub shape_adds : (n : ℕ) (sites : List (List (Option ℕ))) (counts : List (List ℕ)) → HasShape n sites counts → AddUpTo n counts
shape_adds n [] [] h = tt
shape_adds n [] (ks ∷ counts) h = absurd h
shape_adds n (row ∷ sites) [] h = absurd h
shape_adds n (row ∷ sites) (ks ∷ counts) h = (omega (arith, h.1), shape_adds n sites counts h.2)

-- magnetism, where it is within its limits
magnetism_size : (phase : PhaseAt) (counts : List (List ℕ)) (m : Option MagneticAt) → 1 ≤ phase.t → IsMagnetic m →
    unsigned_abs (sum_of_kind is_curie phase counts) ≤ MOST_CURIE → unsigned_abs (sum_of_kind is_moment phase counts) ≤ MOST_MOMENT →
    unsigned_abs (magnetic_energy phase counts m) ≤ size_of_magnetism phase.t phase.scale m
magnetism_size phase counts None warm is curie moment = omega arith
magnetism_size phase counts (Some m) warm is curie moment =
    magnetic_size phase.t phase.scale m.factor m.p4 (sum_of_kind is_curie phase counts) (sum_of_kind is_moment phase counts) warm is.2 is.3 curie moment

-- The energy of a list of counts is at most the size of the phase's energies.
pub energy_size : (phase : PhaseAt) (counts : List (List ℕ)) → IsFine phase → HasShape phase.lattice phase.sites counts → unsigned_abs (energy phase counts) ≤ sigma phase
unfolding energy
energy_size phase counts fine shape =
    let keeps : IsPhase phase = fine.keeps in
    let n = lattice_size phase.lattice keeps.lattice in
    let up_to : AreUpTo phase.lattice counts = shape_up_to phase.lattice phase.sites counts shape in
    let parameters : unsigned_abs (sum_of_kind is_energy phase counts) ≤ magnitudes is_energy phase.parameters = parameters_size is_energy phase.lattice phase.parameters counts n.0 up_to in
    let curie : unsigned_abs (sum_of_kind is_curie phase counts) ≤ magnitudes is_curie phase.parameters = parameters_size is_curie phase.lattice phase.parameters counts n.0 up_to in
    let moment : unsigned_abs (sum_of_kind is_moment phase counts) ≤ magnitudes is_moment phase.parameters = parameters_size is_moment phase.lattice phase.parameters counts n.0 up_to in
    let mixing = mixing_size phase.t phase.lattice phase.ratios counts n.0 n.1 (shape_adds phase.lattice phase.sites counts shape) in
    let magnetism = magnetism_size phase counts phase.magnetic (omega (arith, keeps.coldest)) keeps.magnetic (omega (arith, curie, keeps.curie)) (omega (arith, moment, keeps.moments)) in
    plus_small (sum_of_kind is_energy phase counts) (mixing_over phase.t phase.lattice phase.ratios counts +ℤ magnetic_energy phase counts phase.magnetic) (magnitudes is_energy phase.parameters) (600000 * phase.t * sum phase.ratios + size_of_magnetism phase.t phase.scale phase.magnetic) parameters
    (plus_small (mixing_over phase.t phase.lattice phase.ratios counts) (magnetic_energy phase counts phase.magnetic) (600000 * phase.t * sum phase.ratios) (size_of_magnetism phase.t phase.scale phase.magnetic) mixing magnetism)
