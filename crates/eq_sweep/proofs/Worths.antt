-- What counts are worth, component by component.
use Rattle.std.proofs.Common.{◌≡◌, ℕ, zero, suc, ◌+◌, ◌*◌, ◌^◌, ◌≤◌, ◌<◌, List, [], ◌∷◌, length, refl, arith, ap, sym, ◌∙◌}
use Rattle.std.specs.Prelude.{ℤ, pos, ◌+ℤ◌, ◌*ℤ◌, unsigned_abs, sum, slice_index_or, FitsSigned}
use Rattle.std.specs.Int.{w128}
use Rattle.std.specs.List.{AllByRecursion}
use Rattle.std.proofs.Math.Nat.{mul-le-mul_left, le_of_mul-le-mul_right}
use Rattle.std.proofs.lemmas.Int.{ints, unsigned_abs-mul}
use Rattle.cal_math.specs.Sums.{sum_below}
use Rattle.cal_math.specs.Vectors.{at, sum_to, dot}
use Rattle.cef_core.specs.declared.phase.PhaseAt.{PhaseAt}
use Rattle.cef_core.specs.Constitutions.{HasShape, content_over, content}
use Rattle.cef_core.specs.Sizes.{content_small}
use Rattle.cef_core.specs.Worth.{worth}
use Rattle.cef_phase.specs.Bounds.{IsPlane}

-- the sum of numbers times amounts
abbrev sum_of_shares : (ℕ → ℤ) → (ℕ → ℕ) → ℕ → ℤ
sum_of_shares m b k = sum_to k (λ c. m c *ℤ pos (b c))

share_size : (m : ℤ) (b : ℕ) → unsigned_abs (m *ℤ pos b) ≡ unsigned_abs m * b
share_size m b = unsigned_abs-mul m (pos b)

one_more : (limit all before here room total : ℕ) → here * all ≤ limit → before * all ≤ limit * total → (before + here * room) * all ≤ limit * (total + room)
one_more limit all before here room total h g =
    let a : here * all * room ≤ limit * room = omega (arith, mul-le-mul_left room h) in
    omega (arith, a, g, spread before (here * room) all, turned here room all, spread_left limit total room)
  where
    spread : (a b c : ℕ) → (a + b) * c ≡ a * c + b * c
    spread a b c = omega arith

    spread_left : (a b c : ℕ) → a * (b + c) ≡ a * b + a * c
    spread_left a b c = omega arith

    turned : (a b c : ℕ) → a * b * c ≡ a * c * b
    turned a b c = grind arith

shares_scaled : (limit all : ℕ) (m : ℕ → ℤ) (b : ℕ → ℕ) (k : ℕ) → ((c : ℕ) → c < k → unsigned_abs (m c) * all ≤ limit) → unsigned_abs (sum_of_shares m b k) * all ≤ limit * sum_below k b
shares_scaled limit all m b zero h = omega arith
shares_scaled limit all m b (suc k) h =
    let before = shares_scaled limit all m b k (λ c lt. h c (omega (arith, lt))) in
    let here = h k (omega arith) in
    let step = one_more limit all (unsigned_abs (sum_of_shares m b k)) (unsigned_abs (m k)) (b k) (sum_below k b) here before in
    at_most (unsigned_abs (sum_of_shares m b (suc k))) (unsigned_abs (sum_of_shares m b k) + unsigned_abs (m k) * b k) all (limit * (sum_below k b + b k)) (added (sum_of_shares m b k) (m k *ℤ pos (b k)) (unsigned_abs (m k) * b k) (share_size (m k) (b k))) step
  where
    added : (x y : ℤ) (n : ℕ) → unsigned_abs y ≡ n → unsigned_abs (x +ℤ y) ≤ unsigned_abs x + n
    added x y n e = omega (arith, ints, e)

    at_most : (x y all top : ℕ) → x ≤ y → y * all ≤ top → x * all ≤ top
    at_most x y all top h g = omega (arith, g, mul-le-mul_left all h)

none_from : (m : ℕ → ℤ) (b : ℕ → ℕ) (k : ℕ) → sum_below k b ≤ 0 → sum_of_shares m b k ≡ pos 0
none_from m b zero h = refl
none_from m b (suc k) h =
    let before : sum_of_shares m b k ≡ pos 0 = none_from m b k (omega (arith, h)) in
    let here : b k ≡ 0 = omega (arith, h) in
    rw (before, here) (omega (arith, ints, times_none (m k)))
  where
    times_none : (x : ℤ) → x *ℤ pos 0 ≡ pos 0
    times_none x = omega (arith, ints)

shares_small : (limit all : ℕ) (m : ℕ → ℤ) (b : ℕ → ℕ) (k : ℕ) → ((c : ℕ) → c < k → unsigned_abs (m c) * all ≤ limit) → sum_below k b ≤ all → unsigned_abs (sum_of_shares m b k) ≤ limit
shares_small limit zero m b k h le = rw (none_from m b k le) (omega arith)
shares_small limit (suc all) m b k h le =
    let scaled = shares_scaled limit (suc all) m b k h in
    le_of_mul-le-mul_right {m = unsigned_abs (sum_of_shares m b k)} {n = limit} {k = suc all} (omega (arith, scaled, mul-le-mul_left limit le)) (omega arith)

number_at : (limit all : ℕ) (numbers : List ℤ) (c : ℕ) → AllByRecursion (λ m. unsigned_abs m * all ≤ limit) numbers → c < length numbers → unsigned_abs (at numbers c) * all ≤ limit
number_at limit all [] c h lt = absurd (omega (arith, lt))
number_at limit all (m ∷ numbers) zero h lt = h.0
number_at limit all (m ∷ numbers) (suc c) h lt = number_at limit all numbers c h.1 (omega (arith, lt))

-- what the first components are worth
abbrev pub worth_to : PhaseAt → List ℤ → List (List ℕ) → ℕ → ℤ
worth_to phase potentials counts k = sum_to k (λ c. at potentials c *ℤ content phase counts c)

pub worth_is_small : (phase : PhaseAt) (potentials : List ℤ) (counts : List (List ℕ)) (k : ℕ) → IsPlane (2 ^ 116) phase potentials → HasShape phase.lattice phase.sites counts → k ≤ length potentials → unsigned_abs (worth_to phase potentials counts k) ≤ 2 ^ 116
unfolding content
worth_is_small phase potentials counts k plane shaped le =
    shares_small (2 ^ 116) (phase.lattice * sum phase.ratios) (at potentials) (λ c. content_over c phase.ratios phase.sites counts) k
    (λ c lt. number_at (2 ^ 116) (phase.lattice * sum phase.ratios) potentials c plane.small (omega (arith, lt, le)))
    (content_small k phase counts shaped)

pub worth_fits : (x : ℤ) → unsigned_abs x ≤ 2 ^ 116 → FitsSigned w128 x
worth_fits x h = omega (arith, ints, h)

pub share_is_small : (phase : PhaseAt) (potentials : List ℤ) (counts : List (List ℕ)) (k : ℕ) → IsPlane (2 ^ 116) phase potentials → HasShape phase.lattice phase.sites counts → k < length potentials → unsigned_abs (at potentials k *ℤ content phase counts k) ≤ 2 ^ 117
share_is_small phase potentials counts k plane shaped lt =
    difference (worth_to phase potentials counts k) (at potentials k *ℤ content phase counts k) (worth_is_small phase potentials counts k plane shaped (omega (arith, lt))) (worth_is_small phase potentials counts (suc k) plane shaped (omega (arith, lt)))
  where
    difference : (x y : ℤ) → unsigned_abs x ≤ 2 ^ 116 → unsigned_abs (x +ℤ y) ≤ 2 ^ 116 → unsigned_abs y ≤ 2 ^ 117
    difference x y h g = omega (arith, ints, h, g)

pub share_fits : (x : ℤ) → unsigned_abs x ≤ 2 ^ 117 → FitsSigned w128 x
share_fits x h = omega (arith, ints, h)

pub worth_is : (phase : PhaseAt) (potentials : List ℤ) (counts : List (List ℕ)) (k : ℕ) → k ≡ length potentials → worth_to phase potentials counts k ≡ worth potentials (content phase counts)
unfolding dot
worth_is phase potentials counts k e = rw e refl
