-- What one count of a site is worth.
use Rattle.std.proofs.Common.{◌≡◌, ◌≢◌, ℕ, zero, suc, ◌*◌, ◌<◌, ◌≤◌, ◌^◌, List, [], ◌∷◌, Option, Some, None, length, get_or, arith, refl, sym, ap, ◌∙◌, subst}
use Rattle.std.specs.Prelude.{ℤ, pos, ◌*ℤ◌, unsigned_abs}
use Rattle.std.specs.List.{AllByRecursion}
use Rattle.std.proofs.lemmas.Int.{ints, unsigned_abs-mul, to_z-of_z}
use Rattle.std.proofs.lemmas.Nat.{mul-le}
use Rattle.std.proofs.lemmas.Bool.{ne_eqb, eq-eqb}
use Rattle.cal_math.specs.Vectors.{at}
use Rattle.cal_math.proofs.Vectors.{dot_one, dot-zero}
use Rattle.cef_core.specs.Constitutions.{weight_of}
use Rattle.cef_phase.specs.Bounds.{slope_of, slopes_of, IsOneOf}
use Rattle.cef_phase.specs.Walks.{AreSmall, AreSlopes}

pub share_size : (a : ℤ) (n : ℕ) → unsigned_abs a * n ≤ 2 ^ 117 → unsigned_abs (a *ℤ pos n) ≤ 2 ^ 117
share_size a n h = rw (unsigned_abs-mul a (pos n)) h

pub ruleset sharing = (share_size, to_z-of_z)

-- a vacancy is worth nothing
pub slope_none : (potentials : List ℤ) (ratio : ℕ) → slope_of potentials ratio None ≡ pos 0
slope_none potentials ratio = dot-zero (length potentials) (at potentials)

weight_other : (ratio c d : ℕ) → c ≢ d → pos (weight_of c ratio (Some d)) ≡ pos 0
weight_other ratio c d ne = rw (ne_eqb c d ne) refl

weight_own : (ratio d : ℕ) → weight_of d ratio (Some d) ≡ ratio
weight_own ratio d = rw (eq-eqb d d refl) refl

-- a component's site: its potential times the ratio
pub slope_some : (potentials : List ℤ) (ratio d : ℕ) → d < length potentials → slope_of potentials ratio (Some d) ≡ at potentials d *ℤ pos ratio
slope_some potentials ratio d lt =
    dot_one (length potentials) d (at potentials) (λ c. pos (weight_of c ratio (Some d))) lt (λ c less ne. weight_other ratio c d ne)
    ∙ ap (λ (w : ℕ). at potentials d *ℤ pos w) (weight_own ratio d)

all-at : (P : ℤ → Type 0) (numbers : List ℤ) (d : ℕ) → AllByRecursion P numbers → d < length numbers → P (at numbers d)
all-at P [] d h lt = absurd (omega arith)
all-at P (x ∷ numbers) zero h lt = h.0
all-at P (x ∷ numbers) (suc d) h lt = all-at P numbers d h.1 (omega arith)

pub small_at : (ratio : ℕ) (potentials : List ℤ) (d : ℕ) → AreSmall ratio potentials → d < length potentials → unsigned_abs (at potentials d) * ratio ≤ 2 ^ 117
small_at ratio potentials d h lt = all-at (λ m. unsigned_abs m * ratio ≤ 2 ^ 117) potentials d h lt

pub vacant : (potentials : List ℤ) (ratio : ℕ) (site : Option ℕ) → site ≡ None → pos 0 ≡ slope_of potentials ratio site
vacant potentials ratio site e = rw e (sym (slope_none potentials ratio))

pub occupied : (potentials : List ℤ) (ratio d : ℕ) (site : Option ℕ) (x : ℤ) → site ≡ Some d → d < length potentials → x ≡ at potentials d *ℤ pos ratio → x ≡ slope_of potentials ratio site
occupied potentials ratio d site x e lt is = rw e (is ∙ sym (slope_some potentials ratio d lt))

pub component_in : (n d : ℕ) (site : Option ℕ) → site ≡ Some d → IsOneOf n site → d < n
component_in n d site e h = let there : IsOneOf n (Some d) = subst (IsOneOf n) e h in there

pub ruleset sloping = (vacant, occupied, small_at, component_in, to_z-of_z)

pub length-slopes_of : (potentials : List ℤ) (ratio : ℕ) (sites : List (Option ℕ)) → length (slopes_of potentials ratio sites) ≡ length sites
length-slopes_of potentials ratio [] = refl
length-slopes_of potentials ratio (site ∷ sites) = omega (arith, length-slopes_of potentials ratio sites)

-- ---- the slope of a site of a row

pub slope_in : (slopes : List ℤ) (k : ℕ) (x d : ℤ) → k < length slopes → x ≡ get_or slopes k d → x ≡ at slopes k
slope_in [] k x d lt is = absurd (omega arith)
slope_in (m ∷ slopes) zero x d lt is = is
slope_in (m ∷ slopes) (suc k) x d lt is = slope_in slopes k x d (omega arith) is

pub slope_small : (n limit : ℕ) (slopes : List ℤ) (k : ℕ) (x : ℤ) → k < length slopes → x ≡ at slopes k → AreSlopes n limit slopes → unsigned_abs x * n ≤ limit
slope_small n limit slopes k x lt e h = rw e (all-at (λ m. unsigned_abs m * n ≤ limit) slopes k h lt)

pub ruleset placing = (slope_in, slope_small, to_z-of_z)

-- ---- how large slopes are

slope_share : (limit n total ratio : ℕ) (potentials : List ℤ) (site : Option ℕ) → ratio ≤ total → AllByRecursion (λ m. unsigned_abs m * (n * total) ≤ limit) potentials → IsOneOf (length potentials) site →
    unsigned_abs (slope_of potentials ratio site) * n ≤ limit
slope_share limit n total ratio potentials None le small one = rw (slope_none potentials ratio) (omega arith)
slope_share limit n total ratio potentials (Some d) le small one =
    let here : unsigned_abs (at potentials d) * (n * total) ≤ limit = all-at (λ m. unsigned_abs m * (n * total) ≤ limit) potentials d small one in
    let size : unsigned_abs (at potentials d *ℤ pos ratio) ≡ unsigned_abs (at potentials d) * ratio = unsigned_abs-mul (at potentials d) (pos ratio) in
    let turned : unsigned_abs (at potentials d) * ratio * n ≡ unsigned_abs (at potentials d) * n * ratio = omega arith in
    let more : unsigned_abs (at potentials d) * n * ratio ≤ unsigned_abs (at potentials d) * n * total = mul-le (unsigned_abs (at potentials d) * n) ratio (unsigned_abs (at potentials d) * n) total (omega arith) le in
    let whole : unsigned_abs (at potentials d) * n * total ≡ unsigned_abs (at potentials d) * (n * total) = omega arith in
    rw (slope_some potentials ratio d one, size) (omega (arith, here, turned, more, whole))

pub slopes_small : (limit n total ratio : ℕ) (potentials : List ℤ) (sites : List (Option ℕ)) → ratio ≤ total → AllByRecursion (λ m. unsigned_abs m * (n * total) ≤ limit) potentials → AllByRecursion (IsOneOf (length potentials)) sites →
    AreSlopes n limit (slopes_of potentials ratio sites)
slopes_small limit n total ratio potentials [] le small one = tt
slopes_small limit n total ratio potentials (site ∷ sites) le small one = (slope_share limit n total ratio potentials site le small one.0, slopes_small limit n total ratio potentials sites le small one.1)

-- potentials whose products with N counts of all ratios are within 2^117 have room with one ratio
potential_small : (limit n total ratio : ℕ) (m : ℤ) → limit ≤ 2 ^ 117 → 1 ≤ n → ratio ≤ total → unsigned_abs m * (n * total) ≤ limit → unsigned_abs m * ratio ≤ 2 ^ 117
potential_small limit n total ratio m low one le small =
    omega (arith, small, low, mul-le (unsigned_abs m) ratio (unsigned_abs m) (n * total) (omega arith) (omega (arith, mul-le 1 ratio n total one le)))

pub potentials_small : (limit n total ratio : ℕ) (potentials : List ℤ) → limit ≤ 2 ^ 117 → 1 ≤ n → ratio ≤ total → AllByRecursion (λ m. unsigned_abs m * (n * total) ≤ limit) potentials → AreSmall ratio potentials
potentials_small limit n total ratio [] low one le small = tt
potentials_small limit n total ratio (m ∷ potentials) low one le small = (potential_small limit n total ratio m low one le small.0, potentials_small limit n total ratio potentials low one le small.1)
