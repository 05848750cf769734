-- The planes of all affine parameters, one after the other.
use Rattle.std.proofs.Common.{◌≡◌, ℕ, zero, suc, ◌+◌, ◌*◌, ◌^◌, ◌<◌, ◌≤◌, List, [], ◌∷◌, ◌++◌, length, take, map, slice_get, arith, refl, sym, ap, ◌∙◌, subst, Bool, true, false, Option, Some, add-one, take_all}
use Rattle.std.specs.Prelude.{ℤ, pos, ◌+ℤ◌, slice_index_or, filter, unsigned_abs, cond, not, ◌&&◌, FitsSigned}
use Rattle.std.specs.Int.{w128}
use Rattle.std.specs.List.{AllByRecursion}
use Rattle.std.proofs.lemmas.Int.{ints}
use Rattle.std.proofs.lemmas.List.{map-append}
use Rattle.cal_math.specs.Sums.{sum_of}
use Rattle.cef_core.specs.declared.phase.ParamAt.{ParamAt}
use Rattle.cef_core.specs.declared.phase.PhaseAt.{PhaseAt}
use Rattle.cef_core.specs.Energies.{is_energy}
use Rattle.cef_core.specs.Phases.{IsFine, magnitudes}
use Rattle.cef_core.specs.Shapes.{places}
use Rattle.cef_box.specs.declared.range.Range.{Range}
use Rattle.cef_box.specs.Terms.{FitsBox, shape_of_phase}
use Rattle.cef_term.specs.declared.param_term.ParamTerm.{ParamTerm}
use Rattle.cef_term.specs.Bounds.{parameter_low}
use Rattle.cef_minor.specs.Forms.{is_affine, slope_at, constant_of}
use Rattle.cef_minor.specs.Laws.{HasMinorant}
use Rattle.cef_minor.specs.Raised.{AreRaised, AreWithin}
use Rattle.cef_minor.proofs.Laws.{slopes_are_small, constant_is_small}
use Rattle.cef_phase.specs.Affine.{affine_of, has_no_plane, rise_at}
use Rattle.cef_phase.specs.Kinds.{lows_of}
use Rattle.cef_phase.specs.MagneticTerms.{MagneticTerm, IsMagnetism}
use Rattle.cef_phase.specs.Planes.{places_where, affine_places, AreOthers, HasPlanes}
use Rattle.cef_phase.specs.Sizes.{plus_small}
use Rattle.cef_phase.proofs.Adding.{sum_of-more, filter-kept, filter-left, all-more, all-at, magnetism_lowest, magnetism_most, magnet_phase, magnitude_sum, micros_are}
use Rattle.cef_phase.proofs.Minorants.{affine_is_energy, minorants, affine_below, affine_exactly}

-- ---- the places, one by one

places-kept : (test : ParamAt → Bool) (from : ℕ) (ps : List ParamAt) (k : ℕ) (p : ParamAt) → slice_get ps k ≡ Some p → test p ≡ true →
    places_where test from (take (suc k) ps) ≡ places_where test from (take k ps) ++ (from + k) ∷ []
places-kept test from [] k p e h = absurd cc
places-kept test from (y ∷ ps) zero p e h =
    let same : y ≡ p = cc in
    let here : from + 0 ≡ from = omega arith in
    rw (same, h, here) refl
places-kept test from (y ∷ ps) (suc k) p e h = by (test y) refl (rw next at (places-kept test (suc from) ps k p e h))
  where
    next : suc from + k ≡ from + suc k
    next = omega arith

    by : (b : Bool) → test y ≡ b → places_where test (suc from) (take (suc k) ps) ≡ places_where test (suc from) (take k ps) ++ (from + suc k) ∷ [] →
        places_where test from (take (suc (suc k)) (y ∷ ps)) ≡ places_where test from (take (suc k) (y ∷ ps)) ++ (from + suc k) ∷ []
    by true f rest = rw f (ap (λ (zs : List ℕ). from ∷ zs) rest)
    by false f rest = rw f rest

places-left : (test : ParamAt → Bool) (from : ℕ) (ps : List ParamAt) (k : ℕ) (p : ParamAt) → slice_get ps k ≡ Some p → test p ≡ false →
    places_where test from (take (suc k) ps) ≡ places_where test from (take k ps)
places-left test from [] k p e h = absurd cc
places-left test from (y ∷ ps) zero p e h = let same : y ≡ p = cc in rw (same, h) refl
places-left test from (y ∷ ps) (suc k) p e h = ap (λ (zs : List ℕ). cond (test y) (from ∷ zs) zs) (places-left test (suc from) ps k p e h)

pub affine-kept : (phase : PhaseAt) (k : ℕ) (before after : List ℕ) (p : ParamAt) → before ≡ places_where is_affine 0 (take k phase.parameters) →
    slice_get phase.parameters k ≡ Some p → is_affine p ≡ true → after ≡ before ++ k ∷ [] →
    after ≡ places_where is_affine 0 (take (k + 1) phase.parameters)
affine-kept phase k before after p h e yes_it m =
    let here : 0 + k ≡ k = omega arith in
    rw (m, h, add-one) (sym (rw here at (places-kept is_affine 0 phase.parameters k p e yes_it)))

pub affine-left : (phase : PhaseAt) (k : ℕ) (before : List ℕ) (p : ParamAt) → before ≡ places_where is_affine 0 (take k phase.parameters) →
    slice_get phase.parameters k ≡ Some p → is_affine p ≡ false → before ≡ places_where is_affine 0 (take (k + 1) phase.parameters)
affine-left phase k before p h e no_it = rw (h, add-one) (sym (places-left is_affine 0 phase.parameters k p e no_it))

pub parameter_there : (ps all : List ParamAt) (k : ℕ) → all ≡ ps → k < length all → (p : ParamAt) × (slice_get ps k ≡ Some p)
parameter_there ps all k e lt = there ps k (omega (arith, lt, ap length e))
  where
    there : (xs : List ParamAt) (i : ℕ) → i < length xs → (p : ParamAt) × (slice_get xs i ≡ Some p)
    there [] i h = absurd (omega (arith, h))
    there (x ∷ xs) zero h = (x, refl)
    there (x ∷ xs) (suc i) h = there xs i (omega (arith, h))

-- ---- the terms of the others, one by one

pub record AreOthersUpTo (phase : PhaseAt) (k : ℕ) (terms : List ParamTerm) : Type 0 where
  pub each : AllByRecursion (λ (t : ParamTerm). t.phase.now ≡ phase) terms
  pub all : map (λ (t : ParamTerm). t.parameter.now) terms ≡ filter has_no_plane (take k phase.parameters)

pub others-kept : (phase : PhaseAt) (k : ℕ) (terms more : List ParamTerm) (p : ParamAt) (t : ParamTerm) → AreOthersUpTo phase k terms →
    slice_get phase.parameters k ≡ Some p → has_no_plane p ≡ true → t.phase.now ≡ phase → slice_get phase.parameters k ≡ Some t.parameter.now →
    more ≡ terms ++ t ∷ [] → AreOthersUpTo phase (k + 1) more
others-kept phase k terms more p t h e yes_it of_phase is m =
    let same : p ≡ t.parameter.now = cc in
    let none : has_no_plane t.parameter.now ≡ true = subst (λ (q : ParamAt). has_no_plane q ≡ true) same yes_it in
    rw m (record {
      each = all-more (λ (t : ParamTerm). t.phase.now ≡ phase) terms t h.each of_phase;
      all =
          map-append (λ (t : ParamTerm). t.parameter.now) terms (t ∷ []) ∙ ap (λ (ps : List ParamAt). ps ++ t.parameter.now ∷ []) h.all
          ∙ rw add-one (sym (filter-kept has_no_plane phase.parameters k t.parameter.now is none));
    })

pub others-left : (phase : PhaseAt) (k : ℕ) (terms : List ParamTerm) (p : ParamAt) → AreOthersUpTo phase k terms →
    slice_get phase.parameters k ≡ Some p → has_no_plane p ≡ false → AreOthersUpTo phase (k + 1) terms
others-left phase k terms p h e no_it =
    record { each = h.each; all = h.all ∙ rw add-one (sym (filter-left has_no_plane phase.parameters k p e no_it)) }

-- ---- the parameter at a place

pub record IsPlace (test : ParamAt → Bool) (from : ℕ) (ps : List ParamAt) (j k : ℕ) : Type 0 where
  pub n : ℕ
  pub p : ParamAt
  pub place : k ≡ from + n
  pub there : slice_get ps n ≡ Some p
  pub kept : slice_get (filter test ps) j ≡ Some p
  pub passes : test p ≡ true

is_place : (test : ParamAt → Bool) (from : ℕ) (ps : List ParamAt) (j k : ℕ) → slice_get (places_where test from ps) j ≡ Some k →
    IsPlace test from ps j k
is_place test from [] j k e = absurd cc
is_place test from (y ∷ ps) j k e = by (test y) refl j e (λ i f. is_place test (suc from) ps i k f)
  where
    by : (b : Bool) → test y ≡ b → (i : ℕ) → slice_get (places_where test from (y ∷ ps)) i ≡ Some k →
        ((i : ℕ) → slice_get (places_where test (suc from) ps) i ≡ Some k → IsPlace test (suc from) ps i k) → IsPlace test from (y ∷ ps) i k
    by true h zero f later =
        let here : Some from ≡ Some k = rw h at f in
        let is : from ≡ k = cc in
        record { n = 0; p = y; place = omega (arith, is); there = refl; kept = rw h refl; passes = h }
    by true h (suc i) f later =
        let rest = later i (rw h at f) in
        record { n = suc rest.n; p = rest.p; place = omega (arith, rest.place); there = rest.there; kept = rw h rest.kept; passes = rest.passes }
    by false h i f later =
        let rest = later i (rw h at f) in
        record { n = suc rest.n; p = rest.p; place = omega (arith, rest.place); there = rest.there; kept = rw h rest.kept; passes = rest.passes }

pub record IsAffineAt (phase : PhaseAt) (j k : ℕ) (p : ParamAt) : Type 0 where
  pub within : k < length phase.parameters
  pub there : slice_get phase.parameters k ≡ Some p
  pub kept : slice_get (affine_of phase) j ≡ Some p
  pub affine : is_affine p ≡ true

get_within : (ps : List ParamAt) (k : ℕ) (p : ParamAt) → slice_get ps k ≡ Some p → k < length ps
get_within [] k p e = absurd cc
get_within (y ∷ ps) zero p e = omega arith
get_within (y ∷ ps) (suc k) p e = omega (arith, get_within ps k p e)

pub affine_at : (phase : PhaseAt) (affine : List ℕ) (j k : ℕ) → affine ≡ affine_places phase → slice_get affine j ≡ Some k →
    (p : ParamAt) × IsAffineAt phase j k p
affine_at phase affine j k e at_j =
    let is = is_place is_affine 0 phase.parameters j k (rw e at at_j) in
    let same : is.n ≡ k = omega (arith, is.place) in
    let there : slice_get phase.parameters k ≡ Some is.p = rw same at is.there in
    (is.p, record { within = get_within phase.parameters k is.p there; there = there; kept = is.kept; affine = is.passes })

read_at : (xs : List ℕ) (j : ℕ) → j < length xs → slice_get xs j ≡ Some (slice_index_or xs j 0)
read_at [] j h = absurd (omega (arith, h))
read_at (x ∷ xs) zero h = refl
read_at (x ∷ xs) (suc j) h = read_at xs j (omega (arith, h))

pub affine_here : (phase : PhaseAt) (affine : List ℕ) (j : ℕ) → affine ≡ affine_places phase → j < length affine →
    (p : ParamAt) × IsAffineAt phase j (slice_index_or affine j 0) p
affine_here phase affine j e lt = affine_at phase affine j (slice_index_or affine j 0) e (read_at affine j lt)

one_parameter : (q p : ParamAt) → Some q ≡ Some p → q ≡ p
one_parameter q p e = cc

pub affine_there : (phase : PhaseAt) (j k : ℕ) (p q : ParamAt) → IsAffineAt phase j k p → slice_get phase.parameters k ≡ Some q → is_affine q ≡ true
affine_there phase j k p q is e = subst (λ (r : ParamAt). is_affine r ≡ true) (one_parameter p q (sym is.there ∙ e)) is.affine

-- ---- magnitudes

kept_most : (q : ParamAt → Bool) (ps : List ParamAt) → ((p : ParamAt) → q p ≡ true → is_energy p.kind ≡ true) →
    magnitude_sum (filter q ps) ≤ magnitudes is_energy ps
kept_most q [] h = omega arith
kept_most q (p ∷ ps) h = by (q p) refl (is_energy p.kind) refl (kept_most q ps h)
  where
    by : (b : Bool) → q p ≡ b → (c : Bool) → is_energy p.kind ≡ c → magnitude_sum (filter q ps) ≤ magnitudes is_energy ps →
        magnitude_sum (filter q (p ∷ ps)) ≤ magnitudes is_energy (p ∷ ps)
    by true e true f rest = rw (e, f) (omega (arith, rest))
    by true e false f rest = let other : is_energy p.kind ≡ true = h p e in absurd cc
    by false e true f rest = rw (e, f) (omega (arith, rest))
    by false e false f rest = rw (e, f) (omega (arith, rest))

magnitude-more : (ps : List ParamAt) (k : ℕ) (p : ParamAt) → slice_get ps k ≡ Some p →
    magnitude_sum (take (suc k) ps) ≡ magnitude_sum (take k ps) + unsigned_abs p.micro
magnitude-more [] k p e = absurd cc
magnitude-more (y ∷ ps) zero p e = let same : y ≡ p = cc in rw same (omega arith)
magnitude-more (y ∷ ps) (suc k) p e = omega (arith, magnitude-more ps k p e)

magnitude-le : (ps : List ParamAt) (k : ℕ) → magnitude_sum (take k ps) ≤ magnitude_sum ps
magnitude-le [] zero = omega arith
magnitude-le [] (suc k) = omega arith
magnitude-le (p ∷ ps) zero = omega arith
magnitude-le (p ∷ ps) (suc k) = omega (arith, magnitude-le ps k)

abbrev magnitude_to : PhaseAt → ℕ → ℕ
magnitude_to phase j = magnitude_sum (take j (affine_of phase))

affine_most : (phase : PhaseAt) (j : ℕ) → IsFine phase → magnitude_to phase j ≤ 2 ^ 55
affine_most phase j fine = omega (arith, magnitude-le (affine_of phase) j, kept_most is_affine phase.parameters affine_is_energy, fine.keeps.energies)

-- ---- the planes up to a place

pub record IsRaised (phase : PhaseAt) (box : List (List Range)) (j : ℕ) (slopes : List ℤ) (total : ℤ) : Type 0 where
  pub sum : total ≡ sum_of (λ p. constant_of phase p box) (take j (affine_of phase))
  pub rise : (site : ℕ) → slice_index_or slopes site (pos 0) ≡ sum_of (λ p. slope_at phase p box site) (take j (affine_of phase))
  pub each : length slopes ≡ places phase.sites
  pub size : unsigned_abs total ≤ magnitude_to phase j * 2 ^ 40 + 2 ^ 16 * j
  pub small : (site : ℕ) → unsigned_abs (slice_index_or slopes site (pos 0)) ≤ magnitude_to phase j * 2 ^ 20

sum_small : (a b c : ℤ) (m n k : ℕ) → c ≡ a +ℤ b → unsigned_abs a ≤ m → unsigned_abs b ≤ n → m + n ≤ k → unsigned_abs c ≤ k
sum_small a b c m n k e f g h = omega (arith, ap unsigned_abs e, plus_small a b m n f g, h)

pub raised-more : (phase : PhaseAt) (box : List (List Range)) (j k : ℕ) (p : ParamAt) (before after : List ℤ) (total x more : ℤ) → IsFine phase →
    FitsBox (shape_of_phase phase) box → IsAffineAt phase j k p → IsRaised phase box j before total →
    ((q : ParamAt) → slice_get phase.parameters k ≡ Some q → x ≡ constant_of phase q box) →
    ((q : ParamAt) → slice_get phase.parameters k ≡ Some q → AreRaised (slope_at phase q box) before after) →
    length after ≡ length before → more ≡ total +ℤ x → IsRaised phase box (j + 1) after more
raised-more phase box j k p before after total x more fine fits is h constant slopes same m =
    let has : HasMinorant phase p box = all-at (λ q. HasMinorant phase q box) (affine_of phase) j p (minorants phase box fine fits) is.kept in
    let x_is : x ≡ constant_of phase p box = constant p is.there in
    let many : magnitude_to phase (suc j) ≡ magnitude_to phase j + unsigned_abs p.micro = magnitude-more (affine_of phase) j p is.kept in
    let next : (site : ℕ) → slice_index_or after site (pos 0) ≡ slice_index_or before site (pos 0) +ℤ slope_at phase p box site = slopes p is.there in
    rw add-one (record {
      sum = rw (m, x_is, h.sum) (sym (sum_of-more (λ q. constant_of phase q box) (affine_of phase) j p is.kept));
      rise =
          λ site. next site ∙ ap (λ (z : ℤ). z +ℤ slope_at phase p box site) (h.rise site)
          ∙ sym (sum_of-more (λ q. slope_at phase q box site) (affine_of phase) j p is.kept);
      each = same ∙ h.each;
      size =
          sum_small total (constant_of phase p box) more _ _ _ (m ∙ ap (λ (z : ℤ). total +ℤ z) x_is) h.size (constant_is_small phase p box has)
          (omega (arith, many));
      small =
          λ site. sum_small (slice_index_or before site (pos 0)) (slope_at phase p box site) (slice_index_or after site (pos 0)) _ _ _
          (next site) (h.small site) (slopes_are_small phase p box site has) (omega (arith, many));
    })

pub raised_room : (phase : PhaseAt) (box : List (List Range)) (j : ℕ) (slopes : List ℤ) (total : ℤ) → IsFine phase →
    IsRaised phase box j slopes total → AreWithin (2 ^ 100) slopes
raised_room phase box j slopes total fine h = record { each = λ site. omega (arith, h.small site, affine_most phase j fine) }

-- the next sum has room
pub raised_fits : (phase : PhaseAt) (box : List (List Range)) (j k : ℕ) (p : ParamAt) (slopes : List ℤ) (total x : ℤ) → IsFine phase →
    FitsBox (shape_of_phase phase) box → IsAffineAt phase j k p → IsRaised phase box j slopes total → j < 2 ^ 64 →
    ((q : ParamAt) → slice_get phase.parameters k ≡ Some q → x ≡ constant_of phase q box) → FitsSigned w128 (total +ℤ x)
raised_fits phase box j k p slopes total x fine fits is h few constant =
    let has : HasMinorant phase p box = all-at (λ q. HasMinorant phase q box) (affine_of phase) j p (minorants phase box fine fits) is.kept in
    let x_small : unsigned_abs x ≤ unsigned_abs p.micro * 2 ^ 40 + 2 ^ 16 = rw (constant p is.there) (constant_is_small phase p box has) in
    let many : magnitude_to phase (suc j) ≡ magnitude_to phase j + unsigned_abs p.micro = magnitude-more (affine_of phase) j p is.kept in
    omega (arith, ints, plus_small total x _ _ h.size x_small, affine_most phase (suc j) fine, many, few)

-- at the end
places_length : (test : ParamAt → Bool) (from : ℕ) (ps : List ParamAt) → length (places_where test from ps) ≡ length (filter test ps)
places_length test from [] = refl
places_length test from (p ∷ ps) = by (test p) refl (places_length test (suc from) ps)
  where
    by : (b : Bool) → test p ≡ b → length (places_where test (suc from) ps) ≡ length (filter test ps) →
        length (places_where test from (p ∷ ps)) ≡ length (filter test (p ∷ ps))
    by true e rest = rw e (omega (arith, rest))
    by false e rest = rw e rest

pub raised_all : (phase : PhaseAt) (affine : List ℕ) (j : ℕ) → affine ≡ affine_places phase → length affine ≤ j →
    take j (affine_of phase) ≡ affine_of phase
raised_all phase affine j e h = take_all j (affine_of phase) (omega (arith, h, ap length e, places_length is_affine 0 phase.parameters))

pub raised_sum : (phase : PhaseAt) (box : List (List Range)) (affine : List ℕ) (j : ℕ) (slopes : List ℤ) (total : ℤ) → affine ≡ affine_places phase →
    length affine ≤ j → IsRaised phase box j slopes total → total ≡ sum_of (λ p. constant_of phase p box) (affine_of phase)
raised_sum phase box affine j slopes total e le h =
    h.sum ∙ ap (λ (ps : List ParamAt). sum_of (λ p. constant_of phase p box) ps) (raised_all phase affine j e le)

pub raised_rise : (phase : PhaseAt) (box : List (List Range)) (affine : List ℕ) (j : ℕ) (slopes : List ℤ) (total : ℤ) → affine ≡ affine_places phase →
    length affine ≤ j → IsRaised phase box j slopes total → (site : ℕ) → slice_index_or slopes site (pos 0) ≡ rise_at phase box site
raised_rise phase box affine j slopes total e le h site =
    h.rise site ∙ ap (λ (ps : List ParamAt). sum_of (λ p. slope_at phase p box site) ps) (raised_all phase affine j e le)

pub raised_small : (phase : PhaseAt) (box : List (List Range)) (j : ℕ) (slopes : List ℤ) (total : ℤ) → IsFine phase →
    IsRaised phase box j slopes total → (site : ℕ) → unsigned_abs (slice_index_or slopes site (pos 0)) ≤ 2 ^ 75
raised_small phase box j slopes total fine h site = omega (arith, h.small site, affine_most phase j fine)

pub raised_size : (phase : PhaseAt) (box : List (List Range)) (j : ℕ) (slopes : List ℤ) (total : ℤ) → IsFine phase →
    IsRaised phase box j slopes total → j ≤ 2 ^ 64 → unsigned_abs total ≤ 2 ^ 99
raised_size phase box j slopes total fine h few = omega (arith, h.size, affine_most phase j fine, few)

-- ---- what is kept

other_is_energy : (p : ParamAt) → has_no_plane p ≡ true → is_energy p.kind ≡ true
other_is_energy p e = first (is_energy p.kind) (not (is_affine p)) e
  where
    first : (a b : Bool) → (a && b) ≡ true → a ≡ true
    first true b h = refl
    first false b h = absurd cc

lows_by_each : (phase : PhaseAt) (box : List (List Range)) (terms : List ParamTerm) → AllByRecursion (λ (t : ParamTerm). t.phase.now ≡ phase) terms →
    lows_of terms box ≡ sum_of (λ p. parameter_low phase.lattice p box) (map (λ (t : ParamTerm). t.parameter.now) terms)
lows_by_each phase box [] each = refl
lows_by_each phase box (t ∷ terms) each = rw (each.0, lows_by_each phase box terms each.1) refl

pub has_planes : (phase : PhaseAt) (affine : List ℕ) (others : List ParamTerm) (magnetism : Option MagneticTerm) → IsFine phase →
    affine ≡ affine_places phase → AreOthers phase others → IsMagnetism phase phase.magnetic magnetism → HasPlanes phase affine others magnetism
has_planes phase affine others magnetism fine e h is = record {
  fine = ∣ fine ∣₁;
  places = e;
  fits = λ box fits k t at_k. rw (all-at (λ (t : ParamTerm). t.phase.now ≡ phase) others k t h.each at_k) fits;
  fits_magnetism = λ box fits m some. rw (magnet_phase phase phase.magnetic magnetism m is some) fits;
  small =
      omega (
        arith,
        micros_are others,
        ap magnitude_sum h.all,
        kept_most has_no_plane phase.parameters other_is_energy,
        magnetism_most phase phase.magnetic magnetism is,
        fine.keeps.energies,
      );
  lows_are = λ box. rw (lows_by_each phase box others h.each, h.all, magnetism_lowest phase phase.magnetic magnetism box is) refl;
  below = λ potentials box multipliers site fits member. affine_below phase potentials box multipliers site fine fits member;
  exactly = λ potentials box multipliers site fits member single. affine_exactly phase potentials box multipliers site fine fits member single;
}
