-- The affine bound of a box lies below each member.
use Rattle.std.proofs.Common.{◌≡◌, ℕ, zero, suc, ◌+◌, ◌^◌, ◌≤◌, List, [], ◌∷◌, ◌++◌, length, slice_get, slice_index, arith, refl, sym, ap, ◌∙◌, subst, Bool, true, false, Option, Some}
use Rattle.std.specs.Prelude.{ℤ, pos, ◌+ℤ◌, ◌-ℤ◌, ◌*ℤ◌, ◌≤ℤ◌, sum, slice_index_or, filter, ◌&&◌}
use Rattle.std.specs.List.{AllByRecursion, concat}
use Rattle.std.proofs.lemmas.Int.{ints}
use Rattle.cal_limits.specs.declared.TheConstants.{MOST_POWER}
use Rattle.cal_math.specs.Sums.{sum_of}
use Rattle.cal_math.specs.Vectors.{at, sum_to}
use Rattle.cal_math.specs.Whole.{*ℤ-+ℤ, *ℤ--ℤ, *ℤ_comm, pos-*ℤ-≤}
use Rattle.cef_core.specs.declared.phase.ParamAt.{ParamAt}
use Rattle.cef_core.specs.declared.phase.PhaseAt.{PhaseAt}
use Rattle.cef_core.specs.Constitutions.{content}
use Rattle.cef_core.specs.Energies.{energy, is_energy, is_curie, is_moment, magnetic_energy}
use Rattle.cef_core.specs.Mixing.{mixing_at, mixing_over}
use Rattle.cef_core.specs.Parameters.{parameter_value}
use Rattle.cef_core.specs.Phases.{IsFine, IsParameter, degree}
use Rattle.cef_core.specs.Shapes.{shape, places}
use Rattle.cef_core.specs.Worth.{worth}
use Rattle.cef_box.specs.declared.range.Range.{Range}
use Rattle.cef_box.specs.Boxes.{IsMember, IsSingle}
use Rattle.cef_box.specs.Terms.{FitsBox, shape_of_phase, IsBetween, AreOne}
use Rattle.cef_mix.specs.Mixes.{height}
use Rattle.cef_term.specs.Bounds.{parameter_low, parameter_high}
use Rattle.cef_term.proofs.Given.{given}
use Rattle.cef_term.proofs.Keeping.{site_length}
use Rattle.cef_term.proofs.Laws.{IsGiven, member_shape, value_between, values_same}
use Rattle.cef_minor.specs.Forms.{is_affine, slope_at, constant_of, count_at, height_at}
use Rattle.cef_minor.specs.Laws.{HasMinorant}
use Rattle.cef_minor.specs.Planes.{sum_to as sum_sites}
use Rattle.cef_minor.proofs.Laws.{minorant_is_below, minorant_is_exact}
use Rattle.cef_minor.proofs.Sites.{sum-same, sum-add, sum-zero}
use Rattle.cef_phase.specs.Bounds.{row_part, slopes_of, magnetic_low_over}
use Rattle.cef_phase.specs.Affine.{affine_of, has_no_plane, others_of, rise_at, constants_over, lowered, sites_to, affine_bound_of}
use Rattle.cef_phase.proofs.Bounding.{worth-zero, heights_of, first_single, rest_single, first_row, row_below, row_same, length-within, mixing_height, height_on, sum-front, terms_energy, energy_apart, magnetism_below, magnetism_same, content_is}
use Rattle.cef_phase.proofs.Slopes.{length-slopes_of}

-- ---- which parameters

all_from : {A : Type 0} (P : A → Type 0) (xs : List A) → ((k : ℕ) (x : A) → slice_get xs k ≡ Some x → P x) → AllByRecursion P xs
all_from P [] h = tt
all_from P (x ∷ xs) h = (h 0 x refl, all_from P xs (λ k y e. h (suc k) y e))

-- what passes a test, with the test
all-filter : {A : Type 0} (P : A → Type 0) (q : A → Bool) (xs : List A) → AllByRecursion P xs →
    AllByRecursion (λ (x : A). P x × (q x ≡ true)) (filter q xs)
all-filter P q [] h = tt
all-filter {A} P q (x ∷ xs) h = by (q x) refl (all-filter P q xs h.1)
  where
    by : (b : Bool) → q x ≡ b → AllByRecursion (λ (y : A). P y × (q y ≡ true)) (filter q xs) →
        AllByRecursion (λ (y : A). P y × (q y ≡ true)) (filter q (x ∷ xs))
    by true e rest = rw e ((h.0, e), rest)
    by false e rest = rw e rest

all-map : {A : Type 0} (P Q : A → Type 0) (xs : List A) → ((x : A) → P x → Q x) → AllByRecursion P xs → AllByRecursion Q xs
all-map P Q [] f h = tt
all-map P Q (x ∷ xs) f h = (f x h.0, all-map P Q xs f h.1)

pub affine_is_energy : (p : ParamAt) → is_affine p ≡ true → is_energy p.kind ≡ true
unfolding is_affine
affine_is_energy p e = first (is_energy p.kind) _ e
  where
    first : (a b : Bool) → (a && b) ≡ true → a ≡ true
    first true b h = refl
    first false b h = absurd cc

-- the parameters of the energy are the affine and the others
split : (f : ParamAt → ℤ) (ps : List ParamAt) →
    sum_of f (filter (λ p. is_energy p.kind) ps) ≡ sum_of f (filter is_affine ps) +ℤ sum_of f (filter has_no_plane ps)
split f [] = omega (arith, ints)
split f (p ∷ ps) = by (is_affine p) refl (is_energy p.kind) refl (split f ps)
  where
    by : (b : Bool) → is_affine p ≡ b → (c : Bool) → is_energy p.kind ≡ c →
        sum_of f (filter (λ p. is_energy p.kind) ps) ≡ sum_of f (filter is_affine ps) +ℤ sum_of f (filter has_no_plane ps) →
        sum_of f (filter (λ p. is_energy p.kind) (p ∷ ps)) ≡ sum_of f (filter is_affine (p ∷ ps)) +ℤ sum_of f (filter has_no_plane (p ∷ ps))
    by true a true e rest = rw (a, e) (omega (arith, ints, rest))
    by true a false e rest = let other : is_energy p.kind ≡ true = affine_is_energy p a in absurd cc
    by false a true e rest = rw (a, e) (omega (arith, ints, rest))
    by false a false e rest = rw (a, e) rest

used : (phase : PhaseAt) → IsFine phase →
    AllByRecursion (λ (p : ParamAt). IsParameter (shape phase.sites) p × (phase.lattice ^ degree p ≤ MOST_POWER)) phase.parameters
used phase fine = both phase.parameters fine.keeps.parameters fine.degrees
  where
    both : (ps : List ParamAt) → AllByRecursion (IsParameter (shape phase.sites)) ps →
        AllByRecursion (λ p. phase.lattice ^ degree p ≤ MOST_POWER) ps →
        AllByRecursion (λ (p : ParamAt). IsParameter (shape phase.sites) p × (phase.lattice ^ degree p ≤ MOST_POWER)) ps
    both [] h g = tt
    both (p ∷ ps) h g = ((h.0, g.0), both ps h.1 g.1)

-- each affine parameter has its minorant
pub minorants : (phase : PhaseAt) (box : List (List Range)) → IsFine phase → FitsBox (shape_of_phase phase) box →
    AllByRecursion (λ p. HasMinorant phase p box) (affine_of phase)
minorants phase box fine fits =
    let P : ParamAt → Type 0 = λ p. IsParameter (shape phase.sites) p × (phase.lattice ^ degree p ≤ MOST_POWER) in
    all-map (λ (p : ParamAt). P p × (is_affine p ≡ true)) (λ p. HasMinorant phase p box) (affine_of phase)
    (λ p h. record { fine = fine; parameter = h.0.0; degree = h.0.1; affine = h.1; fits = fits })
    (all-filter P is_affine phase.parameters (used phase fine))

-- ---- the other parameters, between their bounds

givens : (phase : PhaseAt) (q : ParamAt → Bool) → IsFine phase →
    AllByRecursion (IsGiven phase.lattice (shape phase.sites)) (filter q phase.parameters)
givens phase q fine =
    let P : ParamAt → Type 0 = IsGiven phase.lattice (shape phase.sites) in
    all-map (λ (p : ParamAt). P p × (q p ≡ true)) P (filter q phase.parameters) (λ p h. h.0)
    (all-filter P q phase.parameters (all_from P phase.parameters (λ k p e. given phase k p fine e)))

sums_between : (n : ℕ) (widths : List ℕ) (ps : List ParamAt) (box : List (List Range)) (site : List (List ℕ)) → AllByRecursion (IsGiven n widths) ps →
    shape box ≡ widths → IsMember n box site →
    IsBetween (sum_of (λ p. parameter_low n p box) ps) (sum_of (λ p. parameter_value n p site) ps) (sum_of (λ p. parameter_high n p box) ps)
sums_between n widths [] box site h e m = record { below = omega (arith, ints); above = omega (arith, ints) }
sums_between n widths (p ∷ ps) box site h e m =
    let first = value_between n widths p box site h.0 e m in
    let rest = sums_between n widths ps box site h.1 e m in
    record { below = omega (arith, ints, first.below, rest.below); above = omega (arith, ints, first.above, rest.above) }

sums_one : (n : ℕ) (widths : List ℕ) (ps : List ParamAt) (box : List (List Range)) (site : List (List ℕ)) → AllByRecursion (IsGiven n widths) ps →
    shape box ≡ widths → IsMember n box site → IsSingle box →
    AreOne (sum_of (λ p. parameter_low n p box) ps) (sum_of (λ p. parameter_value n p site) ps) (sum_of (λ p. parameter_high n p box) ps)
sums_one n widths [] box site h e m s = record { below = refl; above = refl }
sums_one n widths (p ∷ ps) box site h e m s =
    let first = values_same n widths p box site h.0 e m s in
    let rest = sums_one n widths ps box site h.1 e m s in
    record { below = omega (arith, ints, first.below, rest.below); above = omega (arith, ints, first.above, rest.above) }

-- what the constants, planes left out, are below
abbrev beside : PhaseAt → List (List Range) → ℤ
beside phase box = sum_of (λ p. parameter_low phase.lattice p box) (others_of phase) +ℤ magnetic_low_over phase box phase.magnetic

abbrev others_energy : PhaseAt → List (List ℕ) → ℤ
others_energy phase site = sum_of (λ p. parameter_value phase.lattice p site) (others_of phase) +ℤ magnetic_energy phase site phase.magnetic

beside_below : (phase : PhaseAt) (box : List (List Range)) (site : List (List ℕ)) → IsFine phase → FitsBox (shape_of_phase phase) box →
    IsMember phase.lattice box site →
    beside phase box ≤ℤ others_energy phase site
beside_below phase box site fine fits m =
    let between =
    λ (q : ParamAt → Bool). sums_between phase.lattice (shape phase.sites) (filter q phase.parameters) box site (givens phase q fine) fits.widths m in
    let magnetism =
    magnetism_below phase box site phase.magnetic fine.keeps fine.keeps.magnetic (λ k e. between (λ p. is_curie p.kind))
    (λ k e. between (λ p. is_moment p.kind)) in
    omega (arith, ints, (between has_no_plane).below, magnetism)

beside_same : (phase : PhaseAt) (box : List (List Range)) (site : List (List ℕ)) → IsFine phase → FitsBox (shape_of_phase phase) box →
    IsMember phase.lattice box site → IsSingle box →
    beside phase box ≡ others_energy phase site
beside_same phase box site fine fits m s =
    let one =
    λ (q : ParamAt → Bool). sums_one phase.lattice (shape phase.sites) (filter q phase.parameters) box site (givens phase q fine) fits.widths m s in
    let magnetism = magnetism_same phase box site phase.magnetic (λ k e. one (λ p. is_curie p.kind)) (λ k e. one (λ p. is_moment p.kind)) in
    omega (arith, ints, (one has_no_plane).below, magnetism)

-- ---- the planes together

times_apart : (a b : ℤ) (k : ℕ) → (a +ℤ b) *ℤ pos k ≡ a *ℤ pos k +ℤ b *ℤ pos k
times_apart a b k = omega (arith, ints, *ℤ_comm (a +ℤ b) (pos k), *ℤ-+ℤ (pos k) a b, *ℤ_comm (pos k) a, *ℤ_comm (pos k) b)

sum-apart : (n : ℕ) (a b : ℕ → ℤ) (count : ℕ → ℕ) →
    sum_sites n (λ i. (a i +ℤ b i) *ℤ pos (count i)) ≡ sum_sites n (λ i. a i *ℤ pos (count i)) +ℤ sum_sites n (λ i. b i *ℤ pos (count i))
sum-apart n a b count =
    sum-same n (λ i. (a i +ℤ b i) *ℤ pos (count i)) (λ i. a i *ℤ pos (count i) +ℤ b i *ℤ pos (count i)) (λ i lt. times_apart (a i) (b i) (count i))
    ∙ sum-add n (λ i. a i *ℤ pos (count i)) (λ i. b i *ℤ pos (count i))

-- the sum of the heights of planes at counts
abbrev heights_at : (phase : PhaseAt) (ps : List ParamAt) (box : List (List Range)) (site : List (List ℕ)) → ℤ
heights_at phase ps box site =
    sum_of (λ p. constant_of phase p box) ps +ℤ sum_sites (places phase.sites) (λ i. sum_of (λ p. slope_at phase p box i) ps *ℤ pos (count_at site i))

heights-none : (phase : PhaseAt) (box : List (List Range)) (site : List (List ℕ)) → heights_at phase [] box site ≡ pos 0
heights-none phase box site =
    let flat : sum_sites (places phase.sites) (λ i. pos 0 *ℤ pos (count_at site i)) ≡ pos 0 =
    sum-zero (places phase.sites) (λ i. pos 0 *ℤ pos (count_at site i)) (λ i lt. omega (arith, ints)) in
    omega (arith, ints, flat)

heights-more : (phase : PhaseAt) (p : ParamAt) (ps : List ParamAt) (box : List (List Range)) (site : List (List ℕ)) →
    heights_at phase (p ∷ ps) box site ≡ height_at phase p box site +ℤ heights_at phase ps box site
heights-more phase p ps box site =
    omega (arith, ints, sum-apart (places phase.sites) (slope_at phase p box) (λ i. sum_of (λ p. slope_at phase p box i) ps) (count_at site))

heights_below : (phase : PhaseAt) (ps : List ParamAt) (box : List (List Range)) (site : List (List ℕ)) →
    AllByRecursion (λ p. HasMinorant phase p box) ps → IsMember phase.lattice box site →
    heights_at phase ps box site ≤ℤ (pos 65536 *ℤ sum_of (λ p. parameter_value phase.lattice p site) ps)
heights_below phase [] box site h m = omega (arith, ints, heights-none phase box site)
heights_below phase (p ∷ ps) box site h m =
    omega (
      arith,
      ints,
      heights-more phase p ps box site,
      minorant_is_below phase p box site h.0 m,
      heights_below phase ps box site h.1 m,
      *ℤ-+ℤ (pos 65536) (parameter_value phase.lattice p site) (sum_of (λ p. parameter_value phase.lattice p site) ps),
    )

heights_same : (phase : PhaseAt) (ps : List ParamAt) (box : List (List Range)) (site : List (List ℕ)) →
    AllByRecursion (λ p. HasMinorant phase p box) ps → IsMember phase.lattice box site → IsSingle box →
    heights_at phase ps box site ≡ pos 65536 *ℤ sum_of (λ p. parameter_value phase.lattice p site) ps
heights_same phase [] box site h m s = omega (arith, ints, heights-none phase box site)
heights_same phase (p ∷ ps) box site h m s =
    omega (
      arith,
      ints,
      heights-more phase p ps box site,
      minorant_is_exact phase p box site h.0 m s,
      heights_same phase ps box site h.1 m s,
      *ℤ-+ℤ (pos 65536) (parameter_value phase.lattice p site) (sum_of (λ p. parameter_value phase.lattice p site) ps),
    )

-- ---- slopes times counts, site by site

-- the sum of the slopes times the counts, the first of them at this site
abbrev rise_over : (ℕ → ℤ) → ℕ → List ℕ → ℤ
rise_over a from [] = pos 0
rise_over a from (k ∷ counts) = a from *ℤ pos k +ℤ rise_over a (suc from) counts

rise-append : (a : ℕ → ℤ) (from : ℕ) (counts more : List ℕ) →
    rise_over a from (counts ++ more) ≡ rise_over a from counts +ℤ rise_over a (from + length counts) more
rise-append a from [] more =
    let same : from + 0 ≡ from = omega arith in
    rw same (omega (arith, ints))
rise-append a from (k ∷ counts) more =
    let next : suc from + length counts ≡ from + suc (length counts) = omega arith in
    omega (arith, ints, rise-append a (suc from) counts more, ap (λ (f : ℕ). rise_over a f more) next)

sites-front : (n : ℕ) (f : ℕ → ℤ) → sum_sites (suc n) f ≡ f 0 +ℤ sum_sites n (λ i. f (suc i))
sites-front zero f = omega (arith, ints)
sites-front (suc n) f = omega (arith, ints, sites-front n f)

rise_is : (a : ℕ → ℤ) (from : ℕ) (counts : List ℕ) →
    sum_sites (length counts) (λ i. a (from + i) *ℤ pos (slice_index counts i)) ≡ rise_over a from counts
rise_is a from [] = refl
rise_is a from (k ∷ counts) =
    let first : a (from + 0) *ℤ pos k ≡ a from *ℤ pos k = ap (λ (f : ℕ). a f *ℤ pos k) (omega arith) in
    let shifted : sum_sites (length counts) (λ i. a (from + suc i) *ℤ pos (slice_index counts i))
    ≡ sum_sites (length counts) (λ i. a (suc from + i) *ℤ pos (slice_index counts i)) =
    sum-same (length counts) (λ i. a (from + suc i) *ℤ pos (slice_index counts i)) (λ i. a (suc from + i) *ℤ pos (slice_index counts i))
    (λ i lt. ap (λ (f : ℕ). a f *ℤ pos (slice_index counts i)) (omega arith)) in
    sites-front (length counts) (λ i. a (from + i) *ℤ pos (slice_index (k ∷ counts) i))
    ∙ omega (arith, ints, first, shifted, rise_is a (suc from) counts)

-- the planes by the list of counts
heights_are : (phase : PhaseAt) (box : List (List Range)) (site : List (List ℕ)) → FitsBox (shape_of_phase phase) box →
    IsMember phase.lattice box site →
    heights_at phase (affine_of phase) box site ≡ sum_of (λ p. constant_of phase p box) (affine_of phase)
    +ℤ rise_over (rise_at phase box) 0 (concat site)
heights_are phase box site fits m =
    let all : length (concat site) ≡ places phase.sites = site_length site ∙ ap sum (member_shape phase.lattice box site m ∙ fits.widths) in
    let is : sum_sites (length (concat site)) (λ i. rise_at phase box i *ℤ pos (count_at site i)) ≡ rise_over (rise_at phase box) 0 (concat site) =
    sum-same (length (concat site)) (λ i. rise_at phase box i *ℤ pos (count_at site i))
    (λ i. rise_at phase box (0 + i) *ℤ pos (slice_index (concat site) i))
    (λ i lt. ap (λ (f : ℕ). rise_at phase box f *ℤ pos (slice_index (concat site) i)) (omega arith))
    ∙ rise_is (rise_at phase box) 0 (concat site) in
    ap (λ (z : ℤ). sum_of (λ p. constant_of phase p box) (affine_of phase) +ℤ z)
    (subst (λ (n : ℕ). sum_sites n (λ i. rise_at phase box i *ℤ pos (count_at site i)) ≡ rise_over (rise_at phase box) 0 (concat site)) all is)

-- ---- sublattices with lowered slopes

pub length-lowered : (a : ℕ → ℤ) (from : ℕ) (slopes : List ℤ) → length (lowered a from slopes) ≡ length slopes
length-lowered a from [] = refl
length-lowered a from (m ∷ slopes) = omega (arith, length-lowered a (suc from) slopes)

height_lowered : (h : ℕ → ℤ) (m a : ℤ) (k : ℕ) → height h (m -ℤ a) k ≡ height h m k +ℤ a *ℤ pos k
height_lowered h m a k = omega (arith, ints, *ℤ_comm (m -ℤ a) (pos k), *ℤ--ℤ (pos k) m a, *ℤ_comm m (pos k), *ℤ_comm a (pos k))

heights_lowered : (h a : ℕ → ℤ) (from : ℕ) (slopes : List ℤ) (counts : List ℕ) → length counts ≡ length slopes →
    heights_of h (lowered a from slopes) counts ≡ heights_of h slopes counts +ℤ rise_over a from counts
heights_lowered h a from [] [] e = omega (arith, ints)
heights_lowered h a from [] (k ∷ counts) e = absurd (omega arith)
heights_lowered h a from (m ∷ slopes) [] e = absurd (omega arith)
heights_lowered h a from (m ∷ slopes) (k ∷ counts) e =
    omega (arith, ints, height_lowered h m (a from) k, heights_lowered h a (suc from) slopes counts (omega arith))

-- the sum of the parts, with lowered slopes that begin at these sites
abbrev lowered_parts : ℕ → ℕ → List ℤ → (ℕ → ℤ) → (ℕ → ℕ) → List ℕ → List (List (Option ℕ)) → List (List Range) → (ℕ → ℤ) → ℤ
lowered_parts t n potentials a first ratios sites box l =
    sum_to (length sites)
    (λ s. row_part n (mixing_at t n (slice_index ratios s)) (lowered a (first s) (slopes_of potentials (slice_index ratios s) (slice_index_or sites s [])))
    (slice_index_or box s []) (l s))

lowered-on : (t n : ℕ) (potentials : List ℤ) (a : ℕ → ℤ) (first : ℕ → ℕ) (r : ℕ) (ratios : List ℕ) (sites : List (Option ℕ)) (rest : List (List (Option ℕ))) (row : List Range) (box : List (List Range)) (l : ℕ → ℤ) →
    lowered_parts t n potentials a first (r ∷ ratios) (sites ∷ rest) (row ∷ box) l ≡ row_part n (mixing_at t n r)
    (lowered a (first 0) (slopes_of potentials r sites)) row (l 0) +ℤ lowered_parts t n potentials a (λ s. first (suc s)) ratios rest box
    (λ s. l (suc s))
lowered-on t n potentials a first r ratios sites rest row box l =
    sum-front (length rest)
    (λ s. row_part n (mixing_at t n (slice_index (r ∷ ratios) s))
    (lowered a (first s) (slopes_of potentials (slice_index (r ∷ ratios) s) (slice_index_or (sites ∷ rest) s []))) (slice_index_or (row ∷ box) s []) (l s))

-- the sublattices begin one behind the other
abbrev Begin : ℕ → (ℕ → ℕ) → List (List (Option ℕ)) → Type 0
Begin from first sites = (s : ℕ) → first s ≡ from + sites_to s sites

begin-next : (from : ℕ) (first : ℕ → ℕ) (row : List (Option ℕ)) (sites : List (List (Option ℕ))) → Begin from first (row ∷ sites) →
    Begin (from + length row) (λ s. first (suc s)) sites
begin-next from first row sites h s = omega (arith, h (suc s))

-- the first sublattice and the others, a limit of the one and of the others being at hand
rise-on : (a : ℕ → ℤ) (from start width : ℕ) (counts : List ℕ) (site : List (List ℕ)) → start ≡ from → length counts ≡ width →
    rise_over a from (counts ++ concat site) ≡ rise_over a start counts +ℤ rise_over a (from + width) (concat site)
rise-on a from start width counts site e f = rw (e, ← f) (rise-append a from counts (concat site))

lowered_below : (t n : ℕ) (potentials : List ℤ) (a : ℕ → ℤ) (from : ℕ) (first : ℕ → ℕ) (ratios : List ℕ) (sites : List (List (Option ℕ))) (box : List (List Range)) (l : ℕ → ℤ) (site : List (List ℕ)) →
    length ratios ≡ length sites → shape box ≡ shape sites → IsMember n box site → Begin from first sites →
    lowered_parts t n potentials a first ratios sites box l ≤ℤ (mixing_height t n potentials ratios sites site +ℤ rise_over a from (concat site))
lowered_below t n potentials a from first [] [] [] l [] e f m b = omega (arith, ints, worth-zero potentials)
lowered_below t n potentials a from first [] [] [] l (counts ∷ site) e f m b = absurd m
lowered_below t n potentials a from first [] [] (row ∷ box) l site e f m b = absurd cc
lowered_below t n potentials a from first [] (sites ∷ rest) box l site e f m b = absurd (omega arith)
lowered_below t n potentials a from first (r ∷ ratios) [] box l site e f m b = absurd (omega arith)
lowered_below t n potentials a from first (r ∷ ratios) (sites ∷ rest) [] l site e f m b = absurd cc
lowered_below t n potentials a from first (r ∷ ratios) (sites ∷ rest) (row ∷ box) l [] e f m b = absurd m
lowered_below t n potentials a from first (r ∷ ratios) (sites ∷ rest) (row ∷ box) l (counts ∷ site) e f m b =
    let width : length row ≡ length sites = first_single _ _ _ _ f in
    let slopes : List ℤ = slopes_of potentials r sites in
    let each : length slopes ≡ length sites = length-slopes_of potentials r sites in
    let many : length counts ≡ length sites = length-within row counts m.0.within ∙ width in
    let here =
    row_below n (mixing_at t n r) (lowered a (first 0) slopes) row (l 0) counts (length-lowered a (first 0) slopes ∙ each ∙ sym width) m.0 in
    let down = heights_lowered (mixing_at t n r) a (first 0) slopes counts (many ∙ sym each) in
    let on = height_on t n potentials r ratios sites rest counts site many in
    let rise = rise-on a from (first 0) (length sites) counts site (omega (arith, b 0)) many in
    let others =
    lowered_below t n potentials a (from + length sites) (λ s. first (suc s)) ratios rest box (λ s. l (suc s)) site (omega arith)
    (rest_single _ _ _ _ f) m.1 (begin-next from first sites rest b) in
    omega (arith, ints, here, down, on, rise, others, lowered-on t n potentials a first r ratios sites rest row box l)

lowered_same : (t n : ℕ) (potentials : List ℤ) (a : ℕ → ℤ) (from : ℕ) (first : ℕ → ℕ) (ratios : List ℕ) (sites : List (List (Option ℕ))) (box : List (List Range)) (l : ℕ → ℤ) (site : List (List ℕ)) →
    length ratios ≡ length sites → shape box ≡ shape sites → IsMember n box site → IsSingle box → Begin from first sites →
    lowered_parts t n potentials a first ratios sites box l ≡ mixing_height t n potentials ratios sites site +ℤ rise_over a from (concat site)
lowered_same t n potentials a from first [] [] [] l [] e f m s b = omega (arith, ints, worth-zero potentials)
lowered_same t n potentials a from first [] [] [] l (counts ∷ site) e f m s b = absurd m
lowered_same t n potentials a from first [] [] (row ∷ box) l site e f m s b = absurd cc
lowered_same t n potentials a from first [] (sites ∷ rest) box l site e f m s b = absurd (omega arith)
lowered_same t n potentials a from first (r ∷ ratios) [] box l site e f m s b = absurd (omega arith)
lowered_same t n potentials a from first (r ∷ ratios) (sites ∷ rest) [] l site e f m s b = absurd cc
lowered_same t n potentials a from first (r ∷ ratios) (sites ∷ rest) (row ∷ box) l [] e f m s b = absurd m
lowered_same t n potentials a from first (r ∷ ratios) (sites ∷ rest) (row ∷ box) l (counts ∷ site) e f m s b =
    let width : length row ≡ length sites = first_single _ _ _ _ f in
    let slopes : List ℤ = slopes_of potentials r sites in
    let each : length slopes ≡ length sites = length-slopes_of potentials r sites in
    let many : length counts ≡ length sites = length-within row counts m.0.within ∙ width in
    let here =
    row_same n (mixing_at t n r) (lowered a (first 0) slopes) row (l 0) counts (length-lowered a (first 0) slopes ∙ each ∙ sym width) m.0
    (first_row _ _ _ _ s) in
    let down = heights_lowered (mixing_at t n r) a (first 0) slopes counts (many ∙ sym each) in
    let on = height_on t n potentials r ratios sites rest counts site many in
    let rise = rise-on a from (first 0) (length sites) counts site (omega (arith, b 0)) many in
    let others =
    lowered_same t n potentials a (from + length sites) (λ s. first (suc s)) ratios rest box (λ s. l (suc s)) site (omega arith)
    (rest_single _ _ _ _ f) m.1 (rest_single _ _ _ _ s) (begin-next from first sites rest b) in
    omega (arith, ints, here, down, on, rise, others, lowered-on t n potentials a first r ratios sites rest row box l)

-- ---- the laws

affine_bound_is : (phase : PhaseAt) (potentials : List ℤ) (box : List (List Range)) (multipliers : List ℤ) →
    affine_bound_of phase potentials box multipliers ≡ constants_over phase box +ℤ lowered_parts phase.t phase.lattice potentials (rise_at phase box)
    (λ s. sites_to s phase.sites) phase.ratios phase.sites box (at multipliers)
unfolding affine_bound_of
affine_bound_is phase potentials box multipliers = refl

-- 2^16 times what is in the energy beside mixing, by the affine parameters and the rest
terms_apart : (phase : PhaseAt) (site : List (List ℕ)) →
    pos 65536 *ℤ terms_energy phase site ≡ pos 65536 *ℤ sum_of (λ p. parameter_value phase.lattice p site) (affine_of phase)
    +ℤ pos 65536 *ℤ others_energy phase site
terms_apart phase site =
    let whole : terms_energy phase site ≡ sum_of (λ p. parameter_value phase.lattice p site) (affine_of phase) +ℤ others_energy phase site =
    omega (arith, ints, split (λ p. parameter_value phase.lattice p site) phase.parameters) in
    ap (λ (z : ℤ). pos 65536 *ℤ z) whole ∙ *ℤ-+ℤ (pos 65536) (sum_of (λ p. parameter_value phase.lattice p site) (affine_of phase))
    (others_energy phase site)

-- the affine bound <= 2^16*G - M*b
pub affine_below : (phase : PhaseAt) (potentials : List ℤ) (box : List (List Range)) (multipliers : List ℤ) (site : List (List ℕ)) → IsFine phase →
    FitsBox (shape_of_phase phase) box → IsMember phase.lattice box site →
    affine_bound_of phase potentials box multipliers ≤ℤ (pos 65536 *ℤ energy phase site -ℤ worth potentials (content phase site))
affine_below phase potentials box multipliers site fine fits m =
    omega (
      arith,
      ints,
      affine_bound_is phase potentials box multipliers,
      lowered_below phase.t phase.lattice potentials (rise_at phase box) 0 (λ s. sites_to s phase.sites) phase.ratios phase.sites box (at multipliers)
          site fine.keeps.ratio_each fits.widths m (λ s. omega arith),
      heights_are phase box site fits m,
      heights_below phase (affine_of phase) box site (minorants phase box fine fits) m,
      pos-*ℤ-≤ 65536 (beside phase box) (others_energy phase site) (beside_below phase box site fine fits m),
      terms_apart phase site,
      ap (λ (z : ℤ). pos 65536 *ℤ z) (energy_apart phase site),
      *ℤ-+ℤ (pos 65536) (terms_energy phase site) (mixing_over phase.t phase.lattice phase.ratios site),
      content_is phase potentials site,
    )

-- a box of one list has its height
pub affine_exactly : (phase : PhaseAt) (potentials : List ℤ) (box : List (List Range)) (multipliers : List ℤ) (site : List (List ℕ)) → IsFine phase →
    FitsBox (shape_of_phase phase) box → IsMember phase.lattice box site → IsSingle box →
    affine_bound_of phase potentials box multipliers ≡ pos 65536 *ℤ energy phase site -ℤ worth potentials (content phase site)
affine_exactly phase potentials box multipliers site fine fits m s =
    omega (
      arith,
      ints,
      affine_bound_is phase potentials box multipliers,
      lowered_same phase.t phase.lattice potentials (rise_at phase box) 0 (λ s. sites_to s phase.sites) phase.ratios phase.sites box (at multipliers)
          site fine.keeps.ratio_each fits.widths m s (λ s. omega arith),
      heights_are phase box site fits m,
      heights_same phase (affine_of phase) box site (minorants phase box fine fits) m s,
      ap (λ (z : ℤ). pos 65536 *ℤ z) (beside_same phase box site fine fits m s),
      terms_apart phase site,
      ap (λ (z : ℤ). pos 65536 *ℤ z) (energy_apart phase site),
      *ℤ-+ℤ (pos 65536) (terms_energy phase site) (mixing_over phase.t phase.lattice phase.ratios site),
      content_is phase potentials site,
    )
