-- The terms of a phase one by one, and the sum of its parts.
use Rattle.std.proofs.Common.{◌≡◌, ℕ, zero, suc, ◌+◌, ◌*◌, ◌^◌, ◌<◌, ◌≤◌, List, [], ◌∷◌, ◌++◌, Option, Some, None, Bool, true, false, length, take, map, slice_get, refl, arith, ap, sym, ◌∙◌, subst, add-one}
use Rattle.std.specs.Prelude.{ℤ, ◌+ℤ◌, unsigned_abs, filter, cond, FitsSigned}
use Rattle.std.specs.Int.{w128}
use Rattle.std.specs.List.{AllByRecursion}
use Rattle.std.proofs.lemmas.Int.{ints}
use Rattle.std.proofs.lemmas.List.{map-append}
use Rattle.cal_limits.specs.declared.TheConstants.{MOST_ENERGY}
use Rattle.cal_math.specs.Sums.{sum_of}
use Rattle.cef_core.specs.declared.phase.MagneticAt.{MagneticAt}
use Rattle.cef_core.specs.declared.phase.ParamAt.{ParamAt}
use Rattle.cef_core.specs.declared.phase.PhaseAt.{PhaseAt}
use Rattle.cef_core.specs.Constitutions.{HasShape}
use Rattle.cef_core.specs.Energies.{is_energy, is_curie, is_moment, sum_of_kind, magnetic_energy, energy}
use Rattle.cef_core.specs.Mixing.{mixing_over}
use Rattle.cef_core.specs.Parameters.{parameter_value}
use Rattle.cef_core.specs.Phases.{IsFine, magnitudes, magnetic_size}
use Rattle.cef_core.specs.Shapes.{shape}
use Rattle.cef_kind.specs.declared.kind.Kind.{Kind}
use Rattle.cef_box.specs.declared.range.Range.{Range}
use Rattle.cef_box.specs.Terms.{FitsSite, shape_of_phase}
use Rattle.cef_mix.specs.Mixes.{Mixing, mixing_of_phase}
use Rattle.cef_term.specs.declared.param_term.ParamTerm.{ParamTerm}
use Rattle.cef_phase.specs.Sizes.{energy_size, lattice_size, plus_small, shape_up_to, shape_adds}
use Rattle.cef_phase.specs.Bounds.{low_of_kind, high_of_kind, magnetic_low_over}
use Rattle.cef_phase.specs.Kinds.{AreTerms, HasTerms, values_of, lows_of, highs_of, micros}
use Rattle.cef_phase.specs.MagneticTerms.{MagneticTerm, IsMagneticTerm, IsMagnetism, magnetism_at, magnetism_low, most_magnetic}
use Rattle.cef_mag.specs.Sums.{AreSummands}
use Rattle.cef_phase.specs.Sums.{IsMixed, IsSum}
use Rattle.cef_phase.proofs.Bounding.{bound_below, bound_same}
use Rattle.cef_term.specs.Bounds.{parameter_low, parameter_high}

-- one more of the list

pub sum_of-more : {A : Type 0} (f : A → ℤ) (xs : List A) (k : ℕ) (x : A) → slice_get xs k ≡ Some x → sum_of f (take (suc k) xs) ≡ sum_of f (take k xs) +ℤ f x
sum_of-more f [] k x e = absurd cc
sum_of-more f (y ∷ xs) zero x e = let same : y ≡ x = cc in rw same (omega (arith, ints))
sum_of-more f (y ∷ xs) (suc k) x e = omega (arith, ints, sum_of-more f xs k x e)

pub filter-kept : {A : Type 0} (p : A → Bool) (xs : List A) (k : ℕ) (x : A) → slice_get xs k ≡ Some x → p x ≡ true → filter p (take (suc k) xs) ≡ filter p (take k xs) ++ x ∷ []
filter-kept p [] k x e h = absurd cc
filter-kept p (y ∷ xs) zero x e h = let same : y ≡ x = cc in rw (same, h) refl
filter-kept {A} p (y ∷ xs) (suc k) x e h = by (p y) refl (filter-kept p xs k x e h)
  where
    by : (b : Bool) → p y ≡ b → filter p (take (suc k) xs) ≡ filter p (take k xs) ++ x ∷ [] → filter p (take (suc (suc k)) (y ∷ xs)) ≡ filter p (take (suc k) (y ∷ xs)) ++ x ∷ []
    by true f rest = rw f (ap (λ (zs : List A). y ∷ zs) rest)
    by false f rest = rw f rest

pub filter-left : {A : Type 0} (p : A → Bool) (xs : List A) (k : ℕ) (x : A) → slice_get xs k ≡ Some x → p x ≡ false → filter p (take (suc k) xs) ≡ filter p (take k xs)
filter-left p [] k x e h = absurd cc
filter-left p (y ∷ xs) zero x e h = let same : y ≡ x = cc in rw (same, h) refl
filter-left {A} p (y ∷ xs) (suc k) x e h = ap (λ (zs : List A). cond (p y) (y ∷ zs) zs) (filter-left p xs k x e h)

pub all-more : {A : Type 0} (P : A → Type 0) (xs : List A) (x : A) → AllByRecursion P xs → P x → AllByRecursion P (xs ++ x ∷ [])
all-more P [] x h p = (p, tt)
all-more P (y ∷ xs) x h p = (h.0, all-more P xs x h.1 p)

-- the terms up to a parameter
pub record AreTermsUpTo (is_kind : Kind → Bool) (phase : PhaseAt) (k : ℕ) (terms : List ParamTerm) : Type 0 where
  pub each : AllByRecursion (λ (t : ParamTerm). t.phase.now ≡ phase) terms
  pub all : map (λ (t : ParamTerm). t.parameter.now) terms ≡ filter (λ p. is_kind p.kind) (take k phase.parameters)

pub terms-kept : (is_kind : Kind → Bool) (phase : PhaseAt) (k : ℕ) (terms more : List ParamTerm) (p : ParamAt) (t : ParamTerm) → AreTermsUpTo is_kind phase k terms → slice_get phase.parameters k ≡ Some p → is_kind p.kind ≡ true → t.phase.now ≡ phase → slice_get phase.parameters k ≡ Some t.parameter.now → more ≡ terms ++ t ∷ [] → AreTermsUpTo is_kind phase (k + 1) more
terms-kept is_kind phase k terms more p t h e yes_it of_phase is m =
    let same : p ≡ t.parameter.now = cc in
    let kind : is_kind t.parameter.now.kind ≡ true = subst (λ (q : ParamAt). is_kind q.kind ≡ true) same yes_it in
    rw m (record {
      each = all-more (λ (t : ParamTerm). t.phase.now ≡ phase) terms t h.each of_phase;
      all = map-append (λ (t : ParamTerm). t.parameter.now) terms (t ∷ []) ∙ ap (λ (ps : List ParamAt). ps ++ t.parameter.now ∷ []) h.all ∙ rw add-one (sym (filter-kept (λ p. is_kind p.kind) phase.parameters k t.parameter.now is kind));
    })

pub terms-left : (is_kind : Kind → Bool) (phase : PhaseAt) (k : ℕ) (terms : List ParamTerm) (p : ParamAt) → AreTermsUpTo is_kind phase k terms → slice_get phase.parameters k ≡ Some p → is_kind p.kind ≡ false → AreTermsUpTo is_kind phase (k + 1) terms
terms-left is_kind phase k terms p h e no_it = record { each = h.each; all = h.all ∙ rw add-one (sym (filter-left (λ p. is_kind p.kind) phase.parameters k p e no_it)) }

-- the sum of values up to a term
pub record IsSumUpTo (f : ParamTerm → ℤ) (terms : List ParamTerm) (k : ℕ) (total : ℤ) : Type 0 where
  pub sum : total ≡ sum_of f (take k terms)
  pub size : unsigned_abs total ≤ MOST_ENERGY * k

pub sum-more : (f : ParamTerm → ℤ) (terms : List ParamTerm) (k : ℕ) (total more x : ℤ) (t : ParamTerm) → IsSumUpTo f terms k total → slice_get terms k ≡ Some t → x ≡ f t → unsigned_abs x ≤ MOST_ENERGY → more ≡ total +ℤ x → IsSumUpTo f terms (k + 1) more
sum-more f terms k total more x t h e is small m = record {
  sum = rw (add-one, m, is, h.sum) (sym (sum_of-more f terms k t e));
  size = omega (arith, ap unsigned_abs m, plus_small total x (MOST_ENERGY * k) MOST_ENERGY h.size small);
}

pub term_small : (t : ParamTerm) (x : ℤ) → unsigned_abs x ≤ unsigned_abs t.parameter.now.micro → unsigned_abs x ≤ MOST_ENERGY
term_small t x h = omega (arith, h, ap unsigned_abs t.valid.micro_is, t.valid.share_keeps.size)

pub total_fits : (total x : ℤ) (k : ℕ) → k < 2 ^ 64 → unsigned_abs total ≤ MOST_ENERGY * k → unsigned_abs x ≤ MOST_ENERGY → FitsSigned w128 (total +ℤ x)
total_fits total x k few h s = omega (arith, ints, plus_small total x (MOST_ENERGY * k) MOST_ENERGY h s)

-- the whole of it
values_are : (is_kind : Kind → Bool) (phase : PhaseAt) (terms : List ParamTerm) (site : List (List ℕ)) → AreTerms is_kind phase terms → values_of terms site ≡ sum_of_kind is_kind phase site
values_are is_kind phase terms site h = by_each terms h.each ∙ ap (sum_of (λ p. parameter_value phase.lattice p site)) h.all
  where
    by_each : (ts : List ParamTerm) → AllByRecursion (λ (t : ParamTerm). t.phase.now ≡ phase) ts → values_of ts site ≡ sum_of (λ p. parameter_value phase.lattice p site) (map (λ (t : ParamTerm). t.parameter.now) ts)
    by_each [] each = refl
    by_each (t ∷ ts) each = rw (each.0, by_each ts each.1) refl

pub all-at : {A : Type 0} (P : A → Type 0) (xs : List A) (k : ℕ) (x : A) → AllByRecursion P xs → slice_get xs k ≡ Some x → P x
all-at P [] k x h e = absurd cc
all-at P (y ∷ xs) zero x h e = let same : y ≡ x = cc in subst P same h.0
all-at P (y ∷ xs) (suc k) x h e = all-at P xs k x h.1 e

shape_same : (n : ℕ) (sites : List (List (Option ℕ))) (site : List (List ℕ)) → HasShape n sites site → shape site ≡ shape sites
shape_same n [] [] h = refl
shape_same n [] (counts ∷ site) h = absurd h
shape_same n (row ∷ sites) [] h = absurd h
shape_same n (row ∷ sites) (counts ∷ site) h = rw (h.0, shape_same n sites site h.2) refl

shape_length : (n : ℕ) (sites : List (List (Option ℕ))) (site : List (List ℕ)) → HasShape n sites site → length site ≡ length sites
shape_length n [] [] h = refl
shape_length n [] (counts ∷ site) h = absurd h
shape_length n (row ∷ sites) [] h = absurd h
shape_length n (row ∷ sites) (counts ∷ site) h = omega (arith, shape_length n sites site h.2)

pub site_fits : (phase : PhaseAt) (site : List (List ℕ)) → HasShape phase.lattice phase.sites site → FitsSite (shape_of_phase phase) site
site_fits phase site h = record { widths = shape_same phase.lattice phase.sites site h; counts = shape_up_to phase.lattice phase.sites site h }

mixed : (phase : PhaseAt) → IsFine phase → IsMixed phase (mixing_of_phase phase)
mixed phase fine =
    let n = lattice_size phase.lattice fine.keeps.lattice in
    record {
      mixable = record { some = n.0; few = n.1; room = omega (arith, fine.keeps.energies) };
      t = refl;
      lattice = refl;
      ratios = refl;
      ratio_each = fine.keeps.ratio_each;
      sublattices = fine.keeps.sublattices_high;
      sites = fine.sites;
    }

-- the lows, and how large they are

lows_are : (is_kind : Kind → Bool) (phase : PhaseAt) (terms : List ParamTerm) (box : List (List Range)) → AreTerms is_kind phase terms → lows_of terms box ≡ low_of_kind is_kind phase box
lows_are is_kind phase terms box h = by_each terms h.each ∙ ap (sum_of (λ p. parameter_low phase.lattice p box)) h.all
  where
    by_each : (ts : List ParamTerm) → AllByRecursion (λ (t : ParamTerm). t.phase.now ≡ phase) ts → lows_of ts box ≡ sum_of (λ p. parameter_low phase.lattice p box) (map (λ (t : ParamTerm). t.parameter.now) ts)
    by_each [] each = refl
    by_each (t ∷ ts) each = rw (each.0, by_each ts each.1) refl

highs_are : (is_kind : Kind → Bool) (phase : PhaseAt) (terms : List ParamTerm) (box : List (List Range)) → AreTerms is_kind phase terms → highs_of terms box ≡ high_of_kind is_kind phase box
highs_are is_kind phase terms box h = by_each terms h.each ∙ ap (sum_of (λ p. parameter_high phase.lattice p box)) h.all
  where
    by_each : (ts : List ParamTerm) → AllByRecursion (λ (t : ParamTerm). t.phase.now ≡ phase) ts → highs_of ts box ≡ sum_of (λ p. parameter_high phase.lattice p box) (map (λ (t : ParamTerm). t.parameter.now) ts)
    by_each [] each = refl
    by_each (t ∷ ts) each = rw (each.0, by_each ts each.1) refl

abbrev pub magnitude_sum : List ParamAt → ℕ
magnitude_sum [] = 0
magnitude_sum (p ∷ ps) = unsigned_abs p.micro + magnitude_sum ps

pub micros_are : (terms : List ParamTerm) → micros terms ≡ magnitude_sum (map (λ (t : ParamTerm). t.parameter.now) terms)
micros_are [] = refl
micros_are (t ∷ terms) = omega (arith, micros_are terms)

kept_magnitudes : (is_kind : Kind → Bool) (ps : List ParamAt) → magnitude_sum (filter (λ p. is_kind p.kind) ps) ≡ magnitudes is_kind ps
kept_magnitudes is_kind [] = refl
kept_magnitudes is_kind (p ∷ ps) = by (is_kind p.kind) refl (kept_magnitudes is_kind ps)
  where
    by : (b : Bool) → is_kind p.kind ≡ b → magnitude_sum (filter (λ p. is_kind p.kind) ps) ≡ magnitudes is_kind ps → magnitude_sum (filter (λ p. is_kind p.kind) (p ∷ ps)) ≡ magnitudes is_kind (p ∷ ps)
    by true f rest = rw f (ap (λ (n : ℕ). unsigned_abs p.micro + n) rest)
    by false f rest = rw f (omega (arith, rest))

micros_of : (is_kind : Kind → Bool) (phase : PhaseAt) (terms : List ParamTerm) → AreTerms is_kind phase terms → micros terms ≡ magnitudes is_kind phase.parameters
micros_of is_kind phase terms h = micros_are terms ∙ ap magnitude_sum h.all ∙ kept_magnitudes is_kind phase.parameters

pub micros-more : (terms : List ParamTerm) (k : ℕ) (t : ParamTerm) → slice_get terms k ≡ Some t → micros (take (suc k) terms) ≡ micros (take k terms) + unsigned_abs t.parameter.now.micro
micros-more [] k t e = absurd cc
micros-more (s ∷ terms) zero t e = let same : s ≡ t = cc in rw same (omega arith)
micros-more (s ∷ terms) (suc k) t e = omega (arith, micros-more terms k t e)

pub micros-le : (terms : List ParamTerm) (k : ℕ) → micros (take k terms) ≤ micros terms
micros-le [] zero = omega arith
micros-le [] (suc k) = omega arith
micros-le (t ∷ terms) zero = omega arith
micros-le (t ∷ terms) (suc k) = omega (arith, micros-le terms k)

-- the sum of lows up to a term
pub record IsLowUpTo (f : ParamTerm → ℤ) (terms : List ParamTerm) (k : ℕ) (total : ℤ) : Type 0 where
  pub sum : total ≡ sum_of f (take k terms)
  pub size : unsigned_abs total ≤ micros (take k terms)

pub low-more : (f : ParamTerm → ℤ) (terms : List ParamTerm) (k : ℕ) (total more x : ℤ) (t : ParamTerm) → IsLowUpTo f terms k total → slice_get terms k ≡ Some t → x ≡ f t → unsigned_abs x ≤ unsigned_abs t.parameter.now.micro → more ≡ total +ℤ x → IsLowUpTo f terms (k + 1) more
low-more f terms k total more x t h e is small m = record {
  sum = rw (add-one, m, is, h.sum) (sym (sum_of-more f terms k t e));
  size = rw add-one (omega (arith, ap unsigned_abs m, plus_small total x (micros (take k terms)) (unsigned_abs t.parameter.now.micro) h.size small, micros-more terms k t e));
}

pub low_fits : (f : ParamTerm → ℤ) (terms : List ParamTerm) (k : ℕ) (total x : ℤ) (t : ParamTerm) → IsLowUpTo f terms k total → slice_get terms k ≡ Some t → unsigned_abs x ≤ unsigned_abs t.parameter.now.micro → micros terms ≤ MOST_ENERGY → FitsSigned w128 (total +ℤ x)
low_fits f terms k total x t h e small room =
    omega (arith, ints, plus_small total x (micros (take k terms)) (unsigned_abs t.parameter.now.micro) h.size small, micros-more terms k t e, micros-le terms (suc k), room)

-- the sums of the parts have room
pub others_fit : (mixing magnetism : ℤ) (most n : ℕ) → unsigned_abs mixing ≤ MOST_ENERGY → unsigned_abs magnetism ≤ most → n + most ≤ MOST_ENERGY → FitsSigned w128 (mixing +ℤ magnetism)
others_fit mixing magnetism most n h g room = omega (arith, ints, plus_small mixing magnetism MOST_ENERGY most h g, room)

pub parts_fit : (parameters mixing magnetism others : ℤ) (most n : ℕ) → unsigned_abs parameters ≤ 2 ^ 120 → unsigned_abs mixing ≤ MOST_ENERGY → unsigned_abs magnetism ≤ most → n + most ≤ MOST_ENERGY → others ≡ mixing +ℤ magnetism → FitsSigned w128 (parameters +ℤ others)
parts_fit parameters mixing magnetism others most n f h g room e =
    omega (arith, ints, plus_small mixing magnetism MOST_ENERGY most h g, ap unsigned_abs e, plus_small parameters others (2 ^ 120) (MOST_ENERGY + most) f (omega (arith, plus_small mixing magnetism MOST_ENERGY most h g, ap unsigned_abs e)), room)

pub lows_small : (parameters magnetism lows : ℤ) (most n : ℕ) → unsigned_abs parameters ≤ n → unsigned_abs magnetism ≤ most → n + most ≤ MOST_ENERGY → lows ≡ parameters +ℤ magnetism → unsigned_abs lows ≤ MOST_ENERGY
lows_small parameters magnetism lows most n f g room e = omega (arith, plus_small parameters magnetism n most f g, ap unsigned_abs e, room)

pub lows_fit : (parameters magnetism : ℤ) (most n : ℕ) → unsigned_abs parameters ≤ n → unsigned_abs magnetism ≤ most → n + most ≤ MOST_ENERGY → FitsSigned w128 (parameters +ℤ magnetism)
lows_fit parameters magnetism most n f g room = omega (arith, ints, plus_small parameters magnetism n most f g, room)

-- ---- magnetism

magnetism_value : (phase : PhaseAt) (k : Option MagneticAt) (magnetism : Option MagneticTerm) (site : List (List ℕ)) → IsMagnetism phase k magnetism → magnetism_at magnetism site ≡ magnetic_energy phase site k
magnetism_value phase None None site is = refl
magnetism_value phase (Some k) (Some m) site is =
    rw (is.phase_is, is.magnetic_is, values_are is_curie phase m.curie.items site is.curie, values_are is_moment phase m.moment.items site is.moments) refl
magnetism_value phase None (Some m) site is = absurd is
magnetism_value phase (Some k) None site is = absurd is

pub magnetism_lowest : (phase : PhaseAt) (k : Option MagneticAt) (magnetism : Option MagneticTerm) (box : List (List Range)) → IsMagnetism phase k magnetism → magnetism_low magnetism box ≡ magnetic_low_over phase box k
magnetism_lowest phase None None box is = refl
magnetism_lowest phase (Some k) (Some m) box is =
    rw (is.phase_is, is.magnetic_is, lows_are is_curie phase m.curie.items box is.curie, highs_are is_curie phase m.curie.items box is.curie, lows_are is_moment phase m.moment.items box is.moments, highs_are is_moment phase m.moment.items box is.moments) refl
magnetism_lowest phase None (Some m) box is = absurd is
magnetism_lowest phase (Some k) None box is = absurd is

pub magnetism_most : (phase : PhaseAt) (k : Option MagneticAt) (magnetism : Option MagneticTerm) → IsMagnetism phase k magnetism → most_magnetic magnetism ≡ magnetic_size phase.t phase.scale k
magnetism_most phase None None is = refl
magnetism_most phase (Some k) (Some m) is = rw is.phase_is refl
magnetism_most phase None (Some m) is = absurd is
magnetism_most phase (Some k) None is = absurd is

-- the term that is made of a phase
same_some : (a b : MagneticAt) (m n : Option MagneticAt) → m ≡ Some a → n ≡ Some b → m ≡ n → a ≡ b
same_some a b m n e f g = cc

pub magnetism_made : (phase : PhaseAt) (k : Option MagneticAt) (n : MagneticAt) (m : MagneticTerm) (curie moments : List ParamTerm) → phase.magnetic ≡ k → k ≡ Some n → m.phase.now ≡ phase → m.curie.items ≡ curie → m.moment.items ≡ moments →
    AreTerms is_curie phase curie → AreTerms is_moment phase moments → IsMagnetism phase k (Some m)
magnetism_made phase None n m curie moments p e of_phase c b h g = absurd cc
magnetism_made phase (Some k) n m curie moments p e of_phase c b h g = record {
  phase_is = of_phase;
  magnetic_is = same_some m.magnetic.now k m.phase.now.magnetic phase.magnetic m.of_phase p (ap (λ (q : PhaseAt). q.magnetic) of_phase);
  curie = rw c h;
  moments = rw b g;
}

pub magnetism_none : (phase : PhaseAt) (k : Option MagneticAt) → k ≡ None → IsMagnetism phase k None
magnetism_none phase None e = tt
magnetism_none phase (Some k) e = absurd cc

-- its terms have room
pub summands : (is_kind : Kind → Bool) (phase : PhaseAt) (limit : ℕ) (terms : List ParamTerm) → AreTerms is_kind phase terms → magnitudes is_kind phase.parameters ≤ limit →
    AreSummands (λ (t : ParamTerm). shape_of_phase t.phase.now) (λ (t : ParamTerm). unsigned_abs t.parameter.now.micro) (shape_of_phase phase) limit terms
summands is_kind phase limit terms h small = record {
  shapes = λ k t e. ap shape_of_phase (all-at (λ (t : ParamTerm). t.phase.now ≡ phase) terms k t h.each e);
  small = omega (arith, micros_of is_kind phase terms h, small);
}

some_one : {A : Type 0} (a b : A) → Some a ≡ Some b → a ≡ b
some_one a b e = cc

none_some : {A : Type 0} (a : A) → None ≡ Some a → ⊥
none_some a e = cc

-- the phase of the term
pub magnet_phase : (phase : PhaseAt) (k : Option MagneticAt) (magnetism : Option MagneticTerm) (m : MagneticTerm) → IsMagnetism phase k magnetism → magnetism ≡ Some m → m.phase.now ≡ phase
magnet_phase phase k None m is e = absurd (none_some m e)
magnet_phase phase None (Some n) m is e = absurd is
magnet_phase phase (Some k) (Some n) m is e = subst (λ (o : MagneticTerm). o.phase.now ≡ phase) (some_one n m e) is.phase_is

-- the terms of Curie temperatures and of moments
abbrev curie_of : Option MagneticTerm → List ParamTerm
curie_of None = []
curie_of (Some m) = m.curie.items

abbrev moments_of : Option MagneticTerm → List ParamTerm
moments_of None = []
moments_of (Some m) = m.moment.items

curie_are : (phase : PhaseAt) (k : Option MagneticAt) (magnetism : Option MagneticTerm) (n : MagneticAt) → IsMagnetism phase k magnetism → k ≡ Some n → AreTerms is_curie phase (curie_of magnetism)
curie_are phase None magnetism n is e = absurd cc
curie_are phase (Some k) None n is e = absurd is
curie_are phase (Some k) (Some m) n is e = is.curie

moments_are : (phase : PhaseAt) (k : Option MagneticAt) (magnetism : Option MagneticTerm) (n : MagneticAt) → IsMagnetism phase k magnetism → k ≡ Some n → AreTerms is_moment phase (moments_of magnetism)
moments_are phase None magnetism n is e = absurd cc
moments_are phase (Some k) None n is e = absurd is
moments_are phase (Some k) (Some m) n is e = is.moments

-- ---- the sum

energy_adds : (phase : PhaseAt) (site : List (List ℕ)) → sum_of_kind is_energy phase site +ℤ (mixing_over phase.t phase.lattice phase.ratios site +ℤ magnetic_energy phase site phase.magnetic) ≡ energy phase site
unfolding energy
energy_adds phase site = refl

pub is_sum : (phase : PhaseAt) (terms : List ParamTerm) (magnetism : Option MagneticTerm) (mix : Mixing) → IsFine phase → AreTerms is_energy phase terms → IsMagnetism phase phase.magnetic magnetism → mix ≡ mixing_of_phase phase → IsSum phase terms magnetism mix
is_sum phase terms magnetism mix fine h is e =
    let has : HasTerms phase terms (curie_of magnetism) (moments_of magnetism) = record {
      keeps = fine.keeps;
      energies = h;
      curie = λ m some. curie_are phase phase.magnetic magnetism m is some;
      moments = λ m some. moments_are phase phase.magnetic magnetism m is some;
    } in
    rw e (record {
      fits = λ site shape k t at_k. rw (all-at (λ (t : ParamTerm). t.phase.now ≡ phase) terms k t h.each at_k) (site_fits phase site shape);
      fits_magnetism = λ site shape m some. rw (magnet_phase phase phase.magnetic magnetism m is some) (site_fits phase site shape);
      mixed = mixed phase fine;
      each = λ site shape. omega (arith, shape_length phase.lattice phase.sites site shape, fine.keeps.ratio_each);
      within = λ site shape. shape_adds phase.lattice phase.sites site shape;
      energy_is = λ site shape. rw (values_are is_energy phase terms site h, magnetism_value phase phase.magnetic magnetism site is) (energy_adds phase site);
      energy_small = λ site shape. energy_size phase site fine shape;
      fits_box = λ box fits k t at_k. rw (all-at (λ (t : ParamTerm). t.phase.now ≡ phase) terms k t h.each at_k) fits;
      fits_box_magnetism = λ box fits m some. rw (magnet_phase phase phase.magnetic magnetism m is some) fits;
      small = omega (arith, micros_of is_energy phase terms h, magnetism_most phase phase.magnetic magnetism is, fine.keeps.energies);
      lows_are = λ box. rw (lows_are is_energy phase terms box h, magnetism_lowest phase phase.magnetic magnetism box is) refl;
      below = λ potentials box multipliers site fits member. bound_below phase terms (curie_of magnetism) (moments_of magnetism) potentials box multipliers site has fits member;
      exactly = λ potentials box multipliers site fits member single. bound_same phase terms (curie_of magnetism) (moments_of magnetism) potentials box multipliers site has fits member single;
    })
