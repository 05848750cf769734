-- The bound of a box lies below each member.
use Rattle.std.proofs.Common.{◌≡◌, ℕ, zero, suc, ◌+◌, ◌-◌, ◌*◌, List, [], ◌∷◌, length, map, arith, refl, sym, ap, ◌∙◌, subst, Bool, Option, Some, None}
use Rattle.std.specs.Prelude.{ℤ, pos, ◌+ℤ◌, ◌-ℤ◌, ◌*ℤ◌, ◌≤ℤ◌, sum, slice_index, slice_index_or}
use Rattle.std.specs.List.{AllByRecursion}
use Rattle.std.proofs.lemmas.Int.{ints}
use Rattle.std.proofs.lemmas.List.Sums.{sum_by-cons}
use Rattle.cal_math.specs.Sums.{sum_of}
use Rattle.cal_math.specs.Vectors.{at, sum_to}
use Rattle.cal_math.specs.Whole.{*ℤ-+ℤ, *ℤ_comm, pos-*ℤ-≤}
use Rattle.cal_math.proofs.Vectors.{dot_same, dot-plus, dot-scale, dot-zero}
use Rattle.cef_kind.specs.declared.kind.Kind.{Kind}
use Rattle.cef_core.specs.declared.phase.MagneticAt.{MagneticAt}
use Rattle.cef_core.specs.declared.phase.PhaseAt.{PhaseAt}
use Rattle.cef_core.specs.Constitutions.{weight_of, content_of_counts, content_over, content}
use Rattle.cef_core.specs.Energies.{energy, sum_of_kind, is_energy, is_curie, is_moment, magnetic_energy}
use Rattle.cef_core.specs.Mixing.{mixing_at, mixing_of_counts, mixing_over}
use Rattle.cef_core.specs.Parameters.{parameter_value}
use Rattle.cef_core.specs.Phases.{IsMagnetic, IsPhase}
use Rattle.cef_core.specs.Shapes.{shape}
use Rattle.cef_core.specs.Worth.{worth}
use Rattle.cef_box.specs.declared.range.Range.{Range}
use Rattle.cef_box.specs.Boxes.{AllWithin, IsInRow, IsMember, IsSingle}
use Rattle.cef_box.specs.Terms.{FitsBox, shape_of_phase, IsBetween, AreOne}
use Rattle.cef_mix.specs.Mixes.{height}
use Rattle.cef_mag.specs.Laws.{magnetic_between, magnetic_same}
use Rattle.cef_phase.specs.Bounds.{sites_part, row_part, slopes_of, low_of_kind, high_of_kind, magnetic_low_over, lows_over, bound_of}
use Rattle.cef_phase.specs.Kinds.{AreTerms, HasTerms}
use Rattle.cef_phase.proofs.Least.{least_over_is}
use Rattle.cef_phase.proofs.Slopes.{length-slopes_of}
use Rattle.cef_term.specs.declared.param_term.ParamTerm.{ParamTerm}
use Rattle.cef_term.specs.Bounds.{parameter_low, parameter_high}

sum-cons : (k : ℕ) (counts : List ℕ) → sum (k ∷ counts) ≡ k + sum counts
sum-cons k counts = sum_by-cons (λ (x : ℕ). x) k counts

-- ---- what amounts are worth

pub worth-zero : (potentials : List ℤ) → worth potentials (λ c. pos 0) ≡ pos 0
worth-zero potentials = dot-zero (length potentials) (at potentials)

worth-add : (potentials : List ℤ) (x y : ℕ → ℕ) → worth potentials (λ c. pos (x c + y c)) ≡ worth potentials (λ c. pos (x c)) +ℤ worth potentials (λ c. pos (y c))
worth-add potentials x y =
    dot_same (length potentials) (at potentials) (λ c. pos (x c + y c)) (at potentials) (λ c. pos (x c) +ℤ pos (y c)) (λ c lt. refl) (λ c lt. omega (arith, ints))
    ∙ dot-plus (length potentials) (at potentials) (λ c. pos (x c)) (λ c. pos (y c))

worth-scale : (potentials : List ℤ) (k : ℕ) (x : ℕ → ℕ) → worth potentials (λ c. pos (k * x c)) ≡ pos k *ℤ worth potentials (λ c. pos (x c))
worth-scale potentials k x =
    dot_same (length potentials) (at potentials) (λ c. pos (k * x c)) (at potentials) (λ c. pos k *ℤ pos (x c)) (λ c lt. refl) (λ c lt. omega (arith, ints))
    ∙ dot-scale (length potentials) (pos k) (at potentials) (λ c. pos (x c))

-- ---- one sublattice

-- the sum of the heights of the sites of a row
abbrev pub heights_of : (ℕ → ℤ) → List ℤ → List ℕ → ℤ
heights_of h (m ∷ slopes) (k ∷ counts) = height h m k +ℤ heights_of h slopes counts
heights_of h [] counts = pos 0
heights_of h (m ∷ slopes) [] = pos 0

share_apart : (m l : ℤ) (k : ℕ) → (m +ℤ l) *ℤ pos k ≡ m *ℤ pos k +ℤ l *ℤ pos k
share_apart m l k = omega (arith, ints, *ℤ_comm (m +ℤ l) (pos k), *ℤ-+ℤ (pos k) m l, *ℤ_comm (pos k) m, *ℤ_comm (pos k) l)

sites_below : (h : ℕ → ℤ) (l : ℤ) (slopes : List ℤ) (row : List Range) (counts : List ℕ) → length slopes ≡ length row → AllWithin row counts →
    sites_part h l slopes row ≤ℤ (heights_of h slopes counts -ℤ l *ℤ pos (sum counts))
sites_below h l [] [] [] e w = omega (arith, ints)
sites_below h l [] [] (k ∷ counts) e w = absurd w
sites_below h l [] (r ∷ row) counts e w = absurd (omega arith)
sites_below h l (m ∷ slopes) [] counts e w = absurd (omega arith)
sites_below h l (m ∷ slopes) (r ∷ row) [] e w = absurd w
sites_below h l (m ∷ slopes) (r ∷ row) (k ∷ counts) e w =
    let first = (least_over_is (height h (m +ℤ l)) r.low (r.high - r.low)).below k w.0 (omega (arith, w.0, w.1)) in
    let rest = sites_below h l slopes row counts (omega arith) w.2 in
    omega (arith, ints, first, rest, share_apart m l k, *ℤ-+ℤ l (pos k) (pos (sum counts)), ap (λ (x : ℕ). l *ℤ pos x) (sum-cons k counts))

-- the lows of a row are its highs
abbrev pub IsSingleRow : List Range → Type 0
IsSingleRow row = map (λ (r : Range). r.low) row ≡ map (λ (r : Range). r.high) row

pub first_single : (a b : ℕ) (xs ys : List ℕ) → a ∷ xs ≡ b ∷ ys → a ≡ b
first_single a b xs ys e = cc

pub rest_single : {X : Type 0} (a b : X) (xs ys : List X) → a ∷ xs ≡ b ∷ ys → xs ≡ ys
rest_single a b xs ys e = cc

pub first_row : (a b : List ℕ) (xs ys : List (List ℕ)) → a ∷ xs ≡ b ∷ ys → a ≡ b
first_row a b xs ys e = cc

sites_same : (h : ℕ → ℤ) (l : ℤ) (slopes : List ℤ) (row : List Range) (counts : List ℕ) → length slopes ≡ length row → AllWithin row counts → IsSingleRow row →
    sites_part h l slopes row ≡ heights_of h slopes counts -ℤ l *ℤ pos (sum counts)
sites_same h l [] [] [] e w s = omega (arith, ints)
sites_same h l [] [] (k ∷ counts) e w s = absurd w
sites_same h l [] (r ∷ row) counts e w s = absurd (omega arith)
sites_same h l (m ∷ slopes) [] counts e w s = absurd (omega arith)
sites_same h l (m ∷ slopes) (r ∷ row) [] e w s = absurd w
sites_same h l (m ∷ slopes) (r ∷ row) (k ∷ counts) e w s =
    let one : r.low ≡ r.high = first_single _ _ _ _ s in
    let none : r.high - r.low ≡ 0 = omega (arith, one) in
    let here : r.low ≡ k = omega (arith, w.0, w.1, one) in
    let rest = sites_same h l slopes row counts (omega arith) w.2 (rest_single _ _ _ _ s) in
    rw (none, here, rest) (omega (arith, ints, share_apart m l k, *ℤ-+ℤ l (pos k) (pos (sum counts)), ap (λ (x : ℕ). l *ℤ pos x) (sum-cons k counts)))

pub row_below : (n : ℕ) (h : ℕ → ℤ) (slopes : List ℤ) (row : List Range) (l : ℤ) (counts : List ℕ) → length slopes ≡ length row → IsInRow n row counts →
    row_part n h slopes row l ≤ℤ heights_of h slopes counts
row_below n h slopes row l counts e m = omega (arith, ints, sites_below h l slopes row counts e m.within, ap (λ (x : ℕ). l *ℤ pos x) m.adds)

pub row_same : (n : ℕ) (h : ℕ → ℤ) (slopes : List ℤ) (row : List Range) (l : ℤ) (counts : List ℕ) → length slopes ≡ length row → IsInRow n row counts → IsSingleRow row →
    row_part n h slopes row l ≡ heights_of h slopes counts
row_same n h slopes row l counts e m s = omega (arith, ints, sites_same h l slopes row counts e m.within s, ap (λ (x : ℕ). l *ℤ pos x) m.adds)

-- the heights of the sites are mixing less worth
heights_are : (potentials : List ℤ) (t n a : ℕ) (sites : List (Option ℕ)) (counts : List ℕ) → length counts ≡ length sites →
    heights_of (mixing_at t n a) (slopes_of potentials a sites) counts ≡ pos 65536 *ℤ mixing_of_counts t n a counts -ℤ worth potentials (λ c. pos (content_of_counts c a sites counts))
heights_are potentials t n a [] [] e = omega (arith, ints, worth-zero potentials)
heights_are potentials t n a [] (k ∷ counts) e = absurd (omega arith)
heights_are potentials t n a (site ∷ sites) [] e = absurd (omega arith)
heights_are potentials t n a (site ∷ sites) (k ∷ counts) e =
    let rest = heights_are potentials t n a sites counts (omega arith) in
    let one : worth potentials (λ c. pos (k * weight_of c a site)) ≡ pos k *ℤ worth potentials (λ c. pos (weight_of c a site)) = worth-scale potentials k (λ c. weight_of c a site) in
    let more : worth potentials (λ c. pos (k * weight_of c a site + content_of_counts c a sites counts)) ≡ worth potentials (λ c. pos (k * weight_of c a site)) +ℤ worth potentials (λ c. pos (content_of_counts c a sites counts)) = worth-add potentials (λ c. k * weight_of c a site) (λ c. content_of_counts c a sites counts) in
    omega (arith, ints, rest, one, more, *ℤ_comm (pos k) (worth potentials (λ c. pos (weight_of c a site))), *ℤ-+ℤ (pos 65536) (mixing_at t n a k) (mixing_of_counts t n a counts))

pub length-within : (row : List Range) (counts : List ℕ) → AllWithin row counts → length counts ≡ length row
length-within [] [] h = refl
length-within [] (k ∷ counts) h = absurd h
length-within (r ∷ row) [] h = absurd h
length-within (r ∷ row) (k ∷ counts) h = omega (arith, length-within row counts h.2)

-- ---- all sublattices

pub sum-front : (n : ℕ) (f : ℕ → ℤ) → sum_to (suc n) f ≡ f 0 +ℤ sum_to n (λ i. f (suc i))
sum-front zero f = omega (arith, ints)
sum-front (suc n) f = omega (arith, ints, sum-front n f)

-- the sum of the parts, under the multipliers l
abbrev parts_over : ℕ → ℕ → List ℤ → List ℕ → List (List (Option ℕ)) → List (List Range) → (ℕ → ℤ) → ℤ
parts_over t n potentials ratios sites box l =
    sum_to (length sites) (λ s. row_part n (mixing_at t n (slice_index ratios s)) (slopes_of potentials (slice_index ratios s) (slice_index_or sites s [])) (slice_index_or box s []) (l s))

parts_on : (t n : ℕ) (potentials : List ℤ) (a : ℕ) (ratios : List ℕ) (sites : List (Option ℕ)) (rest : List (List (Option ℕ))) (row : List Range) (box : List (List Range)) (l : ℕ → ℤ) →
    parts_over t n potentials (a ∷ ratios) (sites ∷ rest) (row ∷ box) l ≡ row_part n (mixing_at t n a) (slopes_of potentials a sites) row (l 0) +ℤ parts_over t n potentials ratios rest box (λ s. l (suc s))
parts_on t n potentials a ratios sites rest row box l =
    sum-front (length rest) (λ s. row_part n (mixing_at t n (slice_index (a ∷ ratios) s)) (slopes_of potentials (slice_index (a ∷ ratios) s) (slice_index_or (sites ∷ rest) s [])) (slice_index_or (row ∷ box) s []) (l s))

-- 2^16 times the mixing of a list, less what its content is worth
abbrev pub mixing_height : ℕ → ℕ → List ℤ → List ℕ → List (List (Option ℕ)) → List (List ℕ) → ℤ
mixing_height t n potentials ratios sites site = pos 65536 *ℤ mixing_over t n ratios site -ℤ worth potentials (λ c. pos (content_over c ratios sites site))

pub height_on : (t n : ℕ) (potentials : List ℤ) (a : ℕ) (ratios : List ℕ) (sites : List (Option ℕ)) (rest : List (List (Option ℕ))) (counts : List ℕ) (site : List (List ℕ)) → length counts ≡ length sites →
    mixing_height t n potentials (a ∷ ratios) (sites ∷ rest) (counts ∷ site) ≡ heights_of (mixing_at t n a) (slopes_of potentials a sites) counts +ℤ mixing_height t n potentials ratios rest site
height_on t n potentials a ratios sites rest counts site e =
    let here = heights_are potentials t n a sites counts e in
    let more : worth potentials (λ c. pos (content_of_counts c a sites counts + content_over c ratios rest site)) ≡ worth potentials (λ c. pos (content_of_counts c a sites counts)) +ℤ worth potentials (λ c. pos (content_over c ratios rest site)) = worth-add potentials (λ c. content_of_counts c a sites counts) (λ c. content_over c ratios rest site) in
    omega (arith, ints, here, more, *ℤ-+ℤ (pos 65536) (mixing_of_counts t n a counts) (mixing_over t n ratios site))

rows_below : (t n : ℕ) (potentials : List ℤ) (ratios : List ℕ) (sites : List (List (Option ℕ))) (box : List (List Range)) (l : ℕ → ℤ) (site : List (List ℕ)) → length ratios ≡ length sites → shape box ≡ shape sites → IsMember n box site →
    parts_over t n potentials ratios sites box l ≤ℤ mixing_height t n potentials ratios sites site
rows_below t n potentials [] [] [] l [] e f m = omega (arith, ints, worth-zero potentials)
rows_below t n potentials [] [] [] l (counts ∷ site) e f m = absurd m
rows_below t n potentials [] [] (row ∷ box) l site e f m = absurd cc
rows_below t n potentials [] (sites ∷ rest) box l site e f m = absurd (omega arith)
rows_below t n potentials (a ∷ ratios) [] box l site e f m = absurd (omega arith)
rows_below t n potentials (a ∷ ratios) (sites ∷ rest) [] l site e f m = absurd cc
rows_below t n potentials (a ∷ ratios) (sites ∷ rest) (row ∷ box) l [] e f m = absurd m
rows_below t n potentials (a ∷ ratios) (sites ∷ rest) (row ∷ box) l (counts ∷ site) e f m =
    let width : length row ≡ length sites = first_single _ _ _ _ f in
    let first = row_below n (mixing_at t n a) (slopes_of potentials a sites) row (l 0) counts (length-slopes_of potentials a sites ∙ sym width) m.0 in
    let on = height_on t n potentials a ratios sites rest counts site (length-within row counts m.0.within ∙ width) in
    omega (arith, ints, first, on, parts_on t n potentials a ratios sites rest row box l, rows_below t n potentials ratios rest box (λ s. l (suc s)) site (omega arith) (rest_single _ _ _ _ f) m.1)

rows_same : (t n : ℕ) (potentials : List ℤ) (ratios : List ℕ) (sites : List (List (Option ℕ))) (box : List (List Range)) (l : ℕ → ℤ) (site : List (List ℕ)) → length ratios ≡ length sites → shape box ≡ shape sites → IsMember n box site → IsSingle box →
    parts_over t n potentials ratios sites box l ≡ mixing_height t n potentials ratios sites site
rows_same t n potentials [] [] [] l [] e f m s = omega (arith, ints, worth-zero potentials)
rows_same t n potentials [] [] [] l (counts ∷ site) e f m s = absurd m
rows_same t n potentials [] [] (row ∷ box) l site e f m s = absurd cc
rows_same t n potentials [] (sites ∷ rest) box l site e f m s = absurd (omega arith)
rows_same t n potentials (a ∷ ratios) [] box l site e f m s = absurd (omega arith)
rows_same t n potentials (a ∷ ratios) (sites ∷ rest) [] l site e f m s = absurd cc
rows_same t n potentials (a ∷ ratios) (sites ∷ rest) (row ∷ box) l [] e f m s = absurd m
rows_same t n potentials (a ∷ ratios) (sites ∷ rest) (row ∷ box) l (counts ∷ site) e f m s =
    let width : length row ≡ length sites = first_single _ _ _ _ f in
    let first = row_same n (mixing_at t n a) (slopes_of potentials a sites) row (l 0) counts (length-slopes_of potentials a sites ∙ sym width) m.0 (first_row _ _ _ _ s) in
    let on = height_on t n potentials a ratios sites rest counts site (length-within row counts m.0.within ∙ width) in
    omega (arith, ints, first, on, parts_on t n potentials a ratios sites rest row box l, rows_same t n potentials ratios rest box (λ s. l (suc s)) site (omega arith) (rest_single _ _ _ _ f) m.1 (rest_single _ _ _ _ s))

-- ---- the lows

-- what is in the energy beside mixing
abbrev pub terms_energy : PhaseAt → List (List ℕ) → ℤ
terms_energy phase site = sum_of_kind is_energy phase site +ℤ magnetic_energy phase site phase.magnetic

pub energy_apart : (phase : PhaseAt) (site : List (List ℕ)) → energy phase site ≡ terms_energy phase site +ℤ mixing_over phase.t phase.lattice phase.ratios site
unfolding energy
energy_apart phase site = omega (arith, ints)

term_between : (phase : PhaseAt) (t : ParamTerm) (box : List (List Range)) (site : List (List ℕ)) → t.phase.now ≡ phase → FitsBox (shape_of_phase phase) box → IsMember phase.lattice box site →
    IsBetween (parameter_low phase.lattice t.parameter.now box) (parameter_value phase.lattice t.parameter.now site) (parameter_high phase.lattice t.parameter.now box)
term_between phase t box site e fits m =
    subst (λ (p : PhaseAt). IsBetween (parameter_low p.lattice t.parameter.now box) (parameter_value p.lattice t.parameter.now site) (parameter_high p.lattice t.parameter.now box)) e
    (t.valid.between box site (subst (λ (p : PhaseAt). FitsBox (shape_of_phase p) box) (sym e) fits) (subst (λ (p : PhaseAt). IsMember p.lattice box site) (sym e) m))

term_same : (phase : PhaseAt) (t : ParamTerm) (box : List (List Range)) (site : List (List ℕ)) → t.phase.now ≡ phase → FitsBox (shape_of_phase phase) box → IsMember phase.lattice box site → IsSingle box →
    AreOne (parameter_low phase.lattice t.parameter.now box) (parameter_value phase.lattice t.parameter.now site) (parameter_high phase.lattice t.parameter.now box)
term_same phase t box site e fits m s =
    subst (λ (p : PhaseAt). AreOne (parameter_low p.lattice t.parameter.now box) (parameter_value p.lattice t.parameter.now site) (parameter_high p.lattice t.parameter.now box)) e
    (t.valid.same box site (subst (λ (p : PhaseAt). FitsBox (shape_of_phase p) box) (sym e) fits) (subst (λ (p : PhaseAt). IsMember p.lattice box site) (sym e) m) s)

terms_between : (phase : PhaseAt) (terms : List ParamTerm) (box : List (List Range)) (site : List (List ℕ)) → AllByRecursion (λ (t : ParamTerm). t.phase.now ≡ phase) terms → FitsBox (shape_of_phase phase) box → IsMember phase.lattice box site →
    IsBetween (sum_of (λ p. parameter_low phase.lattice p box) (map (λ (t : ParamTerm). t.parameter.now) terms)) (sum_of (λ p. parameter_value phase.lattice p site) (map (λ (t : ParamTerm). t.parameter.now) terms)) (sum_of (λ p. parameter_high phase.lattice p box) (map (λ (t : ParamTerm). t.parameter.now) terms))
terms_between phase [] box site h fits m = record { below = omega (arith, ints); above = omega (arith, ints) }
terms_between phase (t ∷ terms) box site h fits m =
    let first = term_between phase t box site h.0 fits m in
    let rest = terms_between phase terms box site h.1 fits m in
    record { below = omega (arith, ints, first.below, rest.below); above = omega (arith, ints, first.above, rest.above) }

terms_same : (phase : PhaseAt) (terms : List ParamTerm) (box : List (List Range)) (site : List (List ℕ)) → AllByRecursion (λ (t : ParamTerm). t.phase.now ≡ phase) terms → FitsBox (shape_of_phase phase) box → IsMember phase.lattice box site → IsSingle box →
    AreOne (sum_of (λ p. parameter_low phase.lattice p box) (map (λ (t : ParamTerm). t.parameter.now) terms)) (sum_of (λ p. parameter_value phase.lattice p site) (map (λ (t : ParamTerm). t.parameter.now) terms)) (sum_of (λ p. parameter_high phase.lattice p box) (map (λ (t : ParamTerm). t.parameter.now) terms))
terms_same phase [] box site h fits m s = record { below = refl; above = refl }
terms_same phase (t ∷ terms) box site h fits m s =
    let first = term_same phase t box site h.0 fits m s in
    let rest = terms_same phase terms box site h.1 fits m s in
    record { below = omega (arith, ints, first.below, rest.below); above = omega (arith, ints, first.above, rest.above) }

-- the parameters of one kind
kind_between : (is_kind : Kind → Bool) (phase : PhaseAt) (terms : List ParamTerm) (box : List (List Range)) (site : List (List ℕ)) → AreTerms is_kind phase terms → FitsBox (shape_of_phase phase) box → IsMember phase.lattice box site →
    IsBetween (low_of_kind is_kind phase box) (sum_of_kind is_kind phase site) (high_of_kind is_kind phase box)
kind_between is_kind phase terms box site h fits m = rw h.all at (terms_between phase terms box site h.each fits m)

kind_same : (is_kind : Kind → Bool) (phase : PhaseAt) (terms : List ParamTerm) (box : List (List Range)) (site : List (List ℕ)) → AreTerms is_kind phase terms → FitsBox (shape_of_phase phase) box → IsMember phase.lattice box site → IsSingle box →
    AreOne (low_of_kind is_kind phase box) (sum_of_kind is_kind phase site) (high_of_kind is_kind phase box)
kind_same is_kind phase terms box site h fits m s = rw h.all at (terms_same phase terms box site h.each fits m s)

-- magnetism
pub magnetism_below : (phase : PhaseAt) (box : List (List Range)) (site : List (List ℕ)) (m : Option MagneticAt) → IsPhase phase → IsMagnetic m →
    ((k : MagneticAt) → m ≡ Some k → IsBetween (low_of_kind is_curie phase box) (sum_of_kind is_curie phase site) (high_of_kind is_curie phase box)) →
    ((k : MagneticAt) → m ≡ Some k → IsBetween (low_of_kind is_moment phase box) (sum_of_kind is_moment phase site) (high_of_kind is_moment phase box)) →
    magnetic_low_over phase box m ≤ℤ magnetic_energy phase site m
magnetism_below phase box site None keeps is curie moment = omega (arith, ints)
magnetism_below phase box site (Some m) keeps is curie moment =
    let x = curie m refl in
    let y = moment m refl in
    (magnetic_between phase.t phase.scale m.factor m.p4 (low_of_kind is_curie phase box) (sum_of_kind is_curie phase site) (high_of_kind is_curie phase box) (low_of_kind is_moment phase box) (sum_of_kind is_moment phase site) (high_of_kind is_moment phase box) (omega (arith, keeps.coldest)) is.0 (omega (arith, is.2)) x.below x.above y.below y.above).below

pub magnetism_same : (phase : PhaseAt) (box : List (List Range)) (site : List (List ℕ)) (m : Option MagneticAt) →
    ((k : MagneticAt) → m ≡ Some k → AreOne (low_of_kind is_curie phase box) (sum_of_kind is_curie phase site) (high_of_kind is_curie phase box)) →
    ((k : MagneticAt) → m ≡ Some k → AreOne (low_of_kind is_moment phase box) (sum_of_kind is_moment phase site) (high_of_kind is_moment phase box)) →
    magnetic_low_over phase box m ≡ magnetic_energy phase site m
magnetism_same phase box site None curie moment = refl
magnetism_same phase box site (Some m) curie moment =
    let x = curie m refl in
    let y = moment m refl in
    rw (x.below, x.above, y.below, y.above) (magnetic_same phase.t phase.scale m.factor m.p4 (sum_of_kind is_curie phase site) (sum_of_kind is_moment phase site)).below

lows_below : (phase : PhaseAt) (terms curie moments : List ParamTerm) (box : List (List Range)) (site : List (List ℕ)) → HasTerms phase terms curie moments → FitsBox (shape_of_phase phase) box → IsMember phase.lattice box site →
    lows_over phase box ≤ℤ terms_energy phase site
lows_below phase terms curie moments box site h fits m =
    let energies = kind_between is_energy phase terms box site h.energies fits m in
    let magnetism = magnetism_below phase box site phase.magnetic h.keeps h.keeps.magnetic
    (λ k e. kind_between is_curie phase curie box site (h.curie k e) fits m) (λ k e. kind_between is_moment phase moments box site (h.moments k e) fits m) in
    omega (arith, ints, energies.below, magnetism)

lows_same : (phase : PhaseAt) (terms curie moments : List ParamTerm) (box : List (List Range)) (site : List (List ℕ)) → HasTerms phase terms curie moments → FitsBox (shape_of_phase phase) box → IsMember phase.lattice box site → IsSingle box →
    lows_over phase box ≡ terms_energy phase site
lows_same phase terms curie moments box site h fits m s =
    let energies = kind_same is_energy phase terms box site h.energies fits m s in
    let magnetism = magnetism_same phase box site phase.magnetic
    (λ k e. kind_same is_curie phase curie box site (h.curie k e) fits m s) (λ k e. kind_same is_moment phase moments box site (h.moments k e) fits m s) in
    omega (arith, ints, energies.below, magnetism)

-- ---- the laws

pub content_is : (phase : PhaseAt) (potentials : List ℤ) (site : List (List ℕ)) → worth potentials (content phase site) ≡ worth potentials (λ c. pos (content_over c phase.ratios phase.sites site))
unfolding content
content_is phase potentials site = refl

bound_is : (phase : PhaseAt) (potentials : List ℤ) (box : List (List Range)) (multipliers : List ℤ) →
    bound_of phase potentials box multipliers ≡ pos 65536 *ℤ lows_over phase box +ℤ parts_over phase.t phase.lattice potentials phase.ratios phase.sites box (at multipliers)
unfolding bound_of
bound_is phase potentials box multipliers = refl

-- bound <= 2^16*G - M*b
pub bound_below : (phase : PhaseAt) (terms curie moments : List ParamTerm) (potentials : List ℤ) (box : List (List Range)) (multipliers : List ℤ) (site : List (List ℕ)) → HasTerms phase terms curie moments → FitsBox (shape_of_phase phase) box → IsMember phase.lattice box site →
    bound_of phase potentials box multipliers ≤ℤ (pos 65536 *ℤ energy phase site -ℤ worth potentials (content phase site))
bound_below phase terms curie moments potentials box multipliers site h fits m =
    omega (
      arith,
      ints,
      bound_is phase potentials box multipliers,
      rows_below phase.t phase.lattice potentials phase.ratios phase.sites box (at multipliers) site h.keeps.ratio_each fits.widths m,
      pos-*ℤ-≤ 65536 (lows_over phase box) (terms_energy phase site) (lows_below phase terms curie moments box site h fits m),
      ap (λ (z : ℤ). pos 65536 *ℤ z) (energy_apart phase site),
      *ℤ-+ℤ (pos 65536) (terms_energy phase site) (mixing_over phase.t phase.lattice phase.ratios site),
      content_is phase potentials site,
    )

-- a box of one list has its height
pub bound_same : (phase : PhaseAt) (terms curie moments : List ParamTerm) (potentials : List ℤ) (box : List (List Range)) (multipliers : List ℤ) (site : List (List ℕ)) → HasTerms phase terms curie moments → FitsBox (shape_of_phase phase) box → IsMember phase.lattice box site → IsSingle box →
    bound_of phase potentials box multipliers ≡ pos 65536 *ℤ energy phase site -ℤ worth potentials (content phase site)
bound_same phase terms curie moments potentials box multipliers site h fits m s =
    omega (
      arith,
      ints,
      bound_is phase potentials box multipliers,
      rows_same phase.t phase.lattice potentials phase.ratios phase.sites box (at multipliers) site h.keeps.ratio_each fits.widths m s,
      ap (λ (z : ℤ). pos 65536 *ℤ z) (lows_same phase terms curie moments box site h fits m s),
      ap (λ (z : ℤ). pos 65536 *ℤ z) (energy_apart phase site),
      *ℤ-+ℤ (pos 65536) (terms_energy phase site) (mixing_over phase.t phase.lattice phase.ratios site),
      content_is phase potentials site,
    )
