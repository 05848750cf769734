-- What a fine phase says of its parameters.
use Rattle.std.proofs.Common.{◌≡◌, ℕ, zero, suc, ◌+◌, ◌*◌, ◌^◌, ◌<◌, ◌≤◌, List, [], ◌∷◌, length, map, refl, arith, ap, sym, Bool, true, false, Some, slice_get, slice_index_or}
use Rattle.std.specs.Prelude.{unsigned_abs, sum, ◌||◌, ◌==◌}
use Rattle.std.specs.List.{concat, AllByRecursion, list_any}
use Rattle.std.proofs.lemmas.Nat.{mul-le, pow-add}
use Rattle.std.proofs.lemmas.Bool.{eqb-true}
use Rattle.cal_limits.specs.declared.TheConstants.{MOST_POWER, MOST_ENERGY, MOST_CURIE, MOST_MOMENT}
use Rattle.cef_core.specs.declared.lattice.TheConstants.{LATTICES}
use Rattle.cef_kind.specs.declared.kind.Kind.{Kind}
use Rattle.cef_kind.specs.declared.kind.Kind.TheVariants.{G, Tc, Beta, Unread, Other}
use Rattle.cef_core.specs.declared.phase.ParamAt.{ParamAt}
use Rattle.cef_core.specs.declared.phase.PhaseAt.{PhaseAt}
use Rattle.cef_core.specs.Shapes.{shape}
use Rattle.cef_core.specs.Energies.{is_energy, is_curie, is_moment}
use Rattle.cef_core.specs.Lattices.{is_lattice}
use Rattle.cef_core.specs.Phases.{IsFine, IsParameter, magnitudes, degree, factor_degree}
use Rattle.cef_core.specs.Parameters.{interacting}
use Rattle.cef_term.specs.declared.form.Form.{Form}
use Rattle.cef_term.specs.declared.form.Form.TheVariants.{Binary, Ternary}
use Rattle.cef_term.specs.declared.share.Share.{Share}
use Rattle.cef_term.specs.Kept.{form_of, factor_most, IsKept, IsShare, den, micro_of}
use Rattle.cef_term.proofs.Laws.{IsGiven, places_of, form_in, value_by_places, low_by_places, high_by_places, value_between, values_same}
use Rattle.cef_term.proofs.Linked.{linked}
use Rattle.cef_term.proofs.Orders.{order_placed, degree_placed}
use Rattle.cef_term.proofs.Smallness.{interacting_within, form_small}
use Rattle.cef_term.proofs.Picking.{placed_lengths, placed_below, concat_below, below_at, AreBelow, interacting_all}

pub got : (ps : List ParamAt) (k : ℕ) (p : ParamAt) → k < length ps → p ≡ slice_index_or ps k p → slice_get ps k ≡ Some p
got [] k p lt e = absurd (omega (arith, lt))
got (q ∷ ps) zero p lt e = ap Some (sym e)
got (q ∷ ps) (suc k) p lt e = got ps k p (omega (arith, lt)) e

pub one_of_all : (P : ParamAt → Type 0) (ps : List ParamAt) (k : ℕ) (p : ParamAt) → slice_get ps k ≡ Some p → AllByRecursion P ps → P p
one_of_all P [] k p e h = absurd cc
one_of_all P (q ∷ ps) zero p e h = let same : q ≡ p = some_is q p e in rw (← same) h.0
  where
    some_is : (q p : ParamAt) → Some q ≡ Some p → q ≡ p
    some_is q p e = cc
one_of_all P (q ∷ ps) (suc k) p e h = one_of_all P ps k p e h.1

magnitude-le : (is_kind : Kind → Bool) (ps : List ParamAt) (k : ℕ) (p : ParamAt) → slice_get ps k ≡ Some p → is_kind p.kind ≡ true → unsigned_abs p.micro ≤ magnitudes is_kind ps
magnitude-le is_kind [] k p e h = absurd cc
magnitude-le is_kind (q ∷ ps) zero p e h = let same : q ≡ p = some_is q p e in rw (same, h) (omega arith)
  where
    some_is : (q p : ParamAt) → Some q ≡ Some p → q ≡ p
    some_is q p e = cc
magnitude-le is_kind (q ∷ ps) (suc k) p e h = omega (arith, magnitude-le is_kind ps k p e h)

by_kind : (kind : Kind) (x a b c : ℕ) → (is_energy kind || (is_curie kind || is_moment kind)) ≡ true → (is_energy kind ≡ true → x ≤ a) → (is_curie kind ≡ true → x ≤ b) → (is_moment kind ≡ true → x ≤ c) → a ≤ MOST_ENERGY → b ≤ MOST_CURIE → c ≤ MOST_MOMENT → x ≤ 2 ^ 55
by_kind G x a b c k h i j p q r = omega (arith, h refl, p)
by_kind Tc x a b c k h i j p q r = omega (arith, i refl, q)
by_kind Beta x a b c k h i j p q r = omega (arith, j refl, r)
by_kind Unread x a b c k h i j p q r = absurd cc
by_kind Other x a b c k h i j p q r = absurd cc

pub micro_small : (phase : PhaseAt) (k : ℕ) (p : ParamAt) → IsFine phase → slice_get phase.parameters k ≡ Some p → unsigned_abs p.micro ≤ 2 ^ 55
micro_small phase k p fine e =
    let is = one_of_all (IsParameter (shape phase.sites)) phase.parameters k p e fine.keeps.parameters in
    by_kind p.kind (unsigned_abs p.micro) (magnitudes is_energy phase.parameters) (magnitudes is_curie phase.parameters) (magnitudes is_moment phase.parameters) is.kind
    (magnitude-le is_energy phase.parameters k p e) (magnitude-le is_curie phase.parameters k p e) (magnitude-le is_moment phase.parameters k p e)
    (omega (arith, fine.keeps.energies)) fine.keeps.curie fine.keeps.moments

lattice_among : (n : ℕ) (ls : List ℕ) → AllByRecursion (λ l. 1 ≤ l) ls → list_any (λ l. n == l) ls ≡ true → 1 ≤ n
lattice_among n [] h e = absurd cc
lattice_among n (l ∷ ls) h e = by (n == l) refl e (lattice_among n ls h.1)
  where
    by : (b : Bool) → (n == l) ≡ b → (b || list_any (λ l. n == l) ls) ≡ true → (list_any (λ l. n == l) ls ≡ true → 1 ≤ n) → 1 ≤ n
    by true e f rest = omega (arith, eqb-true n l e, h.0)
    by false e f rest = rest f

pub lattice_some : (n : ℕ) → is_lattice n ≡ true → 1 ≤ n
lattice_some n e = lattice_among n LATTICES all e
  where
    all : AllByRecursion (λ l. 1 ≤ l) LATTICES
    all = (omega arith, (omega arith, (omega arith, (omega arith, (omega arith, (omega arith, (omega arith, (omega arith, (omega arith, (omega arith, (omega arith, tt)))))))))))

pub given : (phase : PhaseAt) (k : ℕ) (p : ParamAt) → IsFine phase → slice_get phase.parameters k ≡ Some p → IsGiven phase.lattice (shape phase.sites) p
given phase k p fine e =
    let is = one_of_all (IsParameter (shape phase.sites)) phase.parameters k p e fine.keeps.parameters in
    record { some = lattice_some phase.lattice fine.keeps.lattice; in_array = is.places; distinct = is.distinct; order = order_placed p.order p.weighted (shape phase.sites) p.array is.places is.order }

pub divisor_high : (phase : PhaseAt) (k : ℕ) (p : ParamAt) → IsFine phase → slice_get phase.parameters k ≡ Some p →
    phase.lattice ^ length (concat (places_of (shape phase.sites) p)) * factor_most phase.lattice (form_in phase.lattice (shape phase.sites) p) ≤ 3 * 2 ^ 70
divisor_high phase k p fine e =
    let is = one_of_all (IsParameter (shape phase.sites)) phase.parameters k p e fine.keeps.parameters in
    let high : phase.lattice ^ degree p ≤ MOST_POWER = one_of_all (λ q. phase.lattice ^ degree q ≤ MOST_POWER) phase.parameters k p e fine.degrees in
    let P : List (List ℕ) = places_of (shape phase.sites) p in
    let size : sum (map length p.array) ≡ length (concat P) = placed_lengths 0 (shape phase.sites) p.array is.places in
    let extra = degree_placed p.order p.weighted (shape phase.sites) p.array is.places is.order in
    let l = linked phase.lattice p.order p.weighted (interacting P) [] [] [] (order_placed p.order p.weighted (shape phase.sites) p.array is.places is.order) in
    let whole : phase.lattice ^ (length (concat P) + factor_degree p.order p.weighted (interacting P)) ≡ phase.lattice ^ degree p = ap (λ (d : ℕ). phase.lattice ^ d) (omega (arith, size, extra)) in
    omega (arith, high, whole, pow-add phase.lattice (length (concat P)) (factor_degree p.order p.weighted (interacting P)), mul-le (phase.lattice ^ length (concat P)) (factor_most phase.lattice (form_in phase.lattice (shape phase.sites) p)) (phase.lattice ^ length (concat P)) (3 * phase.lattice ^ factor_degree p.order p.weighted (interacting P)) (omega arith) l.degree)

parts_of_binary : (a b v i j u : ℕ) → Binary a b v ≡ Binary i j u → (a ≡ i) × (b ≡ j)
parts_of_binary a b v i j u e = (cc, cc)

parts_of_ternary : (n a b c m o i j : ℕ) → Ternary n a b c ≡ Ternary m o i j → (n ≡ m) × (a ≡ o) × (b ≡ i) × (c ≡ j)
parts_of_ternary n a b c m o i j e = (cc, cc, cc, cc)

binary_below : (n s v : ℕ) (w : Bool) (lists : List (List ℕ)) → AllByRecursion (AreBelow s) lists → (i j u : ℕ) → form_of n v w lists ≡ Binary i j u → (i < s) × (j < s)
binary_below n s v w [] h i j u e = absurd cc
binary_below n s zero w ((a ∷ b ∷ []) ∷ []) h i j u e = absurd cc
binary_below n s (suc v) w ((a ∷ b ∷ []) ∷ []) h i j u e = let both = parts_of_binary a b (suc v) i j u e in (rw (← both.0) h.0.0, rw (← both.1) h.0.1.0)
binary_below n s zero true ((a ∷ b ∷ c ∷ []) ∷ []) h i j u e = absurd cc
binary_below n s zero false ((a ∷ b ∷ c ∷ []) ∷ []) h i j u e = absurd cc
binary_below n s (suc zero) true ((a ∷ b ∷ c ∷ []) ∷ []) h i j u e = absurd cc
binary_below n s (suc zero) false ((a ∷ b ∷ c ∷ []) ∷ []) h i j u e = absurd cc
binary_below n s (suc (suc v)) true ((a ∷ b ∷ c ∷ []) ∷ []) h i j u e = absurd cc
binary_below n s (suc (suc v)) false ((a ∷ b ∷ c ∷ []) ∷ []) h i j u e = absurd cc
binary_below n s v w ([] ∷ []) h i j u e = absurd cc
binary_below n s v w ([] ∷ m ∷ rest) h i j u e = absurd cc
binary_below n s v w ((a ∷ []) ∷ []) h i j u e = absurd cc
binary_below n s v w ((a ∷ []) ∷ m ∷ rest) h i j u e = absurd cc
binary_below n s v w ((a ∷ b ∷ []) ∷ m ∷ rest) h i j u e = absurd cc
binary_below n s zero true ((a ∷ b ∷ c ∷ []) ∷ m ∷ rest) h i j u e = absurd cc
binary_below n s zero true ((a ∷ b ∷ c ∷ d ∷ more) ∷ []) h i j u e = absurd cc
binary_below n s zero true ((a ∷ b ∷ c ∷ d ∷ more) ∷ m ∷ rest) h i j u e = absurd cc
binary_below n s zero false ((a ∷ b ∷ c ∷ []) ∷ m ∷ rest) h i j u e = absurd cc
binary_below n s zero false ((a ∷ b ∷ c ∷ d ∷ more) ∷ []) h i j u e = absurd cc
binary_below n s zero false ((a ∷ b ∷ c ∷ d ∷ more) ∷ m ∷ rest) h i j u e = absurd cc
binary_below n s (suc zero) true ((a ∷ b ∷ c ∷ []) ∷ m ∷ rest) h i j u e = absurd cc
binary_below n s (suc zero) true ((a ∷ b ∷ c ∷ d ∷ more) ∷ []) h i j u e = absurd cc
binary_below n s (suc zero) true ((a ∷ b ∷ c ∷ d ∷ more) ∷ m ∷ rest) h i j u e = absurd cc
binary_below n s (suc zero) false ((a ∷ b ∷ c ∷ []) ∷ m ∷ rest) h i j u e = absurd cc
binary_below n s (suc zero) false ((a ∷ b ∷ c ∷ d ∷ more) ∷ []) h i j u e = absurd cc
binary_below n s (suc zero) false ((a ∷ b ∷ c ∷ d ∷ more) ∷ m ∷ rest) h i j u e = absurd cc
binary_below n s (suc (suc v)) true ((a ∷ b ∷ c ∷ []) ∷ m ∷ rest) h i j u e = absurd cc
binary_below n s (suc (suc v)) true ((a ∷ b ∷ c ∷ d ∷ more) ∷ []) h i j u e = absurd cc
binary_below n s (suc (suc v)) true ((a ∷ b ∷ c ∷ d ∷ more) ∷ m ∷ rest) h i j u e = absurd cc
binary_below n s (suc (suc v)) false ((a ∷ b ∷ c ∷ []) ∷ m ∷ rest) h i j u e = absurd cc
binary_below n s (suc (suc v)) false ((a ∷ b ∷ c ∷ d ∷ more) ∷ []) h i j u e = absurd cc
binary_below n s (suc (suc v)) false ((a ∷ b ∷ c ∷ d ∷ more) ∷ m ∷ rest) h i j u e = absurd cc

ternary_below : (n s v : ℕ) (w : Bool) (lists : List (List ℕ)) → AllByRecursion (AreBelow s) lists → (m o i j : ℕ) → form_of n v w lists ≡ Ternary m o i j → (o < s) × (i < s) × (j < s) × (m ≡ n)
ternary_below n s v w [] h m o i j e = absurd cc
ternary_below n s zero w ((a ∷ b ∷ []) ∷ []) h m o i j e = absurd cc
ternary_below n s (suc v) w ((a ∷ b ∷ []) ∷ []) h m o i j e = absurd cc
ternary_below n s zero true ((a ∷ b ∷ c ∷ []) ∷ []) h m o i j e = let all = parts_of_ternary n a b c m o i j e in (rw (← all.1) h.0.0, rw (← all.2) h.0.1.0, rw (← all.3) h.0.1.1.0, sym all.0)
ternary_below n s zero false ((a ∷ b ∷ c ∷ []) ∷ []) h m o i j e = absurd cc
ternary_below n s (suc zero) true ((a ∷ b ∷ c ∷ []) ∷ []) h m o i j e = let all = parts_of_ternary n b a c m o i j e in (rw (← all.1) h.0.1.0, rw (← all.2) h.0.0, rw (← all.3) h.0.1.1.0, sym all.0)
ternary_below n s (suc zero) false ((a ∷ b ∷ c ∷ []) ∷ []) h m o i j e = absurd cc
ternary_below n s (suc (suc v)) true ((a ∷ b ∷ c ∷ []) ∷ []) h m o i j e = let all = parts_of_ternary n c a b m o i j e in (rw (← all.1) h.0.1.1.0, rw (← all.2) h.0.0, rw (← all.3) h.0.1.0, sym all.0)
ternary_below n s (suc (suc v)) false ((a ∷ b ∷ c ∷ []) ∷ []) h m o i j e = absurd cc
ternary_below n s v w ([] ∷ []) h m o i j e = absurd cc
ternary_below n s v w ([] ∷ z ∷ rest) h m o i j e = absurd cc
ternary_below n s v w ((a ∷ []) ∷ []) h m o i j e = absurd cc
ternary_below n s v w ((a ∷ []) ∷ z ∷ rest) h m o i j e = absurd cc
ternary_below n s v w ((a ∷ b ∷ []) ∷ z ∷ rest) h m o i j e = absurd cc
ternary_below n s zero true ((a ∷ b ∷ c ∷ []) ∷ z ∷ rest) h m o i j e = absurd cc
ternary_below n s zero true ((a ∷ b ∷ c ∷ d ∷ more) ∷ []) h m o i j e = absurd cc
ternary_below n s zero true ((a ∷ b ∷ c ∷ d ∷ more) ∷ z ∷ rest) h m o i j e = absurd cc
ternary_below n s zero false ((a ∷ b ∷ c ∷ []) ∷ z ∷ rest) h m o i j e = absurd cc
ternary_below n s zero false ((a ∷ b ∷ c ∷ d ∷ more) ∷ []) h m o i j e = absurd cc
ternary_below n s zero false ((a ∷ b ∷ c ∷ d ∷ more) ∷ z ∷ rest) h m o i j e = absurd cc
ternary_below n s (suc zero) true ((a ∷ b ∷ c ∷ []) ∷ z ∷ rest) h m o i j e = absurd cc
ternary_below n s (suc zero) true ((a ∷ b ∷ c ∷ d ∷ more) ∷ []) h m o i j e = absurd cc
ternary_below n s (suc zero) true ((a ∷ b ∷ c ∷ d ∷ more) ∷ z ∷ rest) h m o i j e = absurd cc
ternary_below n s (suc zero) false ((a ∷ b ∷ c ∷ []) ∷ z ∷ rest) h m o i j e = absurd cc
ternary_below n s (suc zero) false ((a ∷ b ∷ c ∷ d ∷ more) ∷ []) h m o i j e = absurd cc
ternary_below n s (suc zero) false ((a ∷ b ∷ c ∷ d ∷ more) ∷ z ∷ rest) h m o i j e = absurd cc
ternary_below n s (suc (suc v)) true ((a ∷ b ∷ c ∷ []) ∷ z ∷ rest) h m o i j e = absurd cc
ternary_below n s (suc (suc v)) true ((a ∷ b ∷ c ∷ d ∷ more) ∷ []) h m o i j e = absurd cc
ternary_below n s (suc (suc v)) true ((a ∷ b ∷ c ∷ d ∷ more) ∷ z ∷ rest) h m o i j e = absurd cc
ternary_below n s (suc (suc v)) false ((a ∷ b ∷ c ∷ []) ∷ z ∷ rest) h m o i j e = absurd cc
ternary_below n s (suc (suc v)) false ((a ∷ b ∷ c ∷ d ∷ more) ∷ []) h m o i j e = absurd cc
ternary_below n s (suc (suc v)) false ((a ∷ b ∷ c ∷ d ∷ more) ∷ z ∷ rest) h m o i j e = absurd cc

pub kept : (phase : PhaseAt) (k : ℕ) (p : ParamAt) (ps : List ℕ) (form : Form) (share : Share) → IsFine phase → slice_get phase.parameters k ≡ Some p → ps ≡ concat (places_of (shape phase.sites) p) → form ≡ form_in phase.lattice (shape phase.sites) p →
    IsShare share → micro_of share ≡ p.micro → den share ≡ phase.lattice ^ length ps * factor_most phase.lattice form → IsKept phase p ps form share
kept phase k p ps form share fine e pe fe keeps micro d =
    let is = one_of_all (IsParameter (shape phase.sites)) phase.parameters k p e fine.keeps.parameters in
    let g = given phase k p fine e in
    let below : AllByRecursion (AreBelow (0 + sum (shape phase.sites))) (places_of (shape phase.sites) p) = placed_below 0 (shape phase.sites) p.array is.places in
    let none : 0 + sum (shape phase.sites) ≡ sum (shape phase.sites) = omega arith in
    let all : AllByRecursion (AreBelow (sum (shape phase.sites))) (places_of (shape phase.sites) p) = rw none at below in
    let flat : AreBelow (sum (shape phase.sites)) (concat (places_of (shape phase.sites) p)) = concat_below (sum (shape phase.sites)) (places_of (shape phase.sites) p) all in
    let mixed = interacting_all (AreBelow (sum (shape phase.sites))) (places_of (shape phase.sites) p) all in
    let den_is : den share ≡ phase.lattice ^ length (concat (places_of (shape phase.sites) p)) * factor_most phase.lattice (form_in phase.lattice (shape phase.sites) p) = rw (pe, fe) at d in
    let order = order_placed p.order p.weighted (shape phase.sites) p.array is.places is.order in
    let small : factor_most phase.lattice (form_in phase.lattice (shape phase.sites) p) ≤ 2 ^ 62 = form_small phase.lattice p.order p.weighted (interacting (places_of (shape phase.sites) p)) (length (concat (places_of (shape phase.sites) p))) g.some order (interacting_within (places_of (shape phase.sites) p)) (omega (arith, den_is, keeps.den_high)) in
    rw (pe, fe) (record {
      some = g.some;
      places_in = below_at (sum (shape phase.sites)) (concat (places_of (shape phase.sites) p)) flat;
      binary_in = binary_below phase.lattice (sum (shape phase.sites)) p.order p.weighted (interacting (places_of (shape phase.sites) p)) mixed;
      ternary_in = ternary_below phase.lattice (sum (shape phase.sites)) p.order p.weighted (interacting (places_of (shape phase.sites) p)) mixed;
      share_keeps = keeps;
      micro_is = micro;
      den_is = den_is;
      factor_small = small;
      value_is = λ site fits. value_by_places phase.lattice (shape phase.sites) p site (den share) g fits.widths den_is;
      low_is = λ box fits. low_by_places phase.lattice (shape phase.sites) p box (den share) g fits.widths den_is;
      high_is = λ box fits. high_by_places phase.lattice (shape phase.sites) p box (den share) g fits.widths den_is;
      between = λ box site fits member. value_between phase.lattice (shape phase.sites) p box site g fits.widths member;
      same = λ box site fits member single. values_same phase.lattice (shape phase.sites) p box site g fits.widths member single;
    })
