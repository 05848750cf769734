-- What a fine phase says of an affine parameter.
use Rattle.std.proofs.Common.{◌≡◌, ℕ, suc, ◌+◌, ◌*◌, ◌^◌, ◌<◌, ◌≤◌, List, [], ◌∷◌, length, map, refl, arith, ap, sym, subst, ◌∙◌, Bool, true, false, inl, inr}
use Rattle.std.specs.Prelude.{unsigned_abs, sum, ◌&&◌, ◌==◌, ◌||◌}
use Rattle.std.specs.List.{concat, AllByRecursion, list_any}
use Rattle.std.proofs.lemmas.Bool.{eqb-true, cases_lt}
use Rattle.std.proofs.lemmas.Nat.{mul-le, pow-add}
use Rattle.std.proofs.Math.Nat.{mul-le-mul_left, one-le-pow, pow-le-pow_left, pow-le-pow_right}
use Rattle.cal_limits.specs.declared.TheConstants.{MOST_POWER}
use Rattle.cef_core.specs.declared.lattice.TheConstants.{LATTICES}
use Rattle.cef_core.specs.declared.phase.ParamAt.{ParamAt}
use Rattle.cef_core.specs.declared.phase.PhaseAt.{PhaseAt}
use Rattle.cef_box.specs.declared.range.Range.{Range}
use Rattle.cef_core.specs.Energies.{is_energy}
use Rattle.cef_core.specs.Lattices.{is_lattice}
use Rattle.cef_core.specs.Parameters.{interacting, factor_divisor}
use Rattle.cef_core.specs.Phases.{IsFine, IsParameter, degree, factor_degree}
use Rattle.cef_core.specs.Shapes.{shape, places}
use Rattle.cef_box.specs.Boxes.{lows_of, highs_of}
use Rattle.cef_term.proofs.Given.{lattice_some}
use Rattle.cef_term.proofs.Keeping.{low_counts, high_counts}
use Rattle.cef_term.proofs.Orders.{degree_placed}
use Rattle.cef_term.proofs.Picking.{placed_lengths, placed_below, concat_below, interacting_all, AreBelow}
use Rattle.cef_minor.specs.declared.form.Form.{Form}
use Rattle.cef_minor.specs.declared.form.Form.TheVariants.{Plain, Difference, Weighted}
use Rattle.cef_minor.specs.declared.frame.Frame.{Frame}
use Rattle.cef_minor.specs.Forms.{is_affine, is_form, interaction_of, sites_of, plane_at, divisor_of, low_at, high_at, products_at}
use Rattle.cef_minor.specs.Kept.{IsArray, IsFrame, factor_most, factor_parts, plane_in}
use Rattle.cef_minor.specs.Laws.{HasMinorant}
use Rattle.cef_minor.specs.Planes.{plane_of}
use Rattle.cef_minor.specs.Products.{form_of, products_of}
use Rattle.cef_minor.proofs.Linked.{IsAffineOrder, affine_order, sizes_placed, linked, form_in}

-- the sites of a parameter, those of its lists of two or more, and its form
abbrev pub all_of : PhaseAt → ParamAt → List ℕ
all_of phase p = concat (sites_of phase p)

abbrev pub mixed_of : PhaseAt → ParamAt → List (List ℕ)
mixed_of phase p = interacting (sites_of phase p)

abbrev pub form_at : PhaseAt → ParamAt → Form
form_at phase p = form_of p.order p.weighted (mixed_of phase p)

both_true : (a b : Bool) → (a && b) ≡ true → b ≡ true
both_true true b h = h
both_true false b h = absurd cc

pub affine_form : (p : ParamAt) → is_affine p ≡ true → is_form p.order p.weighted (interaction_of (map length (interacting p.array))) ≡ true
unfolding is_affine
affine_form p h = both_true (is_energy p.kind) _ h

pub order_is : (phase : PhaseAt) (p : ParamAt) (box : List (List Range)) → HasMinorant phase p box → IsAffineOrder p.order p.weighted (mixed_of phase p)
order_is phase p box has =
    let sizes = sizes_placed 0 (shape phase.sites) p.array has.parameter.places in
    affine_order p.order p.weighted (mixed_of phase p) (ap (λ s. is_form p.order p.weighted (interaction_of s)) sizes ∙ affine_form p has.affine)

pub sites_below : (phase : PhaseAt) (p : ParamAt) → IsParameter (shape phase.sites) p → AllByRecursion (AreBelow (places phase.sites)) (sites_of phase p)
sites_below phase p is =
    let none : 0 + places phase.sites ≡ places phase.sites = omega arith in
    rw none at (placed_below 0 (shape phase.sites) p.array is.places)

-- N is one of the lattices
lattice_has : (P : ℕ → Type 0) (n : ℕ) (ls : List ℕ) → AllByRecursion P ls → list_any (λ l. n == l) ls ≡ true → P n
lattice_has P n [] h e = absurd cc
lattice_has P n (l ∷ ls) h e = by (n == l) refl e (lattice_has P n ls h.1)
  where
    by : (b : Bool) → (n == l) ≡ b → (b || list_any (λ l. n == l) ls) ≡ true → (list_any (λ l. n == l) ls ≡ true → P n) → P n
    by true e f rest = subst P (sym (eqb-true n l e)) h.0
    by false e f rest = rest f

pub lattice_ten : (n : ℕ) → is_lattice n ≡ true → 10 ≤ n
lattice_ten n e = lattice_has (λ n. 10 ≤ n) n LATTICES all e
  where
    all : AllByRecursion (λ l. 10 ≤ l) LATTICES
    all = (omega arith, (omega arith, (omega arith, (omega arith, (omega arith, (omega arith, (omega arith, (omega arith, (omega arith, (omega arith, (omega arith, tt)))))))))))

pub lattice_thousand : (n : ℕ) → is_lattice n ≡ true → n ≤ 1000
lattice_thousand n e = lattice_has (λ n. n ≤ 1000) n LATTICES all e
  where
    all : AllByRecursion (λ l. l ≤ 1000) LATTICES
    all = (omega arith, (omega arith, (omega arith, (omega arith, (omega arith, (omega arith, (omega arith, (omega arith, (omega arith, (omega arith, (omega arith, tt)))))))))))

-- so 2^70 is not reached by 22 counts
pub few_counts : (n k : ℕ) → 10 ≤ n → n ^ k ≤ 2 ^ 70 → k ≤ 21
few_counts n k ten h = elim (cases_lt 21 k) [
  | inl large ↦
      let more : 22 ≤ k = omega (arith, large) in
      let base : 10 ^ k ≤ n ^ k = pow-le-pow_left ten k in
      let least : 10 ^ 22 ≤ 10 ^ k = pow-le-pow_right {n = 10} (omega arith) {i = 22} {j = k} more in
      absurd (omega (arith, base, least, h))
  | inr small ↦ omega (arith, small)
]

-- the power of N in the divisor
pub power_small : (phase : PhaseAt) (p : ParamAt) (box : List (List Range)) → HasMinorant phase p box → phase.lattice ^ degree p ≤ MOST_POWER → phase.lattice ^ length (all_of phase p) * factor_parts phase.lattice (form_at phase p) ≤ 2 ^ 70
power_small phase p box has high =
    let n : ℕ = phase.lattice in
    let size : sum (map length p.array) ≡ length (all_of phase p) = placed_lengths 0 (shape phase.sites) p.array has.parameter.places in
    let extra = degree_placed p.order p.weighted (shape phase.sites) p.array has.parameter.places has.parameter.order in
    let whole : n ^ (length (all_of phase p) + factor_degree p.order p.weighted (mixed_of phase p)) ≡ n ^ degree p = ap (λ (d : ℕ). n ^ d) (omega (arith, size, extra)) in
    let parts = (linked n p.order p.weighted (mixed_of phase p) (λ i. 0) (order_is phase p box has)).parts in
    omega (arith, high, whole, pow-add n (length (all_of phase p)) (factor_degree p.order p.weighted (mixed_of phase p)), mul-le-mul_left (n ^ length (all_of phase p)) parts)

most_parts : (n : ℕ) (form : Form) → factor_most n form ≤ 3 * factor_parts n form
most_parts n Plain = omega arith
most_parts n (Difference i j) = omega arith
most_parts n (Weighted o i j k) = omega arith

parts_some : (n : ℕ) (form : Form) → 1 ≤ n → 1 ≤ factor_parts n form
parts_some n Plain h = omega arith
parts_some n (Difference i j) h = h
parts_some n (Weighted o i j k) h = h

most_some : (n : ℕ) (form : Form) → 1 ≤ n → 1 ≤ factor_most n form
most_some n Plain h = omega arith
most_some n (Difference i j) h = h
most_some n (Weighted o i j k) h = omega (arith, h)

pub divisor_room : (n k : ℕ) (form : Form) → n ^ k * factor_parts n form ≤ 2 ^ 70 → n ^ k * factor_most n form ≤ 3 * 2 ^ 70
divisor_room n k form h = omega (arith, h, mul-le-mul_left (n ^ k) (most_parts n form), turned (n ^ k) (factor_parts n form))
  where
    turned : (a b : ℕ) → a * (3 * b) ≡ 3 * (a * b)
    turned a b = grind arith

pub counts_room : (n k : ℕ) (form : Form) → 1 ≤ n → n ^ k * factor_parts n form ≤ 2 ^ 70 → n ^ k ≤ 2 ^ 70
counts_room n k form some h = omega (arith, h, mul-le-mul_left (n ^ k) (parts_some n form some))

pub divisor_some : (n k : ℕ) (form : Form) → 1 ≤ n → 1 ≤ n ^ k * factor_most n form
divisor_some n k form some = omega (arith, mul-le 1 1 (n ^ k) (factor_most n form) (one-le-pow k n some) (most_some n form some))

-- a frame that holds a box and the numbers of a parameter
pub record Holds (phase : PhaseAt) (p : ParamAt) (box : List (List Range)) (frame : Frame) : Type 0 where
  pub parts : frame.parts ≡ phase.lattice
  pub micro : frame.micro ≡ p.micro
  pub den : frame.den ≡ phase.lattice ^ length (all_of phase p) * factor_most phase.lattice (form_at phase p)
  pub low : frame.low.now ≡ concat (lows_of box)
  pub high : frame.high.now ≡ concat (highs_of box)

pub array_is : (phase : PhaseAt) (p : ParamAt) (box : List (List Range)) (frame : Frame) → HasMinorant phase p box → phase.lattice ^ degree p ≤ MOST_POWER → unsigned_abs p.micro ≤ 2 ^ 55 → Holds phase p box frame → IsArray frame (places phase.sites) (form_at phase p) (all_of phase p)
array_is phase p box frame has high micro holds =
    let n : ℕ = phase.lattice in
    let k : ℕ = length (all_of phase p) in
    let form : Form = form_at phase p in
    let some : 1 ≤ n = lattice_some n has.fine.keeps.lattice in
    let power = power_small phase p box has high in
    let below = sites_below phase p has.parameter in
    let lows = low_counts phase box has.fits in
    let highs = high_counts phase box has.fits in
    record {
      frame_keeps = record {
        some = rw holds.parts some;
        den_low = rw holds.den (divisor_some n k form some);
        den_high = rw holds.den (divisor_room n k form power);
        micro = rw holds.micro micro;
        low_length = rw holds.low lows.size;
        high_length = rw holds.high highs.size;
        low_small = rw (holds.low, holds.parts) lows.small;
        high_small = rw (holds.high, holds.parts) highs.small;
      };
      within = concat_below (places phase.sites) (sites_of phase p) below;
      few = few_counts n k (lattice_ten n has.fine.keeps.lattice) (counts_room n k form some power);
      power = rw holds.parts power;
      form_in = form_in (places phase.sites) p.order p.weighted (mixed_of phase p) (interacting_all (AreBelow (places phase.sites)) (sites_of phase p) below);
      den_is = rw holds.parts holds.den;
    }

-- the plane of the frame is that of the parameter
pub plane_is : (phase : PhaseAt) (p : ParamAt) (box : List (List Range)) (frame : Frame) → HasMinorant phase p box → Holds phase p box frame → plane_in (places phase.sites) frame (form_at phase p) (all_of phase p) ≡ plane_at phase p box
unfolding plane_at
plane_is phase p box frame has holds =
    let most = (linked phase.lattice p.order p.weighted (mixed_of phase p) (λ i. 0) (order_is phase p box has)).most in
    rw (holds.parts, holds.micro, holds.den, holds.low, holds.high, most) refl

pub few_sites : (phase : PhaseAt) (p : ParamAt) (box : List (List Range)) → HasMinorant phase p box → phase.lattice ^ degree p ≤ MOST_POWER → length (all_of phase p) ≤ 21
few_sites phase p box has high =
    few_counts phase.lattice (length (all_of phase p)) (lattice_ten phase.lattice has.fine.keeps.lattice) (counts_room phase.lattice (length (all_of phase p)) (form_at phase p) (lattice_some phase.lattice has.fine.keeps.lattice) (power_small phase p box has high))

-- the same by what code has found
pub array_by : (phase : PhaseAt) (p : ParamAt) (box : List (List Range)) (frame : Frame) (sites : ℕ) (form : Form) (taken : List ℕ) → HasMinorant phase p box → phase.lattice ^ degree p ≤ MOST_POWER → unsigned_abs p.micro ≤ 2 ^ 55 → Holds phase p box frame → sites ≡ places phase.sites → form ≡ form_at phase p → taken ≡ all_of phase p → IsArray frame sites form taken
array_by phase p box frame sites form taken has high micro holds s f t = rw (s, f, t) (array_is phase p box frame has high micro holds)

pub plane_by : (phase : PhaseAt) (p : ParamAt) (box : List (List Range)) (frame : Frame) (sites : ℕ) (form : Form) (taken : List ℕ) → HasMinorant phase p box → Holds phase p box frame → sites ≡ places phase.sites → form ≡ form_at phase p → taken ≡ all_of phase p → plane_in sites frame form taken ≡ plane_at phase p box
plane_by phase p box frame sites form taken has holds s f t = rw (s, f, t) (plane_is phase p box frame has holds)
