-- What a term of a parameter gives for the sites and boxes of its phase.
use Rattle.std.proofs.Common.{◌≡◌, ℕ, zero, suc, ◌*◌, ◌^◌, ◌<◌, ◌≤◌, List, [], ◌∷◌, ◌++◌, length, map, refl, arith, ap, ◌∙◌}
use Rattle.std.specs.Prelude.{unsigned_abs, sum}
use Rattle.std.specs.List.{concat, AllByRecursion}
use Rattle.std.proofs.lemmas.Nat.{mul-le}
use Rattle.std.proofs.lemmas.List.{length-append}
use Rattle.cef_core.specs.declared.phase.ParamAt.{ParamAt}
use Rattle.cef_core.specs.declared.phase.PhaseAt.{PhaseAt}
use Rattle.cef_box.specs.declared.range.Range.{Range}
use Rattle.cef_core.specs.Shapes.{shape}
use Rattle.cef_box.specs.Boxes.{lows_of, highs_of, IsRange}
use Rattle.cef_box.specs.Terms.{FitsSite, FitsBox, shape_of_phase}
use Rattle.cef_term.specs.declared.form.Form.{Form}
use Rattle.cef_term.specs.declared.form.Form.TheVariants.{Plain, Binary, Ternary}
use Rattle.cef_term.specs.declared.share.Share.{Share}
use Rattle.cef_term.specs.Kept.{count_at, product_at, factor_at, least_factor_at, greatest_factor_at, factor_most, counts_for, sites_of, den, IsFormIn, AreCounts, HasFactor, HasProduct, IsKept}
use Rattle.cef_term.proofs.Picking.{sum-cons}
use Rattle.cef_term.proofs.Laws.{lows_shape, highs_shape}
use Rattle.cef_term.proofs.Choosing.{size_chosen}
use Rattle.cef_term.proofs.Rooms.{products_size, IsFormOf, factor_most-low, AreProducts}

row_small : (n : ℕ) (counts rest : List ℕ) → AllByRecursion (λ k. k ≤ n) counts → ((k : ℕ) → count_at rest k ≤ n) → (k : ℕ) → count_at (counts ++ rest) k ≤ n
row_small n [] rest h r k = r k
row_small n (c ∷ counts) rest h r zero = h.0
row_small n (c ∷ counts) rest h r (suc k) = row_small n counts rest h.1 r k

pub site_small : (n : ℕ) (site : List (List ℕ)) → AllByRecursion (AllByRecursion (λ k. k ≤ n)) site → (k : ℕ) → count_at (concat site) k ≤ n
site_small n [] h k = omega arith
site_small n (counts ∷ site) h k = row_small n counts (concat site) h.0 (site_small n site h.1) k

pub site_length : (site : List (List ℕ)) → length (concat site) ≡ sum (shape site)
site_length [] = omega arith
site_length (counts ∷ site) = omega (arith, length-append counts (concat site), sum-cons (length counts) (shape site), site_length site)

low_row : (n : ℕ) (row : List Range) → AllByRecursion (IsRange n) row → AllByRecursion (λ k. k ≤ n) (map (λ (r : Range). r.low) row)
low_row n [] h = tt
low_row n (r ∷ row) h = (omega (arith, h.0.0, h.0.1), low_row n row h.1)

high_row : (n : ℕ) (row : List Range) → AllByRecursion (IsRange n) row → AllByRecursion (λ k. k ≤ n) (map (λ (r : Range). r.high) row)
high_row n [] h = tt
high_row n (r ∷ row) h = (h.0.1, high_row n row h.1)

lows_small : (n : ℕ) (box : List (List Range)) → AllByRecursion (AllByRecursion (IsRange n)) box → AllByRecursion (AllByRecursion (λ k. k ≤ n)) (lows_of box)
lows_small n [] h = tt
lows_small n (row ∷ box) h = (low_row n row h.0, lows_small n box h.1)

highs_small : (n : ℕ) (box : List (List Range)) → AllByRecursion (AllByRecursion (IsRange n)) box → AllByRecursion (AllByRecursion (λ k. k ≤ n)) (highs_of box)
highs_small n [] h = tt
highs_small n (row ∷ box) h = (high_row n row h.0, highs_small n box h.1)

form_is_in : (n sites size : ℕ) (form : Form) → size ≡ sites → ((i j v : ℕ) → form ≡ Binary i j v → (i < sites) × (j < sites)) → ((m o i j : ℕ) → form ≡ Ternary m o i j → (o < sites) × (i < sites) × (j < sites) × (m ≡ n)) → IsFormIn n size form
form_is_in n sites size Plain e b t = tt
form_is_in n sites size (Binary i j v) e b t = let both = b i j v refl in (omega (arith, both.0), omega (arith, both.1))
form_is_in n sites size (Ternary m o i j) e b t = let all = t m o i j refl in (omega (arith, all.0), omega (arith, all.1), omega (arith, all.2), all.3)

-- for counts of the phase the factor and the product have room
pub has_factor : (phase : PhaseAt) (p : ParamAt) (ps : List ℕ) (form : Form) (share : Share) (low high : List ℕ) → IsKept phase p ps form share → AreCounts phase.lattice (sites_of phase) low → AreCounts phase.lattice (sites_of phase) high → HasFactor form low high
has_factor phase p ps form share low high kept l h = record {
  n = phase.lattice;
  some = kept.some;
  low_small = l.small;
  high_small = h.small;
  low_form = form_is_in phase.lattice (sites_of phase) (length low) form l.size kept.binary_in kept.ternary_in;
  high_form = form_is_in phase.lattice (sites_of phase) (length high) form h.size kept.binary_in kept.ternary_in;
  room = kept.factor_small;
}

pub has_product : (phase : PhaseAt) (p : ParamAt) (ps : List ℕ) (form : Form) (share : Share) (counts : List ℕ) → IsKept phase p ps form share → AreCounts phase.lattice (sites_of phase) counts → HasProduct (den share) counts ps
has_product phase p ps form share counts kept c = record {
  n = phase.lattice;
  some = kept.some;
  small = c.small;
  inside = λ k lt. omega (arith, c.size, kept.places_in k lt);
  room = omega (arith, kept.den_is, mul-le (phase.lattice ^ length ps) 1 (phase.lattice ^ length ps) (factor_most phase.lattice form) (omega arith) (factor_most-low phase.lattice form kept.some));
}

pub site_counts : (phase : PhaseAt) (site : List (List ℕ)) → FitsSite (shape_of_phase phase) site → AreCounts phase.lattice (sites_of phase) (concat site)
site_counts phase site fits = record { size = site_length site ∙ ap sum fits.widths; small = site_small phase.lattice site fits.counts }

pub lows_fit : (phase : PhaseAt) (box : List (List Range)) → FitsBox (shape_of_phase phase) box → FitsSite (shape_of_phase phase) (lows_of box)
lows_fit phase box fits = record { widths = lows_shape box ∙ fits.widths; counts = lows_small phase.lattice box fits.ranges }

pub highs_fit : (phase : PhaseAt) (box : List (List Range)) → FitsBox (shape_of_phase phase) box → FitsSite (shape_of_phase phase) (highs_of box)
highs_fit phase box fits = record { widths = highs_shape box ∙ fits.widths; counts = highs_small phase.lattice box fits.ranges }

pub low_counts : (phase : PhaseAt) (box : List (List Range)) → FitsBox (shape_of_phase phase) box → AreCounts phase.lattice (sites_of phase) (concat (lows_of box))
low_counts phase box fits = site_counts phase (lows_of box) (lows_fit phase box fits)

pub high_counts : (phase : PhaseAt) (box : List (List Range)) → FitsBox (shape_of_phase phase) box → AreCounts phase.lattice (sites_of phase) (concat (highs_of box))
high_counts phase box fits = site_counts phase (highs_of box) (highs_fit phase box fits)

form_kept : (n sites : ℕ) (form : Form) → ((m o i j : ℕ) → form ≡ Ternary m o i j → (o < sites) × (i < sites) × (j < sites) × (m ≡ n)) → IsFormOf n form
form_kept n sites Plain t = tt
form_kept n sites (Binary i j v) t = tt
form_kept n sites (Ternary m o i j) t = (t m o i j refl).3

products : (phase : PhaseAt) (p : ParamAt) (ps : List ℕ) (form : Form) (share : Share) (low high : List ℕ) → IsKept phase p ps form share → AreCounts phase.lattice (sites_of phase) low → AreCounts phase.lattice (sites_of phase) high → AreProducts phase.lattice ps form low high
products phase p ps form share low high kept l h = products_size phase.lattice ps form low high (form_kept phase.lattice (sites_of phase) form kept.ternary_in) l.small h.small

pub value_room : (phase : PhaseAt) (p : ParamAt) (ps : List ℕ) (form : Form) (share : Share) (counts : List ℕ) → IsKept phase p ps form share → AreCounts phase.lattice (sites_of phase) counts → product_at counts ps * unsigned_abs (factor_at form counts) ≤ den share
value_room phase p ps form share counts kept c = omega (arith, kept.den_is, (products phase p ps form share counts counts kept c c).value)

pub least_room : (phase : PhaseAt) (p : ParamAt) (ps : List ℕ) (form : Form) (share : Share) (low high : List ℕ) → IsKept phase p ps form share → AreCounts phase.lattice (sites_of phase) low → AreCounts phase.lattice (sites_of phase) high →
    product_at (counts_for (least_factor_at form low high) low high) ps * unsigned_abs (least_factor_at form low high) ≤ den share
least_room phase p ps form share low high kept l h =
    let are = products phase p ps form share low high kept l h in
    omega (arith, kept.den_is, size_chosen (least_factor_at form low high) low high ps _ are.low_least are.high_least)

pub greatest_room : (phase : PhaseAt) (p : ParamAt) (ps : List ℕ) (form : Form) (share : Share) (low high : List ℕ) → IsKept phase p ps form share → AreCounts phase.lattice (sites_of phase) low → AreCounts phase.lattice (sites_of phase) high →
    product_at (counts_for (greatest_factor_at form low high) high low) ps * unsigned_abs (greatest_factor_at form low high) ≤ den share
greatest_room phase p ps form share low high kept l h =
    let are = products phase p ps form share low high kept l h in
    omega (arith, kept.den_is, size_chosen (greatest_factor_at form low high) high low ps _ are.high_greatest are.low_greatest)
