-- What a term's parts give: room for its factor and its products, and its value by them.
use Rattle.std.proofs.Common.{◌≡◌, ℕ, ◌*◌, ◌≤◌, List, ap, sym, ◌∙◌}
use Rattle.std.specs.Prelude.{ℤ, pos, ◌*ℤ◌, ◌≤ℤ◌, ◌<ℤ◌, unsigned_abs}
use Rattle.std.specs.List.{concat}
use Rattle.std.proofs.lemmas.Int.{to_z-of_z}
use Rattle.cef_core.specs.Parameters.{parameter_value}
use Rattle.cef_box.specs.declared.range.Range.{Range}
use Rattle.cef_box.specs.Boxes.{lows_of, highs_of}
use Rattle.cef_box.specs.Terms.{FitsSite, FitsBox, shape_of_phase}
use Rattle.cef_term.specs.declared.param_term.ParamTerm.{ParamTerm}
use Rattle.cef_term.specs.Bounds.{value_of, parameter_low, parameter_high}
use Rattle.cef_term.specs.Kept.{product_at, factor_at, least_factor_at, greatest_factor_at, counts_for, sites_of, den, micro_of, HasFactor, HasProduct}
use Rattle.cef_term.specs.Counted.{AreCountsOf, least_value, greatest_value}
use Rattle.cef_term.proofs.Choosing.{counts_chosen, least_by_counts, greatest_by_counts}
use Rattle.cef_term.proofs.Keeping.{has_factor, has_product, site_counts, low_counts, high_counts, value_room, least_room, greatest_room}
use Rattle.cef_term.proofs.Roomy.{low_of-below, low_of-above, high_of-below, high_of-above}

-- at the least product of counts and factor
pub factor_room : (t : ParamTerm) (low high : List ℕ) → AreCountsOf t low → AreCountsOf t high → HasFactor t.form low high
factor_room t low high l h = has_factor t.phase.now t.parameter.now t.places.items t.form t.share low high t.valid l h

pub least_product_room : (t : ParamTerm) (low high counts places : List ℕ) (factor : ℤ) → places ≡ t.places.items → counts ≡ counts_for factor low high → AreCountsOf t low → AreCountsOf t high → HasProduct (den t.share) counts places
least_product_room t low high counts places factor p c l h = rw (p, c) (has_product t.phase.now t.parameter.now t.places.items t.form t.share (counts_for factor low high) t.valid (counts_chosen t.phase.now.lattice (sites_of t.phase.now) factor low high l h))

pub least_share_room : (t : ParamTerm) (low high counts places : List ℕ) (factor : ℤ) → places ≡ t.places.items → counts ≡ counts_for factor low high → factor ≡ least_factor_at t.form low high → AreCountsOf t low → AreCountsOf t high → product_at counts places * unsigned_abs factor ≤ den t.share
least_share_room t low high counts places factor p c f l h = rw (p, c, f) (least_room t.phase.now t.parameter.now t.places.items t.form t.share low high t.valid l h)

pub least_value_is : (t : ParamTerm) (low high counts places : List ℕ) (factor : ℤ) → places ≡ t.places.items → counts ≡ counts_for factor low high → factor ≡ least_factor_at t.form low high →
    value_of (micro_of t.share) (den t.share) (pos (product_at counts places) *ℤ factor) ≡ least_value t low high
least_value_is t low high counts places factor p c f = rw (p, c, f, t.valid.micro_is) (ap (λ q. value_of t.parameter.now.micro (den t.share) q) (least_by_counts (least_factor_at t.form low high) low high t.places.items))

pub greatest_share_room : (t : ParamTerm) (low high counts places : List ℕ) (factor : ℤ) → places ≡ t.places.items → counts ≡ counts_for factor high low → factor ≡ greatest_factor_at t.form low high → AreCountsOf t low → AreCountsOf t high → product_at counts places * unsigned_abs factor ≤ den t.share
greatest_share_room t low high counts places factor p c f l h = rw (p, c, f) (greatest_room t.phase.now t.parameter.now t.places.items t.form t.share low high t.valid l h)

pub greatest_value_is : (t : ParamTerm) (low high counts places : List ℕ) (factor : ℤ) → places ≡ t.places.items → counts ≡ counts_for factor high low → factor ≡ greatest_factor_at t.form low high →
    value_of (micro_of t.share) (den t.share) (pos (product_at counts places) *ℤ factor) ≡ greatest_value t low high
greatest_value_is t low high counts places factor p c f = rw (p, c, f, t.valid.micro_is) (ap (λ q. value_of t.parameter.now.micro (den t.share) q) (greatest_by_counts (greatest_factor_at t.form low high) low high t.places.items))

-- at the counts of a site
pub site_factor : (t : ParamTerm) (site : List (List ℕ)) (counts : List ℕ) → counts ≡ concat site → FitsSite (shape_of_phase t.phase.now) site → HasFactor t.form counts counts
site_factor t site counts c fits = let are = site_counts t.phase.now site fits in rw c (factor_room t (concat site) (concat site) are are)

pub site_product : (t : ParamTerm) (site : List (List ℕ)) (counts places : List ℕ) → counts ≡ concat site → places ≡ t.places.items → FitsSite (shape_of_phase t.phase.now) site → HasProduct (den t.share) counts places
site_product t site counts places c p fits = rw (c, p) (has_product t.phase.now t.parameter.now t.places.items t.form t.share (concat site) t.valid (site_counts t.phase.now site fits))

pub site_room : (t : ParamTerm) (site : List (List ℕ)) (counts places : List ℕ) (factor : ℤ) → counts ≡ concat site → places ≡ t.places.items → factor ≡ factor_at t.form counts → FitsSite (shape_of_phase t.phase.now) site → product_at counts places * unsigned_abs factor ≤ den t.share
site_room t site counts places factor c p f fits = rw (f, c, p) (value_room t.phase.now t.parameter.now t.places.items t.form t.share (concat site) t.valid (site_counts t.phase.now site fits))

pub site_value : (t : ParamTerm) (site : List (List ℕ)) (counts places : List ℕ) (factor : ℤ) → counts ≡ concat site → places ≡ t.places.items → factor ≡ factor_at t.form counts → FitsSite (shape_of_phase t.phase.now) site →
    value_of (micro_of t.share) (den t.share) (pos (product_at counts places) *ℤ factor) ≡ parameter_value t.phase.now.lattice t.parameter.now site
site_value t site counts places factor c p f fits = rw (f, c, p, t.valid.micro_is) (sym (t.valid.value_is site fits))

-- over a box
pub box_low : (t : ParamTerm) (box : List (List Range)) (low : List ℕ) → low ≡ concat (lows_of box) → FitsBox (shape_of_phase t.phase.now) box → AreCountsOf t low
box_low t box low e fits = rw e (low_counts t.phase.now box fits)

pub box_high : (t : ParamTerm) (box : List (List Range)) (high : List ℕ) → high ≡ concat (highs_of box) → FitsBox (shape_of_phase t.phase.now) box → AreCountsOf t high
box_high t box high e fits = rw e (high_counts t.phase.now box fits)

pub low_at_greatest : (t : ParamTerm) (box : List (List Range)) (low high : List ℕ) → low ≡ concat (lows_of box) → high ≡ concat (highs_of box) → FitsBox (shape_of_phase t.phase.now) box → t.parameter.now.micro <ℤ pos 0 →
    greatest_value t low high ≡ parameter_low t.phase.now.lattice t.parameter.now box
low_at_greatest t box low high l h fits below = rw (l, h) (low_of-below t.parameter.now.micro (den t.share) _ _ below ∙ sym (t.valid.low_is box fits))

pub low_at_least : (t : ParamTerm) (box : List (List Range)) (low high : List ℕ) → low ≡ concat (lows_of box) → high ≡ concat (highs_of box) → FitsBox (shape_of_phase t.phase.now) box → pos 0 ≤ℤ t.parameter.now.micro →
    least_value t low high ≡ parameter_low t.phase.now.lattice t.parameter.now box
low_at_least t box low high l h fits above = rw (l, h) (low_of-above t.parameter.now.micro (den t.share) _ _ above ∙ sym (t.valid.low_is box fits))

pub high_at_least : (t : ParamTerm) (box : List (List Range)) (low high : List ℕ) → low ≡ concat (lows_of box) → high ≡ concat (highs_of box) → FitsBox (shape_of_phase t.phase.now) box → t.parameter.now.micro <ℤ pos 0 →
    least_value t low high ≡ parameter_high t.phase.now.lattice t.parameter.now box
high_at_least t box low high l h fits below = rw (l, h) (high_of-below t.parameter.now.micro (den t.share) _ _ below ∙ sym (t.valid.high_is box fits))

pub high_at_greatest : (t : ParamTerm) (box : List (List Range)) (low high : List ℕ) → low ≡ concat (lows_of box) → high ≡ concat (highs_of box) → FitsBox (shape_of_phase t.phase.now) box → pos 0 ≤ℤ t.parameter.now.micro →
    greatest_value t low high ≡ parameter_high t.phase.now.lattice t.parameter.now box
high_at_greatest t box low high l h fits above = rw (l, h) (high_of-above t.parameter.now.micro (den t.share) _ _ above ∙ sym (t.valid.high_is box fits))

pub ruleset least_rules = (factor_room, least_product_room, least_share_room, least_value_is, to_z-of_z)

pub ruleset greatest_rules = (factor_room, least_product_room, greatest_share_room, greatest_value_is, to_z-of_z)

pub ruleset value_rules = (site_factor, site_product, site_room, site_value, to_z-of_z)

pub ruleset low_rules = (low_at_greatest, low_at_least, to_z-of_z)

pub ruleset high_rules = (high_at_greatest, high_at_least, to_z-of_z)
