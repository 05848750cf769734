-- The minorant of a parameter is below it throughout its box, and equal to it on one list.
use Rattle.std.proofs.Common.{◌≡◌, ℕ, ◌*◌, ◌^◌, ◌<◌, ◌≤◌, List, [], ◌∷◌, ◌++◌, length, map, refl, arith, ap, sym, ◌∙◌, Bool, true, false}
use Rattle.std.specs.Prelude.{ℤ, pos, ◌+ℤ◌, ◌*ℤ◌, ◌≤ℤ◌, slice_index, sum, unsigned_abs, if◌then◌else◌}
use Rattle.std.specs.List.{concat, AllByRecursion}
use Rattle.std.proofs.lemmas.Bool.{eq-eqb}
use Rattle.std.proofs.lemmas.Int.{ints}
use Rattle.cef_core.specs.declared.phase.ParamAt.{ParamAt}
use Rattle.cef_core.specs.declared.phase.PhaseAt.{PhaseAt}
use Rattle.cef_box.specs.declared.range.Range.{Range}
use Rattle.cef_core.specs.Parameters.{interacting, parameter_value, picked, product_of, product_over}
use Rattle.cef_core.specs.Shapes.{shape, places}
use Rattle.cef_box.specs.Boxes.{lows_of, highs_of, IsMember, IsSingle}
use Rattle.cef_term.proofs.Given.{lattice_some}
use Rattle.cef_term.proofs.Keeping.{low_counts, high_counts}
use Rattle.cef_term.proofs.Laws.{lows_below, highs_above, member_shape}
use Rattle.cef_term.proofs.Linked.{counted}
use Rattle.cef_term.proofs.Picking.{picked_is, interacting_is, lengths_are, concat_below, interacting_all}
use Rattle.cef_minor.specs.declared.form.Form.{Form}
use Rattle.cef_minor.specs.Forms.{plane_at, sites_of, divisor_of, products_at, low_at, high_at, count_at, height_at}
use Rattle.cef_minor.specs.Kept.{factor_most}
use Rattle.cef_minor.specs.Laws.{HasMinorant, MinorantIsBelow, MinorantIsExact, SlopesAreSmall, ConstantIsSmall}
use Rattle.cef_minor.specs.Planes.{IsWithin, are_fixed, height_of, level_plane, plane_of, sloping_plane, sum_to}
use Rattle.cef_minor.specs.Products.{SignedProduct, AreOver, IsAmong, product_at, products_of, q_of, value_of}
use Rattle.cef_minor.proofs.Below.{plane_is_below, q_same}
use Rattle.cef_minor.proofs.Bounds.{plane_slopes, plane_constant}
use Rattle.cef_minor.proofs.Given.{all_of, mixed_of, form_at, order_is, sites_below, divisor_some, lattice_ten, lattice_thousand, few_sites}
use Rattle.cef_minor.proofs.Levels.{product-append, q_is}
use Rattle.cef_minor.proofs.Linked.{linked, form_has, form_in, products_over, lists_among}
use Rattle.cef_minor.proofs.Sites.{sum-zero}

product_of-map : (count : ℕ → ℕ) (sites : List ℕ) → product_of (map count sites) ≡ product_at count sites
product_of-map count [] = refl
product_of-map count (site ∷ sites) = rw (product_of-map count sites) refl

product_over-map : (count : ℕ → ℕ) (lists : List (List ℕ)) → product_over (map (λ ks. map count ks) lists) ≡ product_at count (concat lists)
product_over-map count [] = refl
product_over-map count (sites ∷ lists) = rw (product_of-map count sites, product_over-map count lists) (sym (product-append count sites (concat lists)))

-- a parameter's value is that of the sum of its products
value_is : (phase : PhaseAt) (p : ParamAt) (box : List (List Range)) (site : List (List ℕ)) → HasMinorant phase p box → shape site ≡ shape phase.sites → parameter_value phase.lattice p site ≡ value_of p.micro (divisor_of phase p) (q_of (count_at site) (products_at phase p))
unfolding parameter_value
value_is phase p box site has same =
    let count : ℕ → ℕ = count_at site in
    let lists : List (List ℕ) = sites_of phase p in
    let taken : picked p.array site ≡ counted (concat site) lists = picked_is [] (shape phase.sites) p.array site same has.parameter.places in
    let mixed : interacting (counted (concat site) lists) ≡ counted (concat site) (interacting lists) = interacting_is (λ q. slice_index (concat site) q) lists in
    let l = linked phase.lattice p.order p.weighted (interacting lists) count (order_is phase p box has) in
    rw (taken, mixed, lengths_are (concat site) lists, product_over-map count lists, l.factor, l.divisor, q_is phase.lattice count (form_at phase p) (concat lists)) refl

products_among : (phase : PhaseAt) (p : ParamAt) → AreOver (all_of phase p) (products_at phase p)
products_among phase p =
    let all : List ℕ = all_of phase p in
    products_over phase.lattice (form_at phase p) all (form_has (IsAmong all) p.order p.weighted (mixed_of phase p) (interacting_all (AllByRecursion (IsAmong all)) (sites_of phase p) (lists_among (IsAmong all) (sites_of phase p) (λ x h. h))))

den_is : (phase : PhaseAt) (p : ParamAt) (box : List (List Range)) → HasMinorant phase p box → divisor_of phase p ≡ phase.lattice ^ length (all_of phase p) * factor_most phase.lattice (form_at phase p)
den_is phase p box has = ap (λ d. phase.lattice ^ length (all_of phase p) * d) (linked phase.lattice p.order p.weighted (mixed_of phase p) (λ i. 0) (order_is phase p box has)).most

den_some : (phase : PhaseAt) (p : ParamAt) (box : List (List Range)) → HasMinorant phase p box → 1 ≤ divisor_of phase p
den_some phase p box has = rw (den_is phase p box has) (divisor_some phase.lattice (length (all_of phase p)) (form_at phase p) (lattice_some phase.lattice has.fine.keeps.lattice))

within_box : (phase : PhaseAt) (box : List (List Range)) (site : List (List ℕ)) → IsMember phase.lattice box site → IsWithin (low_at box) (high_at box) (count_at site)
within_box phase box site member = λ i. (lows_below phase.lattice box site member i, highs_above phase.lattice box site member i)

pub minorant_is_below : MinorantIsBelow
unfolding plane_at
minorant_is_below phase p box site has member =
    let same : shape site ≡ shape phase.sites = member_shape phase.lattice box site member ∙ has.fits.widths in
    rw (value_is phase p box site has same)
    (plane_is_below (places phase.sites) p.micro (divisor_of phase p) (low_at box) (high_at box) (count_at site) (all_of phase p) (products_at phase p)
    (den_some phase p box has)
    (within_box phase box site member)
    (concat_below (places phase.sites) (sites_of phase p) (sites_below phase p has.parameter))
    (products_among phase p))

all_fixed : (low high : ℕ → ℕ) (sites : List ℕ) → ((i : ℕ) → low i ≡ high i) → are_fixed low high sites ≡ true
all_fixed low high [] h = refl
all_fixed low high (site ∷ sites) h = rw (eq-eqb (low site) (high site) (h site)) (all_fixed low high sites h)

level_height : (n : ℕ) (micro : ℤ) (den : ℕ) (low count : ℕ → ℕ) (products : List SignedProduct) → q_of count products ≡ q_of low products → height_of n (level_plane micro den low products) count ≡ pos 65536 *ℤ value_of micro den (q_of count products)
level_height n micro den low count products same =
    let flat : sum_to n (λ i. pos 0 *ℤ pos (count i)) ≡ pos 0 = sum-zero n (λ i. pos 0 *ℤ pos (count i)) (λ i lt. omega (arith, ints)) in
    omega (arith, ints, flat, ap (λ q. pos 65536 *ℤ value_of micro den q) same)

fixed_height : (n : ℕ) (micro : ℤ) (den : ℕ) (low high count : ℕ → ℕ) (all : List ℕ) (products : List SignedProduct) → are_fixed low high all ≡ true → q_of count products ≡ q_of low products → height_of n (plane_of n micro den low high all products) count ≡ pos 65536 *ℤ value_of micro den (q_of count products)
fixed_height n micro den low high count all products e same = rw e (level_height n micro den low count products same)

all_same : (P : ℕ → Type 0) (xs : List ℕ) → ((i : ℕ) → P i) → AllByRecursion P xs
all_same P [] h = tt
all_same P (x ∷ xs) h = (h x, all_same P xs h)

pub minorant_is_exact : MinorantIsExact
unfolding plane_at
minorant_is_exact phase p box site has member single =
    let same : shape site ≡ shape phase.sites = member_shape phase.lattice box site member ∙ has.fits.widths in
    let one : (i : ℕ) → low_at box i ≡ high_at box i = λ i. ap (λ (rows : List (List ℕ)). slice_index (concat rows) i) single in
    let within = within_box phase box site member in
    let counts : (i : ℕ) → count_at site i ≡ low_at box i = λ i. omega (arith, (within i).0, (within i).1, one i) in
    let q : q_of (count_at site) (products_at phase p) ≡ q_of (low_at box) (products_at phase p) = q_same (low_at box) (count_at site) (all_of phase p) (products_at phase p) (all_same (λ i. count_at site i ≡ low_at box i) (all_of phase p) counts) (products_among phase p) in
    fixed_height (places phase.sites) p.micro (divisor_of phase p) (low_at box) (high_at box) (count_at site) (all_of phase p) (products_at phase p) (all_fixed (low_at box) (high_at box) (all_of phase p) one) q
    ∙ ap (λ v. pos 65536 *ℤ v) (sym (value_is phase p box site has same))

pub slopes_are_small : SlopesAreSmall
unfolding plane_at
slopes_are_small phase p box site has =
    plane_slopes (places phase.sites) p.micro (divisor_of phase p) phase.lattice (low_at box) (high_at box) (form_at phase p) (all_of phase p) site
    (lattice_ten phase.lattice has.fine.keeps.lattice)
    (den_some phase p box has)
    (low_counts phase box has.fits).small
    (high_counts phase box has.fits).small
    (few_sites phase p box has has.degree)
    (den_is phase p box has)

pub constant_is_small : ConstantIsSmall
unfolding plane_at
constant_is_small phase p box has =
    plane_constant (places phase.sites) p.micro (divisor_of phase p) phase.lattice (low_at box) (high_at box) (form_at phase p) (all_of phase p)
    (lattice_ten phase.lattice has.fine.keeps.lattice)
    (lattice_thousand phase.lattice has.fine.keeps.lattice)
    (omega (arith, has.fine.sites))
    (form_in (places phase.sites) p.order p.weighted (mixed_of phase p) (interacting_all (AllByRecursion (λ s. s < places phase.sites)) (sites_of phase p) (sites_below phase p has.parameter)))
    (den_some phase p box has)
    (low_counts phase box has.fits).small
    (high_counts phase box has.fits).small
    (few_sites phase p box has has.degree)
    (den_is phase p box has)
