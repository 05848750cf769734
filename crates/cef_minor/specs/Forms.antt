-- Which parameters have an affine minorant, and which it is.
use Rattle.std.specs.Prelude.{ℕ, zero, suc, ◌*◌, ◌^◌, nat_lt, List, [], ◌∷◌, length, map, sum, slice_index, Bool, true, false, ◌&&◌, ℤ}
use Rattle.std.specs.List.{concat}
use Rattle.cef_core.specs.declared.phase.ParamAt.{ParamAt}
use Rattle.cef_core.specs.declared.phase.PhaseAt.{PhaseAt}
use Rattle.cef_box.specs.declared.range.Range.{Range}
use Rattle.cef_core.specs.Energies.{is_energy}
use Rattle.cef_core.specs.Parameters.{interacting, factor_divisor}
use Rattle.cef_core.specs.Shapes.{shape, places}
use Rattle.cef_box.specs.Boxes.{lows_of, highs_of}
use Rattle.cef_term.specs.Kept.{placed}
use Rattle.cef_minor.specs.declared.interaction.Interaction.{Interaction}
use Rattle.cef_minor.specs.declared.interaction.Interaction.TheVariants.{Alone, Pair, Triple, TwoPairs, Larger}
use Rattle.cef_minor.specs.Planes.{Plane, plane_of, height_of}
use Rattle.cef_minor.specs.Products.{SignedProduct, form_of, products_of}

-- how many constituents interact, by the sizes of the lists of two or more
abbrev pub interaction_of : List ℕ → Interaction
interaction_of [] = Alone
interaction_of (suc (suc zero) ∷ []) = Pair
interaction_of (suc (suc (suc zero)) ∷ []) = Triple
interaction_of (suc (suc zero) ∷ suc (suc zero) ∷ []) = TwoPairs
interaction_of sizes = Larger

-- The forms whose q is a sum of products of counts: one constituent in each list; two lists of two; one list of two with the
-- order 0 or 1; one list of three, where it is not weighted, or is with an order of 0 to 2.
abbrev pub is_form : ℕ → Bool → Interaction → Bool
is_form order weighted Alone = true
is_form order weighted Pair = nat_lt order 2
is_form order true Triple = nat_lt order 3
is_form order false Triple = true
is_form order weighted TwoPairs = true
is_form order weighted Larger = false

-- a parameter of the energy, of one of these forms
unfoldable pub is_affine : ParamAt → Bool
is_affine p = is_energy p.kind && is_form p.order p.weighted (interaction_of (map length (interacting p.array)))

-- the sites of each list of a parameter's array
abbrev pub sites_of : PhaseAt → ParamAt → List (List ℕ)
sites_of phase p = placed 0 (shape phase.sites) p.array

-- the divisor of its value
abbrev pub divisor_of : PhaseAt → ParamAt → ℕ
divisor_of phase p =
    let lists = sites_of phase p in
    phase.lattice ^ length (concat lists) * factor_divisor phase.lattice p.order p.weighted (interacting lists)

-- its signed products
abbrev pub products_at : PhaseAt → ParamAt → List SignedProduct
products_at phase p =
    let lists = sites_of phase p in
    products_of phase.lattice (form_of p.order p.weighted (interacting lists)) (concat lists)

-- the count of a site in lists of counts, and its low and its high in a box
abbrev pub count_at : List (List ℕ) → ℕ → ℕ
count_at counts site = slice_index (concat counts) site

abbrev pub low_at : List (List Range) → ℕ → ℕ
low_at box = count_at (lows_of box)

abbrev pub high_at : List (List Range) → ℕ → ℕ
high_at box = count_at (highs_of box)

-- The minorant of a parameter on a box of its phase.
unfoldable pub plane_at : PhaseAt → ParamAt → List (List Range) → Plane
plane_at phase p box =
    plane_of
    (places phase.sites)
    p.micro
    (divisor_of phase p)
    (low_at box)
    (high_at box)
    (concat (sites_of phase p))
    (products_at phase p)

-- the slope that it has at a site, and its constant
abbrev pub slope_at : PhaseAt → ParamAt → List (List Range) → ℕ → ℤ
slope_at phase p box = (plane_at phase p box).slope

abbrev pub constant_of : PhaseAt → ParamAt → List (List Range) → ℤ
constant_of phase p box = (plane_at phase p box).constant

-- constant + sum over the sites of slope * count
abbrev pub height_at : PhaseAt → ParamAt → List (List Range) → List (List ℕ) → ℤ
height_at phase p box site = height_of (places phase.sites) (plane_at phase p box) (count_at site)
