-- The products of an array have room, and their plane is that of the array.
use Rattle.std.proofs.Common.{◌≡◌, ℕ, suc, ◌+◌, ◌*◌, ◌^◌, ◌<◌, ◌≤◌, List, [], ◌∷◌, ◌++◌, length, refl, arith, ap, sym, ◌∙◌, Bool, true, false, inl, inr}
use Rattle.std.specs.Prelude.{ℤ, pos, negsuc, ◌+ℤ◌, ◌-ℤ◌, ◌*ℤ◌, unsigned_abs, ◌⊎◌, if◌then◌else◌}
use Rattle.std.specs.List.{AllByRecursion}
use Rattle.std.proofs.lemmas.Int.{ints, to_z-of_z}
use Rattle.std.proofs.lemmas.List.{length-append}
use Rattle.std.proofs.Math.Nat.{mul-le-mul_left, pow-suc}
use Rattle.cef_minor.specs.declared.form.Form.{Form}
use Rattle.cef_minor.specs.declared.form.Form.TheVariants.{Plain, Difference, Weighted}
use Rattle.cef_minor.specs.declared.frame.Frame.{Frame}
use Rattle.cef_minor.specs.Kept.{IsArray, IsFormIn, IsFrame, IsProduct, AreProducts, factor_most, factor_parts, low_of, high_of, parts_in, plane_in, slopes_in}
use Rattle.cef_minor.specs.Planes.{Plane, are_fixed, level_plane, plane_of, sloping_plane}
use Rattle.cef_minor.specs.Products.{SignedProduct, products_of, q_of, value_of}
use Rattle.cef_minor.specs.Raised.{AreRaised}
use Rattle.cef_minor.specs.Slopes.{site_slope}
use Rattle.cef_minor.proofs.Parts.{constant_from_parts}

pub joined_all : (P : ℕ → Type 0) (a b : List ℕ) → AllByRecursion P a → AllByRecursion P b → AllByRecursion P (a ++ b)
joined_all P [] b h k = k
joined_all P (x ∷ a) b h k = (h.0, joined_all P a b h.1 k)

-- the sites of an array alone, and with an added one
alone : (frame : Frame) (sites : ℕ) (coefficient : ℤ) (all : List ℕ) → AllByRecursion (λ site. site < sites) all → length all ≤ 21 → frame.parts ^ length all ≤ 2 ^ 70 → unsigned_abs coefficient * frame.parts ^ length all ≤ frame.den → IsProduct frame sites coefficient all
alone frame sites coefficient all within few power room = record { within = within; few = omega (arith, few); power = power; room = room }

more : (all : List ℕ) (site : ℕ) → length (all ++ site ∷ []) ≡ suc (length all)
more all site = length-append all (site ∷ []) ∙ omega arith

power_more : (n : ℕ) (all : List ℕ) (site : ℕ) → n ^ length (all ++ site ∷ []) ≡ n ^ length all * n
power_more n all site = ap (λ (k : ℕ). n ^ k) (more all site) ∙ pow-suc n (length all)

with_added : (frame : Frame) (sites : ℕ) (coefficient : ℤ) (all : List ℕ) (site : ℕ) → AllByRecursion (λ s. s < sites) all → site < sites → length all ≤ 21 → frame.parts ^ length all * frame.parts ≤ 2 ^ 70 → unsigned_abs coefficient * (frame.parts ^ length all * frame.parts) ≤ frame.den → IsProduct frame sites coefficient (all ++ site ∷ [])
with_added frame sites coefficient all site within inside few power room = record {
  within = joined_all (λ s. s < sites) all (site ∷ []) within (inside, tt);
  few = omega (arith, few, more all site);
  power = rw (power_more frame.parts all site) power;
  room = rw (power_more frame.parts all site) room;
}

own_in : (o i j k sites : ℕ) → i < sites → j < sites → k < sites → (o ≡ i) ⊎ (o ≡ j) ⊎ (o ≡ k) → o < sites
own_in o i j k sites p q r (inl e) = omega (arith, p, e)
own_in o i j k sites p q r (inr (inl e)) = omega (arith, q, e)
own_in o i j k sites p q r (inr (inr e)) = omega (arith, r, e)

pub products_fit : (frame : Frame) (sites : ℕ) (form : Form) (all : List ℕ) → IsArray frame sites form all → AreProducts frame sites (products_of frame.parts form all)
products_fit frame sites Plain all a = (alone frame sites (pos 1) all a.within a.few (omega (arith, a.power)) (omega (arith, a.den_is)), tt)
products_fit frame sites (Difference i j) all a =
    let m : ℕ = frame.parts ^ length all * frame.parts in (
      with_added frame sites (pos 1) all i a.within a.form_in.0 a.few a.power (omega (arith, a.den_is)),
      (with_added frame sites (negsuc 0) all j a.within a.form_in.1 a.few a.power (omega (arith, a.den_is)), tt),
    )
products_fit frame sites (Weighted o i j k) all a =
    let p : ℕ = frame.parts ^ length all in
    let n : ℕ = frame.parts in
    let den_is : frame.den ≡ 3 * (p * n) = a.den_is ∙ turned p n in
    let low : p ≤ p * n = least p n a.frame_keeps.some in (
      with_added frame sites (pos 3) all o a.within (own_in o i j k sites a.form_in.0 a.form_in.1 a.form_in.2 a.form_in.3) a.few a.power (omega (arith, den_is)),
      (
        alone frame sites (pos n) all a.within a.few (omega (arith, a.power, low)) (omega (arith, den_is, swapped n p)),
        (
          with_added frame sites (negsuc 0) all i a.within a.form_in.0 a.few a.power (omega (arith, den_is)),
          (
            with_added frame sites (negsuc 0) all j a.within a.form_in.1 a.few a.power (omega (arith, den_is)),
            (with_added frame sites (negsuc 0) all k a.within a.form_in.2 a.few a.power (omega (arith, den_is)), tt),
          ),
        ),
      ),
    )
  where
    turned : (p n : ℕ) → p * (3 * n) ≡ 3 * (p * n)
    turned p n = grind arith

    swapped : (n p : ℕ) → n * p ≡ p * n
    swapped n p = grind arith

    least : (p n : ℕ) → 1 ≤ n → p ≤ p * n
    least p n h = omega (arith, mul-le-mul_left p h)

pub products_within : (frame : Frame) (sites : ℕ) (products : List SignedProduct) → AreProducts frame sites products → AllByRecursion (λ (p : SignedProduct). AllByRecursion (λ site. site < sites) p.sites) products
products_within frame sites [] h = tt
products_within frame sites (p ∷ products) h = (h.0.within, products_within frame sites products h.1)

-- a sloping plane
pub sloping_is : (frame : Frame) (sites : ℕ) (form : Form) (all : List ℕ) → false ≡ are_fixed (low_of frame) (high_of frame) all → plane_in sites frame form all ≡ sloping_plane sites frame.micro frame.den (low_of frame) (high_of frame) (products_of frame.parts form all)
sloping_is frame sites form all e = rw (← e) refl

pub level_is : (frame : Frame) (sites : ℕ) (form : Form) (all : List ℕ) → true ≡ are_fixed (low_of frame) (high_of frame) all → plane_in sites frame form all ≡ level_plane frame.micro frame.den (low_of frame) (products_of frame.parts form all)
level_is frame sites form all e = rw (← e) refl

pub sloping_constant : (frame : Frame) (sites : ℕ) (form : Form) (all : List ℕ) (parts : ℤ) → IsArray frame sites form all → false ≡ are_fixed (low_of frame) (high_of frame) all → parts ≡ parts_in frame (products_of frame.parts form all) → parts -ℤ pos 65536 ≡ (plane_in sites frame form all).constant
sloping_constant frame sites form all parts a e h =
    ap (λ z. z -ℤ pos 65536) h
    ∙ constant_from_parts sites frame.micro frame.den (low_of frame) (high_of frame) (products_of frame.parts form all) (products_within frame sites (products_of frame.parts form all) (products_fit frame sites form all a))
    ∙ ap (λ (p : Plane). p.constant) (sym (sloping_is frame sites form all e))

pub sloping_slopes : (frame : Frame) (sites : ℕ) (form : Form) (all : List ℕ) (old new : List ℤ) → false ≡ are_fixed (low_of frame) (high_of frame) all → AreRaised (site_slope (slopes_in frame (products_of frame.parts form all))) old new → AreRaised (plane_in sites frame form all).slope old new
sloping_slopes frame sites form all old new e h = rw (sloping_is frame sites form all e) h

pub level_constant_is : (frame : Frame) (sites : ℕ) (form : Form) (all : List ℕ) (x : ℤ) → true ≡ are_fixed (low_of frame) (high_of frame) all → x ≡ pos 65536 *ℤ value_of frame.micro frame.den (q_of (low_of frame) (products_of frame.parts form all)) → x ≡ (plane_in sites frame form all).constant
level_constant_is frame sites form all x e h = h ∙ ap (λ (p : Plane). p.constant) (sym (level_is frame sites form all e))

pub level_slopes : (frame : Frame) (sites : ℕ) (form : Form) (all : List ℕ) (old : List ℤ) → true ≡ are_fixed (low_of frame) (high_of frame) all → AreRaised (plane_in sites frame form all).slope old old
level_slopes frame sites form all old e = rw (level_is frame sites form all e) (λ i. nothing _)
  where
    nothing : (x : ℤ) → x ≡ x +ℤ pos 0
    nothing x = omega (arith, ints)

pub ruleset plane_rules = (to_z-of_z)
