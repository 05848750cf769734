-- A sum over sites of the slopes gathered there is the sum over the places.
use Rattle.std.proofs.Common.{◌≡◌, ℕ, zero, suc, ◌<◌, arith, refl, ap, sym, ◌∙◌, List, [], ◌∷◌, inl, inr}
use Rattle.std.specs.Prelude.{ℤ, pos, ◌+ℤ◌, ◌-ℤ◌, ◌*ℤ◌, nat_eq, if◌then◌else◌, ◌≢◌}
use Rattle.std.specs.List.{AllByRecursion}
use Rattle.std.proofs.lemmas.Int.{ints}
use Rattle.std.proofs.lemmas.Bool.Decides.{eqb_tells}
use Rattle.std.proofs.lemmas.Bool.{eq-eqb, ne_eqb}
use Rattle.cal_math.specs.Whole.{*ℤ_comm, *ℤ-+ℤ, *ℤ--ℤ}
use Rattle.cef_minor.specs.Planes.{sum_to}
use Rattle.cef_minor.specs.Slopes.{SlopeAt, site_slope, rise_of}

pub sum-same : (n : ℕ) (f g : ℕ → ℤ) → ((i : ℕ) → i < n → f i ≡ g i) → sum_to n f ≡ sum_to n g
sum-same zero f g h = refl
sum-same (suc n) f g h = omega (arith, ints, sum-same n f g (λ i lt. h i (omega arith)), h n (omega arith))

pub sum-add : (n : ℕ) (f g : ℕ → ℤ) → sum_to n (λ i. f i +ℤ g i) ≡ sum_to n f +ℤ sum_to n g
sum-add zero f g = omega (arith, ints)
sum-add (suc n) f g = omega (arith, ints, sum-add n f g)

pub sum-zero : (n : ℕ) (f : ℕ → ℤ) → ((i : ℕ) → i < n → f i ≡ pos 0) → sum_to n f ≡ pos 0
sum-zero zero f h = refl
sum-zero (suc n) f h = omega (arith, ints, sum-zero n f (λ i lt. h i (omega arith)), h n (omega arith))

-- what one place gives to site i
abbrev pub share : SlopeAt → ℕ → ℤ
share s i = if nat_eq s.site i then s.slope else pos 0

pub share_here : (s : SlopeAt) (i : ℕ) → s.site ≡ i → share s i ≡ s.slope
share_here s i e = rw (eq-eqb s.site i e) refl

pub share_elsewhere : (s : SlopeAt) (i : ℕ) (x : ℤ) → s.site ≢ i → share s i *ℤ x ≡ pos 0
share_elsewhere s i x e = rw (ne_eqb s.site i e) (omega (arith, ints))

pub one_share : (n : ℕ) (s : SlopeAt) (x : ℕ → ℤ) → s.site < n → sum_to n (λ i. share s i *ℤ x i) ≡ s.slope *ℤ x s.site
one_share zero s x h = absurd (omega arith)
one_share (suc n) s x h = elim (eqb_tells s.site n) [
  | inl same ↦
      let none : sum_to n (λ i. share s i *ℤ x i) ≡ pos 0 = sum-zero n (λ i. share s i *ℤ x i) (λ i lt. share_elsewhere s i (x i) (λ e. absurd (omega (arith, e, same.1)))) in
      let here : share s n *ℤ x n ≡ s.slope *ℤ x s.site = ap (λ z. z *ℤ x n) (share_here s n same.1) ∙ ap (λ i. s.slope *ℤ x i) (sym same.1) in
      omega (arith, ints, none, here)
  | inr other ↦
      let less : s.site < n = omega (arith, other.1) in
      omega (arith, ints, one_share n s x less, share_elsewhere s n (x n) other.1)
]

pub sites_from_places : (n : ℕ) (slopes : List SlopeAt) (x : ℕ → ℤ) → AllByRecursion (λ (s : SlopeAt). s.site < n) slopes → sum_to n (λ i. site_slope slopes i *ℤ x i) ≡ rise_of x slopes
sites_from_places n [] x all = sum-zero n _ (λ i lt. omega (arith, ints))
sites_from_places n (s ∷ slopes) x all =
    let parted : (i : ℕ) → site_slope (s ∷ slopes) i *ℤ x i ≡ share s i *ℤ x i +ℤ site_slope slopes i *ℤ x i = λ i.
    *ℤ_comm (share s i +ℤ site_slope slopes i) (x i) ∙ *ℤ-+ℤ (x i) (share s i) (site_slope slopes i) ∙ ap (λ z. z +ℤ x i *ℤ site_slope slopes i) (*ℤ_comm (x i) (share s i)) ∙ ap (λ z. share s i *ℤ x i +ℤ z) (*ℤ_comm (x i) (site_slope slopes i)) in
    sum-same n (λ i. site_slope (s ∷ slopes) i *ℤ x i) (λ i. share s i *ℤ x i +ℤ site_slope slopes i *ℤ x i) (λ i lt. parted i)
    ∙ sum-add n (λ i. share s i *ℤ x i) (λ i. site_slope slopes i *ℤ x i)
    ∙ ap (λ z. z +ℤ sum_to n (λ i. site_slope slopes i *ℤ x i)) (one_share n s x all.0)
    ∙ ap (λ z. s.slope *ℤ x s.site +ℤ z) (sites_from_places n slopes x all.1)

pub rise-sub : (x y : ℕ → ℤ) (slopes : List SlopeAt) → rise_of (λ i. x i -ℤ y i) slopes ≡ rise_of x slopes -ℤ rise_of y slopes
rise-sub x y [] = omega (arith, ints)
rise-sub x y (s ∷ slopes) = omega (arith, ints, rise-sub x y slopes, *ℤ--ℤ s.slope (x s.site) (y s.site))
