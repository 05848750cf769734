-- What amounts are worth at potentials is linear in the amounts.
use Rattle.std.proofs.Common.{◌≡◌, ℕ, zero, suc, ◌<◌, List, [], ◌∷◌, length, refl, ap, sym, ◌∙◌, arith}
use Rattle.std.specs.Prelude.{ℤ, pos, ◌+ℤ◌, ◌*ℤ◌}
use Rattle.std.proofs.lemmas.Int.{ints}
use Rattle.cal_math.specs.Vectors.{at, sum_to, dot}
use Rattle.cal_math.proofs.Vectors.{dot-zero, dot-plus, dot-scale, dot_same}
use Rattle.cef_core.specs.Worth.{worth}

pub worth-dot : (ms : List ℤ) (f : ℕ → ℤ) → worth ms f ≡ dot (length ms) (at ms) f
worth-dot ms f = refl

pub worth-zero : (ms : List ℤ) → worth ms (λ c. pos 0) ≡ pos 0
worth-zero ms = dot-zero (length ms) (at ms)

pub worth-add : (ms : List ℤ) (f g : ℕ → ℤ) → worth ms (λ c. f c +ℤ g c) ≡ worth ms f +ℤ worth ms g
worth-add ms f g = dot-plus (length ms) (at ms) f g

pub worth-scale : (ms : List ℤ) (a : ℤ) (f : ℕ → ℤ) → worth ms (λ c. a *ℤ f c) ≡ a *ℤ worth ms f
worth-scale ms a f = dot-scale (length ms) a (at ms) f

pub worth_same : (ms : List ℤ) (f g : ℕ → ℤ) → ((c : ℕ) → c < length ms → f c ≡ g c) → worth ms f ≡ worth ms g
worth_same ms f g same = dot_same (length ms) (at ms) f (at ms) g (λ c lt. refl) same

pub sum-first : (n : ℕ) (f : ℕ → ℤ) → sum_to (suc n) f ≡ f 0 +ℤ sum_to n (λ c. f (suc c))
sum-first zero f = omega (arith, ints)
sum-first (suc n) f = omega (arith, ints, sum-first n f)

pub worth-cons : (m : ℤ) (ms : List ℤ) (f : ℕ → ℤ) → worth (m ∷ ms) f ≡ m *ℤ f 0 +ℤ worth ms (λ c. f (suc c))
unfolding dot
worth-cons m ms f = sum-first (length ms) (λ c. at (m ∷ ms) c *ℤ f c)

pub worth-nil : (f : ℕ → ℤ) → worth [] f ≡ pos 0
unfolding dot
worth-nil f = refl
