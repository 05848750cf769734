-- Products and sums of whole numbers that are kept in two halves.
use Rattle.std.proofs.Common.{◌≡◌, ℕ, zero, suc, List, [], ◌∷◌, length, refl, arith, ap, ◌∙◌}
use Rattle.std.specs.Prelude.{ℤ, pos, ◌+ℤ◌, ◌-ℤ◌, ◌*ℤ◌, ◌≤ℤ◌, ◌<ℤ◌}
use Rattle.std.proofs.lemmas.Int.{ints}
use Rattle.cal_math.specs.Whole.{*ℤ-+ℤ, *ℤ_comm, *ℤ_assoc}
use Rattle.cal_math.specs.Vectors.{at, sum_to, dot}
use Rattle.cef_core.specs.Worth.{worth}

-- (u*h + l)*t = u*(h*t) + l*t
pub halves_times : (u h l m t high low : ℤ) → m ≡ u *ℤ h +ℤ l → high ≡ h *ℤ t → low ≡ l *ℤ t → m *ℤ t ≡ u *ℤ high +ℤ low
halves_times u h l m t high low e eh el = rw (e, eh, el) (*ℤ_comm (u *ℤ h +ℤ l) t ∙ *ℤ-+ℤ t (u *ℤ h) l ∙ parts)
  where
    parts : t *ℤ (u *ℤ h) +ℤ t *ℤ l ≡ u *ℤ (h *ℤ t) +ℤ l *ℤ t
    parts = ap (λ z. z +ℤ t *ℤ l) (*ℤ_comm t (u *ℤ h) ∙ *ℤ_assoc u h t) ∙ ap (λ z. u *ℤ (h *ℤ t) +ℤ z) (*ℤ_comm t l)

-- the sum with one more part
pub halves_sum : (u h l rh rl high low : ℤ) (m t : ℤ) (rest : ℤ) → m *ℤ t ≡ u *ℤ h +ℤ l → rest ≡ u *ℤ rh +ℤ rl → high ≡ h +ℤ rh → low ≡ l +ℤ rl → m *ℤ t +ℤ rest ≡ u *ℤ high +ℤ low
halves_sum u h l rh rl high low m t rest e r eh el = rw (eh, el) (omega (arith, ints, e, r, *ℤ-+ℤ u h rh))

pub gap_from_height : (energy gap value : ℤ) → (pos 65536 *ℤ (energy -ℤ gap)) ≤ℤ value → (pos 65536 *ℤ energy -ℤ value) ≤ℤ (pos 65536 *ℤ gap)
gap_from_height energy gap value h = omega (arith, ints)

pub no_gap_from_height : (energy gap value : ℤ) → value <ℤ (pos 65536 *ℤ (energy -ℤ gap)) → (pos 65536 *ℤ energy -ℤ value) ≤ℤ (pos 65536 *ℤ gap) → ⊥
no_gap_from_height energy gap value h k = omega (arith, ints)

-- ---- what totals are worth, with one more component

sum_first : (n : ℕ) (f : ℕ → ℤ) → sum_to (suc n) f ≡ f 0 +ℤ sum_to n (λ c. f (suc c))
sum_first zero f = omega (arith, ints)
sum_first (suc n) f = omega (arith, ints, sum_first n f)

worth_first : (m t : ℤ) (ms ts : List ℤ) → worth (m ∷ ms) (at (t ∷ ts)) ≡ m *ℤ t +ℤ worth ms (at ts)
unfolding dot
worth_first m t ms ts = sum_first (length ms) (λ c. at (m ∷ ms) c *ℤ at (t ∷ ts) c)

worth_of_none : (ts : List ℤ) → worth [] (at ts) ≡ pos 0
unfolding dot
worth_of_none ts = refl

pub value_none : (ms ts : List ℤ) (u : ℤ) → length ms ≡ 0 → worth ms (at ts) ≡ u *ℤ pos 0 +ℤ pos 0
value_none [] ts u e = worth_of_none ts ∙ none u
  where
    none : (u : ℤ) → pos 0 ≡ u *ℤ pos 0 +ℤ pos 0
    none u = omega (arith, ints)
value_none (m ∷ ms) ts u e = absurd (omega (arith, e))

-- the value of one more component
pub value_step : (ms ts rest_ms rest_ts : List ℤ) (u m t h l rh rl high low : ℤ) → ms ≡ m ∷ rest_ms → ts ≡ t ∷ rest_ts → m *ℤ t ≡ u *ℤ h +ℤ l → worth rest_ms (at rest_ts) ≡ u *ℤ rh +ℤ rl → high ≡ h +ℤ rh → low ≡ l +ℤ rl →
    worth ms (at ts) ≡ u *ℤ high +ℤ low
value_step ms ts rest_ms rest_ts u m t h l rh rl high low em et e r eh el = rw (em, et) (worth_first m t rest_ms rest_ts ∙ halves_sum u h l rh rl high low m t (worth rest_ms (at rest_ts)) e r eh el)
