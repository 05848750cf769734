-- Secants of heights, and room for them; the best of them.
use Rattle.std.proofs.Common.{◌≡◌, ℕ, ◌+◌, ◌-◌, ◌*◌, ◌<◌, ◌≤◌, ◌^◌, List, [], ◌∷◌, drop, length, arith, refl, inl, inr, subst, sym, ap, ◌∙◌}
use Rattle.std.specs.Prelude.{ℤ, pos, ◌-ℤ◌, ◌*ℤ◌, ◌≤ℤ◌, ◌<ℤ◌, unsigned_abs, slice_index, FitsSigned}
use Rattle.std.specs.Int.{int_div_euclid, w128}
use Rattle.std.proofs.lemmas.Bool.{lt-ltb, le-ltb, cases_lt}
use Rattle.std.proofs.lemmas.Int.{ints, to_z-of_z}
use Rattle.std.proofs.lemmas.Nat.{mul-le}
use Rattle.std.proofs.lemmas.List.{drop_all}
use Rattle.cal_limits.specs.declared.TheConstants.{MOST_ENERGY}
use Rattle.cal_math.specs.Vectors.{at}
use Rattle.cal_math.specs.Whole.{*ℤ--ℤ, abs-floor-le}
use Rattle.cef_box.specs.declared.range.Range.{Range}
use Rattle.cef_box.specs.Flat.{ranges}
use Rattle.cef_mix.specs.Mixes.{Mixing, height}
use Rattle.cef_phase.specs.Choosing.{secant, secants, IsFirstGreatest}
use Rattle.cef_phase.specs.Firsts.{first_greatest}
use Rattle.cef_phase.specs.declared.row.Row.{Row}
use Rattle.cef_phase.specs.Sums.{IsMixable}
use Rattle.cef_phase.specs.Walks.{CanRow, mixed_at}
use Rattle.cef_phase.proofs.Choice.{floor-less, picked_yes, picked_no, first_greatest_is}
use Rattle.cef_phase.proofs.Sublattices.{count_size}
use Rattle.cef_phase.proofs.Parts.{range_at, numbers_drop, ranges_drop}
use Rattle.cef_phase.proofs.Rows.{row_order, row_within}

pub energy_size : (m : Mixing) (place count : ℕ) → IsMixable m → count ≤ m.lattice → unsigned_abs (mixed_at m place count) ≤ MOST_ENERGY
energy_size m place count mixable h = count_size m place count mixable h

pub rise_size : (a b : ℤ) → unsigned_abs a ≤ MOST_ENERGY → unsigned_abs b ≤ MOST_ENERGY → unsigned_abs (a -ℤ b) ≤ 2 ^ 56
rise_size a b h k = omega (arith, ints, h, k)

pub ruleset dividing = (ints, to_z-of_z)

-- ---- the chord of an energy over a width

pub chord_size : (d : ℤ) (width : ℕ) → 0 < width → unsigned_abs d ≤ 2 ^ 56 → unsigned_abs (int_div_euclid (pos 65536 *ℤ d) (pos width)) ≤ 2 ^ 72
chord_size d width some h =
    let one : pos 1 ≤ℤ pos width = omega (arith, ints) in
    abs-floor-le (pos 65536 *ℤ d) (pos width) (2 ^ 72) one (omega (arith, ints, h))

pub ruleset chords = (chord_size, to_z-of_z)

-- the heights' difference is that of the energies, less the slope times the width
rise_is : (h : ℕ → ℤ) (m : ℤ) (low high : ℕ) → low < high → height h m high -ℤ height h m low ≡ pos 65536 *ℤ (h high -ℤ h low) -ℤ m *ℤ pos (high - low)
rise_is h m low high lt =
    let width : pos (high - low) ≡ pos high -ℤ pos low = omega (arith, ints) in
    rw width (omega (arith, ints, *ℤ--ℤ m (pos high) (pos low), *ℤ--ℤ (pos 65536) (h high) (h low)))

-- so the secant is the chord less the slope
secant_is : (h : ℕ → ℤ) (m : ℤ) (low high : ℕ) → low < high → secant h m (record { low = low; high = high }) ≡ int_div_euclid (pos 65536 *ℤ (h high -ℤ h low)) (pos (high - low)) -ℤ m
secant_is h m low high lt =
    ap (λ (z : ℤ). int_div_euclid z (pos (high - low))) (rise_is h m low high lt) ∙ floor-less (pos 65536 *ℤ (h high -ℤ h low)) m (high - low) (omega arith)

pub secant_exact : (h : ℕ → ℤ) (m top bottom rise chord x : ℤ) (low high : ℕ) → low < high → top ≡ h high → bottom ≡ h low → rise ≡ top -ℤ bottom → chord ≡ int_div_euclid (pos 65536 *ℤ rise) (pos (high - low)) → x ≡ chord -ℤ m →
    x ≡ secant h m (record { low = low; high = high })
secant_exact h m top bottom rise chord x low high lt et eb er ec ex = rw (ex, ec, er, et, eb) (sym (secant_is h m low high lt))

pub secant_of_rise : (h : ℕ → ℤ) (m rise chord x : ℤ) (low high : ℕ) → low < high → rise ≡ h high -ℤ h low → chord ≡ int_div_euclid (pos 65536 *ℤ rise) (pos (high - low)) → x ≡ chord -ℤ m →
    x ≡ secant h m (record { low = low; high = high })
secant_of_rise h m rise chord x low high lt er ec ex = secant_exact h m (h high) (h low) rise chord x low high lt refl refl er ec ex

pub secant_room : (m chord x : ℤ) (n : ℕ) → n ≤ 1000 → x ≡ chord -ℤ m → unsigned_abs chord ≤ 2 ^ 72 → unsigned_abs m * n ≤ 2 ^ 116 + 2 ^ 86 → unsigned_abs x * n ≤ 2 ^ 117
secant_room m chord x n few ex hc hm =
    let both : unsigned_abs x ≤ 2 ^ 72 + unsigned_abs m = omega (arith, ints, hc, ap unsigned_abs ex) in
    let times : unsigned_abs x * n ≤ (2 ^ 72 + unsigned_abs m) * n = mul-le (unsigned_abs x) n (2 ^ 72 + unsigned_abs m) n both (omega arith) in
    omega (arith, times, hm, few)

pub secant_fits : (row : Row) (m chord : ℤ) → CanRow (2 ^ 118) row → unsigned_abs chord ≤ 2 ^ 72 → unsigned_abs m * row.mix.now.lattice ≤ 2 ^ 116 + 2 ^ 86 → FitsSigned w128 (chord -ℤ m)
secant_fits row m chord can hc hm =
    let alone : unsigned_abs m ≤ 2 ^ 116 + 2 ^ 86 = omega (arith, hm, mul-le (unsigned_abs m) 1 (unsigned_abs m) row.mix.now.lattice (omega arith) can.mixable.some) in
    omega (arith, ints, hc, alone)

pub ruleset sloping = (secant_of_rise, secant_room, secant_fits, row_order, row_within, to_z-of_z)

-- ---- the comparison of parts is that of the multipliers

pub better_taken : (f : ℤ → ℤ) (x y a b : ℤ) → a ≡ f x → b ≡ f y → a <ℤ b → y ≡ first_greatest f x (y ∷ [])
better_taken f x y a b ea eb lt = sym (picked_yes f x y (subst (λ (z : ℤ). z <ℤ f y) ea (subst (λ (z : ℤ). a <ℤ z) eb lt)))

pub better_left : (f : ℤ → ℤ) (x y a b : ℤ) → a ≡ f x → b ≡ f y → b ≤ℤ a → x ≡ first_greatest f x (y ∷ [])
better_left f x y a b ea eb le = sym (picked_no f x y (subst (λ (z : ℤ). f y ≤ℤ z) ea (subst (λ (z : ℤ). z ≤ℤ a) eb le)))

pub secants_on : (h : ℕ → ℤ) (m : ℤ) (slopes : List ℤ) (r : Range) (row : List Range) → r.low < r.high → secants h (m ∷ slopes) (r ∷ row) ≡ secant h m r ∷ secants h slopes row
secants_on h m slopes r row lt = rw (lt-ltb r.low r.high lt) refl

pub secants_past : (h : ℕ → ℤ) (m : ℤ) (slopes : List ℤ) (r : Range) (row : List Range) → r.high ≤ r.low → secants h (m ∷ slopes) (r ∷ row) ≡ secants h slopes row
secants_past h m slopes r row le = rw (le-ltb r.low r.high le) refl

pub with_secant : (f : ℤ → ℤ) (h : ℕ → ℤ) (m : ℤ) (r : Range) (x y c : ℤ) → r.low < r.high → c ≡ secant h m r → y ≡ first_greatest f x (c ∷ []) → y ≡ first_greatest f x (secants h (m ∷ []) (r ∷ []))
with_secant f h m r x y c lt ec ey = rw (secants_on h m [] r [] lt) (rw (← ec) ey)

pub without_secant : (f : ℤ → ℤ) (h : ℕ → ℤ) (m : ℤ) (r : Range) (x : ℤ) → r.high ≤ r.low → x ≡ first_greatest f x (secants h (m ∷ []) (r ∷ []))
without_secant f h m r x le = rw (secants_past h m [] r [] le) refl

-- the first site, and then the rest
pub first_on : (f : ℤ → ℤ) (h : ℕ → ℤ) (m : ℤ) (slopes : List ℤ) (r : Range) (row : List Range) (x y z : ℤ) → y ≡ first_greatest f x (secants h (m ∷ []) (r ∷ [])) →
    z ≡ first_greatest f y (secants h slopes row) → z ≡ first_greatest f x (secants h (m ∷ slopes) (r ∷ row))
first_on f h m slopes r row x y z ey ez =
    elim (cases_lt r.low r.high) [
      | inl lt ↦
          let here : y ≡ first_greatest f x (secant h m r ∷ []) = ey ∙ ap (first_greatest f x) (secants_on h m [] r [] lt) in
          rw (secants_on h m slopes r row lt) (ez ∙ ap (λ (w : ℤ). first_greatest f w (secants h slopes row)) here)
      | inr le ↦
          let here : y ≡ x = ey ∙ ap (first_greatest f x) (secants_past h m [] r [] le) in
          rw (secants_past h m slopes r row le) (ez ∙ ap (λ (w : ℤ). first_greatest f w (secants h slopes row)) here)
    ]

-- with the site at a place, and then those behind it
pub secants_step : (f : ℤ → ℤ) (h : ℕ → ℤ) (slopes : List ℤ) (low high : List ℕ) (site : ℕ) (x y z : ℤ) → site < length slopes → site < length (ranges low high) →
    y ≡ first_greatest f x (secants h (at slopes site ∷ []) (range_at low high site ∷ [])) → first_greatest f x (secants h (drop site slopes) (drop site (ranges low high))) ≡ z →
    first_greatest f y (secants h (drop (site + 1) slopes) (drop (site + 1) (ranges low high))) ≡ z
secants_step f h slopes low high site x y z ls lr ey ez =
    first_on f h (at slopes site) (drop (site + 1) slopes) (range_at low high site) (drop (site + 1) (ranges low high)) x y _ ey refl ∙ rw (numbers_drop slopes site ls, ranges_drop low high site lr) at ez

pub secants_end : (f : ℤ → ℤ) (h : ℕ → ℤ) (slopes : List ℤ) (row : List Range) (site : ℕ) (x first : ℤ) (rest all : List ℤ) → length slopes ≤ site → all ≡ first ∷ rest →
    first_greatest f x (secants h (drop site slopes) (drop site row)) ≡ first_greatest f first rest → IsFirstGreatest f all x
secants_end f h slopes row site x first rest all le is e =
    let none : first_greatest f x (secants h (drop site slopes) (drop site row)) ≡ x = rw (drop_all site slopes le) refl in
    let same : first_greatest f first rest ≡ x = sym e ∙ none in
    rw is (subst (λ (z : ℤ). IsFirstGreatest f (first ∷ rest) z) same (first_greatest_is f first rest))

-- of no secants 0 is chosen
pub zero_alone : (f : ℤ → ℤ) (ys : List ℤ) → ys ≡ [] → IsFirstGreatest f (pos 0 ∷ ys) (pos 0)
zero_alone f ys e = rw e (first_greatest_is f (pos 0) [])

-- ---- the first secant of a row

-- a site that has none
pub secants_closed : (h : ℕ → ℤ) (slopes : List ℤ) (low high : List ℕ) (site : ℕ) (all : List ℤ) → site < length slopes → site < length (ranges low high) → slice_index high site ≤ slice_index low site →
    secants h (drop site slopes) (drop site (ranges low high)) ≡ all → secants h (drop (site + 1) slopes) (drop (site + 1) (ranges low high)) ≡ all
secants_closed h slopes low high site all ls lr le e =
    sym (secants_past h (at slopes site) (drop (site + 1) slopes) (range_at low high site) (drop (site + 1) (ranges low high)) le) ∙ rw (numbers_drop slopes site ls, ranges_drop low high site lr) at e

-- one that has one
pub secants_open : (h : ℕ → ℤ) (slopes : List ℤ) (low high : List ℕ) (site : ℕ) (all : List ℤ) → site < length slopes → site < length (ranges low high) → slice_index low site < slice_index high site →
    secants h (drop site slopes) (drop site (ranges low high)) ≡ all → all ≡ secant h (at slopes site) (range_at low high site) ∷ secants h (drop (site + 1) slopes) (drop (site + 1) (ranges low high))
secants_open h slopes low high site all ls lr lt e =
    sym (rw (numbers_drop slopes site ls, ranges_drop low high site lr) at e) ∙ secants_on h (at slopes site) (drop (site + 1) slopes) (range_at low high site) (drop (site + 1) (ranges low high)) lt

pub secants_none : (h : ℕ → ℤ) (slopes : List ℤ) (row : List Range) (site : ℕ) (all : List ℤ) → length slopes ≤ site → secants h (drop site slopes) (drop site row) ≡ all → all ≡ []
secants_none h slopes row site all le e = sym e ∙ rw (drop_all site slopes le) refl

pub ruleset opening = (to_z-of_z)

pub ruleset stepping = (with_secant, without_secant, to_z-of_z)

pub ruleset chosen = (zero_alone, to_z-of_z)
