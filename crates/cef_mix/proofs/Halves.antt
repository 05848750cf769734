-- Where the rises of energies turn, and the least height there.
use Rattle.std.proofs.Common.{◌≡◌, ℕ, zero, suc, ◌+◌, ◌-◌, ◌*◌, ◌^◌, ◌<◌, ◌≤◌, List, length, arith, inl, inr, subst, ap, ◌∙◌}
use Rattle.std.specs.Prelude.{ℤ, pos, ◌+ℤ◌, ◌-ℤ◌, ◌*ℤ◌, ◌≤ℤ◌, ◌<ℤ◌, unsigned_abs}
use Rattle.std.proofs.lemmas.Int.{ints, to_z-of_z}
use Rattle.std.proofs.lemmas.Bool.{cases_lt}
use Rattle.cal_math.specs.Whole.{*ℤ-+ℤ, *ℤ--ℤ}
use Rattle.cef_core.specs.Mixing.{mixing_at}
use Rattle.cef_mix.specs.Mixes.{height, IsLeastOn}
use Rattle.cef_mix.specs.Tables.{entry, AreEnergies, AreRises, AreOrdered, IsGreatestFall, IsTurn}
use Rattle.cef_mix.proofs.Energies.{energies_small}

ordered_on : (rises : List ℤ) → AreOrdered rises → (k d : ℕ) → k + d < length rises → entry rises k ≤ℤ entry rises (k + d)
ordered_on rises ordered k zero lt = let e : k + 0 ≡ k = omega arith in rw e (omega (arith, ints))
ordered_on rises ordered k (suc d) lt =
    let e : k + d + 1 ≡ k + suc d = omega arith in
    omega (arith, ints, ordered_on rises ordered k d (omega arith), ordered (k + d) (omega arith), ap (entry rises) e)

pub ordered_to : (rises : List ℤ) → AreOrdered rises → (j k : ℕ) → j ≤ k → k < length rises → entry rises j ≤ℤ entry rises k
ordered_to rises ordered j k le lt =
    let e : j + (k - j) ≡ k = omega arith in
    subst (λ (i : ℕ). entry rises j ≤ℤ entry rises i) e (ordered_on rises ordered j (k - j) (omega arith))

-- ---- halving: the turn lies between the two counts

pub record IsHalving (rises : List ℤ) (most : ℤ) (low high first last : ℕ) : Type 0 where
  pub from : low ≤ first
  pub order : first ≤ last
  pub to : last ≤ high
  pub left : (j : ℕ) → low ≤ j → j < first → entry rises j ≤ℤ most
  pub right : (j : ℕ) → last ≤ j → j < high → most <ℤ entry rises j

pub IsHalving-whole : (rises : List ℤ) (most : ℤ) (low high last : ℕ) → low ≤ high → last ≡ high → IsHalving rises most low high low last
IsHalving-whole rises most low high last le e = record {
  from = omega arith;
  order = omega arith;
  to = omega arith;
  left = λ j a b. absurd (omega arith);
  right = λ j a b. absurd (omega arith);
}

pub IsHalving-right : (rises : List ℤ) (most : ℤ) (low high first last middle next end : ℕ) → AreOrdered rises → high ≤ length rises → IsHalving rises most low high first last → next ≡ middle + 1 → first ≤ middle → middle < last → end ≡ last →
    entry rises middle ≤ℤ most → IsHalving rises most low high next end
IsHalving-right rises most low high first last middle next end ordered within has e a b ee f = record {
  from = omega (arith, has.from);
  order = omega arith;
  to = omega (arith, has.to);
  left = λ j p q. omega (arith, ints, f, ordered_to rises ordered j middle (omega arith) (omega (arith, has.to)));
  right = λ j p q. has.right j (omega arith) q;
}

pub IsHalving-left : (rises : List ℤ) (most : ℤ) (low high first last middle start next : ℕ) → AreOrdered rises → high ≤ length rises → IsHalving rises most low high first last → start ≡ first → first ≤ next → middle ≤ next → next ≤ last → middle < last →
    most <ℤ entry rises middle → IsHalving rises most low high start next
IsHalving-left rises most low high first last middle start next ordered within has e a b c d f = record {
  from = omega (arith, has.from);
  order = omega arith;
  to = omega (arith, has.to);
  left = λ j p q. has.left j p (omega arith);
  right = λ j p q. omega (arith, ints, f, ordered_to rises ordered middle j (omega arith) (omega arith));
}

pub IsHalving-end : (rises : List ℤ) (most : ℤ) (low high first last : ℕ) → IsHalving rises most low high first last → last ≤ first → IsTurn rises most low high first
IsHalving-end rises most low high first last has le = record {
  from = has.from;
  to = omega (arith, has.order, has.to);
  left = has.left;
  right = λ k p q. has.right k (omega (arith, has.order)) q;
}

-- ---- heights fall left of the turn, and climb from it on

-- the difference from a count to the next
abbrev pub rise : (ℕ → ℤ) → ℕ → ℤ
rise h k = h (k + 1) -ℤ h k

-- 2^16 times the difference, against the slope
abbrev pub Falls : (ℕ → ℤ) → ℤ → ℕ → Type 0
Falls h slope k = (pos 65536 *ℤ rise h k) ≤ℤ slope

abbrev pub Climbs : (ℕ → ℤ) → ℤ → ℕ → Type 0
Climbs h slope k = slope ≤ℤ (pos 65536 *ℤ rise h k)

one_more : (slope : ℤ) (k : ℕ) → slope *ℤ pos (k + 1) ≡ slope *ℤ pos k +ℤ slope
one_more slope k = let e : pos (k + 1) ≡ pos k +ℤ pos 1 = omega (arith, ints) in ap (λ z. slope *ℤ z) e ∙ *ℤ-+ℤ slope (pos k) (pos 1) ∙ omega (arith, ints)

height_falls : (h : ℕ → ℤ) (slope : ℤ) (k : ℕ) → Falls h slope k → height h slope (k + 1) ≤ℤ height h slope k
height_falls h slope k f = omega (arith, ints, f, *ℤ--ℤ (pos 65536) (h (k + 1)) (h k), one_more slope k)

height_climbs : (h : ℕ → ℤ) (slope : ℤ) (k : ℕ) → Climbs h slope k → height h slope k ≤ℤ height h slope (k + 1)
height_climbs h slope k f = omega (arith, ints, f, *ℤ--ℤ (pos 65536) (h (k + 1)) (h k), one_more slope k)

left_of : (h : ℕ → ℤ) (slope : ℤ) (k d : ℕ) → ((j : ℕ) → k ≤ j → j < k + d → Falls h slope j) → height h slope (k + d) ≤ℤ height h slope k
left_of h slope k zero f = let e : k + 0 ≡ k = omega arith in rw e (omega (arith, ints))
left_of h slope k (suc d) f =
    let before = left_of h slope k d (λ j a b. f j a (omega arith)) in
    let e : k + d + 1 ≡ k + suc d = omega arith in
    omega (arith, ints, before, height_falls h slope (k + d) (f (k + d) (omega arith) (omega arith)), ap (height h slope) e)

right_of : (h : ℕ → ℤ) (slope : ℤ) (k d : ℕ) → ((j : ℕ) → k ≤ j → j < k + d → Climbs h slope j) → height h slope k ≤ℤ height h slope (k + d)
right_of h slope k zero f = let e : k + 0 ≡ k = omega arith in rw e (omega (arith, ints))
right_of h slope k (suc d) f =
    let before = right_of h slope k d (λ j a b. f j a (omega arith)) in
    let e : k + d + 1 ≡ k + suc d = omega arith in
    omega (arith, ints, before, height_climbs h slope (k + d) (f (k + d) (omega arith) (omega arith)), ap (height h slope) e)

pub least_at_turn : (energies rises : List ℤ) (slope most : ℤ) (low high place : ℕ) (x : ℤ) → AreRises energies rises → high < length energies → IsGreatestFall slope most → IsTurn rises most low high place →
    x ≡ height (entry energies) slope place → IsLeastOn (entry energies) slope low high place x
least_at_turn energies rises slope most low high place x are lt fall turn e = record {
  from = turn.from;
  to = turn.to;
  reached = e;
  below = λ k a b. rw e (below k a b);
}
  where
    h : ℕ → ℤ
    h = entry energies

    falls : (j : ℕ) → low ≤ j → j < place → Falls h slope j
    falls j a b = subst (λ (z : ℤ). (pos 65536 *ℤ z) ≤ℤ slope) (are.entries j (omega (arith, turn.to, are.each))) (fall.falls (entry rises j) (are.small j) (turn.left j a b))

    climbs : (j : ℕ) → place ≤ j → j < high → Climbs h slope j
    climbs j a b = subst (λ (z : ℤ). slope ≤ℤ (pos 65536 *ℤ z)) (are.entries j (omega (arith, are.each))) (fall.climbs (entry rises j) (are.small j) (turn.right j a b))

    below : (k : ℕ) → low ≤ k → k ≤ high → height h slope place ≤ℤ height h slope k
    below k a b = elim (cases_lt k place) [
      | inl less ↦
          let whole : k + (place - k) ≡ place = omega arith in
          subst (λ (i : ℕ). height h slope i ≤ℤ height h slope k) whole (left_of h slope k (place - k) (λ j p q. falls j (omega arith) (omega arith)))
      | inr ge ↦
          let whole : place + (k - place) ≡ k = omega arith in
          subst (λ (i : ℕ). height h slope place ≤ℤ height h slope i) whole (right_of h slope place (k - place) (λ j p q. climbs j (omega arith) (omega arith)))
    ]

-- the least of a table's entries is that of the energies of mixing
pub least_of_mixing : (t n a : ℕ) (energies : List ℤ) (slope : ℤ) (low high place : ℕ) (x : ℤ) → AreEnergies t n a energies → high ≤ n → IsLeastOn (entry energies) slope low high place x → IsLeastOn (mixing_at t n a) slope low high place x
least_of_mixing t n a energies slope low high place x are within least = record {
  from = least.from;
  to = least.to;
  reached = least.reached ∙ ap (λ z. pos 65536 *ℤ z -ℤ slope *ℤ pos place) (are.entries place (omega (arith, least.to)));
  below = λ k p q. subst (λ z. x ≤ℤ (pos 65536 *ℤ z -ℤ slope *ℤ pos k)) (are.entries k (omega arith)) (least.below k p q);
}

pub ruleset as_mixing = (least_of_mixing, energies_small, to_z-of_z)

pub ruleset turns = (IsHalving-whole, IsHalving-end, to_z-of_z)

pub ruleset least = (least_at_turn, to_z-of_z)
