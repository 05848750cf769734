-- How large contents are, and which counts have one.
use Rattle.std.proofs.Common.{◌≡◌, ℕ, zero, suc, ◌+◌, ◌*◌, ◌^◌, ◌-◌, ◌≤◌, ◌<◌, List, [], ◌∷◌, Option, Some, None, length, drop, refl, arith, ap, sym, ◌∙◌}
use Rattle.std.specs.Prelude.{nat_eq}
use Rattle.std.proofs.lemmas.Nat.{mul-le}
use Rattle.std.proofs.lemmas.Bool.{eq-eqb}
use Rattle.cef_core.specs.Constitutions.{weight_of}

pub content_room : (count weight : ℕ) → count < 2 ^ 16 → weight < 2 ^ 32 → count * weight ≤ 2 ^ 48
content_room count weight h k = omega (arith, mul-le count weight (2 ^ 16) (2 ^ 32) (omega arith) (omega arith))

pub ruleset contents = (content_room)

own_weight : (c ratio : ℕ) → weight_of c ratio (Some c) ≡ ratio
own_weight c ratio = rw (eq-eqb c c refl) refl

pub present : (count ratio c : ℕ) → (count ≡ 0 → ⊥) → 0 < ratio → 0 < count * weight_of c ratio (Some c)
present count ratio c h k = rw (own_weight c ratio) (positive count ratio h k)
  where
    positive : (count ratio : ℕ) → (count ≡ 0 → ⊥) → 0 < ratio → 0 < count * ratio
    positive zero ratio h k = absurd (h refl)
    positive (suc count) ratio h k = omega (arith, mul-le 1 1 (suc count) ratio (omega arith) k)

pub ruleset presence = (present)
