-- Lists whose parts end at places that are kept.
use Rattle.std.proofs.Common.{◌≡◌, ℕ, zero, suc, ◌+◌, ◌-◌, ◌≤◌, List, [], ◌∷◌, length, take, drop, ◌++◌, refl, arith, true}
use Rattle.std.specs.Prelude.{nat_le}
use Rattle.std.specs.List.{concat}
use Rattle.std.proofs.lemmas.Bool.{leb-true, eqb-true}
use Rattle.std.proofs.lemmas.List.{length-drop, take-append-drop}
use Rattle.std.proofs.Math.Seq.{take-append_seam, drop-append_seam}
use Rattle.cef_core.specs.Sublattices.{are_ends, parts_of, IsFlat}
use Rattle.cef_core.proofs.Parts.{are_ends-le, both}

-- what the first place says of a flat list
pub flat-from-le : (from end : ℕ) (ends counts : List ℕ) → IsFlat from (end ∷ ends) counts → from ≤ end
flat-from-le from end ends counts h = leb-true from end (both (nat_le from end) (are_ends end ends (from + length counts)) h.ends_is).0

pub flat-le : (from end : ℕ) (ends counts : List ℕ) → IsFlat from (end ∷ ends) counts → end - from ≤ length counts
flat-le from end ends counts h =
    let parts = both (nat_le from end) (are_ends end ends (from + length counts)) h.ends_is in
    omega (arith, are_ends-le end ends (from + length counts) parts.1, leb-true from end parts.0)

pub flat-rest : (from end : ℕ) (ends counts : List ℕ) → IsFlat from (end ∷ ends) counts → IsFlat end ends (drop (end - from) counts)
flat-rest from end ends counts h =
    let parts = both (nat_le from end) (are_ends end ends (from + length counts)) h.ends_is in
    let up : from ≤ end = leb-true from end parts.0 in
    let within : end ≤ from + length counts = are_ends-le end ends (from + length counts) parts.1 in
    let whole : end + length (drop (end - from) counts) ≡ from + length counts = omega (arith, length-drop (end - from) counts) in
    record { ends_is = rw whole parts.1 }

pub ruleset splitting = (flat-from-le, flat-le, flat-rest)

-- all parts as one list
pub concat-parts_is : (from : ℕ) (ends counts : List ℕ) (n : ℕ) → n ≡ from + length counts → are_ends from ends n ≡ true → concat (parts_of from ends counts) ≡ counts
concat-parts_is from [] [] n e h = refl
concat-parts_is from [] (k ∷ counts) n e h = absurd (omega (arith, eqb-true from n h))
concat-parts_is from (end ∷ ends) counts n e h =
    let parts = both (nat_le from end) (are_ends end ends n) h in
    let up : from ≤ end = leb-true from end parts.0 in
    let within : end ≤ n = are_ends-le end ends n parts.1 in
    rw (concat-parts_is end ends (drop (end - from) counts) n (omega (arith, length-drop (end - from) counts)) parts.1) (take-append-drop (end - from) counts)

pub counts_flat : (ends counts : List ℕ) → are_ends 0 ends (length counts) ≡ true → concat (parts_of 0 ends counts) ≡ counts
counts_flat ends counts h = concat-parts_is 0 ends counts (length counts) (omega arith) h

pub ruleset flattened = (counts_flat)

pub flat_alone : (ends counts : List ℕ) → are_ends 0 ends (length counts) ≡ true → IsFlat 0 ends counts
flat_alone ends counts h = let e : 0 + length counts ≡ length counts = omega arith in record { ends_is = rw e h }

pub ruleset alone = (flat_alone)
