-- Lists that are kept one behind the other, with the place behind each.
use Rattle.std.proofs.Common.{◌≡◌, ℕ, zero, suc, ◌<◌, Some, slice_get, slice_index, ◌+◌, ◌-◌, ◌≤◌, List, [], ◌∷◌, ◌++◌, length, take, drop, refl, arith, ap, ◌∙◌, true, false}
use Rattle.std.specs.Prelude.{Bool, ◌&&◌, nat_le}
use Rattle.std.specs.List.{concat}
use Rattle.std.proofs.lemmas.Bool.{leb-true, le-leb, eqb-true, eq-eqb}
use Rattle.std.proofs.lemmas.List.{length-drop, take-append-le, drop-append-le, take-append-drop, take_all, length-append}
use Rattle.std.proofs.lemmas.List.{drop-drop}
use Rattle.cef_core.specs.Sublattices.{parts_of, are_ends, start_at}

pub both : (a b : Bool) → (a && b) ≡ true → (a ≡ true) × (b ≡ true)
both true b h = (refl, h)
both false b h = cc

pub length-parts_of : (from : ℕ) (ends counts : List ℕ) → length (parts_of from ends counts) ≡ length ends
length-parts_of from [] counts = refl
length-parts_of from (end ∷ ends) counts = omega (arith, length-parts_of end ends (drop (end - from) counts))

pub are_ends-le : (from : ℕ) (ends : List ℕ) (n : ℕ) → are_ends from ends n ≡ true → from ≤ n
are_ends-le from [] n h = omega (arith, eqb-true from n h)
are_ends-le from (end ∷ ends) n h =
    let parts = both (nat_le from end) (are_ends end ends n) h in
    omega (arith, leb-true from end parts.0, are_ends-le end ends n parts.1)

pub are_ends-append : (from : ℕ) (ends : List ℕ) (n m : ℕ) → are_ends from ends n ≡ true → n ≤ m → are_ends from (ends ++ m ∷ []) m ≡ true
are_ends-append from [] n m h le = rw (le-leb from m (omega (arith, eqb-true from n h))) (eq-eqb m m refl)
are_ends-append from (end ∷ ends) n m h le =
    let parts = both (nat_le from end) (are_ends end ends n) h in
    rw parts.0 (are_ends-append end ends n m parts.1 le)

pub parts_of-append : (from : ℕ) (ends counts more : List ℕ) (n m : ℕ) → n ≡ from + length counts → m ≡ n + length more → are_ends from ends n ≡ true →
    parts_of from (ends ++ m ∷ []) (counts ++ more) ≡ parts_of from ends counts ++ more ∷ []
parts_of-append from [] [] more n m e f h = ap (λ (x : List ℕ). x ∷ []) (take_all (m - from) more (omega arith))
parts_of-append from [] (k ∷ counts) more n m e f h = absurd (omega (arith, eqb-true from n h))
parts_of-append from (end ∷ ends) counts more n m e f h =
    let parts = both (nat_le from end) (are_ends end ends n) h in
    let up : from ≤ end = leb-true from end parts.0 in
    let within : end ≤ n = are_ends-le end ends n parts.1 in
    let le : end - from ≤ length counts = omega arith in
    let rest = parts_of-append end ends (drop (end - from) counts) more n m (omega (arith, length-drop (end - from) counts)) f parts.1 in
    rw (take-append-le (end - from) counts more le, drop-append-le (end - from) counts more le, rest) refl

pub concat-parts_of : (from : ℕ) (ends counts : List ℕ) (n : ℕ) → n ≡ from + length counts → are_ends from ends n ≡ true → length (concat (parts_of from ends counts)) ≡ length counts
concat-parts_of from [] counts n e h = omega (arith, eqb-true from n h)
concat-parts_of from (end ∷ ends) counts n e h =
    let parts = both (nat_le from end) (are_ends end ends n) h in
    let up : from ≤ end = leb-true from end parts.0 in
    let within : end ≤ n = are_ends-le end ends n parts.1 in
    let rest = concat-parts_of end ends (drop (end - from) counts) n (omega (arith, length-drop (end - from) counts)) parts.1 in
    omega (arith, length-append (take (end - from) counts) (concat (parts_of end ends (drop (end - from) counts))), length-append (take (end - from) counts) (drop (end - from) counts), ap length (take-append-drop (end - from) counts), rest)

-- where a list of them begins and ends, and which it is
pub record IsPart (from : ℕ) (ends counts : List ℕ) (n place : ℕ) : Type 0 where
  pub later : from ≤ start_at from ends place
  pub rises : start_at from ends place ≤ slice_index ends place
  pub within : slice_index ends place ≤ n
  pub is : slice_get (parts_of from ends counts) place ≡ Some (take (slice_index ends place - start_at from ends place) (drop (start_at from ends place - from) counts))

start_at-next : (from end : ℕ) (ends : List ℕ) (place : ℕ) → start_at end ends place ≡ start_at from (end ∷ ends) (suc place)
start_at-next from end ends zero = refl
start_at-next from end ends (suc place) = refl

pub part_is : (from : ℕ) (ends counts : List ℕ) (n place : ℕ) → n ≡ from + length counts → are_ends from ends n ≡ true → place < length ends → IsPart from ends counts n place
part_is from [] counts n place e h lt = absurd (omega arith)
part_is from (end ∷ ends) counts n zero e h lt =
    let parts = both (nat_le from end) (are_ends end ends n) h in
    let none : from - from ≡ 0 = omega arith in
    record { later = omega arith; rises = leb-true from end parts.0; within = are_ends-le end ends n parts.1; is = rw none refl }
part_is from (end ∷ ends) counts n (suc place) e h lt =
    let parts = both (nat_le from end) (are_ends end ends n) h in
    let up : from ≤ end = leb-true from end parts.0 in
    let within : end ≤ n = are_ends-le end ends n parts.1 in
    let rest = part_is end ends (drop (end - from) counts) n place (omega (arith, length-drop (end - from) counts)) parts.1 (omega arith) in
    let next = start_at-next from end ends place in
    let moved : (end - from) + (start_at end ends place - end) ≡ start_at end ends place - from = omega (arith, rest.later) in
    let behind : drop (start_at end ends place - end) (drop (end - from) counts) ≡ drop (start_at end ends place - from) counts = drop-drop (start_at end ends place - end) (end - from) counts ∙ ap (λ (k : ℕ). drop k counts) moved in
    record {
      later = rw (← next) (omega (arith, rest.later));
      rises = rw (← next) rest.rises;
      within = rest.within;
      is = rw (← next) (rest.is ∙ ap (λ (xs : List ℕ). Some (take (slice_index ends place - start_at end ends place) xs)) behind);
    }

pub ruleset sublattices = (length-parts_of, are_ends-append, parts_of-append, concat-parts_of)
