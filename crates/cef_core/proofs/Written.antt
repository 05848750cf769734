-- A list of counts that is written in place keeps its parts where they are.
use Rattle.std.proofs.Common.{◌≡◌, ℕ, ◌+◌, ◌-◌, ◌≤◌, List, [], ◌∷◌, length, take, drop, ◌++◌, refl, arith, ap, sym, ◌∙◌, true}
use Rattle.std.specs.Prelude.{nat_le, slice_set}
use Rattle.std.specs.List.{concat, refill}
use Rattle.std.proofs.lemmas.Bool.{leb-true}
use Rattle.std.proofs.lemmas.List.{length-drop, length-take-le, length-set}
use Rattle.std.proofs.Math.Seq.{take-append_seam}
use Rattle.cef_core.specs.Shapes.{shape}
use Rattle.cef_core.specs.Sublattices.{are_ends, parts_of}
use Rattle.cef_core.proofs.Parts.{are_ends-le, both}
use Rattle.cef_core.proofs.Flats.{counts_flat}

-- how many places each part has
abbrev pub widths : ℕ → List ℕ → List ℕ
widths from [] = []
widths from (end ∷ ends) = (end - from) ∷ widths end ends

pub shape-parts_of : (from : ℕ) (ends counts : List ℕ) (n : ℕ) → n ≡ from + length counts → are_ends from ends n ≡ true → shape (parts_of from ends counts) ≡ widths from ends
shape-parts_of from [] counts n e h = refl
shape-parts_of from (end ∷ ends) counts n e h =
    let parts = both (nat_le from end) (are_ends end ends n) h in
    let up : from ≤ end = leb-true from end parts.0 in
    let within : end ≤ n = are_ends-le end ends n parts.1 in
    let first = length-take-le (end - from) counts (omega arith) in
    rw (first, shape-parts_of end ends (drop (end - from) counts) n (omega (arith, length-drop (end - from) counts)) parts.1) refl

-- a slice that is written in full
pub refill-same : (n : ℕ) (xs ws : List ℕ) → length ws ≡ n → refill n xs ws ≡ ws
refill-same n xs ws e = ap (λ (k : ℕ). take k (ws ++ drop (length ws) xs)) (sym e) ∙ take-append_seam ws (drop (length ws) xs)

-- the parts of counts of which one is another one
pub record AreWritten (ends counts now : List ℕ) (before : List (List ℕ)) (place count : ℕ) : Type 0 where
  pub counts_are : concat (parts_of 0 ends now) ≡ slice_set (concat before) place count
  pub shaped : shape (parts_of 0 ends now) ≡ shape before

pub are_written : (n : ℕ) (ends counts xs ws : List ℕ) (before : List (List ℕ)) (place count : ℕ) → are_ends 0 ends (length counts) ≡ true → parts_of 0 ends counts ≡ before → length ws ≡ n → ws ≡ slice_set counts place count →
    AreWritten ends counts (refill n xs ws) before place count
are_written n ends counts xs ws before place count h e size written =
    let whole : refill n xs ws ≡ slice_set counts place count = refill-same n xs ws size ∙ written in
    let kept : length (slice_set counts place count) ≡ length counts = length-set counts place count in
    let ends_kept : are_ends 0 ends (length (slice_set counts place count)) ≡ true = rw kept h in
    rw (whole, ← e) (record {
      counts_are = counts_flat ends (slice_set counts place count) ends_kept ∙ ap (λ (xs : List ℕ). slice_set xs place count) (sym (counts_flat ends counts h));
      shaped = shape-parts_of 0 ends (slice_set counts place count) (length (slice_set counts place count)) (omega arith) ends_kept ∙ sym (shape-parts_of 0 ends counts (length counts) (omega arith) h);
    })

pub within_counts : (ends counts : List ℕ) (before : List (List ℕ)) → are_ends 0 ends (length counts) ≡ true → parts_of 0 ends counts ≡ before → length (concat before) ≡ length counts
within_counts ends counts before h e = ap (λ (s : List (List ℕ)). length (concat s)) (sym e) ∙ ap length (counts_flat ends counts h)
