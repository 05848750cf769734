-- Rows of ranges that are kept flat.
use Rattle.std.proofs.Common.{◌≡◌, ℕ, ◌+◌, ◌-◌, ◌≤◌, List, [], ◌∷◌, length, drop, ◌++◌, refl, arith, sym, ◌∙◌}
use Rattle.std.specs.Prelude.{nat_le}
use Rattle.std.proofs.lemmas.Bool.{leb-true}
use Rattle.std.proofs.lemmas.List.{length-drop}
use Rattle.std.proofs.Math.Seq.{take-append_seam, drop-append_seam}
use Rattle.cef_box.specs.Flat.{ranges, rows_of, AreFlat}
use Rattle.cef_core.specs.Sublattices.{are_ends, parts_of}
use Rattle.cef_core.proofs.Parts.{are_ends-le, both}

-- what the first place says of flat rows
pub flat-from-le : (from end : ℕ) (ends lows highs : List ℕ) → AreFlat from (end ∷ ends) lows highs → from ≤ end
flat-from-le from end ends lows highs h = leb-true from end (both (nat_le from end) (are_ends end ends (from + length lows)) h.ends_is).0

pub flat-low-le : (from end : ℕ) (ends lows highs : List ℕ) → AreFlat from (end ∷ ends) lows highs → end - from ≤ length lows
flat-low-le from end ends lows highs h =
    let parts = both (nat_le from end) (are_ends end ends (from + length lows)) h.ends_is in
    omega (arith, are_ends-le end ends (from + length lows) parts.1, leb-true from end parts.0)

pub flat-high-le : (from end : ℕ) (ends lows highs : List ℕ) → AreFlat from (end ∷ ends) lows highs → end - from ≤ length highs
flat-high-le from end ends lows highs h = omega (arith, h.same, flat-low-le from end ends lows highs h)

pub flat-rest : (from end : ℕ) (ends lows highs : List ℕ) → AreFlat from (end ∷ ends) lows highs → AreFlat end ends (drop (end - from) lows) (drop (end - from) highs)
flat-rest from end ends lows highs h =
    let parts = both (nat_le from end) (are_ends end ends (from + length lows)) h.ends_is in
    let up : from ≤ end = leb-true from end parts.0 in
    let within : end ≤ from + length lows = are_ends-le end ends (from + length lows) parts.1 in
    let whole : end + length (drop (end - from) lows) ≡ from + length lows = omega (arith, length-drop (end - from) lows) in
    record {
      ends_is = rw whole parts.1;
      same = omega (arith, length-drop (end - from) lows, length-drop (end - from) highs, h.same);
    }

pub rows_of-joined : (from end : ℕ) (ends low_row low_rest high_row high_rest : List ℕ) → length low_row ≡ end - from → length high_row ≡ end - from →
    rows_of from (end ∷ ends) (low_row ++ low_rest) (high_row ++ high_rest) ≡ ranges low_row high_row ∷ rows_of end ends low_rest high_rest
rows_of-joined from end ends low_row low_rest high_row high_rest a b =
    rw (← a) (rw (take-append_seam low_row low_rest, drop-append_seam low_row low_rest) (rw (a ∙ sym b) (rw (take-append_seam high_row high_rest, drop-append_seam high_row high_rest) refl)))

pub length-ranges : (low high : List ℕ) → length low ≡ length high → length (ranges low high) ≡ length low
length-ranges [] high e = refl
length-ranges (l ∷ low) [] e = absurd (omega arith)
length-ranges (l ∷ low) (h ∷ high) e = omega (arith, length-ranges low high (omega arith))

pub parts_of-joined : (from end : ℕ) (ends row rest : List ℕ) → length row ≡ end - from → parts_of from (end ∷ ends) (row ++ rest) ≡ row ∷ parts_of end ends rest
parts_of-joined from end ends row rest a = rw (← a) (rw (take-append_seam row rest, drop-append_seam row rest) refl)

pub ruleset splitting = (flat-from-le, flat-low-le, flat-high-le, flat-rest, rows_of-joined)

pub ruleset joining = (parts_of-joined, length-ranges)
