-- One more row behind flat rows.
use Rattle.std.proofs.Common.{◌≡◌, ℕ, zero, suc, ◌+◌, ◌-◌, ◌<◌, List, [], ◌∷◌, length, drop, ◌++◌, refl, arith, ap}
use Rattle.std.specs.Prelude.{replicate}
use Rattle.std.proofs.lemmas.Bool.{eqb-true}
use Rattle.std.proofs.lemmas.List.{length-drop, take-append-le, drop-append-le, take_all, length-append, append_assoc}
use Rattle.cef_box.specs.declared.range.Range.{Range}
use Rattle.cef_box.specs.Flat.{ranges, rows_of, AreFlat}
use Rattle.cef_core.proofs.Parts.{are_ends-append}
use Rattle.cef_box.proofs.Flats.{flat-from-le, flat-low-le, flat-high-le, flat-rest}

pub ranges-replicate : (k : ℕ) (r : Range) → ranges (replicate k r.low) (replicate k r.high) ≡ replicate k r
ranges-replicate zero r = refl
ranges-replicate (suc k) r = ap (λ (row : List Range). r ∷ row) (ranges-replicate k r)

pub flat-append : (from : ℕ) (ends lows highs more_lows more_highs : List ℕ) (m : ℕ) → AreFlat from ends lows highs → length more_lows ≡ length more_highs → m ≡ from + length lows + length more_lows →
    AreFlat from (ends ++ m ∷ []) (lows ++ more_lows) (highs ++ more_highs)
flat-append from ends lows highs more_lows more_highs m h e f =
    let whole : m ≡ from + length (lows ++ more_lows) = omega (arith, length-append lows more_lows) in
    record {
      ends_is = rw (← whole) (are_ends-append from ends (from + length lows) m h.ends_is (omega arith));
      same = omega (arith, length-append lows more_lows, length-append highs more_highs, h.same);
    }

pub rows_of-append : (from : ℕ) (ends lows highs more_lows more_highs : List ℕ) (m : ℕ) → AreFlat from ends lows highs → length more_lows ≡ length more_highs → m ≡ from + length lows + length more_lows →
    rows_of from (ends ++ m ∷ []) (lows ++ more_lows) (highs ++ more_highs) ≡ rows_of from ends lows highs ++ ranges more_lows more_highs ∷ []
rows_of-append from [] [] [] more_lows more_highs m h e f =
    rw (take_all (m - from) more_lows (omega arith), take_all (m - from) more_highs (omega arith)) refl
rows_of-append from [] [] (k ∷ highs) more_lows more_highs m h e f = absurd (omega (arith, h.same))
rows_of-append from [] (k ∷ lows) highs more_lows more_highs m h e f = absurd (omega (arith, eqb-true from (from + length (k ∷ lows)) h.ends_is))
rows_of-append from (end ∷ ends) lows highs more_lows more_highs m h e f =
    let low = flat-low-le from end ends lows highs h in
    let high = flat-high-le from end ends lows highs h in
    let rest = rows_of-append end ends (drop (end - from) lows) (drop (end - from) highs) more_lows more_highs m (flat-rest from end ends lows highs h) e (omega (arith, length-drop (end - from) lows, flat-from-le from end ends lows highs h)) in
    rw (take-append-le (end - from) lows more_lows low, drop-append-le (end - from) lows more_lows low, take-append-le (end - from) highs more_highs high, drop-append-le (end - from) highs more_highs high, rest) refl

pub replicate-front : (xs : List ℕ) (k x : ℕ) → 0 < k → (xs ++ x ∷ []) ++ replicate (k - 1) x ≡ xs ++ replicate k x
replicate-front xs zero x h = absurd (omega (arith, h))
replicate-front xs (suc k) x h =
    let back : suc k - 1 ≡ k = omega arith in
    rw back (append_assoc xs (x ∷ []) (replicate k x))

pub ruleset growing = (replicate-front)

pub ruleset grown = (ranges-replicate, flat-append, rows_of-append)
