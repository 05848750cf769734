use Rattle.std.proofs.Common.{◌≡◌, ◌+◌, ◌-◌, ◌*◌, ◌^◌, ◌<◌, ◌≤◌, ℕ, zero, suc, List, [], ◌∷◌, ◌++◌, length, take, get_or, ap, sym, subst, ◌∙◌, append_assoc, arith}
use Rattle.std.specs.Str.Parse.{AllDigits, digits_value}
use Rattle.std.proofs.lemmas.List.{length-take, take_more}
use Rattle.std.proofs.lemmas.Int.Digits.{digits_value_push}
use Rattle.std.proofs.lemmas.Str.Parse.{digit_at}
use Rattle.cal_dec.specs.Digits.{digit_value-is, digits_value-small}
use Rattle.cal_dec.specs.Trimming.{IsFirst, IsFirst-kept, IsFirst-dropped}
use Rattle.cal_dec.proofs.reading.first_digits.Goals as goal
use Rattle.cal_dec.proofs.reading.first_digits.Goals.{then-magnitude-lt-FULL, else-magnitude-lt-FULL}

all_take : (i : ℕ) (ds : List ℕ) → AllDigits 10 ds → AllDigits 10 (take i ds)
all_take zero ds a = tt
all_take (suc i) [] a = tt
all_take (suc i) (d ∷ ds) a = (a.0, all_take i ds a.1)

next_value : (front ds : List ℕ) (i : ℕ) → AllDigits 10 ds → i < length ds
    → digits_value 10 (front ++ take (i + 1) ds) ≡ digits_value 10 (front ++ take i ds) * 10 + (get_or ds i 0 - 48)
next_value front ds i all within =
    let range = digit_at ds i all within in
    let next : take (i + 1) ds ≡ take i ds ++ get_or ds i 0 ∷ [] = take_more ds i 0 within in
    ap (λ t. digits_value 10 (front ++ t)) next
    ∙ ap (digits_value 10) (sym (append_assoc front (take i ds) (get_or ds i 0 ∷ [])))
    ∙ digits_value_push 10 (front ++ take i ds) (get_or ds i 0)
    ∙ ap (λ d. digits_value 10 (front ++ take i ds) * 10 + d) (digit_value-is (get_or ds i 0) range.0 range.1)

bounded : (front ds : List ℕ) (i : ℕ) → AllDigits 10 ds → AllDigits 10 front → length front + length ds ≤ 64 → digits_value 10 (front ++ take i ds) < 10 ^ 64
bounded front ds i all before few = digits_value-small front (take i ds) before (all_take i ds all) (omega (arith, length-take i ds))

kept : (front ds : List ℕ) (i m k : ℕ) → AllDigits 10 ds → i < length ds → AllDigits 10 front → length front + length ds ≤ 64 → m < 10 ^ 17
    → IsFirst (digits_value 10 (front ++ take i ds)) m k → IsFirst (digits_value 10 (front ++ take (i + 1) ds)) (m * 10 + (get_or ds i 0 - 48)) k
kept front ds i m k all within before few small is =
    let range = digit_at ds i all within in
    subst (λ v. IsFirst v (m * 10 + (get_or ds i 0 - 48)) k) (sym (next_value front ds i all within))
    (IsFirst-kept (digits_value 10 (front ++ take i ds)) m k (get_or ds i 0 - 48) (bounded front ds i all before few) (omega arith) small is)

dropped : (front ds : List ℕ) (i m k : ℕ) → AllDigits 10 ds → i < length ds → AllDigits 10 front → length front + length ds ≤ 64 → 10 ^ 17 ≤ m
    → IsFirst (digits_value 10 (front ++ take i ds)) m k → IsFirst (digits_value 10 (front ++ take (i + 1) ds)) m (k + 1)
dropped front ds i m k all within before few large is =
    let range = digit_at ds i all within in
    let next = next_value front ds i all within in
    subst (λ v. IsFirst v m (k + 1)) (sym next)
    (IsFirst-dropped (digits_value 10 (front ++ take i ds)) m k (get_or ds i 0 - 48) (omega (arith, next, bounded front ds (i + 1) all before few)) (omega arith) large is)

pub overflow_sub-magnitude : goal.overflow_sub-magnitude
overflow_sub-magnitude c = let range = digit_at c.args.digits.now c.digits.b-index c.requires.digits (omega arith) in omega arith

pub digits-preserved : goal.digits-preserved
digits-preserved c =
    let range = digit_at c.args.digits.now c.digits.b-index c.requires.digits (omega arith) in
    elim c.if-magnitude-lt-FULL.branch [
      | then-magnitude-lt-FULL w ↦ record {
        first = λ front all few is. rw (w.magnitude-is, w.dropped-is) (kept front c.args.digits.now c.digits.b-index c.digits.magnitude c.digits.dropped c.requires.digits (omega arith) all few (omega arith) (c.digits.invariant.first front all few is));
        small = omega arith;
        few = omega arith;
      }
      | else-magnitude-lt-FULL w ↦ record {
        first = λ front all few is. rw (w.magnitude-is, w.dropped-is) (dropped front c.args.digits.now c.digits.b-index c.digits.magnitude c.digits.dropped c.requires.digits (omega arith) all few (omega arith) (c.digits.invariant.first front all few is));
        small = omega arith;
        few = omega arith;
      }
    ]
