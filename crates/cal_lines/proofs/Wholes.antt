-- A whole text: what an exact reader of all of its lines says of its bytes.
use Rattle.std.proofs.Common.{◌≡◌, ℕ, Bool, true, false, cond, eqb, List, [], ◌∷◌, length, Result, Ok, Err, refl, sym, ap, subst, ◌∙◌}
use Rattle.std.specs.Prelude.{IfOk}
use Rattle.std.specs.List.{concat}
use Rattle.cal_scan.specs.Lines.{Line}
use Rattle.cal_lines.specs.declared.fault.TextFault.{TextFault}
use Rattle.cal_lines.specs.declared.fault.TextFault.TheVariants as faults
use Rattle.cal_lines.specs.Reading.{lines_of, before_lines, Lines, Read, ◌>>=◌, Stops, Fails, Gives, OnLine, only, ended}
use Rattle.cal_lines.proofs.Feeds.{AreLines, concat-lines_of, lines_of-concat}
use Rattle.cal_lines.proofs.Algebra.{ExactWhole}

-- The values of X and those of Y say the same: view makes one of the other, and back turns it.
pub record Seen {X Y : Type 0} (view : X → Y) (back : Y → X) (spellX : X → List Line) (FitsX : X → Type 0) (spellY : Y → List Line) (FitsY : Y → Type 0) : Type 0 where
  pub view_back : (y : Y) → view (back y) ≡ y
  pub back_view : (x : X) → back (view x) ≡ x
  pub spells : (x : X) → spellX x ≡ spellY (view x)
  pub to_view : (x : X) → FitsX x → FitsY (view x)
  pub from_view : (x : X) → FitsY (view x) → FitsX x

pub text_lines : {X Y : Type 0} (view : X → Y) (back : Y → X) (spellX : X → List Line) (FitsX : X → Type 0) (spellY : Y → List Line) (FitsY : Y → Type 0) (f : Lines → Result Y ℕ)
    → Seen view back spellX FitsX spellY FitsY → ExactWhole spellY FitsY f → (x : X) → FitsX x → lines_of (concat (spellX x)) ≡ spellX x
text_lines view back spellX FitsX spellY FitsY f seen exact x fits =
    lines_of-concat (spellX x) (subst (λ (ls : List Line). AreLines ls) (sym (seen.spells x)) (exact.clean (view x) (seen.to_view x fits)))

-- what is read is a value that fits, and the bytes are its text
pub is_found : {X Y : Type 0} (view : X → Y) (back : Y → X) (spellX : X → List Line) (FitsX : X → Type 0) (spellY : Y → List Line) (FitsY : Y → Type 0) (f : Lines → Result Y ℕ)
    → Seen view back spellX FitsX spellY FitsY → ExactWhole spellY FitsY f
    → (bytes : List ℕ) (o : Result X TextFault) → Gives view o (f (1, lines_of bytes)) → IfOk o (λ x. FitsX x × (bytes ≡ concat (spellX x)))
is_found view back spellX FitsX spellY FitsY f seen exact bytes (Err e) given = tt
is_found view back spellX FitsX spellY FitsY f seen exact bytes (Ok x) given =
    let g = exact.found 1 (lines_of bytes) (view x) given in
    (seen.from_view x g.1, sym (concat-lines_of bytes) ∙ ap concat (g.0 ∙ sym (seen.spells x)))

-- the text of a value that fits is read as this value
pub is_only : {X Y : Type 0} (view : X → Y) (back : Y → X) (spellX : X → List Line) (FitsX : X → Type 0) (spellY : Y → List Line) (FitsY : Y → Type 0) (f : Lines → Result Y ℕ)
    → Seen view back spellX FitsX spellY FitsY → ExactWhole spellY FitsY f
    → (bytes : List ℕ) (o : Result X TextFault) → Gives view o (f (1, lines_of bytes)) → (x : X) → FitsX x → bytes ≡ concat (spellX x) → Gives (λ (x : X). x) o (Ok x)
is_only {X = X} {Y = Y} view back spellX FitsX spellY FitsY f seen exact bytes o given x fits e =
    let lines : lines_of bytes ≡ spellY (view x) = ap lines_of e ∙ text_lines view back spellX FitsX spellY FitsY f seen exact x fits ∙ seen.spells x in
    by_result o (subst (Gives view o) (ap (λ (ls : List Line). f (1, ls)) lines ∙ exact.again (view x) 1 (seen.to_view x fits)) given)
  where
    made : Y → Result Y ℕ
    made y = Ok y

    inner : (y z : Y) → made y ≡ made z → y ≡ z
    inner y z h = cc

    by_result : (o : Result X TextFault) → Gives view o (Ok (view x)) → Gives (λ (x : X). x) o (Ok x)
    by_result (Ok s) h = let same : x ≡ s = sym (seen.back_view x) ∙ ap back (inner (view x) (view s) h) ∙ seen.back_view s in ap (λ (x : X). Ok x) same
    by_result (Err faults.Memory) h = tt
    by_result (Err (faults.Line n)) h = absurd cc

-- the line of a fault is the first at which no text of a value that fits goes on
pub is_fault : {X Y : Type 0} (view : X → Y) (back : Y → X) (spellX : X → List Line) (FitsX : X → Type 0) (spellY : Y → List Line) (FitsY : Y → Type 0) (f : Lines → Result Y ℕ)
    → Seen view back spellX FitsX spellY FitsY → ExactWhole spellY FitsY f
    → (bytes : List ℕ) (o : Result X TextFault) → Gives view o (f (1, lines_of bytes)) → OnLine o (λ n. Stops spellX FitsX 1 (lines_of bytes) n)
is_fault view back spellX FitsX spellY FitsY f seen exact bytes (Ok x) given = tt
is_fault view back spellX FitsX spellY FitsY f seen exact bytes (Err faults.Memory) given = tt
is_fault {X = X} {Y = Y} view back spellX FitsX spellY FitsY f seen exact bytes (Err (faults.Line n)) given =
    let s = exact.stops 1 (lines_of bytes) n given in
    let y : Y = s.goes.0 in
    let fits : FitsY (view (back y)) = subst FitsY (sym (seen.view_back y)) s.goes.1 in
    record {
      front = s.front;
      rest = s.rest;
      cut = s.cut;
      count = s.count;
      goes = (back y, seen.from_view (back y) fits, s.goes.2, seen.spells (back y) ∙ ap spellY (seen.view_back y) ∙ s.goes.3);
      ends = λ longer others more x cut fits spells. s.ends longer others more (view x) cut (seen.to_view x fits) (sym (seen.spells x) ∙ spells);
    }

-- bytes that are left behind the last line
pub left_over : {A : Type 0} (f : Read A) (at : Lines) (a : A) (n : ℕ) (bs : List ℕ) → f at ≡ Ok (a, (n, lines_of bs)) → (length bs ≡ 0 → ⊥) → (f at >>= only) ≡ Err n
left_over f at a n [] e some = absurd (some refl)
left_over f at a n (b ∷ bs) e some = rw e (by_test (eqb b 10) (lines_of bs))
  where
    by_test : (t : Bool) (ls : List Line) → only (a, (n, cond t ((10 ∷ []) ∷ ls) (before_lines b ls))) ≡ Err n
    by_test true ls = refl
    by_test false [] = refl
    by_test false (l ∷ ls) = refl

pub not_ended : (n : ℕ) (bs : List ℕ) → eqb (length bs) 0 ≡ false → ended (n, lines_of bs) ≡ Err n
not_ended n [] some = absurd cc
not_ended n (b ∷ bs) some = by_test (eqb b 10) (lines_of bs)
  where
    by_test : (t : Bool) (ls : List Line) → ended (n, cond t ((10 ∷ []) ∷ ls) (before_lines b ls)) ≡ Err n
    by_test true ls = refl
    by_test false [] = refl
    by_test false (l ∷ ls) = refl

-- a value behind which the text ends, and one behind which it does not
pub ended_ok : {A : Type 0} (f : Read A) (at after : Lines) (a : A) (u : Unit {0}) → f at ≡ Ok (a, after) → ended after ≡ Ok u → (f at >>= only) ≡ Ok a
ended_ok f at (n, []) a u e end = rw e refl
ended_ok f at (n, l ∷ ls) a u e end = absurd cc

pub ended_err : {A : Type 0} (f : Read A) (at after : Lines) (a : A) (fault : TextFault) → f at ≡ Ok (a, after) → Fails fault (ended after) → Fails fault (f at >>= only)
ended_err f at after a faults.Memory e end = tt
ended_err f at (n, []) a (faults.Line k) e end = absurd cc
ended_err f at (n, l ∷ ls) a (faults.Line k) e end = let same : n ≡ k = cc in rw (e, same) refl
