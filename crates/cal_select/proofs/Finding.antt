-- the first number that passes a test, and the last magnetism
use Rattle.std.proofs.Common.{◌≡◌, ℕ, zero, suc, ◌+◌, ◌<◌, List, [], ◌∷◌, ◌++◌, map, take, Option, Some, None, Bool, true, false, cond, refl, ap, sym, ◌∙◌, arith, subst, slice_get}
use Rattle.std.specs.Prelude.{filter}
use Rattle.std.specs.List.{find, range_with_len}
use Rattle.std.specs.Option.{option_or}
use Rattle.cef_core.specs.declared.phase.MagneticAt.{MagneticAt}
use Rattle.tdb_read.specs.declared.type_definition.TypeText.{TypeText}
use Rattle.cal_select.specs.Chosen.{PhaseEntry}
use Rattle.cal_select.specs.Types.{applies, magnetism_of, last_of, magnetic_of, later}
use Rattle.cal_select.proofs.Taken.{kept-next, left_out-next}

none_further : (p : ℕ → Bool) (a n : ℕ) → find p (range_with_len a n) ≡ None → p (a + n) ≡ false → find p (range_with_len a (suc n)) ≡ None
none_further p a zero none no_n = let at : p a ≡ false = subst (λ (k : ℕ). p k ≡ false) (omega arith) no_n in rw at refl
none_further p a (suc n) none no_n = by_test (p a) none (λ rest. none_further p (a + 1) n rest (subst (λ (k : ℕ). p k ≡ false) (omega arith) no_n))
  where
    by_test : (b : Bool) → cond b (Some a) (find p (range_with_len (a + 1) n)) ≡ None → (find p (range_with_len (a + 1) n) ≡ None → find p (range_with_len (a + 1) (suc n)) ≡ None) → cond b (Some a) (find p (range_with_len (a + 1) (suc n))) ≡ None
    by_test true h rest = cc
    by_test false h rest = rest h

pub none-on : (p : ℕ → Bool) (n : ℕ) → find p (range_with_len 0 n) ≡ None → p n ≡ false → find p (range_with_len 0 (n + 1)) ≡ None
none-on p n none no_n =
    let e : suc n ≡ n + 1 = omega arith in
    subst (λ (k : ℕ). find p (range_with_len 0 k) ≡ None) e (none_further p 0 n none (subst (λ (k : ℕ). p k ≡ false) (omega arith) no_n))

some_further : (p : ℕ → Bool) (a i n : ℕ) → find p (range_with_len a i) ≡ None → p (a + i) ≡ true → i < n → find p (range_with_len a n) ≡ Some (a + i)
some_further p a i zero none yes_i less = absurd (omega (arith, less))
some_further p a zero (suc n) none yes_i less =
    let at : p a ≡ true = subst (λ (k : ℕ). p k ≡ true) (omega arith) yes_i in
    let e : a ≡ a + 0 = omega arith in
    rw at (ap Some e)
some_further p a (suc i) (suc n) none yes_i less = by_test (p a) none (λ rest. some_further p (a + 1) i n rest (subst (λ (k : ℕ). p k ≡ true) (omega arith) yes_i) (omega (arith, less)))
  where
    by_test : (b : Bool) → cond b (Some a) (find p (range_with_len (a + 1) i)) ≡ None → (find p (range_with_len (a + 1) i) ≡ None → find p (range_with_len (a + 1) n) ≡ Some (a + 1 + i)) → cond b (Some a) (find p (range_with_len (a + 1) n)) ≡ Some (a + suc i)
    by_test true h rest = cc
    by_test false h rest = let e : a + 1 + i ≡ a + suc i = omega arith in rest h ∙ ap Some e

pub found-at : (p : ℕ → Bool) (i n : ℕ) → find p (range_with_len 0 i) ≡ None → p i ≡ true → i < n → find p (range_with_len 0 n) ≡ Some i
found-at p i n none yes_i less =
    let e : 0 + i ≡ i = omega arith in
    some_further p 0 i n none (subst (λ (k : ℕ). p k ≡ true) (sym e) yes_i) less ∙ ap Some e

-- ---- the last magnetism

or_none : (m : Option MagneticAt) → m ≡ option_or m None
or_none None = refl
or_none (Some m) = refl

or_or : (a b m : Option MagneticAt) → option_or (option_or a b) m ≡ option_or a (option_or b m)
or_or None b m = refl
or_or (Some a) b m = refl

last-append : (ms : List (Option MagneticAt)) (m : Option MagneticAt) → last_of (ms ++ m ∷ []) ≡ option_or m (last_of ms)
last-append [] m = or_none m
last-append (n ∷ ms) m = ap (λ (k : Option MagneticAt). option_or k n) (last-append ms m) ∙ or_or m (last_of ms) n

pub later-next : (texts : List TypeText) (e : PhaseEntry) (i : ℕ) (x : TypeText) (last : Option MagneticAt) → slice_get texts i ≡ Some x → last ≡ magnetic_of (take i texts) e → later last e x ≡ magnetic_of (take (i + 1) texts) e
later-next texts e i x last is last_is = by_test (applies e x) refl
  where
    by_test : (b : Bool) → applies e x ≡ b → cond b (option_or (magnetism_of x.kind) last) last ≡ magnetic_of (take (i + 1) texts) e
    by_test true yes_x =
        let all : map (λ (text : TypeText). magnetism_of text.kind) (filter (applies e) (take i texts)) ++ magnetism_of x.kind ∷ [] ≡ map (λ (text : TypeText). magnetism_of text.kind) (filter (applies e) (take (i + 1) texts)) =
        kept-next (λ (text : TypeText). magnetism_of text.kind) (applies e) texts i x (map (λ (text : TypeText). magnetism_of text.kind) (filter (applies e) (take i texts))) _ is yes_x refl refl in
        ap (option_or (magnetism_of x.kind)) last_is
        ∙ sym (last-append (map (λ (text : TypeText). magnetism_of text.kind) (filter (applies e) (take i texts))) (magnetism_of x.kind))
        ∙ ap last_of all
    by_test false no_x =
        last_is ∙ ap last_of (left_out-next (λ (text : TypeText). magnetism_of text.kind) (applies e) texts i x (map (λ (text : TypeText). magnetism_of text.kind) (filter (applies e) (take i texts))) is no_x refl)
