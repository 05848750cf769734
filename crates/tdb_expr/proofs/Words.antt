-- Words behind spaces, and the marks among them.
use Rattle.std.proofs.Common.{◌≡◌, ℕ, zero, suc, ◌+◌, ◌<◌, ◌≤◌, List, [], ◌∷◌, ◌++◌, length, take, drop, length-append, append_assoc, append-nil, Option, Some, None, Bool, true, false, cond, eqb, refl, sym, ap, subst, ◌∙◌, arith}
use Rattle.std.specs.Prelude.{◌==◌}
use Rattle.std.specs.List.{prefix_len}
use Rattle.std.proofs.lemmas.Bool.{eqb-true}
use Rattle.cal_scan.specs.Fronts.{is_space, behind_spaces}
use Rattle.cal_dec.proofs.Longest.{IsBelowNumbers}
use Rattle.tdb_expr.specs.Grammar.{Word, spaces, Begins, AreWords}
use Rattle.tdb_expr.specs.Reading.{byte_at, mark_at}

-- ---- spaces

pub spaces_twice : (m n : ℕ) (t : List ℕ) → (k : ℕ) × (spaces m ++ (spaces n ++ t) ≡ spaces k ++ t)
spaces_twice zero n t = (n, refl)
spaces_twice (suc m) n t = let r = spaces_twice m n t in (suc r.0, ap (λ (z : List ℕ). 32 ∷ z) r.1)

abbrev pub NoSpace : List ℕ → Type 0
NoSpace [] = Unit {0}
NoSpace (b ∷ bs) = eqb b 32 ≡ false

next : (n : ℕ) → 1 + n ≡ suc n
next n = omega arith

pub behind_space : (t : List ℕ) → behind_spaces (32 ∷ t) ≡ behind_spaces t
unfolding behind_spaces
behind_space t = ap (λ (k : ℕ). drop k (32 ∷ t)) (next (prefix_len is_space t))

pub behind_other : (b : ℕ) (t : List ℕ) → eqb b 32 ≡ false → behind_spaces (b ∷ t) ≡ b ∷ t
unfolding behind_spaces
behind_other b t e = rw e refl

nothing_behind : behind_spaces [] ≡ []
unfolding behind_spaces
nothing_behind = refl

pub record Spaced (t : List ℕ) : Type 0 where
  pub count : ℕ
  pub parts : t ≡ spaces count ++ behind_spaces t
  pub plain : NoSpace (behind_spaces t)

pub spaces_found : (t : List ℕ) → Spaced t
spaces_found [] = record { count = 0; parts = sym nothing_behind; plain = subst NoSpace (sym nothing_behind) tt }
spaces_found (b ∷ bs) = by_test (eqb b 32) refl (spaces_found bs)
  where
    by_test : (v : Bool) → eqb b 32 ≡ v → Spaced bs → Spaced (b ∷ bs)
    by_test true is s =
        let same : b ≡ 32 = eqb-true _ _ is in
        let behind : behind_spaces (b ∷ bs) ≡ behind_spaces bs = ap (λ (c : ℕ). behind_spaces (c ∷ bs)) same ∙ behind_space bs in
        record {
          count = suc s.count;
          parts = ap (λ (c : ℕ). c ∷ bs) same ∙ ap (λ (z : List ℕ). 32 ∷ z) s.parts ∙ ap (λ (z : List ℕ). spaces (suc s.count) ++ z) (sym behind);
          plain = subst NoSpace (sym behind) s.plain;
        }
    by_test false is s = let here = behind_other b bs is in record { count = 0; parts = sym here; plain = subst NoSpace (sym here) is }

pub spaces_again : (n : ℕ) (t : List ℕ) → NoSpace t → behind_spaces (spaces n ++ t) ≡ t
spaces_again zero [] plain = nothing_behind
spaces_again zero (b ∷ bs) plain = behind_other b bs plain
spaces_again (suc n) t plain = behind_space (spaces n ++ t) ∙ spaces_again n t plain

pub behind_is : (n : ℕ) (t u : List ℕ) → t ≡ spaces n ++ u → NoSpace u → behind_spaces t ≡ u
behind_is n t u parts plain = ap behind_spaces parts ∙ spaces_again n u plain

pub behind_twice : (t : List ℕ) → behind_spaces (behind_spaces t) ≡ behind_spaces t
behind_twice t = spaces_again 0 (behind_spaces t) (spaces_found t).plain

pub spaces_shorter : (t : List ℕ) → length (behind_spaces t) ≤ length t
spaces_shorter t = let s = spaces_found t in omega (arith, ap length s.parts, length-append (spaces s.count) (behind_spaces t))

pub below_spaced : (n : ℕ) (t u : List ℕ) → t ≡ spaces n ++ u → IsBelowNumbers u → IsBelowNumbers t
below_spaced zero t u parts low = subst IsBelowNumbers (sym parts) low
below_spaced (suc n) t u parts low = subst IsBelowNumbers (sym parts) (omega arith)

-- ---- words

pub begins_join : (a b : List Word) (t u v : List ℕ) → Begins a t u → Begins b u v → Begins (a ++ b) t v
begins_join [] b t u v first second = subst (λ (z : List ℕ). Begins b z v) (sym first) second
begins_join (w ∷ a) b t u v first second = (first.0, first.1, first.2, begins_join a b first.1 u v first.3 second)

pub begins_split : (a b : List Word) (t v : List ℕ) → Begins (a ++ b) t v → (u : List ℕ) × Begins a t u × Begins b u v
begins_split [] b t v both = (t, refl, both)
begins_split (w ∷ a) b t v both = let r = begins_split a b both.1 v both.3 in (r.0, (both.0, both.1, both.2, r.1), r.2)

pub begins_shorter : (ws : List Word) (t r : List ℕ) → Begins ws t r → length r ≤ length t
begins_shorter [] t r begins = omega (arith, ap length begins)
begins_shorter (w ∷ ws) t r begins =
    omega (arith, begins_shorter ws begins.1 r begins.3, ap length begins.2, length-append (spaces begins.0) (w ++ begins.1), length-append w begins.1)

pub begins_spaced : (w : Word) (ws : List Word) (m : ℕ) (t u r : List ℕ) → u ≡ spaces m ++ t → Begins (w ∷ ws) t r → Begins (w ∷ ws) u r
begins_spaced w ws m t u r is begins =
    let k = spaces_twice m begins.0 (w ++ begins.1) in
    (k.0, begins.1, is ∙ ap (λ (z : List ℕ). spaces m ++ z) begins.2 ∙ k.1, begins.3)

-- ---- marks

byte_found : (b : ℕ) (t r : List ℕ) → byte_at b t ≡ Some r → t ≡ b ∷ r
byte_found b [] r e = absurd cc
byte_found b (c ∷ cs) r e = by_test (eqb c b) refl e
  where
    by_test : (v : Bool) → eqb c b ≡ v → cond v (Some cs) None ≡ Some r → c ∷ cs ≡ b ∷ r
    by_test true is e = let same : cs ≡ r = cc in ap (λ (x : ℕ). x ∷ cs) (eqb-true _ _ is) ∙ ap (λ (z : List ℕ). b ∷ z) same
    by_test false is e = absurd cc

pub byte_again : (b : ℕ) (t : List ℕ) → eqb b b ≡ true → byte_at b (b ∷ t) ≡ Some t
byte_again b t e = rw e refl

pub mark_behind : (b : ℕ) (t r : List ℕ) → mark_at b t ≡ Some r → (n : ℕ) × (t ≡ spaces n ++ (b ∷ r))
mark_behind b t r e =
    let s = spaces_found t in
    (s.count, s.parts ∙ ap (λ (z : List ℕ). spaces s.count ++ z) (byte_found b (behind_spaces t) r e))

pub mark_found : (b : ℕ) (t r : List ℕ) → mark_at b t ≡ Some r → Begins ((b ∷ []) ∷ []) t r
mark_found b t r e = let m = mark_behind b t r e in (m.0, r, m.1, refl)

pub stars_behind : (t r u : List ℕ) → mark_at 42 t ≡ Some u → byte_at 42 u ≡ Some r → (n : ℕ) × (t ≡ spaces n ++ (42 ∷ 42 ∷ r))
stars_behind t r u e f =
    let m = mark_behind 42 t u e in
    (m.0, m.1 ∙ ap (λ (z : List ℕ). spaces m.0 ++ 42 ∷ z) (byte_found 42 u r f))

pub mark_word : (b n : ℕ) (t r : List ℕ) → eqb b 32 ≡ false → eqb b b ≡ true → t ≡ spaces n ++ (b ∷ r) → mark_at b t ≡ Some r
mark_word b n t r plain itself parts = ap (byte_at b) (behind_is n t (b ∷ r) parts plain) ∙ byte_again b r itself

pub mark_other : (b c n : ℕ) (t r : List ℕ) → eqb c 32 ≡ false → eqb c b ≡ false → t ≡ spaces n ++ (c ∷ r) → mark_at b t ≡ None
mark_other b c n t r plain other parts = ap (byte_at b) (behind_is n t (c ∷ r) parts plain) ∙ rw other refl

pub mark_end : (b n : ℕ) (t : List ℕ) → t ≡ spaces n ++ [] → mark_at b t ≡ None
mark_end b n t parts = ap (byte_at b) (behind_is n t [] parts tt)
