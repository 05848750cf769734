-- The words of a type definition.
use Rattle.std.proofs.Common.{◌≡◌, ℕ, zero, suc, ◌+◌, ◌<◌, ◌≤◌, Bool, true, false, Bor, List, [], ◌∷◌, length, map, drop, get_or, codes, Option, Some, None, refl, sym, ap, subst, ◌∙◌, arith}
use Rattle.std.specs.Prelude.{◌&&◌, ◌||◌, MatchBool}
use Rattle.cal_dec.specs.declared.dec.Dec.{Dec}
use Rattle.cal_scan.specs.Words.{same_word, tokens}
use Rattle.cal_scan.specs.Copies.{with_byte}
use Rattle.cal_scan.specs.FrontTokens.{behind_token}
use Rattle.tdb_forms.specs.Finding.{Finds}
use Rattle.tdb_forms.specs.Numbers.{IsReadable}
use Rattle.tdb_read.specs.declared.type_definition.TypeText.{TypeText}
use Rattle.tdb_read.specs.declared.type_definition.TypeKind.{TypeKind}
use Rattle.tdb_read.specs.declared.type_definition.TypeKind.TheVariants.{Magnetic, Plain, Other}
use Rattle.tdb_read.specs.TypeDefinition.{fits_pattern, is_amendment, is_sequence, is_plain, IsMagnetic, IsAmendedBy, Amends, GivesType, IsTypeDefinition}

-- the bytes of borrowed words
abbrev shown : List (Bor (List ℕ)) → List (List ℕ)
shown words = map (λ w. w.now) words

pub amendment_at : (words : List (Bor (List ℕ))) (d : Bor (List ℕ)) (found : Bool) → 4 ≤ length words → same_word (get_or words 0 d).now (codes "GES") ≡ true
    → found ≡ fits_pattern (codes "AMEND_PHASE_DESCRIPTION") (get_or words 1 d).now → found ≡ is_amendment (map (λ w. w.now) words)
amendment_at [] d found long ges is = absurd (omega (arith, long))
amendment_at (a ∷ []) d found long ges is = absurd (omega (arith, long))
amendment_at (a ∷ b ∷ []) d found long ges is = absurd (omega (arith, long))
amendment_at (a ∷ b ∷ c ∷ []) d found long ges is = absurd (omega (arith, long))
amendment_at (a ∷ b ∷ c ∷ e ∷ rest) d found long ges is = rw ges is

pub plain_first : (major sets a b : Bool) → major ≡ a → major ≡ true → major ≡ (a || b)
plain_first major sets a b is on = rw (← is, on) refl

pub plain_second : (major sets a b : Bool) → major ≡ a → sets ≡ b → major ≡ false → sets ≡ (a || b)
plain_second major sets a b is also off = rw (← is, off) also

pub magnetic_first : (words : List (Bor (List ℕ))) (d : Bor (List ℕ)) → ((v : Dec) → IsReadable (get_or words 0 d).now v → ⊥) → (kind : TypeKind) → IsMagnetic (map (λ w. w.now) words) kind → ⊥
magnetic_first [] d none kind is = is
magnetic_first (a ∷ []) d none kind is = is
magnetic_first (a ∷ b ∷ rest) d none (Magnetic factor fraction) is = none factor is.0
magnetic_first (a ∷ b ∷ rest) d none Plain is = is
magnetic_first (a ∷ b ∷ rest) d none Other is = is

pub magnetic_second : (words : List (Bor (List ℕ))) (d : Bor (List ℕ)) → ((v : Dec) → IsReadable (get_or words 1 d).now v → ⊥) → (kind : TypeKind) → IsMagnetic (map (λ w. w.now) words) kind → ⊥
magnetic_second [] d none kind is = is
magnetic_second (a ∷ []) d none kind is = is
magnetic_second (a ∷ b ∷ rest) d none (Magnetic factor fraction) is = none fraction is.1
magnetic_second (a ∷ b ∷ rest) d none Plain is = is
magnetic_second (a ∷ b ∷ rest) d none Other is = is

pub amends_at : (words rest : List (Bor (List ℕ))) (d : Bor (List ℕ)) (name : List ℕ) (kind : TypeKind) → 2 ≤ length words → rest ≡ drop 2 words → name ≡ (get_or words 0 d).now
    → IsAmendedBy (get_or words 1 d).now (map (λ w. w.now) rest) kind → Amends (map (λ w. w.now) words) name kind
amends_at [] rest d name kind long e is by = absurd (omega (arith, long))
amends_at (a ∷ []) rest d name kind long e is by = absurd (omega (arith, long))
amends_at (a ∷ b ∷ ws) rest d name kind long e is by = (is, subst (λ (r : List (Bor (List ℕ))). IsAmendedBy b.now (map (λ w. w.now) r) kind) e by)

pub finds_as : {A : Type 0} (P Q : A → Type 0) → ((x : A) → P x → Q x) → ((x : A) → Q x → P x) → (o : Option A) → Finds P o → Finds Q o
finds_as P Q there back None found = λ x q. found x (back x q)
finds_as P Q there back (Some x) found = there x found

pub given_amended : (words : List (List ℕ)) (phase : List ℕ) (kind : TypeKind) → is_amendment words ≡ true → Amends (drop 2 words) phase kind → GivesType words phase kind
given_amended words phase kind on is = rw on is

pub amended_given : (words : List (List ℕ)) (phase : List ℕ) (kind : TypeKind) → is_amendment words ≡ true → GivesType words phase kind → Amends (drop 2 words) phase kind
amended_given words phase kind on is = rw on at is

pub drop-map : (n : ℕ) (words : List (Bor (List ℕ))) → drop n (map (λ w. w.now) words) ≡ map (λ w. w.now) (drop n words)
drop-map zero words = refl
drop-map (suc n) [] = refl
drop-map (suc n) (w ∷ words) = drop-map n words

pub no_type : (line : ℕ) (text : List ℕ) (words : List (List ℕ)) (o : Option (List ℕ × TypeKind)) → words ≡ tokens (with_byte 44 32 (behind_token text)) → Finds (λ x. GivesType words x.0 x.1) o → o ≡ None
    → (t : TypeText) → IsTypeDefinition line text t → ⊥
no_type line text words o is found none t form =
    let nothing : (x : List ℕ × TypeKind) → GivesType words x.0 x.1 → ⊥ = subst (Finds (λ x. GivesType words x.0 x.1)) none found in
    nothing (t.phase, t.kind) (subst (λ ws. GivesType ws t.phase t.kind) (sym is) form.gives)
