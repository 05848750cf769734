-- The loops: factors, signs and terms one behind another.
use Rattle.std.proofs.Common.{◌≡◌, ℕ, zero, suc, ◌+◌, ◌-◌, ◌<◌, ◌≤◌, List, [], ◌∷◌, ◌++◌, length, drop, get_or, append_assoc, append-nil, Option, Some, None, Bool, true, false, cond, eqb, refl, sym, ap, subst, ◌∙◌, arith}
use Rattle.std.specs.Prelude.{map, not, ◌||◌}
use Rattle.std.specs.Option.{option_map}
use Rattle.std.proofs.lemmas.List.{at_drop_more, at_drop_all}
use Rattle.cal_scan.specs.Fronts.{behind_spaces}
use Rattle.tdb_expr.specs.declared.factor.Factor.{Factor}
use Rattle.tdb_expr.specs.declared.product.Product.{Product}
use Rattle.tdb_expr.specs.Parts.{Part, part_of, Term, term_of}
use Rattle.tdb_expr.specs.Reading.{◌>>=◌, Read, mark_at, factor_at, Parts, product_on, product_behind, product_at, turned, signs_at, sign_of, turned_if, is_sign, begins_signed, term, terms_at, all_terms, term_behind, term_at, with_terms}
use Rattle.tdb_expr.proofs.Words.{spaces_shorter}
use Rattle.tdb_expr.proofs.Sums.{product_shorter}

-- ---- factors

abbrev pub with_parts : List Part → Option Parts → Option Parts
with_parts front None = None
with_parts front (Some y) = Some (front ++ y.0, y.1)

some_parts : Parts → Option Parts
some_parts y = Some y

more_parts : (front : List Part) (x : Part) (o : Option Parts) → with_parts front (o >>= λ y. Some (x ∷ y.0, y.1)) ≡ with_parts (front ++ x ∷ []) o
unfolding some_parts
more_parts front x None = refl
more_parts front x (Some y) = ap (λ (z : List Part). some_parts (z, y.1)) (sym (append_assoc front (x ∷ []) y.0))

parts_at : List Part → List ℕ → ℕ → Option Parts
parts_at front t k = with_parts front (product_at k t)

map_more : (xs : List Factor) (x : Factor) → map part_of (xs ++ x ∷ []) ≡ map part_of xs ++ part_of x ∷ []
map_more [] x = refl
map_more (y ∷ ys) x = ap (λ (z : List Part). part_of y ∷ z) (map_more ys x)

map_pushed : (all next : List Factor) (x : Factor) → next ≡ all ++ x ∷ [] → map part_of next ≡ map part_of all ++ part_of x ∷ []
map_pushed all next x is = ap (λ (z : List Factor). map part_of z) is ∙ map_more all x

pub factors_on : (all next : List Factor) (m k : ℕ) (t rest more : List ℕ) (x : Factor) (total : Option Parts) → next ≡ all ++ x ∷ [] → m ≡ suc k → factor_at t ≡ Some (part_of x, rest) → mark_at 42 rest ≡ Some more
    → with_parts (map part_of all) (product_at m t) ≡ total → with_parts (map part_of next) (product_at k more) ≡ total
unfolding product_at parts_at
factors_on all next m k t rest more x total pushed e found star so_far =
    let front : List Part = map part_of all in
    let opened : product_at (suc k) t ≡ (product_at k more >>= λ y. Some (part_of x ∷ y.0, y.1)) = rw (found, star) refl in
    ap (λ (z : List Part). with_parts z (product_at k more)) (map_pushed all next x pushed)
    ∙ sym (more_parts front (part_of x) (product_at k more))
    ∙ ap (with_parts front) (sym opened)
    ∙ sym (ap (parts_at front t) e)
    ∙ so_far

pub factors_end : (all next : List Factor) (m k : ℕ) (t rest : List ℕ) (x : Factor) (total : Option Parts) → next ≡ all ++ x ∷ [] → m ≡ suc k → factor_at t ≡ Some (part_of x, rest) → mark_at 42 rest ≡ None
    → with_parts (map part_of all) (product_at m t) ≡ total → Some (map part_of next, rest) ≡ total
unfolding product_at parts_at some_parts
factors_end all next m k t rest x total pushed e found star so_far =
    let front : List Part = map part_of all in
    let opened : product_at (suc k) t ≡ Some (part_of x ∷ [], rest) = rw (found, star) refl in
    ap (λ (z : List Part). some_parts (z, rest)) (map_pushed all next x pushed) ∙ ap (with_parts front) (sym opened) ∙ sym (ap (parts_at front t) e) ∙ so_far

pub factors_none : (front : List Part) (m k : ℕ) (t : List ℕ) (total : Option Parts) → m ≡ suc k → factor_at t ≡ None → with_parts front (product_at m t) ≡ total → None ≡ total
unfolding product_at parts_at
factors_none front m k t total e found so_far =
    let opened : product_at (suc k) t ≡ None = rw found refl in
    ap (with_parts front) (sym opened) ∙ sym (ap (parts_at front t) e) ∙ so_far

pub factors_out : (front : List Part) (m : ℕ) (t : List ℕ) (total : Option Parts) → m ≡ 0 → with_parts front (product_at m t) ≡ total → None ≡ total
unfolding product_at parts_at
factors_out front m t total e so_far = sym (ap (parts_at front t) e) ∙ so_far

-- ---- signs

unfoldable pub carried : Bool → Bool × List ℕ → Bool × List ℕ
carried true s = turned s
carried false s = s

sign_opened : (b : ℕ) (bs : List ℕ) (m : Bool) → sign_of b ≡ Some m → signs_at (b ∷ bs) ≡ carried m (signs_at bs)
unfolding signs_at carried
sign_opened b bs m e = by_space (eqb b 32) refl e
  where
    by_minus : (v : Bool) → eqb b 45 ≡ v → cond v (Some true) None ≡ Some m → cond v (turned (signs_at bs)) (false, b ∷ bs) ≡ carried m (signs_at bs)
    by_minus true is e = let same : true ≡ m = cc in ap (λ (m : Bool). carried m (signs_at bs)) same
    by_minus false is e = absurd cc

    by_plus : (v : Bool) → eqb b 43 ≡ v → cond v (Some false) (cond (eqb b 45) (Some true) None) ≡ Some m → cond v (signs_at bs) (cond (eqb b 45) (turned (signs_at bs)) (false, b ∷ bs)) ≡ carried m (signs_at bs)
    by_plus true is e = let same : false ≡ m = cc in ap (λ (m : Bool). carried m (signs_at bs)) same
    by_plus false is e = by_minus (eqb b 45) refl e

    by_space : (v : Bool) → eqb b 32 ≡ v → cond v (Some false) (cond (eqb b 43) (Some false) (cond (eqb b 45) (Some true) None)) ≡ Some m
        → cond v (signs_at bs) (cond (eqb b 43) (signs_at bs) (cond (eqb b 45) (turned (signs_at bs)) (false, b ∷ bs))) ≡ carried m (signs_at bs)
    by_space true is e = let same : false ≡ m = cc in ap (λ (m : Bool). carried m (signs_at bs)) same
    by_space false is e = by_plus (eqb b 43) refl e

unsigned_opened : (b : ℕ) (bs : List ℕ) → sign_of b ≡ None → signs_at (b ∷ bs) ≡ (false, b ∷ bs)
unfolding signs_at
unsigned_opened b bs e = by_tests (eqb b 32) (eqb b 43) (eqb b 45) e
  where
    by_tests : (u v w : Bool) → cond u (Some false) (cond v (Some false) (cond w (Some true) None)) ≡ None
        → cond u (signs_at bs) (cond v (signs_at bs) (cond w (turned (signs_at bs)) (false, b ∷ bs))) ≡ (false, b ∷ bs)
    by_tests true v w e = absurd cc
    by_tests false true w e = absurd cc
    by_tests false false true e = absurd cc
    by_tests false false false e = refl

turned_twice : (s : Bool × List ℕ) → turned (turned s) ≡ s
turned_twice (true, t) = refl
turned_twice (false, t) = refl

by_sign : (m b : Bool) (c : ℕ) (t : List ℕ) → sign_of c ≡ Some m → carried b (signs_at (c ∷ t)) ≡ carried (turned_if m b) (signs_at t)
unfolding carried
by_sign false true c t e = ap turned (sign_opened c t false e)
by_sign false false c t e = sign_opened c t false e
by_sign true true c t e = ap turned (sign_opened c t true e) ∙ turned_twice (signs_at t)
by_sign true false c t e = sign_opened c t true e

carried_plain : (b : Bool) (t : List ℕ) → carried b (false, t) ≡ (b, t)
unfolding carried
carried_plain true t = refl
carried_plain false t = refl

pub signs_on : (m b next : Bool) (i : ℕ) (t : List ℕ) (total : Bool × List ℕ) → i < length t → Some m ≡ sign_of (get_or t i 0) → next ≡ turned_if m b → carried b (signs_at (drop i t)) ≡ total → carried next (signs_at (drop (i + 1) t)) ≡ total
signs_on m b next i t total lt e is so_far =
    ap (λ (n : Bool). carried n (signs_at (drop (i + 1) t))) is ∙ sym (at_drop_more (λ t. carried b (signs_at t)) t i 0 lt ∙ by_sign m b (get_or t i 0) (drop (i + 1) t) (sym e)) ∙ so_far

pub signs_stop : (b : Bool) (i : ℕ) (t rest : List ℕ) (total : Bool × List ℕ) → i < length t → None ≡ sign_of (get_or t i 0) → rest ≡ drop i t → carried b (signs_at (drop i t)) ≡ total → (b, rest) ≡ total
signs_stop b i t rest total lt e is so_far =
    let here : drop i t ≡ get_or t i 0 ∷ drop (i + 1) t = at_drop_more (λ (z : List ℕ). z) t i 0 lt in
    let signs : signs_at (drop i t) ≡ (false, rest) = ap signs_at here ∙ unsigned_opened (get_or t i 0) (drop (i + 1) t) (sym e) ∙ ap (λ (z : List ℕ). (false, z)) (sym here ∙ sym is) in
    sym (carried_plain b rest) ∙ ap (carried b) (sym signs) ∙ so_far

pub signs_done : (b : Bool) (i : ℕ) (t rest : List ℕ) (total : Bool × List ℕ) → length t ≤ i → rest ≡ drop (length t) t → carried b (signs_at (drop i t)) ≡ total → (b, rest) ≡ total
unfolding signs_at
signs_done b i t rest total le is so_far =
    let none : rest ≡ [] = is ∙ at_drop_all (λ (z : List ℕ). z) t (length t) (omega arith) in
    ap (λ (z : List ℕ). (b, z)) none ∙ sym (carried_plain b []) ∙ sym (at_drop_all (λ t. carried b (signs_at t)) t i le) ∙ so_far

-- ---- terms

signs_shorter : (t : List ℕ) → length (signs_at t).1 ≤ length t
unfolding signs_at
signs_shorter [] = omega arith
signs_shorter (b ∷ bs) = by_tests (eqb b 32) (eqb b 43) (eqb b 45) (signs_shorter bs)
  where
    by_tests : (u v w : Bool) → length (signs_at bs).1 ≤ length bs
        → length (cond u (signs_at bs) (cond v (signs_at bs) (cond w (turned (signs_at bs)) (false, b ∷ bs)))).1 ≤ length (b ∷ bs)
    by_tests true v w ih = omega (arith, ih)
    by_tests false true w ih = omega (arith, ih)
    by_tests false false true ih = omega (arith, ih)
    by_tests false false false ih = omega arith

sign_shorter : (b : ℕ) (bs : List ℕ) → is_sign b ≡ true → length (signs_at (b ∷ bs)).1 ≤ length bs
unfolding signs_at
sign_shorter b bs signed = by_tests (eqb b 32) (eqb b 43) (eqb b 45) (signs_shorter bs) signed
  where
    by_tests : (u v w : Bool) → length (signs_at bs).1 ≤ length bs → (v || w) ≡ true
        → length (cond u (signs_at bs) (cond v (signs_at bs) (cond w (turned (signs_at bs)) (false, b ∷ bs)))).1 ≤ length bs
    by_tests true v w ih signed = ih
    by_tests false true w ih signed = ih
    by_tests false false true ih signed = ih
    by_tests false false false ih signed = absurd cc

abbrev TermAt : Type 0
TermAt = Term × List ℕ

behind_shorter : (b : ℕ) (bs : List ℕ) (p : Parts) → is_sign b ≡ true → product_at 16 (signs_at (b ∷ bs)).1 ≡ Some p → length (behind_spaces p.1) ≤ length bs
behind_shorter b bs p signed e = omega (arith, spaces_shorter p.1, product_shorter 16 (signs_at (b ∷ bs)).1 p e, sign_shorter b bs signed)

cond_found : {A : Type 0} (b : Bool) (o : Option A) (y : A) → cond b o None ≡ Some y → (b ≡ true) × (o ≡ Some y)
cond_found true o y e = (refl, e)
cond_found false o y e = absurd cc

pub term_shorter : (t : List ℕ) (y : TermAt) → term_at t ≡ Some y → length y.1 < length t
unfolding term_at
term_shorter [] y e = absurd cc
term_shorter (b ∷ bs) y e = let c = cond_found (is_sign b) (term_behind (signs_at (b ∷ bs)).0 (product_at 16 (signs_at (b ∷ bs)).1)) y e in by_product (product_at 16 (signs_at (b ∷ bs)).1) refl c.0 c.1
  where
    by_product : (o : Option Parts) → product_at 16 (signs_at (b ∷ bs)).1 ≡ o → is_sign b ≡ true → term_behind (signs_at (b ∷ bs)).0 o ≡ Some y → length y.1 < length (b ∷ bs)
    by_product None is signed e = absurd cc
    by_product (Some p) is signed e =
        let made : TermAt = (term (signs_at (b ∷ bs)).0 p.0, behind_spaces p.1) in
        let same : made ≡ y = cc in
        let rest : length (behind_spaces p.1) ≡ length y.1 = ap (λ (z : TermAt). length z.1) same in
        omega (arith, rest, behind_shorter b bs p signed is)

pub terms_fuel : (j k : ℕ) (t : List ℕ) → length t ≤ j → length t ≤ k → terms_at j t ≡ terms_at k t
unfolding terms_at
terms_fuel j k [] lj lk = refl
terms_fuel zero k (b ∷ bs) lj lk = absurd (omega (arith, lj))
terms_fuel (suc j) zero (b ∷ bs) lj lk = absurd (omega (arith, lk))
terms_fuel (suc j) (suc k) (b ∷ bs) lj lk = by_sign (λ (s : List ℕ) (l : length s ≤ j) (m : length s ≤ k). terms_fuel j k s l m) (is_sign b) refl
  where
    t : List ℕ
    t = b ∷ bs

    by_product : ((s : List ℕ) → length s ≤ j → length s ≤ k → terms_at j s ≡ terms_at k s) → (o : Option Parts) → product_at 16 (signs_at t).1 ≡ o → is_sign b ≡ true
        → (o >>= λ p. terms_at j (behind_spaces p.1) >>= λ xs. Some (term (signs_at t).0 p.0 ∷ xs)) ≡ (o >>= λ p. terms_at k (behind_spaces p.1) >>= λ xs. Some (term (signs_at t).0 p.0 ∷ xs))
    by_product ih None is signed = refl
    by_product ih (Some p) is signed =
        let short = behind_shorter b bs p signed is in
        ap (λ (o : Option (List Term)). o >>= λ xs. Some (term (signs_at t).0 p.0 ∷ xs)) (ih (behind_spaces p.1) (omega (arith, short, lj)) (omega (arith, short, lk)))

    by_sign : ((s : List ℕ) → length s ≤ j → length s ≤ k → terms_at j s ≡ terms_at k s) → (v : Bool) → is_sign b ≡ v
        → cond v (product_at 16 (signs_at t).1 >>= λ p. terms_at j (behind_spaces p.1) >>= λ xs. Some (term (signs_at t).0 p.0 ∷ xs)) None ≡ cond v (product_at 16 (signs_at t).1 >>= λ p. terms_at k (behind_spaces p.1) >>= λ xs. Some (term (signs_at t).0 p.0 ∷ xs)) None
    by_sign ih true signed = by_product ih (product_at 16 (signs_at t).1) refl signed
    by_sign ih false plain = refl

abbrev behind_term : Option TermAt → Option (List Term)
behind_term None = None
behind_term (Some y) = with_terms (y.0 ∷ []) (all_terms y.1)

pub front_of : (x : Term) (o : Option (List Term)) → (o >>= λ ys. Some (x ∷ ys)) ≡ with_terms (x ∷ []) o
front_of x None = refl
front_of x (Some ys) = refl

terms_opened : (b : ℕ) (bs : List ℕ) → all_terms (b ∷ bs) ≡ behind_term (term_at (b ∷ bs))
unfolding terms_at term_at
terms_opened b bs = by_sign (is_sign b) refl
  where
    t : List ℕ
    t = b ∷ bs

    by_product : (o : Option Parts) → product_at 16 (signs_at t).1 ≡ o → is_sign b ≡ true
        → (o >>= λ p. terms_at (length bs) (behind_spaces p.1) >>= λ ys. Some (term (signs_at t).0 p.0 ∷ ys)) ≡ behind_term (term_behind (signs_at t).0 o)
    by_product None is signed = refl
    by_product (Some p) is signed =
        let s : List ℕ = behind_spaces p.1 in
        front_of (term (signs_at t).0 p.0) (terms_at (length bs) s) ∙ ap (with_terms (term (signs_at t).0 p.0 ∷ [])) (terms_fuel (length bs) (length s) s (behind_shorter b bs p signed is) (omega arith))

    by_sign : (v : Bool) → is_sign b ≡ v
        → cond v (product_at 16 (signs_at t).1 >>= λ p. terms_at (length bs) (behind_spaces p.1) >>= λ ys. Some (term (signs_at t).0 p.0 ∷ ys)) None ≡ behind_term (cond v (term_behind (signs_at t).0 (product_at 16 (signs_at t).1)) None)
    by_sign true signed = by_product (product_at 16 (signs_at t).1) refl signed
    by_sign false plain = refl

with_terms_twice : (front : List Term) (x : Term) (o : Option (List Term)) → with_terms front (with_terms (x ∷ []) o) ≡ with_terms (front ++ x ∷ []) o
with_terms_twice front x None = refl
with_terms_twice front x (Some ys) = ap (λ (z : List Term). Some z) (sym (append_assoc front (x ∷ []) ys))

terms_more : (xs : List Product) (x : Product) → map term_of (xs ++ x ∷ []) ≡ map term_of xs ++ term_of x ∷ []
terms_more [] x = refl
terms_more (y ∷ ys) x = ap (λ (z : List Term). term_of y ∷ z) (terms_more ys x)

pub terms_on : (all next : List Product) (t after : List ℕ) (x : Product) (total : Option (List Term)) → next ≡ all ++ x ∷ [] → 0 < length t → term_at t ≡ Some (term_of x, after)
    → with_terms (map term_of all) (all_terms t) ≡ total → with_terms (map term_of next) (all_terms after) ≡ total
terms_on all next [] after x total pushed lt found so_far = absurd (omega (arith, lt))
terms_on all next (b ∷ bs) after x total pushed lt found so_far =
    let front : List Term = map term_of all in
    let grown : map term_of next ≡ front ++ term_of x ∷ [] = ap (λ (z : List Product). map term_of z) pushed ∙ terms_more all x in
    ap (λ (z : List Term). with_terms z (all_terms after)) grown ∙ sym (with_terms_twice front (term_of x) (all_terms after)) ∙ ap (with_terms front) (sym (terms_opened b bs ∙ ap behind_term found)) ∙ so_far

pub terms_none : (front : List Term) (t : List ℕ) (total : Option (List Term)) → 0 < length t → term_at t ≡ None → with_terms front (all_terms t) ≡ total → None ≡ total
terms_none front [] total lt found so_far = absurd (omega (arith, lt))
terms_none front (b ∷ bs) total lt found so_far = sym (ap (with_terms front) (terms_opened b bs ∙ ap behind_term found)) ∙ so_far

pub terms_done : (front : List Term) (t : List ℕ) (total : Option (List Term)) → length t ≡ 0 → with_terms front (all_terms t) ≡ total → Some front ≡ total
unfolding terms_at
terms_done front [] total e so_far = ap (λ (z : List Term). Some z) (sym (append-nil front)) ∙ so_far
terms_done front (b ∷ bs) total e so_far = absurd (omega (arith, e))
