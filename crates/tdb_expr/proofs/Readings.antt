-- What a text is read as, once.
use Rattle.std.proofs.Common.{◌≡◌, ℕ, zero, suc, ◌<◌, ◌≤◌, ◌⊎◌, inl, inr, List, [], ◌∷◌, ◌++◌, length, Option, Some, None, Bool, true, false, refl, sym, ap, subst, ◌∙◌, arith}
use Rattle.std.specs.Prelude.{map, slice_get, ℤ, unsigned_abs}
use Rattle.std.specs.Option.{option_map}
use Rattle.cal_dec.specs.Decimals.{Decimal, decimal_of}
use Rattle.tdb_expr.specs.declared.factor.Factor.{Factor}
use Rattle.tdb_expr.specs.declared.factor.Factor.TheVariants as f
use Rattle.tdb_expr.specs.declared.product.Product.{Product}
use Rattle.tdb_expr.specs.declared.expression.Expr.{Expr}
use Rattle.tdb_expr.specs.declared.expression.Expr.TheVariants.{Sum, Unsupported}
use Rattle.tdb_expr.specs.Forms.{IsFactor, IsProduct, AreProducts, IsExpr}
use Rattle.tdb_expr.specs.Grammar.{Word, AreWords, SpellsFactor, SpellsProduct, SpellsTerm, SpellsTerms, SpellsSum, IsReading}
use Rattle.tdb_expr.specs.Parts.{Part, part_of, Term, term_of}
use Rattle.tdb_expr.specs.Reading.{sum_at}
use Rattle.tdb_expr.proofs.Found.{SpellsPart}
use Rattle.tdb_expr.proofs.Sums.{SpellsParts, SpellsPartTerm, SpellsPartTerms, SpellsPartSum, SumFound, sum_found, sum_again}

-- ---- factors and their values

factor_spelled : (x : Factor) (ws : List Word) → SpellsPart (part_of x) ws → SpellsFactor x ws
factor_spelled (f.Number d) ws spells = spells
factor_spelled f.T ws spells = spells
factor_spelled (f.Power n) ws spells = spells
factor_spelled f.LnT ws spells = spells
factor_spelled (f.Name name) ws spells = spells

part_spelled : (x : Factor) (ws : List Word) → SpellsFactor x ws → SpellsPart (part_of x) ws
part_spelled (f.Number d) ws spells = spells
part_spelled f.T ws spells = spells
part_spelled (f.Power n) ws spells = spells
part_spelled f.LnT ws spells = spells
part_spelled (f.Name name) ws spells = spells

product_spelled : (xs : List Factor) (ws : List Word) → SpellsParts (map part_of xs) ws → SpellsProduct xs ws
product_spelled [] ws spells = absurd spells
product_spelled (x ∷ []) ws spells = factor_spelled x ws spells
product_spelled (x ∷ y ∷ xs) ws spells = (spells.0, spells.1, spells.2, factor_spelled x spells.0 spells.3, product_spelled (y ∷ xs) spells.1 spells.4)

parts_spelled : (xs : List Factor) (ws : List Word) → SpellsProduct xs ws → SpellsParts (map part_of xs) ws
parts_spelled [] ws spells = absurd spells
parts_spelled (x ∷ []) ws spells = part_spelled x ws spells
parts_spelled (x ∷ y ∷ xs) ws spells = (spells.0, spells.1, spells.2, part_spelled x spells.0 spells.3, parts_spelled (y ∷ xs) spells.1 spells.4)

count : (xs : List Factor) → length (map part_of xs) ≡ length xs
count [] = refl
count (x ∷ xs) = ap (λ (k : ℕ). suc k) (count xs)

term_spelled : (p : Product) (a b : List Word) → SpellsPartTerm (term_of p) a b → SpellsTerm p a b
term_spelled p a b spells = record { sign = spells.sign; product = product_spelled p.factors b spells.product; few = omega (arith, spells.few, count p.factors) }

part_term_spelled : (p : Product) (a b : List Word) → SpellsTerm p a b → SpellsPartTerm (term_of p) a b
part_term_spelled p a b spells = record { sign = spells.sign; product = parts_spelled p.factors b spells.product; few = omega (arith, spells.few, count p.factors) }

terms_spelled : (ps : List Product) (ws : List Word) → SpellsPartTerms (map term_of ps) ws → SpellsTerms ps ws
terms_spelled [] ws spells = spells
terms_spelled (p ∷ ps) ws spells = (spells.0, spells.1, spells.2, spells.3, spells.4, term_spelled p spells.0 spells.1 spells.5, terms_spelled ps spells.2 spells.6)

part_terms_spelled : (ps : List Product) (ws : List Word) → SpellsTerms ps ws → SpellsPartTerms (map term_of ps) ws
part_terms_spelled [] ws spells = spells
part_terms_spelled (p ∷ ps) ws spells = (spells.0, spells.1, spells.2, spells.3, spells.4, part_term_spelled p spells.0 spells.1 spells.5, part_terms_spelled ps spells.2 spells.6)

sum_spelled : (ps : List Product) (ws : List Word) → SpellsPartSum (map term_of ps) ws → SpellsSum ps ws
sum_spelled [] ws spells = absurd spells
sum_spelled (p ∷ ps) ws spells = (spells.0, spells.1, spells.2, spells.3, term_spelled p spells.0 spells.1 spells.4, terms_spelled ps spells.2 spells.5)

pub part_sum_spelled : (ps : List Product) (ws : List Word) → SpellsSum ps ws → SpellsPartSum (map term_of ps) ws
part_sum_spelled [] ws spells = absurd spells
part_sum_spelled (p ∷ ps) ws spells = (spells.0, spells.1, spells.2, spells.3, part_term_spelled p spells.0 spells.1 spells.4, part_terms_spelled ps spells.2 spells.5)

-- ---- what a database keeps

factor_form : (x : Factor) (ws : List Word) → SpellsFactor x ws → IsFactor x
factor_form (f.Number d) ws spells = spells.2.within
factor_form f.T ws spells = tt
factor_form (f.Power n) ws spells = spells.spells.0
factor_form f.LnT ws spells = tt
factor_form (f.Name name) ws spells = tt

some_of : {A : Type 0} (x y : A) → Some x ≡ Some y → x ≡ y
some_of x y e = cc

factor_forms : (xs : List Factor) (ws : List Word) → SpellsProduct xs ws → (j : ℕ) (x : Factor) → slice_get xs j ≡ Some x → IsFactor x
factor_forms [] ws spells j x at = absurd spells
factor_forms (y ∷ []) ws spells zero x at = subst IsFactor (some_of y x at) (factor_form y ws spells)
factor_forms (y ∷ []) ws spells (suc j) x at = absurd cc
factor_forms (y ∷ z ∷ xs) ws spells zero x at = subst IsFactor (some_of y x at) (factor_form y spells.0 spells.3)
factor_forms (y ∷ z ∷ xs) ws spells (suc j) x at = factor_forms (z ∷ xs) spells.1 spells.4 j x at

product_least : (xs : List Factor) (ws : List Word) → SpellsProduct xs ws → 0 < length xs
product_least [] ws spells = absurd spells
product_least (x ∷ xs) ws spells = omega arith

term_form : (p : Product) (a b : List Word) → SpellsTerm p a b → IsProduct p
term_form p a b spells = record { least = product_least p.factors b spells.product; most = spells.few; factors = factor_forms p.factors b spells.product }

term_forms : (ps : List Product) (ws : List Word) → SpellsTerms ps ws → (k : ℕ) (p : Product) → slice_get ps k ≡ Some p → IsProduct p
term_forms [] ws spells k p at = absurd cc
term_forms (q ∷ ps) ws spells zero p at = subst IsProduct (some_of q p at) (term_form q spells.0 spells.1 spells.5)
term_forms (q ∷ ps) ws spells (suc k) p at = term_forms ps spells.2 spells.6 k p at

sum_forms : (ps : List Product) (ws : List Word) → SpellsSum ps ws → (k : ℕ) (p : Product) → slice_get ps k ≡ Some p → IsProduct p
sum_forms [] ws spells k p at = absurd spells
sum_forms (q ∷ ps) ws spells zero p at = subst IsProduct (some_of q p at) (term_form q spells.0 spells.1 spells.4)
sum_forms (q ∷ ps) ws spells (suc k) p at = term_forms ps spells.2 spells.5 k p at

sum_least : (ps : List Product) (ws : List Word) → SpellsSum ps ws → 0 < length ps
sum_least [] ws spells = absurd spells
sum_least (p ∷ ps) ws spells = omega arith

-- ---- the answers

pub sum_reading : (text : List ℕ) (ps : List Product) → Some (map term_of ps) ≡ sum_at text → IsReading text (Sum ps)
sum_reading text ps is =
    let found = sum_found text (map term_of ps) (sym is) in
    (found.words, sum_spelled ps found.words found.spells, found.are)

pub sum_form : (text : List ℕ) (ps : List Product) → Some (map term_of ps) ≡ sum_at text → IsExpr (Sum ps)
sum_form text ps is =
    let reading = sum_reading text ps is in
    record { least = sum_least ps reading.0 reading.1; each = sum_forms ps reading.0 reading.1 }

pub no_sum_reading : (text : List ℕ) → None ≡ sum_at text → IsReading text Unsupported
no_sum_reading text is = λ ps ws spells are. let again = sum_again (map term_of ps) ws text (part_sum_spelled ps ws spells) are in absurd cc
