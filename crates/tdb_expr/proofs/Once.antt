-- A text is read as one expression.
use Rattle.std.proofs.Common.{◌≡◌, ℕ, ◌<◌, ◌^◌, List, [], ◌∷◌, Some, None, Option, refl, sym, ap, subst, ◌∙◌}
use Rattle.std.specs.Prelude.{map, ℤ, unsigned_abs, Bool}
use Rattle.std.proofs.Math.Bridge.{le_prop}
use Rattle.cal_dec.specs.declared.dec.Dec.{Dec}
use Rattle.cal_dec.specs.Decimals.{Decimal, decimal_of}
use Rattle.tdb_expr.specs.declared.factor.Factor.{Factor}
use Rattle.tdb_expr.specs.declared.factor.Factor.TheVariants as f
use Rattle.tdb_expr.specs.declared.product.Product.{Product}
use Rattle.tdb_expr.specs.declared.expression.Expr.{Expr}
use Rattle.tdb_expr.specs.declared.expression.Expr.TheVariants.{Sum, Unsupported}
use Rattle.tdb_expr.specs.Grammar.{Word, AreWords, SpellsSum, IsReading}
use Rattle.tdb_expr.specs.Parts.{Part, Number, Power, Name, part_of, Term, term_of}
use Rattle.tdb_expr.specs.Reading.{sum_at}
use Rattle.tdb_expr.proofs.Sums.{sum_again}
use Rattle.tdb_expr.proofs.Readings.{part_sum_spelled}

dec : (m e : ℤ) → unsigned_abs m < 10 ^ 18 → Dec
dec m e bounded = record { mantissa = m; exponent = e; bounded = bounded }

dec_at : (m n x y : ℤ) (a : unsigned_abs m < 10 ^ 18) (b : unsigned_abs n < 10 ^ 18) → m ≡ n → x ≡ y → dec m x a ≡ dec n y b
dec_at m n x y a b p q = subst (λ (k : ℤ). (b : unsigned_abs k < 10 ^ 18) → dec m x a ≡ dec k y b) p (λ b. by_exponent b) b
  where
    by_exponent : (b : unsigned_abs m < 10 ^ 18) → dec m x a ≡ dec m y b
    by_exponent b = subst (λ (k : ℤ). dec m x a ≡ dec m k b) q (ap (dec m x) (le_prop a b))

dec_once : (d e : Dec) → decimal_of d ≡ decimal_of e → d ≡ e
unfolding dec
dec_once d e same = dec_at d.mantissa e.mantissa d.exponent e.exponent d.bounded e.bounded (ap (λ (x : Decimal). x.mantissa) same) (ap (λ (x : Decimal). x.exponent) same)

factor_once : (x y : Factor) → part_of x ≡ part_of y → x ≡ y
factor_once (f.Number d) (f.Number e) same = let value : decimal_of d ≡ decimal_of e = cc in ap (λ (d : Dec). f.Number d) (dec_once d e value)
factor_once f.T f.T same = refl
factor_once (f.Power n) (f.Power m) same = let value : n ≡ m = cc in ap (λ (n : ℤ). f.Power n) value
factor_once f.LnT f.LnT same = refl
factor_once (f.Name v) (f.Name w) same = let value : v ≡ w = cc in ap (λ (v : List ℕ). f.Name v) value
factor_once (f.Number d) f.T same = absurd cc
factor_once (f.Number d) (f.Power m) same = absurd cc
factor_once (f.Number d) f.LnT same = absurd cc
factor_once (f.Number d) (f.Name w) same = absurd cc
factor_once f.T (f.Number e) same = absurd cc
factor_once f.T (f.Power m) same = absurd cc
factor_once f.T f.LnT same = absurd cc
factor_once f.T (f.Name w) same = absurd cc
factor_once (f.Power n) (f.Number e) same = absurd cc
factor_once (f.Power n) f.T same = absurd cc
factor_once (f.Power n) f.LnT same = absurd cc
factor_once (f.Power n) (f.Name w) same = absurd cc
factor_once f.LnT (f.Number e) same = absurd cc
factor_once f.LnT f.T same = absurd cc
factor_once f.LnT (f.Power m) same = absurd cc
factor_once f.LnT (f.Name w) same = absurd cc
factor_once (f.Name v) (f.Number e) same = absurd cc
factor_once (f.Name v) f.T same = absurd cc
factor_once (f.Name v) (f.Power m) same = absurd cc
factor_once (f.Name v) f.LnT same = absurd cc

map_once : {A B : Type 0} (g : A → B) → ((x y : A) → g x ≡ g y → x ≡ y) → (xs ys : List A) → map g xs ≡ map g ys → xs ≡ ys
map_once g once [] [] same = refl
map_once g once [] (y ∷ ys) same = absurd cc
map_once g once (x ∷ xs) [] same = absurd cc
map_once g once (x ∷ xs) (y ∷ ys) same =
    let first : g x ≡ g y = cc in
    let rest : map g xs ≡ map g ys = cc in
    ap (λ z. z ∷ xs) (once x y first) ∙ ap (λ zs. y ∷ zs) (map_once g once xs ys rest)

product : Bool → List Factor → Product
product negative factors = record { negative = negative; factors = factors }

product_once : (p q : Product) → term_of p ≡ term_of q → p ≡ q
unfolding product
product_once p q same =
    let factors = map_once part_of factor_once p.factors q.factors (ap (λ (x : Term). x.parts) same) in
    ap (λ (b : Bool). product b p.factors) (ap (λ (x : Term). x.negative) same) ∙ ap (λ (xs : List Factor). product q.negative xs) factors

terms : List Term → Option (List Term)
terms xs = Some xs

pub read_once : (text : List ℕ) (a b : Expr) → IsReading text a → IsReading text b → a ≡ b
unfolding terms
read_once text (Sum ps) (Sum qs) (ws, spells, words) (vs, also, again) =
    let both : terms (map term_of ps) ≡ terms (map term_of qs) =
    sym (sum_again (map term_of ps) ws text (part_sum_spelled ps ws spells) words) ∙ sum_again (map term_of qs) vs text (part_sum_spelled qs vs also) again in
    let same : map term_of ps ≡ map term_of qs = cc in
    ap (λ (xs : List Product). Sum xs) (map_once term_of product_once ps qs same)
read_once text (Sum ps) Unsupported (ws, spells, words) none = absurd (none ps ws spells words)
read_once text Unsupported (Sum qs) none (vs, also, again) = absurd (none qs vs also again)
read_once text Unsupported Unsupported a b = refl
