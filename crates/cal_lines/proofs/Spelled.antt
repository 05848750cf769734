-- What is read is spelled so, and what is spelled so is read.
use Rattle.std.proofs.Common.{◌≡◌, ℕ, ◌≤◌, ◌<◌, ◌^◌, List, Option, Some, None, sym, ap, ◌∙◌, arith}
use Rattle.std.specs.Prelude.{ℤ, IfSome}
use Rattle.cal_limits.specs.declared.TheConstants.{MOST_NUMBER}
use Rattle.cal_scan.specs.Lines.{Word}
use Rattle.cal_lines.specs.Words.{natural_of, integer_of}
use Rattle.cal_lines.specs.Kinds.{IsNatural, IsInteger, AreIntegers, AreNamesBehind, all_integers, names_after}
use Rattle.cal_lines.proofs.Numbers.{natural-found, natural-again, integer-found, integer-again}
use Rattle.cal_lines.proofs.Sorts.{integers-found, integers-again, names-found, names-again}

wide : (limit : ℕ) → limit ≤ MOST_NUMBER → limit < 10 ^ 64
wide limit le = omega arith

pub natural_found : (limit : ℕ) (w : Word) (o : Option ℕ) → limit ≤ MOST_NUMBER → o ≡ natural_of limit w → IfSome o (IsNatural limit w)
natural_found limit w None le e = tt
natural_found limit w (Some n) le e = let f = natural-found limit n w (wide limit le) (sym e) in (f.1, f.0)

pub natural_all : (limit : ℕ) (w : Word) (o : Option ℕ) → limit ≤ MOST_NUMBER → o ≡ natural_of limit w → (n : ℕ) → IsNatural limit w n → o ≡ Some n
natural_all limit w o le e n is = e ∙ ap (natural_of limit) is.1 ∙ natural-again limit n (omega (arith, wide limit le, is.0)) is.0

pub integer_found : (limit : ℕ) (w : Word) (o : Option ℤ) → limit ≤ MOST_NUMBER → o ≡ integer_of limit w → IfSome o (IsInteger limit w)
integer_found limit w None le e = tt
integer_found limit w (Some z) le e = let f = integer-found limit z w (wide limit le) (sym e) in (f.1, f.0)

pub integer_all : (limit : ℕ) (w : Word) (o : Option ℤ) → limit ≤ MOST_NUMBER → o ≡ integer_of limit w → (z : ℤ) → IsInteger limit w z → o ≡ Some z
integer_all limit w o le e z is = e ∙ ap (integer_of limit) is.1 ∙ integer-again limit z (wide limit le) is.0

pub integers_found : (limit : ℕ) (ws : List Word) (o : Option (List ℤ)) → limit ≤ MOST_NUMBER → o ≡ all_integers limit ws → IfSome o (AreIntegers limit ws)
integers_found limit ws None le e = tt
integers_found limit ws (Some vs) le e = let f = integers-found limit (wide limit le) ws vs (sym e) in (f.1, f.0)

pub integers_all : (limit : ℕ) (ws : List Word) (o : Option (List ℤ)) → limit ≤ MOST_NUMBER → o ≡ all_integers limit ws → (vs : List ℤ) → AreIntegers limit ws vs → o ≡ Some vs
integers_all limit ws o le e vs is = e ∙ ap (all_integers limit) is.1 ∙ integers-again limit (wide limit le) vs is.0

pub names_found : (key : Word) (most : Option ℕ) (ws : List Word) (o : Option (List Word)) → o ≡ names_after key most ws → IfSome o (AreNamesBehind key most ws)
names_found key most ws None e = tt
names_found key most ws (Some names) e = let f = names-found key most ws names (sym e) in (f.1, f.0)

pub names_all : (key : Word) (most : Option ℕ) (ws : List Word) (o : Option (List Word)) → o ≡ names_after key most ws → (names : List Word) → AreNamesBehind key most ws names → o ≡ Some names
names_all key most ws o e names is = e ∙ ap (names_after key most) is.1 ∙ names-again key most names is.0
