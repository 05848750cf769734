-- the answer behind the causes that do not stand
use Rattle.std.proofs.Common.{◌≡◌, List, [], ◌++◌, Result, Ok, Err, Some, refl, ap, ◌∙◌, sym}
use Rattle.cal_select.specs.declared.fault.SystemFault.{SystemFault}
use Rattle.cal_select.specs.Causes.{first, Gives}
use Rattle.cal_select.proofs.Firsts.{first-front, first-behind}

-- other causes and another value that are the same
pub replaced : {A : Type 0} (r : Result A SystemFault) (xs ys : List SystemFault) (v w : A) → ys ≡ xs → w ≡ v → Gives r xs v → Gives r ys w
replaced (Ok x) xs ys v w same equal gives = (same ∙ gives.0, gives.1 ∙ sym equal)
replaced (Err fault) xs ys v w same equal gives = λ apart. ap first same ∙ gives apart

pub behind_all : (n c p l : List SystemFault) → n ≡ [] → c ≡ [] → p ≡ [] → n ++ (c ++ (p ++ l)) ≡ l
behind_all n c p l no_n no_c no_p = rw (no_n, no_c, no_p) refl

pub told_first : (n c p l : List SystemFault) (x : SystemFault) → first n ≡ Some x → first (n ++ (c ++ (p ++ l))) ≡ Some x
told_first n c p l x is = first-front n (c ++ (p ++ l)) x is

pub told_second : (n c p l : List SystemFault) (x : SystemFault) → n ≡ [] → first c ≡ Some x → first (n ++ (c ++ (p ++ l))) ≡ Some x
told_second n c p l x no_n is = first-behind n (c ++ (p ++ l)) no_n ∙ first-front c (p ++ l) x is

pub told_third : (n c p l : List SystemFault) (x : SystemFault) → n ≡ [] → c ≡ [] → first p ≡ Some x → first (n ++ (c ++ (p ++ l))) ≡ Some x
told_third n c p l x no_n no_c is = first-behind n (c ++ (p ++ l)) no_n ∙ (first-behind c (p ++ l) no_c ∙ first-front p l x is)
