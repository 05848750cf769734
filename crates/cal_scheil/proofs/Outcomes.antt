-- What holds of an outcome in one case.
use Rattle.std.specs.Prelude.{Result, Ok, Err, IfOk, IfErr}

pub if_ok : {A E : Type 0} (P Q : A → Type 0) (r : Result A E) → ((a : A) → P a → Q a) → IfOk r P → IfOk r Q
if_ok P Q (Ok a) on is = on a is
if_ok P Q (Err e) on is = tt

pub if_err : {A E : Type 0} (P Q : E → Type 0) (r : Result A E) → ((e : E) → P e → Q e) → IfErr r P → IfErr r Q
if_err P Q (Ok a) on is = tt
if_err P Q (Err e) on is = on e is
