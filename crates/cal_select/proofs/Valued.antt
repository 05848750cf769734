-- what a computed value says of any outcomes
use Rattle.std.proofs.Common.{◌≡◌, ◌≢◌, ℕ, suc, ◌≤◌, ◌^◌, List, [], ◌∷◌, length, take, Some, Ok, Err, ℤ, unsigned_abs, refl, ap, sym, subst, arith, slice_get}
use Rattle.std.specs.List.{AllByRecursion}
use Rattle.std.proofs.lemmas.List.{take_all}
use Rattle.tdb_expr.specs.declared.ranged.Ranged.{Ranged}
use Rattle.temp_fun.specs.declared.fault.EvalFault.{EvalFault}
use Rattle.temp_fun.specs.declared.fault.EvalFault.TheVariants as stops
use Rattle.temp_fun.specs.Functions.{Functions}
use Rattle.temp_fun.specs.Values.{IsValue, IsSmall, AreSmallSums, total}
use Rattle.temp_fun.specs.Stops.{IsRefusal, IsAnswer}
use Rattle.temp_fun.specs.Outcomes.{OneValue, OneRefusal, NotBoth}
use Rattle.cal_select.specs.declared.fault.SystemFault.TheVariants as faults
use Rattle.cal_select.specs.Valuations.{Outcome, IsOutcome}
use Rattle.cal_select.specs.Parameters.{nano_of}
use Rattle.cal_select.specs.Causes.{first, refusal_of, value_causes}

pub valued : (f : Functions) (t : ℕ) (ranged : Ranged) (o : Outcome) (v : ℤ) → IsOutcome f t ranged o → IsValue f t ranged v → OneValue f t ranged → NotBoth f t ranged → (value_causes o ≡ []) × (v ≡ nano_of o)
valued f t ranged (Ok w) v is computed one not_both = (refl, one v w computed is)
valued f t ranged (Err fault) v is computed one not_both = absurd (not_both v fault computed is)

by_refusal : (f : Functions) (t : ℕ) (ranged : Ranged) (o : Outcome) (fault : EvalFault) → IsOutcome f t ranged o → IsRefusal f t ranged fault → OneRefusal f t ranged → NotBoth f t ranged → first (value_causes o) ≡ Some (refusal_of fault)
by_refusal f t ranged (Ok w) fault is computed one not_both = absurd (not_both w fault is computed)
by_refusal f t ranged (Err other) fault is computed one not_both = ap (λ (a : EvalFault). Some (refusal_of a)) (one other fault is computed)

pub refused : (f : Functions) (t : ℕ) (ranged : Ranged) (o : Outcome) (fault : EvalFault) → IsOutcome f t ranged o → IsAnswer f t ranged (Err fault) → OneRefusal f t ranged → NotBoth f t ranged → refusal_of fault ≢ faults.Memory → first (value_causes o) ≡ Some (refusal_of fault)
refused f t ranged o stops.Memory is answer one not_both apart = absurd (apart refl)
refused f t ranged o (stops.Missing line) is answer one not_both apart = by_refusal f t ranged o (stops.Missing line) is answer one not_both
refused f t ranged o (stops.Cycle line) is answer one not_both apart = by_refusal f t ranged o (stops.Cycle line) is answer one not_both
refused f t ranged o (stops.Unsupported line) is answer one not_both apart = by_refusal f t ranged o (stops.Unsupported line) is answer one not_both
refused f t ranged o (stops.TooLarge line) is answer one not_both apart = by_refusal f t ranged o (stops.TooLarge line) is answer one not_both

pub value_small : (f : Functions) (t : ℕ) (ranged : Ranged) (v : ℤ) → IsValue f t ranged v → unsigned_abs v ≤ 10 ^ 27
unfolding IsSmall AreSmallSums
value_small f t ranged v is =
    let all : take (length is.values) is.values ≡ is.values = take_all (length is.values) is.values (omega arith) in
    let small : unsigned_abs (total is.values) ≤ 10 ^ 27 = subst (λ (vs : List ℤ). unsigned_abs (total vs) ≤ 10 ^ 27) all (is.small (length is.values)) in
    subst (λ (w : ℤ). unsigned_abs w ≤ 10 ^ 27) (sym is.sum_is) small

pub all-each : {A : Type 0} (P : A → Type 0) (xs : List A) → ((i : ℕ) (x : A) → slice_get xs i ≡ Some x → P x) → AllByRecursion P xs
all-each P [] each = tt
all-each P (x ∷ xs) each = (each 0 x refl, all-each P xs (λ i y is. each (suc i) y is))
