-- A parameter that a phase needs, and that has no cause of a refusal, is one of the formalism.
use Rattle.std.proofs.Common.{◌≡◌, ℕ, zero, suc, ◌≤◌, List, [], ◌∷◌, length, map, Bool, true, false, not, refl, ap, sym, arith, subst}
use Rattle.std.specs.Prelude.{◌==◌, ◌&&◌, ◌||◌}
use Rattle.std.specs.List.{list_any}
use Rattle.std.proofs.lemmas.Bool.Decides.{nat_tests}
use Rattle.std.proofs.lemmas.List.{length-map}
use Rattle.cef_core.specs.Shapes.{shape}
use Rattle.cef_core.specs.Parameters.{interacting}
use Rattle.cef_core.specs.Phases.{IsParameter}
use Rattle.tdb_read.specs.declared.key.Key.{Key}
use Rattle.tdb_read.specs.Sound.{IsEntry}
use Rattle.tdb_read.specs.Database.{Database}
use Rattle.cal_select.specs.declared.fault.SystemFault.TheVariants as faults
use Rattle.cal_select.specs.Valuations.{Valuation}
use Rattle.cal_select.specs.Chosen.{Word, component_of, sites_at}
use Rattle.cal_select.specs.Parameters.{Entry, counts, has_effect, has_wrong_number, has_twice, has_order, is_needed, is_other, is_unsupported, is_ternary, is_weighted, are_kept, array_at, interactions, may_have_order, parameter_at}
use Rattle.cal_select.specs.Causes.{parameter_causes, value_causes, cause_if}
use Rattle.cal_select.proofs.Firsts.{front_none, no_cause}
use Rattle.cal_select.proofs.Everywhere.{left_true, right_true, left_false, right_false}
use Rattle.cal_select.proofs.Formed.{kind_formed, array_places, array_distinct, interacting_lengths, order_formed}

pub shape_kept : (components : List Word) (kept : List (List Word)) → shape (sites_at components kept) ≡ map length kept
shape_kept components [] = refl
shape_kept components (names ∷ kept) = rw (shape_kept components kept) (ap (λ (n : ℕ). n ∷ map length kept) (length-map names (component_of components)))

not_false : (b : Bool) → not b ≡ false → b ≡ true
not_false true e = refl
not_false false e = cc

either_right : (a b : Bool) → (a || b) ≡ true → a ≡ false → b ≡ true
either_right true b e f = cc
either_right false b e f = e

same_number : (m n : ℕ) → (m == n) ≡ true → m ≡ n
same_number m n e = grind (arith, nat_tests)

-- a ternary interaction without weight has the order 0
pub no_weight : (db : Database) (key : Key) (v : ℕ) → has_order db key v ≡ true → v ≤ 2 → is_ternary (interactions key.array) ≡ true → is_weighted db key ≡ false → v ≡ 0
no_weight db key zero own le ternary none = refl
no_weight db key (suc zero) own le ternary none = weighted (is_ternary (interactions key.array)) (has_order db key 1) (has_order db key 2) ternary own none
  where
    weighted : (t a b : Bool) → t ≡ true → a ≡ true → (t && (a || b)) ≡ false → suc zero ≡ zero
    weighted true true b et ea e = cc
    weighted true false b et ea e = cc
    weighted false a b et ea e = cc
no_weight db key (suc (suc zero)) own le ternary none = weighted (is_ternary (interactions key.array)) (has_order db key 1) (has_order db key 2) ternary own none
  where
    weighted : (t a b : Bool) → t ≡ true → b ≡ true → (t && (a || b)) ≡ false → suc (suc zero) ≡ zero
    weighted true true b et eb e = cc
    weighted true false true et eb e = cc
    weighted true false false et eb e = cc
    weighted false a b et eb e = cc
no_weight db key (suc (suc (suc v))) own le ternary none = absurd (omega (arith, le))

pub entry_formed : (outcome : Valuation) (db : Database) (scale : ℕ) (magnetic : Bool) (kept : List (List Word)) (e : Entry) →
    IsEntry e.0 e.1 → has_order db e.0 e.0.order ≡ true → counts magnetic kept e ≡ true → parameter_causes outcome kept e ≡ [] →
    IsParameter (map length kept) (parameter_at outcome db scale kept e)
entry_formed outcome db scale magnetic kept e is own counted none =
    let fine : is_unsupported kept e ≡ false = no_cause (is_unsupported kept e) (faults.Unsupported e.1.ranged.line) (front_none (cause_if (is_unsupported kept e) (faults.Unsupported e.1.ranged.line)) (value_causes (outcome e.1.ranged)) none) in
    let formed = right_false (is_other e.1.kind) (has_wrong_number kept e.0.array || (not (may_have_order (interactions e.0.array) e.0.order) || list_any has_twice e.0.array)) fine in
    let right_number : has_wrong_number kept e.0.array ≡ false = left_false (has_wrong_number kept e.0.array) (not (may_have_order (interactions e.0.array) e.0.order) || list_any has_twice e.0.array) formed in
    let rest = right_false (has_wrong_number kept e.0.array) (not (may_have_order (interactions e.0.array) e.0.order) || list_any has_twice e.0.array) formed in
    let may : may_have_order (interactions e.0.array) e.0.order ≡ true = not_false (may_have_order (interactions e.0.array) e.0.order) (left_false (not (may_have_order (interactions e.0.array) e.0.order)) (list_any has_twice e.0.array) rest) in
    let once : list_any has_twice e.0.array ≡ false = right_false (not (may_have_order (interactions e.0.array) e.0.order)) (list_any has_twice e.0.array) rest in
    let number : length e.0.array ≡ length kept = same_number (length e.0.array) (length kept) (not_false (length e.0.array == length kept) right_number) in
    let all_kept : are_kept kept e.0.array ≡ true = either_right (has_wrong_number kept e.0.array) (are_kept kept e.0.array) (right_true (has_effect magnetic e.1.kind) (is_needed kept e.0.array) counted) right_number in
    let lengths : map length (interacting (array_at kept e.0.array)) ≡ interactions e.0.array = interacting_lengths kept e.0.array number in
    record {
      kind = kind_formed magnetic e.1.kind (left_true (has_effect magnetic e.1.kind) (is_needed kept e.0.array) counted) (left_false (is_other e.1.kind) (has_wrong_number kept e.0.array || (not (may_have_order (interactions e.0.array) e.0.order) || list_any has_twice e.0.array)) fine);
      places = array_places kept e.0.array number all_kept;
      distinct = array_distinct kept e.0.array all_kept once;
      order = order_formed e.0.order (is_weighted db e.0) (interacting (array_at kept e.0.array)) (subst (λ (ns : List ℕ). may_have_order ns e.0.order ≡ true) (sym lengths) may) is.order
          (λ ternary le none_weighted. no_weight db e.0 e.0.order own le (subst (λ (ns : List ℕ). is_ternary ns ≡ true) lengths ternary) none_weighted);
    }
