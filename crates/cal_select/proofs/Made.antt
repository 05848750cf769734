-- lists that are made of what is kept of a list, while nothing of it gives a cause
use Rattle.std.proofs.Common.{◌≡◌, ℕ, ◌+◌, ◌≤◌, List, [], ◌∷◌, ◌++◌, take, map, Option, Some, None, Bool, true, false, refl, ap, ◌∙◌, slice_get, length, arith, subst}
use Rattle.std.specs.Prelude.{filter, sum}
use Rattle.std.specs.List.{flat_map, AllByRecursion}
use Rattle.std.specs.Option.{unwrap_or}
use Rattle.std.proofs.lemmas.List.{take_all}
use Rattle.std.proofs.lemmas.Bool.Decides.{nat_tests}
use Rattle.cal_dec.specs.declared.dec.Dec.{Dec}
use Rattle.tdb_read.specs.Sound.{AreConstituents}
use Rattle.cal_select.specs.declared.fault.SystemFault.{SystemFault}
use Rattle.cal_select.specs.Chosen.{Word, all_kept_of}
use Rattle.cal_select.specs.Wholes.{decimals_of, whole_ratios}
use Rattle.cal_select.specs.Selection.{decimals_in}
use Rattle.cal_select.specs.Causes.{is_too_wide, is_wide_at}
use Rattle.cal_select.specs.Measures.{IsShort}
use Rattle.cal_select.proofs.Firsts.{kept-on, kept-off}
use Rattle.cal_select.proofs.Taken.{kept-next, left_out-next}
use Rattle.cal_select.proofs.Chosen_sites.{few_kept}

-- nothing of what is kept gives a cause, and this is made of it
pub record IsMade {A B : Type 0} (f : A → List SystemFault) (g : A → B) (xs : List A) (all : List B) : Type 0 where
  pub none : flat_map f xs ≡ []
  pub made : all ≡ map g xs

pub made-on : {A B : Type 0} (f : A → List SystemFault) (g : A → B) (p : A → Bool) (xs : List A) (i : ℕ) (x : A) (all new : List B) (v : B)
    → slice_get xs i ≡ Some x → p x ≡ true → IsMade f g (filter p (take i xs)) all → f x ≡ [] → v ≡ g x → new ≡ all ++ v ∷ [] → IsMade f g (filter p (take (i + 1) xs)) new
made-on {B = B} f g p xs i x all new v is yes_x before none v_is new_is = record {
  none = kept-on f p xs i x is before.none none;
  made = kept-next g p xs i x all new is yes_x before.made (new_is ∙ ap (λ (w : B). all ++ w ∷ []) v_is);
}

pub made-off : {A B : Type 0} (f : A → List SystemFault) (g : A → B) (p : A → Bool) (xs : List A) (i : ℕ) (x : A) (all : List B)
    → slice_get xs i ≡ Some x → p x ≡ false → IsMade f g (filter p (take i xs)) all → IsMade f g (filter p (take (i + 1) xs)) all
made-off f g p xs i x all is no_x before = record {
  none = kept-off f p xs i x is before.none no_x;
  made = left_out-next g p xs i x all is no_x before.made;
}

pub made-all : {A B : Type 0} (f : A → List SystemFault) (g : A → B) (p : A → Bool) (xs : List A) (i : ℕ) (all : List B) → length xs ≤ i → IsMade f g (filter p (take i xs)) all → IsMade f g (filter p xs) all
made-all {A = A} f g p xs i all passed made = subst (λ (ys : List A). IsMade f g (filter p ys) all) (take_all i xs passed) made

-- ---- what is known of a phase

pub kept_short : (components : List Word) (sites : List (List Word)) → length components ≤ 8 → AllByRecursion AreConstituents sites → AllByRecursion IsShort (all_kept_of components sites)
kept_short components [] few all = tt
kept_short components (names ∷ sites) few all = (omega (arith, few, few_kept components names all.0.distinct), kept_short components sites few all.1)

narrow_at : (ratios : List Dec) (o : Option ℕ) → decimals_of ratios ≡ o → is_wide_at ratios o ≡ false → sum (whole_ratios (unwrap_or o 0) ratios) ≤ 100000
narrow_at ratios None is narrow = cc
narrow_at ratios (Some d) is narrow = grind (arith, nat_tests)

pub narrow_sum : (ratios : List Dec) → is_too_wide ratios ≡ false → sum (whole_ratios (decimals_in ratios) ratios) ≤ 100000
unfolding is_too_wide
narrow_sum ratios narrow = narrow_at ratios (decimals_of ratios) refl narrow
