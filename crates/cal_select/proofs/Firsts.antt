-- the first cause of a list, of a list of lists, and of what is kept of a list
use Rattle.std.proofs.Common.{◌≡◌, ℕ, zero, suc, ◌+◌, List, [], ◌∷◌, ◌++◌, Some, slice_get, take, refl, ap, ◌∙◌, add-one, sym, true, false, Bool, length, cond, get_or, ◌<◌, ◌≢◌}
use Rattle.std.proofs.lemmas.Option.{slice_get_read}
use Rattle.std.specs.Prelude.{filter}
use Rattle.std.specs.List.{flat_map}
use Rattle.cal_select.specs.declared.fault.SystemFault.{SystemFault}
use Rattle.cal_select.specs.declared.fault.SystemFault.TheVariants.{Memory}
use Rattle.cal_select.specs.Causes.{first, cause_if}

-- nothing in front
pub first-behind : {A : Type 0} (xs ys : List A) → xs ≡ [] → first (xs ++ ys) ≡ first ys
first-behind xs ys none = rw none refl

pub first-front : {A : Type 0} (xs ys : List A) (x : A) → first xs ≡ Some x → first (xs ++ ys) ≡ Some x
first-front [] ys x is = cc
first-front (y ∷ xs) ys x is = is

pub front_none : {A : Type 0} (us vs : List A) → us ++ vs ≡ [] → us ≡ []
front_none [] vs e = refl
front_none (u ∷ us) vs e = cc

pub back_none : {A : Type 0} (us vs : List A) → us ++ vs ≡ [] → vs ≡ []
back_none [] vs e = e
back_none (u ∷ us) vs e = cc

none_on : {A B : Type 0} (f : A → List B) (xs : List A) (i : ℕ) (x : A) → slice_get xs i ≡ Some x → flat_map f (take i xs) ≡ [] → f x ≡ [] → flat_map f (take (suc i) xs) ≡ []
none_on f [] i x is none fx = cc
none_on f (y ∷ ys) zero x is none fx = let same : y ≡ x = cc in rw (same, fx) refl
none_on f (y ∷ ys) (suc i) x is none fx =
    let here : f y ≡ [] = front_none (f y) (flat_map f (take i ys)) none in
    let there : flat_map f (take i ys) ≡ [] = back_none (f y) (flat_map f (take i ys)) none in
    rw (here, none_on f ys i x is there fx) refl

-- one more element without a cause
pub none-next : {A B : Type 0} (f : A → List B) (xs : List A) (i : ℕ) (x : A) → slice_get xs i ≡ Some x → flat_map f (take i xs) ≡ [] → f x ≡ [] → flat_map f (take (i + 1) xs) ≡ []
none-next f xs i x is none fx = rw add-one (none_on f xs i x is none fx)

parted : {B : Type 0} (us vs ws : List B) (b : B) → us ++ vs ≡ [] → (vs ≡ [] → first ws ≡ Some b) → first (us ++ ws) ≡ Some b
parted [] vs ws b none onward = onward none
parted (u ∷ us) vs ws b none onward = cc

-- the first element with a cause
pub first-found : {A B : Type 0} (f : A → List B) (xs : List A) (i : ℕ) (x : A) (b : B) → slice_get xs i ≡ Some x → flat_map f (take i xs) ≡ [] → first (f x) ≡ Some b → first (flat_map f xs) ≡ Some b
first-found f [] i x b is none fx = cc
first-found f (y ∷ ys) zero x b is none fx = let same : y ≡ x = cc in first-front (f y) (flat_map f ys) b (rw same fx)
first-found f (y ∷ ys) (suc i) x b is none fx =
    parted (f y) (flat_map f (take i ys)) (flat_map f ys) b none (λ there. first-found f ys i x b is there fx)

-- the same, as a loop over a slice has its element
pub first-at : {A B : Type 0} (f : A → List B) (xs : List A) (i : ℕ) (x : A) (b : B) → i < length xs → x ≡ get_or xs i x → flat_map f (take i xs) ≡ [] → first (f x) ≡ Some b → first (flat_map f xs) ≡ Some b
first-at f xs i x b within is none fx = first-found f xs i x b (slice_get_read xs (length xs) i x refl within is) none fx

-- a list of causes where a test holds
abbrev pub only : {A B : Type 0} → (A → Bool) → (A → List B) → A → List B
only p f x = cond (p x) (f x) []

kept_or_not : {A B : Type 0} (f : A → List B) (b : Bool) (x : A) (xs : List A) (rest : List B) → flat_map f xs ≡ rest → flat_map f (cond b (x ∷ xs) xs) ≡ cond b (f x) [] ++ rest
kept_or_not {B = B} f true x xs rest is = ap (λ (ys : List B). f x ++ ys) is
kept_or_not f false x xs rest is = is

pub flat_map-filter : {A B : Type 0} (f : A → List B) (p : A → Bool) (xs : List A) → flat_map f (filter p xs) ≡ flat_map (only p f) xs
flat_map-filter f p [] = refl
flat_map-filter f p (x ∷ xs) = kept_or_not f (p x) x (filter p xs) (flat_map (only p f) xs) (flat_map-filter f p xs)

-- the first cause of what is kept
pub first-kept : {A B : Type 0} (f : A → List B) (p : A → Bool) (xs : List A) (i : ℕ) (x : A) (b : B) → i < length xs → x ≡ get_or xs i x → p x ≡ true → flat_map f (filter p (take i xs)) ≡ [] → first (f x) ≡ Some b → first (flat_map f (filter p xs)) ≡ Some b
first-kept f p xs i x b within is yes_x none fx =
    let before : flat_map (only p f) (take i xs) ≡ [] = sym (flat_map-filter f p (take i xs)) ∙ none in
    let here : first (only p f x) ≡ Some b = rw yes_x fx in
    ap first (flat_map-filter f p xs) ∙ first-at (only p f) xs i x b within is before here

-- a refusal of one of the kept, where those before have none
pub told-kept : {A : Type 0} (f : A → List SystemFault) (p : A → Bool) (xs : List A) (i : ℕ) (x : A) (fault : SystemFault) → i < length xs → x ≡ get_or xs i x → p x ≡ true → flat_map f (filter p (take i xs)) ≡ [] → (fault ≢ Memory → first (f x) ≡ Some fault) → fault ≢ Memory → first (flat_map f (filter p xs)) ≡ Some fault
told-kept f p xs i x fault within is yes_x none told apart = first-kept f p xs i x fault within is yes_x none (told apart)

pub told-front : (xs ys : List SystemFault) (fault : SystemFault) → (fault ≢ Memory → first xs ≡ Some fault) → fault ≢ Memory → first (xs ++ ys) ≡ Some fault
told-front xs ys fault told apart = first-front xs ys fault (told apart)

-- where nothing has a cause, one of the kept has none
pub none-at : {A B : Type 0} (f : A → List B) (xs : List A) (i : ℕ) (x : A) → slice_get xs i ≡ Some x → flat_map f xs ≡ [] → f x ≡ []
none-at f [] i x is none = cc
none-at f (y ∷ xs) zero x is none = let same : y ≡ x = cc in rw (← same) (front_none (f y) (flat_map f xs) none)
none-at f (y ∷ xs) (suc i) x is none = none-at f xs i x is (back_none (f y) (flat_map f xs) none)

pub none-kept : {A B : Type 0} (f : A → List B) (p : A → Bool) (xs : List A) (i : ℕ) (x : A) → i < length xs → x ≡ get_or xs i x → p x ≡ true → flat_map f (filter p xs) ≡ [] → f x ≡ []
none-kept f p xs i x within is yes_x none =
    let here : only p f x ≡ [] = none-at (only p f) xs i x (slice_get_read xs (length xs) i x refl within is) (sym (flat_map-filter f p xs) ∙ none) in
    rw yes_x at here

pub no_cause : (b : Bool) (fault : SystemFault) → cause_if b fault ≡ [] → b ≡ false
no_cause true fault none = cc
no_cause false fault none = refl

pub ruleset found = (first-kept, first-at, first-found, none-next)

-- ---- at a place that is read

pub kept-found : {A B : Type 0} (f : A → List B) (p : A → Bool) (xs : List A) (i : ℕ) (x : A) (b : B) → slice_get xs i ≡ Some x → p x ≡ true → flat_map f (filter p (take i xs)) ≡ [] → first (f x) ≡ Some b → first (flat_map f (filter p xs)) ≡ Some b
kept-found f p xs i x b is yes_x none fx =
    let before : flat_map (only p f) (take i xs) ≡ [] = sym (flat_map-filter f p (take i xs)) ∙ none in
    let here : first (only p f x) ≡ Some b = rw yes_x fx in
    ap first (flat_map-filter f p xs) ∙ first-found (only p f) xs i x b is before here

pub told-at : {A : Type 0} (f : A → List SystemFault) (xs : List A) (i : ℕ) (x : A) (fault : SystemFault) → i < length xs → x ≡ get_or xs i x → flat_map f (take i xs) ≡ [] → (fault ≢ Memory → first (f x) ≡ Some fault) → fault ≢ Memory → first (flat_map f xs) ≡ Some fault
told-at f xs i x fault within is none told apart = first-at f xs i x fault within is none (told apart)

pub told-found : {A : Type 0} (f : A → List SystemFault) (p : A → Bool) (xs : List A) (i : ℕ) (x : A) (fault : SystemFault) → slice_get xs i ≡ Some x → p x ≡ true → flat_map f (filter p (take i xs)) ≡ [] → (fault ≢ Memory → first (f x) ≡ Some fault) → fault ≢ Memory → first (flat_map f (filter p xs)) ≡ Some fault
told-found f p xs i x fault is yes_x none told apart = kept-found f p xs i x fault is yes_x none (told apart)

-- one more without a cause, kept or not
pub kept-on : {A B : Type 0} (f : A → List B) (p : A → Bool) (xs : List A) (i : ℕ) (x : A) → slice_get xs i ≡ Some x → flat_map f (filter p (take i xs)) ≡ [] → f x ≡ [] → flat_map f (filter p (take (i + 1) xs)) ≡ []
kept-on f p xs i x is none fx =
    let before : flat_map (only p f) (take i xs) ≡ [] = sym (flat_map-filter f p (take i xs)) ∙ none in
    let here : only p f x ≡ [] = no_more (p x) in
    flat_map-filter f p (take (i + 1) xs) ∙ none-next (only p f) xs i x is before here
  where
    no_more : (b : Bool) → cond b (f x) [] ≡ []
    no_more true = fx
    no_more false = refl

pub kept-off : {A B : Type 0} (f : A → List B) (p : A → Bool) (xs : List A) (i : ℕ) (x : A) → slice_get xs i ≡ Some x → flat_map f (filter p (take i xs)) ≡ [] → p x ≡ false → flat_map f (filter p (take (i + 1) xs)) ≡ []
kept-off f p xs i x is none no_x =
    let before : flat_map (only p f) (take i xs) ≡ [] = sym (flat_map-filter f p (take i xs)) ∙ none in
    let here : only p f x ≡ [] = rw no_x refl in
    flat_map-filter f p (take (i + 1) xs) ∙ none-next (only p f) xs i x is before here

pub ruleset kept = (kept-found, kept-on, kept-off)

pub none-found : {A B : Type 0} (f : A → List B) (p : A → Bool) (xs : List A) (i : ℕ) (x : A) → slice_get xs i ≡ Some x → p x ≡ true → flat_map f (filter p xs) ≡ [] → f x ≡ []
none-found f p xs i x is yes_x none =
    let here : only p f x ≡ [] = none-at (only p f) xs i x is (sym (flat_map-filter f p xs) ∙ none) in
    rw yes_x at here
