-- The items of a text, and their amounts together.
use Rattle.std.proofs.Common.{◌≡◌, ℕ, ◌+◌, ◌*◌, ◌≤◌, ◌<◌, ◌^◌, List, [], ◌∷◌, ◌++◌, map, length, take, get_or, sum, All, Option, Some, None, zero, suc, refl, subst, sym, ap, ◌∙◌, arith}
use Rattle.std.proofs.lemmas.List.{take_more, take_all, map-append, length-map}
use Rattle.std.proofs.lemmas.List.Elements.{All-map}
use Rattle.std.proofs.lemmas.List.Sums.{sum_by-le}
use Rattle.cal_limits.specs.declared.TheConstants.{MOST_NANOMOLES, MOST_ELEMENTS}
use Rattle.cal_job.specs.Forms.{item_of, items_of}
use Rattle.cal_job.specs.Requests.{IsBetween, AreAmounts}
use Rattle.cal_job.specs.Saying.{Word, GivesAmounts}

-- each word says the item at its place
abbrev pub AreSaid : {X : Type 0} → (X → Word) → List X → List (Word × ℕ) → Type 0
AreSaid view words items = map item_of (map view words) ≡ map (λ item. Some item) items

pub said_none : {X : Type 0} (view : X → Word) (words : List X) (items : List (Word × ℕ)) → items ≡ [] → AreSaid view (take 0 words) items
said_none view words items e = rw e refl

pub said_on : {X : Type 0} (view : X → Word) (words : List X) (i : ℕ) (d : X) (items more : List (Word × ℕ)) (item : Word × ℕ) → i < length words → item_of (view (get_or words i d)) ≡ Some item
    → more ≡ items ++ item ∷ [] → AreSaid view (take i words) items → AreSaid view (take (i + 1) words) more
said_on {X = X} view words i d items more item lt is pushed so_far =
    let x : X = get_or words i d in
    let f : X → Option (Word × ℕ) = λ y. item_of (view y) in
    ap (λ (xs : List X). map item_of (map view xs)) (take_more words i d lt)
    ∙ ap (map item_of) (map-append view (take i words) (x ∷ []))
    ∙ map-append item_of (map view (take i words)) (view x ∷ [])
    ∙ ap (λ (os : List (Option (Word × ℕ))). os ++ item_of (view x) ∷ []) so_far
    ∙ ap (λ (o : Option (Word × ℕ)). map (λ item. Some item) items ++ o ∷ []) is
    ∙ sym (map-append (λ item. Some item) items (item ∷ []))
    ∙ ap (map (λ item. Some item)) (sym pushed)

pub said_all : {X : Type 0} (view : X → Word) (words : List X) (i : ℕ) (items : List (Word × ℕ)) → length words ≤ i → AreSaid view (take i words) items → AreSaid view words items
said_all {X = X} view words i items le so_far = ap (λ (xs : List X). map item_of (map view xs)) (sym (take_all i words le)) ∙ so_far

-- where one word says nothing, the words say no items
pub unsaid : {X : Type 0} (view : X → Word) (words : List X) (i : ℕ) (d : X) (items : List (Word × ℕ)) → i < length words → item_of (view (get_or words i d)) ≡ None → AreSaid view words items → ⊥
unsaid view [] i d items lt none said = omega (arith, lt)
unsaid view (w ∷ words) i d [] lt none said = cc
unsaid view (w ∷ words) zero d (item ∷ items) lt none said = cc
unsaid view (w ∷ words) (suc i) d (item ∷ items) lt none said =
    let rest : AreSaid view words items = cc in
    unsaid view words i d items (omega (arith, lt)) none rest

pub each_amount : (items : List (Word × ℕ)) → All (λ item. IsBetween 1 MOST_NANOMOLES item.1) items → All (IsBetween 1 MOST_NANOMOLES) (map (λ item. item.1) items)
each_amount items each = All-map (IsBetween 1 MOST_NANOMOLES) (λ item. item.1) items each

-- so few amounts do not add to more than a word holds
pub total_fits : (amounts : List ℕ) → length amounts ≤ MOST_ELEMENTS → All (IsBetween 1 MOST_NANOMOLES) amounts → sum amounts < 2 ^ 64
total_fits amounts few each =
    let within : sum amounts ≤ length amounts * MOST_NANOMOLES = sum_by-le (λ n. n) MOST_NANOMOLES amounts (λ k d lt. (each k d lt).1) in
    omega (arith, within, few)

-- ---- the items of a text are its own

pub some_one : {A : Type 0} (xs ys : List A) → map (λ x. Some x) xs ≡ map (λ y. Some y) ys → xs ≡ ys
some_one [] [] e = refl
some_one [] (y ∷ ys) e = absurd cc
some_one (x ∷ xs) [] e = absurd cc
some_one (x ∷ xs) (y ∷ ys) e =
    let first : x ≡ y = cc in
    let rest : xs ≡ ys = some_one xs ys cc in
    cc

pub one_some : {A : Type 0} (x y : A) → Some x ≡ Some y → x ≡ y
one_some x y e = cc

pub total_of : (items : List (Word × ℕ)) → length items ≤ MOST_ELEMENTS → All (λ item. IsBetween 1 MOST_NANOMOLES item.1) items → sum (map (λ item. item.1) items) < 2 ^ 64
total_of items few each = total_fits (map (λ item. item.1) items) (omega (arith, length-map items (λ (item : Word × ℕ). item.1), few)) (each_amount items each)

-- what the items give is no composition, so the text gives none
pub no_composition : (text : Word) (items : List (Word × ℕ)) (elements : List Word) (amounts : List ℕ) → items_of text ≡ map (λ item. Some item) items
    → ¬ AreAmounts (map (λ item. item.0) items) (map (λ item. item.1) items) → AreAmounts elements amounts → GivesAmounts (Some text) elements amounts → ⊥
no_composition text items elements amounts said bad are gives =
    let same : gives.items ≡ items = some_one gives.items items (sym (one_some _ _ gives.written) ∙ said) in
    let first : elements ≡ map (λ item. item.0) items = gives.elements_are ∙ ap (map (λ item. item.0)) same in
    let second : amounts ≡ map (λ item. item.1) items = gives.amounts_are ∙ ap (map (λ item. item.1)) same in
    bad (subst (λ (es : List Word). AreAmounts es (map (λ item. item.1) items)) first (subst (λ (ns : List ℕ). AreAmounts elements ns) second are))
