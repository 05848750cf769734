-- the places of a table that a word fits, one by one
use Rattle.std.proofs.Common.{inl, inr, ◌≡◌, ℕ, List, length, Option, Some, ◌<◌, ◌≤◌, ◌+◌, ◌⊎◌, true, false, refl, arith, ap, sym, subst, slice_get, get_or, ◌∙◌}
use Rattle.std.proofs.lemmas.Option.{slice_get_within, slice_get-map, slice_get-get_or}
use Rattle.std.specs.Option.{option_map}
use Rattle.std.specs.Borrow.{Bor}
use Rattle.cal_words.specs.Words.{fits_entry}
use Rattle.cal_words.specs.Found.{FitsAt, FitsOne, FitsTwo, FitsNone, Finds, with_place, texts_of}
use Rattle.cal_words.specs.declared.words.Found.{Found}
use Rattle.cal_words.specs.declared.words.Found.TheVariants.{One, Nothing, Several}

-- what was found of the entries before a place
abbrev pub FindsBelow : List (List ℕ) → List ℕ → ℕ → Found → Type 0
FindsBelow entries word n (One place) = (place < n) × FitsAt entries word place × ((other : ℕ) → other < n → FitsAt entries word other → other ≡ place)
FindsBelow entries word n Nothing = (place : ℕ) → place < n → ¬ FitsAt entries word place
FindsBelow entries word n Several = FitsTwo entries word

pub FindsBelow-zero : (entries : List (List ℕ)) (word : List ℕ) → FindsBelow entries word 0 Nothing
FindsBelow-zero entries word = λ place h fits. absurd (omega arith)

-- other is below n, or it is n
split : (other n : ℕ) → other < n + 1 → (other < n) ⊎ (other ≡ n)
split other n h = grind arith

pub FindsBelow-fits : (entries : List (List ℕ)) (word entry : List ℕ) (n : ℕ) (found : Found) → slice_get entries n ≡ Some entry → fits_entry word entry ≡ true →
    FindsBelow entries word n found → FindsBelow entries word (n + 1) (with_place found n)
FindsBelow-fits entries word entry n (One place) is fits below = record { first = place; second = n; apart = below.0; fits_first = below.1; fits_second = record { entry = entry; is = is; fits = fits } }
FindsBelow-fits entries word entry n Nothing is fits below =
    (omega arith, record { entry = entry; is = is; fits = fits }, λ other h at. elim (split other n h) [ inl lt ↦ absurd (below other lt at) | inr e ↦ e ])
FindsBelow-fits entries word entry n Several is fits below = below

misses : (entries : List (List ℕ)) (word entry : List ℕ) (n : ℕ) → slice_get entries n ≡ Some entry → fits_entry word entry ≡ false → ¬ FitsAt entries word n
misses entries word entry n is not at =
    let same : at.entry ≡ entry = cc (at.is, is) in
    let both : true ≡ false = cc (at.fits, not, same) in
    cc

misses_at : (entries : List (List ℕ)) (word entry : List ℕ) (n other : ℕ) → slice_get entries n ≡ Some entry → fits_entry word entry ≡ false → other ≡ n → ¬ FitsAt entries word other
misses_at entries word entry n other is not e = let P : ℕ → Type 0 = λ k. ¬ FitsAt entries word k in subst P (sym e) (misses entries word entry n is not)

pub FindsBelow-misses : (entries : List (List ℕ)) (word entry : List ℕ) (n : ℕ) (found : Found) → slice_get entries n ≡ Some entry → fits_entry word entry ≡ false →
    FindsBelow entries word n found → FindsBelow entries word (n + 1) found
FindsBelow-misses entries word entry n (One place) is not below =
    (omega (arith, below.0), below.1, λ other h at. elim (split other n h) [ inl lt ↦ below.2 other lt at | inr e ↦ absurd (misses_at entries word entry n other is not e at) ])
FindsBelow-misses entries word entry n Nothing is not below =
    λ other h at. elim (split other n h) [ inl lt ↦ below other lt at | inr e ↦ misses_at entries word entry n other is not e at ]
FindsBelow-misses entries word entry n Several is not below = below

pub FindsBelow-all : (entries : List (List ℕ)) (word : List ℕ) (n : ℕ) (found : Found) → length entries ≤ n → FindsBelow entries word n found → Finds entries word found
FindsBelow-all entries word n (One place) h below = record { fits = below.1; only = λ other at. below.2 other (omega (arith, slice_get_within entries other at.entry at.is, h)) at }
FindsBelow-all entries word n Nothing h below = λ other at. below other (omega (arith, slice_get_within entries other at.entry at.is, h)) at
FindsBelow-all entries word n Several h below = below

pub slice_get-texts_of : (texts : List (Bor (List ℕ))) (place : ℕ) (d : Bor (List ℕ)) → place < length texts → slice_get (texts_of texts) place ≡ Some (get_or texts place d).now
slice_get-texts_of texts place d h = slice_get-map (λ text. text.now) texts place ∙ ap (λ (o : Option (Bor (List ℕ))). option_map (λ text. text.now) o) (slice_get-get_or texts place d h)

pub ruleset steps = (FindsBelow-zero, FindsBelow-fits, FindsBelow-misses, FindsBelow-all)

-- no word fits one entry alone and two entries
one_or_two : (entries : List (List ℕ)) (word : List ℕ) (place : ℕ) → FitsOne entries word place → ¬ FitsTwo entries word
one_or_two entries word place one two = absurd (omega (arith, one.only two.first two.fits_first, one.only two.second two.fits_second, two.apart))

pub Finds-One : (entries : List (List ℕ)) (word : List ℕ) (found : Found) (place : ℕ) → Finds entries word found → FitsOne entries word place → found ≡ One place
Finds-One entries word (One other) place finds one = ap One (one.only other finds.fits)
Finds-One entries word Nothing place finds one = absurd (finds place one.fits)
Finds-One entries word Several place finds one = absurd (one_or_two entries word place one finds)

pub Finds-Several : (entries : List (List ℕ)) (word : List ℕ) (found : Found) → Finds entries word found → FitsTwo entries word → found ≡ Several
Finds-Several entries word (One other) finds two = absurd (one_or_two entries word other finds two)
Finds-Several entries word Nothing finds two = absurd (finds two.first two.fits_first)
Finds-Several entries word Several finds two = refl

pub Finds-Nothing : (entries : List (List ℕ)) (word : List ℕ) (found : Found) → Finds entries word found → FitsNone entries word → found ≡ Nothing
Finds-Nothing entries word (One other) finds none = absurd (none other finds.fits)
Finds-Nothing entries word Nothing finds none = refl
Finds-Nothing entries word Several finds none = absurd (none finds.first finds.fits_first)

pub Finds-back : (entries : List (List ℕ)) (word : List ℕ) (found other : Found) → Finds entries word found → found ≡ other → Finds entries word other
Finds-back entries word found other finds e = let P : Found → Type 0 = λ f. Finds entries word f in subst P e finds
