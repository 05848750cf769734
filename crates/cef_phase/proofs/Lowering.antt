-- The slopes of a plane less others, over the sites of all sublattices.
use Rattle.std.proofs.Common.{◌≡◌, ℕ, zero, suc, ◌+◌, ◌*◌, ◌<◌, ◌≤◌, ◌^◌, List, [], ◌∷◌, ◌++◌, Option, length, take, drop, arith, refl, sym, ap, ◌∙◌}
use Rattle.std.specs.Prelude.{ℤ, pos, ◌-ℤ◌, unsigned_abs, sum, slice_index, slice_index_or, FitsSigned}
use Rattle.std.specs.Int.{w128}
use Rattle.std.specs.List.{AllByRecursion}
use Rattle.std.proofs.lemmas.Int.{ints, to_z-of_z}
use Rattle.std.proofs.lemmas.List.{length-append}
use Rattle.std.proofs.lemmas.List.Sums.{sum_by-cons}
use Rattle.std.proofs.lemmas.Nat.{mul-le}
use Rattle.cal_math.specs.Vectors.{at}
use Rattle.cef_core.specs.Shapes.{shape, places}
use Rattle.cef_phase.specs.Affine.{lowered, sites_to}
use Rattle.cef_phase.specs.Bounds.{slopes_of, IsOneOf}
use Rattle.cef_phase.specs.Walks.{AreRises, AreSlopes, less, slopes_over}
use Rattle.cef_phase.proofs.Slopes.{length-slopes_of, slopes_small}

-- ---- one site, and the others of its row

pub lower_fits : (m a : ℤ) → unsigned_abs m ≤ 2 ^ 117 → unsigned_abs a ≤ 2 ^ 75 → FitsSigned w128 (m -ℤ a)
lower_fits m a h g = omega (arith, ints, h, g)

-- ---- one sublattice, and the others

pub places-cons : {X : Type 0} (row : List X) (rows : List (List X)) → places (row ∷ rows) ≡ length row + places rows
places-cons row rows = sum_by-cons (λ (x : ℕ). x) (length row) (shape rows)

less-append : (xs ys others : List ℤ) → less (xs ++ ys) others ≡ less xs (take (length xs) others) ++ less ys (drop (length xs) others)
less-append [] ys others = refl
less-append (x ∷ xs) ys [] = nothing ys
  where
    nothing : (ys : List ℤ) → [] ≡ less ys []
    nothing [] = refl
    nothing (y ∷ ys) = refl
less-append (x ∷ xs) ys (a ∷ others) = ap (λ (zs : List ℤ). (x -ℤ a) ∷ zs) (less-append xs ys others)

pub less_rows : (xs ys old new here behind front back : List ℤ) (n : ℕ) → length xs ≡ n → front ≡ take n old → back ≡ drop n old →
    here ≡ less xs front → behind ≡ less ys back → new ≡ here ++ behind → new ≡ less (xs ++ ys) old
less_rows xs ys old new here behind front back n e ef eb eh eg en = rw (en, eh, eg, ef, eb, ← e) (sym (less-append xs ys old))

pub rises-take : (n : ℕ) (rises : List ℤ) → AreRises rises → AreRises (take n rises)
rises-take zero rises h = tt
rises-take (suc n) [] h = tt
rises-take (suc n) (a ∷ rises) h = (h.0, rises-take n rises h.1)

pub rises-drop : (n : ℕ) (rises : List ℤ) → AreRises rises → AreRises (drop n rises)
rises-drop zero rises h = h
rises-drop (suc n) [] h = tt
rises-drop (suc n) (a ∷ rises) h = rises-drop n rises h.1

pub ruleset rows = (lower_fits, to_z-of_z)

pub ruleset all = (places-cons, less_rows, rises-take, rises-drop, length-slopes_of, to_z-of_z)

-- ---- what stands where

length-less : (xs others : List ℤ) → length xs ≤ length others → length (less xs others) ≡ length xs
length-less [] others le = refl
length-less (x ∷ xs) [] le = absurd (omega arith)
length-less (x ∷ xs) (a ∷ others) le = omega (arith, length-less xs others (omega arith))

length-over : (potentials : List ℤ) (ratios : List ℕ) (rows : List (List (Option ℕ))) → length ratios ≡ length rows →
    length (slopes_over potentials ratios rows) ≡ places rows
length-over potentials [] [] e = refl
length-over potentials [] (row ∷ rows) e = absurd (omega arith)
length-over potentials (ratio ∷ ratios) [] e = absurd (omega arith)
length-over potentials (ratio ∷ ratios) (row ∷ rows) e =
    omega (arith, length-append (slopes_of potentials ratio row) (slopes_over potentials ratios rows), length-slopes_of potentials ratio row, length-over potentials ratios rows (omega arith), places-cons row rows)

-- there are as many as there were
pub length-lower : (potentials : List ℤ) (ratios : List ℕ) (rows : List (List (Option ℕ))) (old new : List ℤ) → length ratios ≡ length rows →
    length old ≡ places rows → new ≡ less (slopes_over potentials ratios rows) old → length new ≡ places rows
length-lower potentials ratios rows old new e each en =
    rw en (length-less (slopes_over potentials ratios rows) old (omega (arith, length-over potentials ratios rows e, each)) ∙ length-over potentials ratios rows e)

lowered-same : (f g : ℕ → ℤ) (from to : ℕ) (xs : List ℤ) → ((i : ℕ) → f (from + i) ≡ g (to + i)) → lowered f from xs ≡ lowered g to xs
lowered-same f g from to [] same = refl
lowered-same f g from to (x ∷ xs) same =
    let front : f from ≡ g to = ap f (nothing from) ∙ same 0 ∙ ap g (sym (nothing to)) in
    rw front (ap (λ (zs : List ℤ). (x -ℤ g to) ∷ zs) (lowered-same f g (suc from) (suc to) xs (λ i. ap f (next from i) ∙ same (suc i) ∙ ap g (sym (next to i)))))
  where
    nothing : (k : ℕ) → k ≡ k + 0
    nothing k = omega arith

    next : (k i : ℕ) → suc k + i ≡ k + suc i
    next k i = omega arith

less_is : (xs others : List ℤ) → length xs ≤ length others → less xs others ≡ lowered (at others) 0 xs
less_is [] others le = refl
less_is (x ∷ xs) [] le = absurd (omega arith)
less_is (x ∷ xs) (a ∷ others) le =
    ap (λ (zs : List ℤ). (x -ℤ a) ∷ zs) (less_is xs others (omega arith) ∙ lowered-same (at others) (at (a ∷ others)) 0 1 xs (λ i. shifted others a (0 + i) (1 + i) (omega arith)))
  where
    shifted : (others : List ℤ) (a : ℤ) (i j : ℕ) → j ≡ suc i → at others i ≡ at (a ∷ others) j
    shifted others a i j e = rw e refl

lowered-drop : (f : ℕ → ℤ) (from k : ℕ) (xs : List ℤ) → drop k (lowered f from xs) ≡ lowered f (from + k) (drop k xs)
lowered-drop f from zero xs = ap (λ (j : ℕ). lowered f j xs) (nothing from)
  where
    nothing : (k : ℕ) → k ≡ k + 0
    nothing k = omega arith
lowered-drop f from (suc k) [] = refl
lowered-drop f from (suc k) (x ∷ xs) = lowered-drop f (suc from) k xs ∙ ap (λ (j : ℕ). lowered f j (drop k xs)) (next from k)
  where
    next : (k i : ℕ) → suc k + i ≡ k + suc i
    next k i = omega arith

lowered-take : (f : ℕ → ℤ) (from k : ℕ) (xs : List ℤ) → take k (lowered f from xs) ≡ lowered f from (take k xs)
lowered-take f from zero xs = refl
lowered-take f from (suc k) [] = refl
lowered-take f from (suc k) (x ∷ xs) = ap (λ (zs : List ℤ). (x -ℤ f from) ∷ zs) (lowered-take f (suc from) k xs)

take-all : (xs ys : List ℤ) (n : ℕ) → length xs ≡ n → take n (xs ++ ys) ≡ xs
take-all [] ys zero e = refl
take-all [] ys (suc n) e = absurd (omega arith)
take-all (x ∷ xs) ys zero e = absurd (omega arith)
take-all (x ∷ xs) ys (suc n) e = ap (λ (zs : List ℤ). x ∷ zs) (take-all xs ys n (omega arith))

drop-more : (xs ys : List ℤ) (n k : ℕ) → length xs ≡ n → drop (n + k) (xs ++ ys) ≡ drop k ys
drop-more [] ys zero k e = ap (λ (j : ℕ). drop j ys) (nothing k)
  where
    nothing : (k : ℕ) → 0 + k ≡ k
    nothing k = omega arith
drop-more [] ys (suc n) k e = absurd (omega arith)
drop-more (x ∷ xs) ys zero k e = absurd (omega arith)
drop-more (x ∷ xs) ys (suc n) k e = ap (λ (j : ℕ). drop j (x ∷ xs ++ ys)) (next n k) ∙ drop-more xs ys n k (omega arith)
  where
    next : (n k : ℕ) → suc n + k ≡ suc (n + k)
    next n k = omega arith

over_at : (potentials : List ℤ) (ratios : List ℕ) (rows : List (List (Option ℕ))) (s : ℕ) → length ratios ≡ length rows → s < length rows →
    take (length (slice_index_or rows s [])) (drop (sites_to s rows) (slopes_over potentials ratios rows)) ≡ slopes_of potentials (slice_index ratios s) (slice_index_or rows s [])
over_at potentials [] [] s e lt = absurd (omega arith)
over_at potentials [] (row ∷ rows) s e lt = absurd (omega arith)
over_at potentials (ratio ∷ ratios) [] s e lt = absurd (omega arith)
over_at potentials (ratio ∷ ratios) (row ∷ rows) zero e lt = take-all (slopes_of potentials ratio row) (slopes_over potentials ratios rows) (length row) (length-slopes_of potentials ratio row)
over_at potentials (ratio ∷ ratios) (row ∷ rows) (suc s) e lt =
    ap (take (length (slice_index_or rows s []))) (drop-more (slopes_of potentials ratio row) (slopes_over potentials ratios rows) (length row) (sites_to s rows) (length-slopes_of potentials ratio row))
    ∙ over_at potentials ratios rows s (omega arith) (omega arith)

-- those of a sublattice are its slopes less what stood there
pub lower_at : (potentials : List ℤ) (ratios : List ℕ) (rows : List (List (Option ℕ))) (old new : List ℤ) (s : ℕ) → length ratios ≡ length rows →
    length old ≡ places rows → new ≡ less (slopes_over potentials ratios rows) old → s < length rows →
    take (length (slice_index_or rows s [])) (drop (sites_to s rows) new) ≡ lowered (at old) (sites_to s rows) (slopes_of potentials (slice_index ratios s) (slice_index_or rows s []))
lower_at potentials ratios rows old new s e each en lt =
    let all : List ℤ = slopes_over potentials ratios rows in
    let n : ℕ = length (slice_index_or rows s []) in
    let k : ℕ = sites_to s rows in
    let whole : new ≡ lowered (at old) 0 all = en ∙ less_is all old (omega (arith, length-over potentials ratios rows e, each)) in
    let from : 0 + k ≡ k = omega arith in
    ap (λ (xs : List ℤ). take n (drop k xs)) whole
    ∙ ap (take n) (lowered-drop (at old) 0 k all)
    ∙ lowered-take (at old) (0 + k) n (drop k all)
    ∙ ap (lowered (at old) (0 + k)) (over_at potentials ratios rows s e lt)
    ∙ ap (λ (j : ℕ). lowered (at old) j (slopes_of potentials (slice_index ratios s) (slice_index_or rows s []))) from

-- ---- how large they are

less_share : (m a : ℤ) (n limit : ℕ) → n ≤ 1000 → unsigned_abs m * n ≤ limit → unsigned_abs a ≤ 2 ^ 75 → unsigned_abs (m -ℤ a) * n ≤ limit + 2 ^ 86
less_share m a n limit few h g =
    let both : unsigned_abs (m -ℤ a) ≤ unsigned_abs m + 2 ^ 75 = omega (arith, ints, g) in
    let times : unsigned_abs (m -ℤ a) * n ≤ (unsigned_abs m + 2 ^ 75) * n = mul-le (unsigned_abs (m -ℤ a)) n (unsigned_abs m + 2 ^ 75) n both (omega arith) in
    omega (arith, times, h, few)

less_small : (n limit : ℕ) (xs others : List ℤ) → n ≤ 1000 → AreSlopes n limit xs → AreRises others → AreSlopes n (limit + 2 ^ 86) (less xs others)
less_small n limit [] others few h g = tt
less_small n limit (x ∷ xs) [] few h g = tt
less_small n limit (x ∷ xs) (a ∷ others) few h g = (less_share x a n limit few h.0 g.0, less_small n limit xs others few h.1 g.1)

append_small : (n limit : ℕ) (xs ys : List ℤ) → AreSlopes n limit xs → AreSlopes n limit ys → AreSlopes n limit (xs ++ ys)
append_small n limit [] ys h g = g
append_small n limit (x ∷ xs) ys h g = (h.0, append_small n limit xs ys h.1 g)

over_small : (n limit total : ℕ) (potentials : List ℤ) (ratios : List ℕ) (rows : List (List (Option ℕ))) → sum ratios ≤ total →
    AllByRecursion (λ m. unsigned_abs m * (n * total) ≤ limit) potentials →
    AllByRecursion (AllByRecursion (IsOneOf (length potentials))) rows → AreSlopes n limit (slopes_over potentials ratios rows)
over_small n limit total potentials [] rows le small one = tt
over_small n limit total potentials (ratio ∷ ratios) [] le small one = tt
over_small n limit total potentials (ratio ∷ ratios) (row ∷ rows) le small one =
    let more : sum (ratio ∷ ratios) ≡ ratio + sum ratios = sum_by-cons (λ (x : ℕ). x) ratio ratios in
    append_small n limit (slopes_of potentials ratio row) (slopes_over potentials ratios rows) (slopes_small limit n total ratio potentials row (omega (arith, more, le)) small one.0) (over_small n limit total potentials ratios rows (omega (arith, more, le)) small one.1)

pub lower_small : (n limit : ℕ) (potentials : List ℤ) (ratios : List ℕ) (rows : List (List (Option ℕ))) (old new : List ℤ) → n ≤ 1000 →
    AllByRecursion (λ m. unsigned_abs m * (n * sum ratios) ≤ limit) potentials →
    AllByRecursion (AllByRecursion (IsOneOf (length potentials))) rows → AreRises old → new ≡ less (slopes_over potentials ratios rows) old → AreSlopes n (limit + 2 ^ 86) new
lower_small n limit potentials ratios rows old new few small one rises en =
    rw en (less_small n limit (slopes_over potentials ratios rows) old few (over_small n limit (sum ratios) potentials ratios rows (omega arith) small one) rises)

pub slopes_wider : (n limit other : ℕ) (slopes : List ℤ) → limit ≤ other → AreSlopes n limit slopes → AreSlopes n other slopes
slopes_wider n limit other [] le h = tt
slopes_wider n limit other (m ∷ slopes) le h = (omega (arith, le, h.0), slopes_wider n limit other slopes le h.1)

-- ---- nothing is left of slopes of 0

pub lowered_none : (f : ℕ → ℤ) (from : ℕ) (xs : List ℤ) → ((i : ℕ) → f i ≡ pos 0) → lowered f from xs ≡ xs
lowered_none f from [] none = refl
lowered_none f from (x ∷ xs) none =
    let here : x -ℤ f from ≡ x = omega (arith, ints, none from) in
    rw (here, lowered_none f (suc from) xs none) refl

pub lowered_one : (f g : ℕ → ℤ) (from : ℕ) (xs : List ℤ) → ((i : ℕ) → f i ≡ g i) → lowered f from xs ≡ lowered g from xs
lowered_one f g from xs same = lowered-same f g from from xs (λ i. same (from + i))
