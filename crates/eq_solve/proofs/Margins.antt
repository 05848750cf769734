-- The potentials of a plan, lowered by the margin, lie below its columns by the margin, and below those of weight by less than one more.
use Rattle.std.proofs.Common.{◌≡◌, ℕ, zero, suc, ◌+◌, ◌<◌, List, [], ◌∷◌, length, map, refl, arith, ap, sym, ◌∙◌}
use Rattle.std.specs.Prelude.{ℤ, pos, negsuc, ◌+ℤ◌, ◌*ℤ◌, ◌≤ℤ◌, ◌<ℤ◌}
use Rattle.std.specs.Int.{int_div_euclid}
use Rattle.std.proofs.lemmas.Int.{ints, by_lt_z}
use Rattle.std.proofs.lemmas.List.{length-map}
use Rattle.cal_math.specs.Whole.{*ℤ-+ℤ, *ℤ_comm, *ℤ_left, *ℤ-≤, ≤ℤ-*ℤ_cancel, floor-le, lt-floor}
use Rattle.cal_math.specs.Vectors.{at, sum_to, dot}
use Rattle.cal_math.proofs.Vectors.{sum-same, sum-add, sum-scale, sum-le, dot_scaled}
use Rattle.lp_basis.specs.declared.column.Column.{Column}
use Rattle.eq_solve.specs.Prices.{lowered, IsClear, IsNear}

pub le_cancel : (d a b : ℤ) → pos 1 ≤ℤ d → (d *ℤ a) ≤ℤ (d *ℤ b) → a ≤ℤ b
le_cancel (pos n) a b some le = ≤ℤ-*ℤ_cancel n a b (omega (arith, ints)) le
le_cancel (negsuc n) a b some le = absurd (omega (arith, ints))

pub lt_cancel : (d a b : ℤ) → pos 1 ≤ℤ d → (d *ℤ a) <ℤ (d *ℤ b) → a <ℤ b
lt_cancel d a b some lt = by_lt_z a b (λ less. less) (λ le. absurd (omega (arith, ints, lt, *ℤ-≤ d b a (omega (arith, ints)) le)))

-- the product with numbers that are all larger by k
pub dot_shift : (n : ℕ) (r b : ℕ → ℤ) (k : ℤ) → dot n (λ c. r c +ℤ k) b ≡ dot n r b +ℤ k *ℤ sum_to n b
unfolding dot
dot_shift n r b k =
    sum-same n (λ c. (r c +ℤ k) *ℤ b c) (λ c. r c *ℤ b c +ℤ k *ℤ b c) (λ c lt. omega (arith, ints, *ℤ_comm (r c +ℤ k) (b c), *ℤ-+ℤ (b c) (r c) k, *ℤ_comm (b c) (r c), *ℤ_comm (b c) k))
    ∙ sum-add n (λ c. r c *ℤ b c) (λ c. k *ℤ b c)
    ∙ ap (λ (z : ℤ). sum_to n (λ c. r c *ℤ b c) +ℤ z) (sum-scale n k b)

-- larger numbers have a larger product with amounts
pub dot-le : (n : ℕ) (r s b : ℕ → ℤ) → ((c : ℕ) → c < n → r c ≤ℤ s c) → ((c : ℕ) → pos 0 ≤ℤ b c) → dot n r b ≤ℤ dot n s b
unfolding dot
dot-le n r s b le least = sum-le n (λ c. r c *ℤ b c) (λ c. s c *ℤ b c) (λ c lt. omega (arith, ints, *ℤ-≤ (b c) (r c) (s c) (least c) (le c lt), *ℤ_comm (b c) (r c), *ℤ_comm (b c) (s c)))

pub at_map : (f : ℤ → ℤ) (xs : List ℤ) (c : ℕ) → c < length xs → at (map f xs) c ≡ f (at xs c)
at_map f [] c lt = absurd (omega arith)
at_map f (x ∷ xs) zero lt = refl
at_map f (x ∷ xs) (suc c) lt = at_map f xs c (omega arith)

-- one number
lowered_below : (d : ℤ) (margin : ℕ) (number : ℤ) → pos 1 ≤ℤ d → (d *ℤ (lowered d margin number +ℤ pos margin)) ≤ℤ (pos 65536 *ℤ number)
lowered_below d margin number some =
    let whole : lowered d margin number +ℤ pos margin ≡ int_div_euclid (pos 65536 *ℤ number) d = omega (arith, ints) in
    rw whole (floor-le (pos 65536 *ℤ number) d some)

lowered_near : (d : ℤ) (margin : ℕ) (number : ℤ) → pos 1 ≤ℤ d → (pos 65536 *ℤ number +ℤ pos 1) ≤ℤ (d *ℤ (lowered d margin number +ℤ pos (margin + 1)))
lowered_near d margin number some =
    let floor : ℤ = int_div_euclid (pos 65536 *ℤ number) d in
    let whole : lowered d margin number +ℤ pos (margin + 1) ≡ floor +ℤ pos 1 = omega (arith, ints) in
    rw whole (omega (arith, ints, lt-floor (pos 65536 *ℤ number) d some, *ℤ-+ℤ d floor (pos 1)))

-- all numbers, with the amounts of a column

pub clear : (d : ℤ) (margin : ℕ) (numbers : List ℤ) (column : Column) → pos 1 ≤ℤ d → ((c : ℕ) → pos 0 ≤ℤ at column.amounts.items c) →
    dot (length numbers) (at numbers) (at column.amounts.items) ≤ℤ (column.cost *ℤ d) →
    IsClear margin (map (lowered d margin) numbers) column
clear d margin numbers column some least priced =
    let n : ℕ = length numbers in
    let b : ℕ → ℤ = at column.amounts.items in
    let ms : List ℤ = map (lowered d margin) numbers in
    let len : length ms ≡ n = length-map numbers (lowered d margin) in
    let below : dot n (λ c. d *ℤ (at ms c +ℤ pos margin)) b ≤ℤ dot n (λ c. pos 65536 *ℤ at numbers c) b =
    dot-le n (λ c. d *ℤ (at ms c +ℤ pos margin)) (λ c. pos 65536 *ℤ at numbers c) b
    (λ c lt. rw (at_map (lowered d margin) numbers c lt) (lowered_below d margin (at numbers c) some)) least in
    let left : dot n (λ c. d *ℤ (at ms c +ℤ pos margin)) b ≡ d *ℤ (dot n (at ms) b +ℤ pos margin *ℤ sum_to n b) =
    dot_scaled n d (λ c. at ms c +ℤ pos margin) (λ c. d *ℤ (at ms c +ℤ pos margin)) b (λ c lt. refl) ∙ ap (λ (z : ℤ). d *ℤ z) (dot_shift n (at ms) b (pos margin)) in
    let right : dot n (λ c. pos 65536 *ℤ at numbers c) b ≡ pos 65536 *ℤ dot n (at numbers) b = dot_scaled n (pos 65536) (at numbers) (λ c. pos 65536 *ℤ at numbers c) b (λ c lt. refl) in
    let whole : (d *ℤ (dot n (at ms) b +ℤ pos margin *ℤ sum_to n b)) ≤ℤ (d *ℤ (pos 65536 *ℤ column.cost)) =
    omega (arith, ints, below, left, right, priced, *ℤ_left d (pos 65536) column.cost, *ℤ_comm d column.cost) in
    let one : (dot n (at ms) b +ℤ pos margin *ℤ sum_to n b) ≤ℤ (pos 65536 *ℤ column.cost) = le_cancel d _ _ some whole in
    rw len (omega (arith, ints, one))

pub near : (d : ℤ) (margin : ℕ) (numbers : List ℤ) (column : Column) → pos 1 ≤ℤ d → ((c : ℕ) → pos 0 ≤ℤ at column.amounts.items c) →
    pos 1 ≤ℤ sum_to (length numbers) (at column.amounts.items) →
    dot (length numbers) (at numbers) (at column.amounts.items) ≡ column.cost *ℤ d →
    IsNear margin (map (lowered d margin) numbers) column
near d margin numbers column some least holds priced =
    let n : ℕ = length numbers in
    let b : ℕ → ℤ = at column.amounts.items in
    let ms : List ℤ = map (lowered d margin) numbers in
    let len : length ms ≡ n = length-map numbers (lowered d margin) in
    let below : dot n (λ c. pos 65536 *ℤ at numbers c +ℤ pos 1) b ≤ℤ dot n (λ c. d *ℤ (at ms c +ℤ pos (margin + 1))) b =
    dot-le n (λ c. pos 65536 *ℤ at numbers c +ℤ pos 1) (λ c. d *ℤ (at ms c +ℤ pos (margin + 1))) b
    (λ c lt. rw (at_map (lowered d margin) numbers c lt) (lowered_near d margin (at numbers c) some)) least in
    let right : dot n (λ c. d *ℤ (at ms c +ℤ pos (margin + 1))) b ≡ d *ℤ (dot n (at ms) b +ℤ pos (margin + 1) *ℤ sum_to n b) =
    dot_scaled n d (λ c. at ms c +ℤ pos (margin + 1)) (λ c. d *ℤ (at ms c +ℤ pos (margin + 1))) b (λ c lt. refl) ∙ ap (λ (z : ℤ). d *ℤ z) (dot_shift n (at ms) b (pos (margin + 1))) in
    let left : dot n (λ c. pos 65536 *ℤ at numbers c +ℤ pos 1) b ≡ pos 65536 *ℤ dot n (at numbers) b +ℤ pos 1 *ℤ sum_to n b =
    dot_shift n (λ c. pos 65536 *ℤ at numbers c) b (pos 1) ∙ ap (λ (z : ℤ). z +ℤ pos 1 *ℤ sum_to n b) (dot_scaled n (pos 65536) (at numbers) (λ c. pos 65536 *ℤ at numbers c) b (λ c lt. refl)) in
    let whole : (d *ℤ (pos 65536 *ℤ column.cost)) <ℤ (d *ℤ (dot n (at ms) b +ℤ pos (margin + 1) *ℤ sum_to n b)) =
    omega (arith, ints, below, left, right, priced, holds, *ℤ_left d (pos 65536) column.cost, *ℤ_comm d column.cost) in
    let one : (pos 65536 *ℤ column.cost) <ℤ (dot n (at ms) b +ℤ pos (margin + 1) *ℤ sum_to n b) = lt_cancel d _ _ some whole in
    rw len (omega (arith, ints, one))
