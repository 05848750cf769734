-- The part of a row, site by site.
use Rattle.std.proofs.Common.{◌≡◌, ℕ, zero, suc, ◌+◌, ◌-◌, ◌*◌, ◌<◌, ◌≤◌, ◌^◌, List, [], ◌∷◌, length, drop, arith, refl, subst, sym, ap, ◌∙◌}
use Rattle.std.specs.Prelude.{ℤ, pos, ◌+ℤ◌, ◌-ℤ◌, ◌*ℤ◌, ◌≤ℤ◌, unsigned_abs, slice_index, FitsSigned}
use Rattle.std.specs.Int.{w128}
use Rattle.std.proofs.lemmas.Int.{ints}
use Rattle.std.proofs.lemmas.Nat.{mul-le}
use Rattle.std.proofs.lemmas.List.{drop_all}
use Rattle.cal_math.specs.Vectors.{at}
use Rattle.cal_math.specs.Whole.{*ℤ-+ℤ, *ℤ--ℤ, *ℤ_comm}
use Rattle.cef_box.specs.declared.range.Range.{Range}
use Rattle.cef_box.specs.Flat.{ranges}
use Rattle.cef_mix.specs.Mixes.{height, IsLeastOn}
use Rattle.cef_phase.specs.Bounds.{least_over, sites_part, row_part}
use Rattle.cef_phase.proofs.Least.{IsLeast, least_over_is, IsLeast_one}

-- ---- what is left of lists behind a place

pub numbers_drop : (xs : List ℤ) (i : ℕ) → i < length xs → drop i xs ≡ at xs i ∷ drop (i + 1) xs
numbers_drop [] i lt = absurd (omega arith)
numbers_drop (x ∷ xs) zero lt = refl
numbers_drop (x ∷ xs) (suc i) lt = let next : suc i + 1 ≡ suc (i + 1) = omega arith in rw next (numbers_drop xs i (omega arith))

abbrev pub range_at : List ℕ → List ℕ → ℕ → Range
range_at low high i = record { low = slice_index low i; high = slice_index high i }

pub ranges_drop : (low high : List ℕ) (i : ℕ) → i < length (ranges low high) → drop i (ranges low high) ≡ range_at low high i ∷ drop (i + 1) (ranges low high)
ranges_drop [] high i lt = absurd (omega arith)
ranges_drop (l ∷ low) [] i lt = absurd (omega arith)
ranges_drop (l ∷ low) (h ∷ high) zero lt = refl
ranges_drop (l ∷ low) (h ∷ high) (suc i) lt = let next : suc i + 1 ≡ suc (i + 1) = omega arith in rw next (ranges_drop low high i (omega arith))

-- ---- the least of one site

-- the least on a range is the least over it
pub least_is : (h : ℕ → ℤ) (s x : ℤ) (low high count : ℕ) → low ≤ high → IsLeastOn h s low high count x → x ≡ least_over (height h s) low (high - low)
least_is h s x low high count le is =
    let whole : low + (high - low) ≡ high = omega arith in
    let other : IsLeast (height h s) low high (least_over (height h s) low (high - low)) = subst (λ (top : ℕ). IsLeast (height h s) low top (least_over (height h s) low (high - low))) whole (least_over_is (height h s) low (high - low)) in
    IsLeast_one (height h s) low high x _ (record { place = count; from = is.from; to = is.to; reached = is.reached; below = is.below }) other

-- the least over a range is no more than what a count of it has
least_over_le : (f : ℕ → ℤ) (low high count : ℕ) → low ≤ count → count ≤ high → least_over f low (high - low) ≤ℤ f count
least_over_le f low high count a b = (least_over_is f low (high - low)).below count a (omega arith)

-- a height under another multiplier
height_other : (h : ℕ → ℤ) (m l o : ℤ) (count : ℕ) → height h (m +ℤ o) count ≡ height h (m +ℤ l) count -ℤ (o -ℤ l) *ℤ pos count
height_other h m l o count =
    omega (
      arith,
      ints,
      *ℤ_comm (m +ℤ o) (pos count),
      *ℤ_comm (m +ℤ l) (pos count),
      *ℤ_comm (o -ℤ l) (pos count),
      *ℤ-+ℤ (pos count) m o,
      *ℤ-+ℤ (pos count) m l,
      *ℤ--ℤ (pos count) o l,
    )

-- so the least under another multiplier is no more than that height
pub least_other : (h : ℕ → ℤ) (m l o x : ℤ) (low high count : ℕ) → IsLeastOn h (m +ℤ l) low high count x → least_over (height h (m +ℤ o)) low (high - low) ≤ℤ (x -ℤ (o -ℤ l) *ℤ pos count)
least_other h m l o x low high count is =
    let le : least_over (height h (m +ℤ o)) low (high - low) ≤ℤ height h (m +ℤ o) count = least_over_le (height h (m +ℤ o)) low high count is.from is.to in
    rw is.reached (subst (λ (z : ℤ). least_over (height h (m +ℤ o)) low (high - low) ≤ℤ z) (height_other h m l o count) le)

-- ---- the sites up to a place

pub record IsPartly (n : ℕ) (h : ℕ → ℤ) (slopes : List ℤ) (row : List Range) (l : ℤ) (site : ℕ) (x : ℤ) (counts : ℕ) : Type 0 where
  pub exact : (x +ℤ sites_part h l (drop site slopes) (drop site row)) ≡ row_part n h slopes row l
  pub line : (o : ℤ) → row_part n h slopes row o ≤ℤ ((x +ℤ (o -ℤ l) *ℤ (pos n -ℤ pos counts)) +ℤ sites_part h o (drop site slopes) (drop site row))
  pub size : unsigned_abs x ≤ 2 ^ 119 * site + 2 ^ 117
  pub few : counts ≤ n * site

pub IsPartly-none : (n : ℕ) (h : ℕ → ℤ) (slopes : List ℤ) (row : List Range) (l x : ℤ) → x ≡ l *ℤ pos n → unsigned_abs x ≤ 2 ^ 117 → IsPartly n h slopes row l 0 x 0
IsPartly-none n h slopes row l x e small = record {
  exact = rw e refl;
  line = λ o. omega (arith, ints, e, *ℤ_comm (o -ℤ l) (pos n), *ℤ--ℤ (pos n) o l, *ℤ_comm o (pos n), *ℤ_comm l (pos n), *ℤ--ℤ (o -ℤ l) (pos n) (pos 0));
  size = omega (arith, small);
  few = omega arith;
}

pub IsPartly-more : (n : ℕ) (h : ℕ → ℤ) (slopes : List ℤ) (low high : List ℕ) (l : ℤ) (site : ℕ) (x y z : ℤ) (counts count more : ℕ) → site < length slopes → site < length (ranges low high) → slice_index low site ≤ slice_index high site →
    IsLeastOn h (at slopes site +ℤ l) (slice_index low site) (slice_index high site) count y → unsigned_abs y ≤ 2 ^ 119 → count ≤ n → z ≡ x +ℤ y → more ≡ counts + count → IsPartly n h slopes (ranges low high) l site x counts →
    IsPartly n h slopes (ranges low high) l (site + 1) z more
IsPartly-more n h slopes low high l site x y z counts count more ls lr order is small within ez em part = record {
  exact = rw ez (exact (parts l) (least_is h (at slopes site +ℤ l) y (slice_index low site) (slice_index high site) count order is));
  line = λ o. rw (ez, em) (line o (parts o) (least_other h (at slopes site) l o y (slice_index low site) (slice_index high site) count is));
  size = omega (arith, ints, ez, small, part.size, abs-+ℤ x y);
  few = omega (arith, em, within, part.few);
}
  where
    first : ℤ → ℤ
    first o = least_over (height h (at slopes site +ℤ o)) (slice_index low site) (slice_index high site - slice_index low site)

    rest : ℤ → ℤ
    rest o = sites_part h o (drop (site + 1) slopes) (drop (site + 1) (ranges low high))

    abs-+ℤ : (a b : ℤ) → unsigned_abs (a +ℤ b) ≤ unsigned_abs a + unsigned_abs b
    abs-+ℤ a b = omega (arith, ints)

    parts : (o : ℤ) → sites_part h o (drop site slopes) (drop site (ranges low high)) ≡ first o +ℤ rest o
    parts o = rw (numbers_drop slopes site ls, ranges_drop low high site lr) refl

    exact : sites_part h l (drop site slopes) (drop site (ranges low high)) ≡ first l +ℤ rest l → y ≡ first l → ((x +ℤ y) +ℤ rest l) ≡ row_part n h slopes (ranges low high) l
    exact e f = omega (arith, ints, e, f, part.exact)

    line : (o : ℤ) → sites_part h o (drop site slopes) (drop site (ranges low high)) ≡ first o +ℤ rest o → first o ≤ℤ (y -ℤ (o -ℤ l) *ℤ pos count) →
        row_part n h slopes (ranges low high) o ≤ℤ (((x +ℤ y) +ℤ (o -ℤ l) *ℤ (pos n -ℤ pos (counts + count))) +ℤ rest o)
    line o e le =
        let both : pos (counts + count) ≡ pos counts +ℤ pos count = omega (arith, ints) in
        rw both (omega (arith, ints, e, le, part.line o, *ℤ--ℤ (o -ℤ l) (pos n) (pos counts), *ℤ--ℤ (o -ℤ l) (pos n) (pos counts +ℤ pos count), *ℤ-+ℤ (o -ℤ l) (pos counts) (pos count)))

pub IsPartly_exact : (n : ℕ) (h : ℕ → ℤ) (slopes : List ℤ) (row : List Range) (l : ℤ) (site : ℕ) (x : ℤ) (counts : ℕ) → length slopes ≤ site → IsPartly n h slopes row l site x counts → x ≡ row_part n h slopes row l
IsPartly_exact n h slopes row l site x counts le part =
    let none : sites_part h l (drop site slopes) (drop site row) ≡ pos 0 = rw (drop_all site slopes le) refl in
    omega (arith, ints, none, part.exact)

pub IsPartly_line : (n : ℕ) (h : ℕ → ℤ) (slopes : List ℤ) (row : List Range) (l : ℤ) (site : ℕ) (x : ℤ) (counts : ℕ) → length slopes ≤ site → IsPartly n h slopes row l site x counts →
    (o : ℤ) → row_part n h slopes row o ≤ℤ (x +ℤ (o -ℤ l) *ℤ (pos n -ℤ pos counts))
IsPartly_line n h slopes row l site x counts le part o =
    let none : sites_part h o (drop site slopes) (drop site row) ≡ pos 0 = rw (drop_all site slopes le) refl in
    omega (arith, ints, none, part.line o)

pub part_fits : (x y : ℤ) (site : ℕ) → site < 90 → unsigned_abs x ≤ 2 ^ 119 * site + 2 ^ 117 → unsigned_abs y ≤ 2 ^ 119 → FitsSigned w128 (x +ℤ y)
part_fits x y site few a b = omega (arith, ints)
