-- A row that is mixed from two and divided by what its numbers share.
use Rattle.std.proofs.Common.{◌≡◌, ℕ, zero, suc, ◌*◌, ◌^◌, ◌/◌, ◌%◌, ◌<◌, ◌≤◌, List, length, arith, ap, sym, ◌∙◌, subst, inl, inr}
use Rattle.std.specs.Prelude.{ℤ, pos, negsuc, ◌-ℤ◌, ◌*ℤ◌, ◌≤ℤ◌, unsigned_abs}
use Rattle.std.specs.Int.{◌∣◌}
use Rattle.std.proofs.lemmas.Int.{ints, unsigned_abs-mul}
use Rattle.std.proofs.lemmas.Nat.{mul-le, div-add-mod'}
use Rattle.std.proofs.Math.Nat.{dvd-mul_right}
use Rattle.std.proofs.lemmas.Nat.Gcd.{le_of_dvd, mod-eq-zero_of_dvd}
use Rattle.std.proofs.lemmas.Bool.{cases_eq, cases_lt}
use Rattle.cal_math.specs.Whole.{abs-*ℤ-le, *ℤ--ℤ, *ℤ_assoc}
use Rattle.cal_math.specs.Vectors.{at, dot}
use Rattle.cal_math.proofs.Products.{one-le-*ℤ}
use Rattle.cal_math.proofs.Vectors.{dot_difference, dot_scaled}
use Rattle.lp_basis.specs.Rows.{FitsMixed}
use Rattle.lp_laws.specs.Bases.{IsPrimitive}
use Rattle.lp_basis.specs.Steps.{Keeps, IsNext}

some_number : (n : ℕ) (v x : ℕ → ℤ) → pos 1 ≤ℤ dot n v x → (c : ℕ) × (c < n) × (1 ≤ unsigned_abs (v c))
unfolding dot
some_number zero v x h = absurd (omega (arith, ints))
some_number (suc n) v x h =
    elim (cases_lt 0 (unsigned_abs (v n))) [
      | inl lt ↦ (n, omega arith, lt)
      | inr le ↦
          let z : v n ≡ pos 0 = omega (arith, ints) in
          let rest = some_number n v x (omega (arith, ints, ap (λ (a : ℤ). a *ℤ x n) z)) in
          (rest.0, omega (arith, rest.1), rest.2)
    ]

mixed_dot : (p : ℤ) (row : List ℤ) (own q : ℤ) (mine : List ℤ) (v : ℕ → ℤ) → (k : Keeps p row own mine) → ((c : ℕ) → c < length row → v c ≡ p *ℤ at row c -ℤ q *ℤ at mine c) → dot (length row) v k.column ≡ p *ℤ own
mixed_dot p row own q mine v k is =
    dot_difference (length row) p q (at row) (at mine) v k.column is
    ∙ omega (arith, ints, ap (λ (a : ℤ). p *ℤ a) k.owns, ap (λ (a : ℤ). q *ℤ a) k.killed)

pub some_mixed : (p : ℤ) (row : List ℤ) (own q : ℤ) (mine numbers : List ℤ) → Keeps p row own mine → length numbers ≡ length row → ((c : ℕ) → c < length row → at numbers c ≡ p *ℤ at row c -ℤ q *ℤ at mine c) →
    (c : ℕ) × (c < length numbers) × (1 ≤ unsigned_abs (at numbers c))
some_mixed p row own q mine numbers k same is =
    let value : pos 1 ≤ℤ dot (length row) (at numbers) k.column = subst (λ (a : ℤ). pos 1 ≤ℤ a) (sym (mixed_dot p row own q mine (at numbers) k is)) (one-le-*ℤ p own k.p_some k.own_some) in
    rw same (some_number (length row) (at numbers) k.column value)

pub some_small : (m r : ℕ) (p : ℤ) (row : List ℤ) (own q : ℤ) (mine numbers : List ℤ) → FitsMixed m r p row q mine → Keeps p row own mine → length numbers ≡ length row → ((c : ℕ) → c < length row → at numbers c ≡ p *ℤ at row c -ℤ q *ℤ at mine c) →
    (c : ℕ) × (c < length numbers) × (1 ≤ unsigned_abs (at numbers c)) × (unsigned_abs (at numbers c) < 2 ^ 127)
some_small m r p row own q mine numbers fits k same is =
    let some = some_mixed p row own q mine numbers k same is in (
      some.0,
      some.1,
      some.2,
      rw (is some.0 (omega (arith, some.1, same))) (omega (arith, ints, abs-*ℤ-le p (at row some.0) r m fits.p_small (fits.row_small some.0), abs-*ℤ-le q (at mine some.0) r m fits.q_small (fits.other_small some.0), fits.room)),
    )

pub own_divides : (p : ℤ) (row : List ℤ) (own q : ℤ) (mine numbers less : List ℤ) (all : ℤ) → (k : Keeps p row own mine) → ((c : ℕ) → c < length row → at numbers c ≡ p *ℤ at row c -ℤ q *ℤ at mine c) →
    ((c : ℕ) → c < length row → all *ℤ at less c ≡ at numbers c) → all *ℤ dot (length row) (at less) k.column ≡ p *ℤ own
own_divides p row own q mine numbers less all k is parts =
    sym (dot_scaled (length row) all (at less) (at numbers) k.column (λ c lt. sym (parts c lt))) ∙ mixed_dot p row own q mine (at numbers) k is

-- no number above 1 divides what is left
left_primitive : (n : ℕ) (numbers less : List ℤ) (all : ℤ) → pos 1 ≤ℤ all → ((c : ℕ) × (c < n) × (1 ≤ unsigned_abs (at numbers c))) →
    ((c : ℕ) → c < n → all *ℤ at less c ≡ at numbers c) → ((d : ℕ) → ((c : ℕ) → c < n → (t : ℤ) × (pos d *ℤ t ≡ at numbers c)) → pos d ≤ℤ all) → IsPrimitive n (at less)
unfolding IsPrimitive
left_primitive n numbers less (negsuc a) h some parts greatest g divides = absurd (omega (arith, ints))
left_primitive n numbers less (pos a) h some parts greatest g divides =
    let most : pos (a * g) ≤ℤ pos a = greatest (a * g) (λ c lt. (
      (divides c lt).0,
      *ℤ_assoc (pos a) (pos g) (divides c lt).0 ∙ ap (λ (v : ℤ). pos a *ℤ v) (divides c lt).1 ∙ parts c lt,
    )) in
    let few : g ≤ 1 = elim (cases_lt 1 g) [ inl lt ↦ absurd (omega (arith, ints, most, mul-le a 2 a g (omega arith) lt)) | inr le ↦ le ] in
    elim (cases_eq g 0) [
      | inl zero_is ↦
          let none : at less some.0 ≡ pos 0 = sym (divides some.0 some.1).1 ∙ ap (λ (k : ℕ). pos k *ℤ (divides some.0 some.1).0) zero_is ∙ omega (arith, ints) in
          absurd (omega (arith, ints, parts some.0 some.1, ap (λ (v : ℤ). pos a *ℤ v) none, some.2))
      | inr other ↦ omega arith
    ]

pub IsNext-from : (p : ℤ) (row : List ℤ) (own q : ℤ) (mine numbers less : List ℤ) (all next_own : ℤ) → Keeps p row own mine → length numbers ≡ length row →
    ((c : ℕ) → c < length row → at numbers c ≡ p *ℤ at row c -ℤ q *ℤ at mine c) → pos 1 ≤ℤ all →
    ((d : ℕ) → ((c : ℕ) → c < length numbers → (t : ℤ) × (pos d *ℤ t ≡ at numbers c)) → pos d ≤ℤ all) →
    ((c : ℕ) → c < length numbers → all *ℤ at less c ≡ at numbers c) → all *ℤ next_own ≡ p *ℤ own → IsNext p row own q mine less next_own
IsNext-from p row own q mine numbers less all next_own k same is some greatest parts own_is = record {
  shared = all;
  positive = some;
  numbers_are = λ c lt. sym (is c lt) ∙ sym (parts c (omega (arith, same)));
  own_is = sym own_is;
  primitive = subst (λ (n : ℕ). IsPrimitive n (at less)) same (left_primitive (length numbers) numbers less all some (some_mixed p row own q mine numbers k same is) parts greatest);
}

-- from divisors of magnitudes to multiples of whole numbers
pub multiple_from : (g : ℕ) (z : ℤ) → g ∣ unsigned_abs z → (t : ℤ) × (pos g *ℤ t ≡ z)
multiple_from g (pos k) h = let e : k % g ≡ 0 = mod-eq-zero_of_dvd g h in (pos (k / g), omega (arith, ints, div-add-mod' k g, e))
multiple_from g (negsuc k) h = let e : suc k % g ≡ 0 = mod-eq-zero_of_dvd g h in
    (pos 0 -ℤ pos (suc k / g), omega (arith, ints, div-add-mod' (suc k) g, e, *ℤ--ℤ (pos g) (pos 0) (pos (suc k / g))))

pub divisor_from : (g : ℕ) (z : ℤ) → ((t : ℤ) × (pos g *ℤ t ≡ z)) → g ∣ unsigned_abs z
divisor_from g z h = subst (λ (v : ℕ). g ∣ v) (sym (unsigned_abs-mul (pos g) h.0) ∙ ap unsigned_abs h.1) (dvd-mul_right g (unsigned_abs h.0))

pub shared_fits : (n : ℕ) (v : ℕ → ℤ) (all : ℕ) → ((c : ℕ) × (c < n) × (1 ≤ unsigned_abs (v c)) × (unsigned_abs (v c) < 2 ^ 127)) → ((c : ℕ) → c < n → all ∣ unsigned_abs (v c)) → (1 ≤ all) × (all < 2 ^ 127)
shared_fits n v all some divides =
    let h : all ∣ unsigned_abs (v some.0) = divides some.0 some.1 in
    let le : all ≤ unsigned_abs (v some.0) = le_of_dvd (omega (arith, some.2)) h in
    let one : 1 ≤ all = elim (cases_eq all 0) [
      | inl e ↦ let t = multiple_from all (v some.0) h in absurd (omega (arith, ints, some.2, sym t.1 ∙ ap (λ (k : ℕ). pos k *ℤ t.0) e))
      | inr ne ↦ omega arith
    ] in
    (one, omega (arith, le, some.3))

pub below_shared : (xs : List ℤ) (all : ℕ) (d : ℕ) → 1 ≤ all → ((d : ℕ) → ((c : ℕ) → c < length xs → d ∣ unsigned_abs (at xs c)) → d ∣ all) → ((c : ℕ) → c < length xs → (t : ℤ) × (pos d *ℤ t ≡ at xs c)) → d ≤ all
below_shared xs all d some greatest h = le_of_dvd some (greatest d (λ c lt. divisor_from d (at xs c) (h c lt)))
