-- What is asked of the elements of a system.
use Rattle.std.proofs.Common.{◌≡◌, ℕ, ◌*◌, ◌≤◌, ◌<◌, List, [], ◌∷◌, length, filter, Bool, true, false, cond, refl, sym, subst, arith, All}
use Rattle.std.specs.Prelude.{◌||◌, ◌==◌, pos, ◌≤ℤ◌, if◌then◌else◌}
use Rattle.std.specs.List.{AllByRecursion, Any, list_any}
use Rattle.std.proofs.lemmas.Bool.{eqb-true}
use Rattle.std.proofs.lemmas.List.{length-map}
use Rattle.std.proofs.lemmas.List.Elements.{All-head, All-tail}
use Rattle.std.proofs.lemmas.Int.{ints}
use Rattle.std.proofs.Math.Nat.{mul-le-mul}
use Rattle.cal_limits.specs.declared.TheConstants.{MOST_NANOMOLES, MOST_PARTS, MOST_ASKED}
use Rattle.cal_scan.specs.Names.{same_name}
use Rattle.cal_job.specs.declared.request.Request.{Request}
use Rattle.cal_job.specs.Requests.{IsBetween, IsRequest}
use Rattle.cal_job.specs.Saying.{Word}
use Rattle.cef_core.specs.declared.lattice.TheConstants.{LATTICES}
use Rattle.cef_core.specs.declared.system.System.{System}
use Rattle.cef_core.specs.Lattices.{is_lattice}
use Rattle.cef_report.specs.Spelled.{IsAsked}
use Rattle.cef_report.specs.Feasibility.{AreAsked}
use Rattle.cal_select.specs.Chosen.{is_in}
use Rattle.cal_top.specs.Equilibria.{amount_beside, totals_asked, asked_of}

-- the bounds of a lattice are those of the listed ones
among : (P : ℕ → Type 0) (ns : List ℕ) (m : ℕ) → AllByRecursion P ns → list_any (λ k. m == k) ns ≡ true → P m
among P [] m all on = absurd cc
among P (k ∷ ns) m all on = by_test (m == k) refl on (λ rest. among P ns m all.1 rest)
  where
    by_test : (b : Bool) → (m == k) ≡ b → (b || list_any (λ n. m == n) ns) ≡ true → (list_any (λ n. m == n) ns ≡ true → P m) → P m
    by_test true is ons rest = subst P (sym (eqb-true m k is)) all.0
    by_test false is ons rest = rest ons

pub lattice_small : (n : ℕ) → is_lattice n ≡ true → n ≤ MOST_PARTS
lattice_small n e =
    among (λ k. k ≤ MOST_PARTS) LATTICES n
    (omega arith, (omega arith, (omega arith, (omega arith, (omega arith, (omega arith, (omega arith, (omega arith, (omega arith, (omega arith, (omega arith, tt))))))))))) e

pub lattice_some : (n : ℕ) → is_lattice n ≡ true → 1 ≤ n
lattice_some n e =
    among (λ k. 1 ≤ k) LATTICES n
    (omega arith, (omega arith, (omega arith, (omega arith, (omega arith, (omega arith, (omega arith, (omega arith, (omega arith, (omega arith, (omega arith, tt))))))))))) e

pub amount_small : (elements : List Word) (amounts : List ℕ) (name : Word) → All (IsBetween 1 MOST_NANOMOLES) amounts → amount_beside elements amounts name ≤ MOST_NANOMOLES
amount_small [] amounts name each = omega arith
amount_small (element ∷ elements) [] name each = omega arith
amount_small (element ∷ elements) (amount ∷ amounts) name each =
    by_test (same_name name element) (All-head (IsBetween 1 MOST_NANOMOLES) amount amounts each).1 (amount_small elements amounts name (All-tail (IsBetween 1 MOST_NANOMOLES) amount amounts each))
  where
    by_test : (b : Bool) → amount ≤ MOST_NANOMOLES → amount_beside elements amounts name ≤ MOST_NANOMOLES → (if b then amount else amount_beside elements amounts name) ≤ MOST_NANOMOLES
    by_test true here behind = here
    by_test false here behind = behind

pub amount_some : (elements : List Word) (amounts : List ℕ) (name : Word) → length amounts ≡ length elements → All (IsBetween 1 MOST_NANOMOLES) amounts → is_in elements name ≡ true
    → 1 ≤ amount_beside elements amounts name
amount_some [] amounts name same each on = absurd cc
amount_some (element ∷ elements) [] name same each on = absurd (omega (arith, same))
amount_some (element ∷ elements) (amount ∷ amounts) name same each on =
    by_test (same_name name element) (All-head (IsBetween 1 MOST_NANOMOLES) amount amounts each).0
    (λ more. amount_some elements amounts name (omega (arith, same)) (All-tail (IsBetween 1 MOST_NANOMOLES) amount amounts each) more) on
  where
    by_test : (b : Bool) → 1 ≤ amount → (is_in elements name ≡ true → 1 ≤ amount_beside elements amounts name) → (b || is_in elements name) ≡ true → 1 ≤ (if b then amount else amount_beside elements amounts name)
    by_test true here behind ons = here
    by_test false here behind ons = behind ons

pub total_small : (request : Request) (name : Word) → IsRequest request → amount_beside request.job.elements request.amounts name * request.job.lattice ≤ MOST_ASKED
total_small request name is =
    let most = mul-le-mul (amount_small request.job.elements request.amounts name is.amounts.each) (lattice_small request.job.lattice is.job.lattice) in
    omega (arith, most)

each_asked : (request : Request) (elements : List Word) → IsRequest request → AllByRecursion IsAsked (totals_asked request elements)
each_asked request [] is = tt
each_asked request (name ∷ elements) is =
    ((omega (arith, ints), omega (arith, ints, total_small request name is)), each_asked request elements is)

-- what a filter keeps
filtered : (names xs : List Word) → AllByRecursion (λ x. is_in names x ≡ true) (filter (is_in names) xs)
filtered names [] = tt
filtered names (x ∷ xs) = by_test (is_in names x) refl (filtered names xs)
  where
    by_test : (b : Bool) → is_in names x ≡ b → AllByRecursion (λ y. is_in names y ≡ true) (filter (is_in names) xs)
        → AllByRecursion (λ y. is_in names y ≡ true) (cond b (x ∷ filter (is_in names) xs) (filter (is_in names) xs))
    by_test true on rest = (on, rest)
    by_test false off rest = rest

some_asked : (request : Request) (elements : List Word) → IsRequest request → 0 < length elements → AllByRecursion (λ x. is_in request.job.elements x ≡ true) elements
    → Any (λ x. pos 1 ≤ℤ x) (totals_asked request elements)
some_asked request [] is some each = absurd (omega (arith, some))
some_asked request (name ∷ elements) is some each =
    let amount : ℕ = amount_beside request.job.elements request.amounts name in
    let least = mul-le-mul (amount_some request.job.elements request.amounts name is.amounts.one_each is.amounts.each each.0) (lattice_some request.job.lattice is.job.lattice) in
    (0, pos (amount * request.job.lattice), omega arith, refl, omega (arith, ints, least))

-- What is asked of a system's elements, which are those of the words among some names, can be asked.
pub are_asked : (request : Request) (system : System) (names : List Word) → IsRequest request → system.elements ≡ filter (is_in request.job.elements) names → 0 < length system.elements
    → AreAsked system (asked_of request system)
are_asked request system names is from some = record {
  one_each = length-map system.elements (λ name. pos (amount_beside request.job.elements request.amounts name * request.job.lattice));
  within = each_asked request system.elements is;
  positive = some_asked request system.elements is some (subst (λ (es : List Word). AllByRecursion (λ x. is_in request.job.elements x ≡ true) es) (sym from) (filtered request.job.elements names));
}
