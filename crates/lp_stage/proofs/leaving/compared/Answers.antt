use Rattle.std.proofs.Common.{◌≡◌, ℕ, suc, ◌<◌, ◌^◌, List, length, refl, arith, rules, SFits, sym, ◌∙◌, subst}
use Rattle.std.specs.Prelude.{ℤ, pos, ◌≤ℤ◌, Option}
use Rattle.std.specs.Int.{w128}
use Rattle.std.proofs.lemmas.Int.{ints, to_z-of_z, by_lt_z}
use Rattle.cal_math.specs.Vectors.{at, dot}
use Rattle.lp_basis.specs.Held.{numbers_at}
use Rattle.lp_stage.specs.Leaving.{CanLeave, start_product, row_product, IsBest, IsCandidate}
use Rattle.lp_basis.specs.declared.row.Row.{Row}
use Rattle.lp_basis.specs.declared.column.Column.{Column}
use Rattle.lp_stage.specs.declared.leaving.Candidate.{Candidate}
use Rattle.lp_basis.proofs.Held.{fits_column}
use Rattle.lp_basis.proofs.Placed.{row_read}
use Rattle.lp_stage.proofs.RatioTest.{best_kept, best_first, best_chosen, fits_start, met_read, candidate_is}
use Rattle.lp_stage.proofs.leaving.compared.Goals as goal

above : (z : ℤ) → (z ≤ℤ pos 0 → ⊥) → pos 1 ≤ℤ z
above z h = by_lt_z (pos 0) z (λ lt. omega (arith, ints, lt)) (λ le. absurd (h le))

pub product-met-requires : goal.product-met-requires
product-met-requires c =
    let can = c.requires.may.4 in
    let lt : c.args.j < suc c.requires.may.0 = omega (arith, c.requires.within, can.held.count) in
    let row_is : numbers_at c.args.rows.now c.args.j ≡ c.deref.result.now = (row_read c.args.rows.now c.args.j c.index-rows-j.result c.requires.within c.index-rows-j.is).0 ∙ sym c.deref.ensures.value in
    (c.requires.may.1 ^ c.requires.may.0, c.requires.may.1, rw row_is at (fits_column c.requires.may.0 c.requires.may.1 c.requires.may.3 c.args.rows.now c.args.column.now can.held can.enters.sized can.enters.least can.enters.sum c.args.j lt))

pub returns-then-met-le0 : goal.returns-then-met-le0
returns-then-met-le0 c b w v columns can =
    let lt : c.args.j < suc b = omega (arith, c.requires.within, can.held.count) in
    let row_is : numbers_at c.args.rows.now c.args.j ≡ c.deref.result.now = (row_read c.args.rows.now c.args.j c.index-rows-j.result c.requires.within c.index-rows-j.is).0 ∙ sym c.deref.ensures.value in
    let fits : SFits w128 c.product-met.result = search rules in
    let low = simp to_z-of_z at c.if-met-le0.true in
    let met_is = met_read b w v columns c.args.rows.now c.args.column.now c.args.starts.now c.args.j c.deref.result.now c.product-met.result can lt row_is c.product-met.ensures in
    best_kept (suc b) c.args.rows.now c.args.column.now c.args.starts.now c.args.j c.args.best (omega (arith, ints, low, met_is)) (c.requires.known b w v columns can)

pub list_of-requires : goal.list_of-requires
list_of-requires c =
    let can = c.requires.may.4 in
    let lt : c.args.j < suc c.requires.may.0 = omega (arith, c.requires.within, can.held.count) in
    let row_is : numbers_at c.args.rows.now c.args.j ≡ c.deref-2.result.now = (row_read c.args.rows.now c.args.j c.index-rows-j.result c.requires.within c.index-rows-j.is).0 ∙ sym c.deref-2.ensures.value in
    (c.requires.may.1 ^ c.requires.may.0, c.requires.may.2, rw row_is at (fits_start c.requires.may.0 c.requires.may.1 c.requires.may.2 c.requires.may.3 c.args.rows.now c.args.column.now c.args.starts.now c.args.j can lt))

pub chosen-requires-clause-sized : goal.chosen-requires-clause-sized
chosen-requires-clause-sized c =
    let can = c.requires.may.4 in
    let best = subst (λ (o : Option Candidate). IsBest (suc c.requires.may.0) c.args.rows.now c.args.column.now c.args.starts.now c.args.j o) c.in-Some.is (c.requires.known c.requires.may.0 c.requires.may.1 c.requires.may.2 c.requires.may.3 can) in
    c.in_ok-list.ensures.sized ∙ can.count ∙ sym best.0.sized

pub chosen-requires-clause-old_some : goal.chosen-requires-clause-old_some
chosen-requires-clause-old_some c =
    let can = c.requires.may.4 in
    let best = subst (λ (o : Option Candidate). IsBest (suc c.requires.may.0) c.args.rows.now c.args.column.now c.args.starts.now c.args.j o) c.in-Some.is (c.requires.known c.requires.may.0 c.requires.may.1 c.requires.may.2 c.requires.may.3 can) in
    subst (λ (z : ℤ). pos 1 ≤ℤ z) (sym best.0.met_is) best.1.positive

next_of : (b w v : ℕ) (columns : ℕ → ℕ → ℤ) (rows : List Row) (column : List ℤ) (starts : List Column) (j : ℕ) (row : List ℤ) (next : Candidate) → CanLeave b w v columns rows column starts → j < suc b → numbers_at rows j ≡ row →
    next.place ≡ j → next.met ≡ dot (length row) (at row) (at column) → (next.met ≤ℤ pos 0 → ⊥) → length next.list.items ≡ length starts → ((k : ℕ) → k < length starts → at next.list.items k ≡ start_product (length row) starts row k) →
    IsCandidate (suc b) rows column starts next × (pos 1 ≤ℤ row_product (suc b) rows column j)
next_of b w v columns rows column starts j row next can lt e place_is is not same are =
    let met_is = met_read b w v columns rows column starts j row next.met can lt e is in (
      candidate_is b w v columns rows column starts j row next can lt e place_is met_is same are,
      subst (λ (z : ℤ). pos 1 ≤ℤ z) met_is (above next.met not),
    )

pub returns-in-None : goal.returns-in-None
returns-in-None c b w v columns can =
    let lt : c.args.j < suc b = omega (arith, c.requires.within, can.held.count) in
    let read = (row_read c.args.rows.now c.args.j c.index-rows-j.result c.requires.within c.index-rows-j.is).0 in
    let row_is : numbers_at c.args.rows.now c.args.j ≡ c.deref.result.now = read ∙ sym c.deref.ensures.value in
    let fits : SFits w128 c.product-met.result = search rules in
    let next : Candidate = record { place = c.args.j; met = c.product-met.result; list = c.in_ok-list.list } in
    let not = simp to_z-of_z at c.if-met-le0.false in
    let are = rw (c.deref-2.ensures.value, ← c.deref.ensures.value) at c.in_ok-list.ensures.every in
    let one = next_of b w v columns c.args.rows.now c.args.column.now c.args.starts.now c.args.j c.deref.result.now next can lt row_is refl c.product-met.ensures (λ le. absurd (omega (arith, ints, not, le))) c.in_ok-list.ensures.sized are in
    let none = subst (λ (o : Option Candidate). IsBest (suc b) c.args.rows.now c.args.column.now c.args.starts.now c.args.j o) c.in-None.is (c.requires.known b w v columns can) in
    simp to_z-of_z (best_first (suc b) c.args.rows.now c.args.column.now c.args.starts.now c.args.j next refl one.0 one.1 none)

pub returns-in-Some : goal.returns-in-Some
returns-in-Some c b w v columns can =
    let lt : c.args.j < suc b = omega (arith, c.requires.within, can.held.count) in
    let read = (row_read c.args.rows.now c.args.j c.index-rows-j.result c.requires.within c.index-rows-j.is).0 in
    let row_is : numbers_at c.args.rows.now c.args.j ≡ c.deref.result.now = read ∙ sym c.deref.ensures.value in
    let fits : SFits w128 c.product-met.result = search rules in
    let next : Candidate = record { place = c.args.j; met = c.product-met.result; list = c.in_ok-list.list } in
    let not = simp to_z-of_z at c.if-met-le0.false in
    let are = rw (c.deref-2.ensures.value, ← c.deref.ensures.value) at c.in_ok-list.ensures.every in
    let one = next_of b w v columns c.args.rows.now c.args.column.now c.args.starts.now c.args.j c.deref.result.now next can lt row_is refl c.product-met.ensures (λ le. absurd (omega (arith, ints, not, le))) c.in_ok-list.ensures.sized are in
    let best = subst (λ (o : Option Candidate). IsBest (suc b) c.args.rows.now c.args.column.now c.args.starts.now c.args.j o) c.in-Some.is (c.requires.known b w v columns can) in
    best_chosen b w v columns c.args.rows.now c.args.column.now c.args.starts.now c.args.j c.in-Some.old next c.chosen.result can lt refl one.0 one.1 best (simp to_z-of_z at c.chosen.ensures)
