-- One more known constitution: the known ones stay known and in order, and less is left unknown.
use Rattle.std.proofs.Common.{◌≡◌, ℕ, zero, suc, ◌<◌, ◌≤◌, List, [], ◌∷◌, Bool, true, false, length, get_or, refl, arith, sym, ◌∙◌, subst, inl, inr}
use Rattle.std.specs.List.{insert}
use Rattle.std.proofs.lemmas.Bool.{cases_lt}
use Rattle.cef_core.specs.declared.system.System.{System}
use Rattle.cef_report.specs.declared.entry.Entry.{Entry}
use Rattle.cef_report.specs.Holding.{IsBefore}
use Rattle.eq_solve.specs.declared.known.Known.{Known}
use Rattle.eq_solve.specs.declared.point.Point.{Point}
use Rattle.lp_basis.specs.declared.column.Column.{Column}
use Rattle.eq_solve.specs.Points.{IsConstitutionOf, IsColumnOf, IsKnownAs, IsNew, AreSame, unknown, all_entries}
use Rattle.std.specs.Prelude.{Option, Some, slice_get}
use Rattle.std.specs.Bool.{OnTrue, OnFalse}
use Rattle.std.proofs.lemmas.Option.{slice_get_read, slice_get_within}
use Rattle.eq_solve.specs.Knowing.{IsKnowing, IsPlaceOf, IsStuck, IsWith, LeavesNoMore, kept, added}
use Rattle.eq_solve.proofs.Inserting.{all_pairs_insert}
use Rattle.eq_solve.proofs.Ordering.{before_trans, before_or_same}
use Rattle.eq_solve.proofs.Knowing.{known-insert, column_of}
use Rattle.eq_solve.proofs.Listed.{listed}
use Rattle.eq_solve.proofs.Listing.{unknown-insert, unknown-insert-le}

any_entry : (xs : List Entry) (k : ℕ) (d e : Entry) → k < length xs → get_or xs k d ≡ get_or xs k e
any_entry [] k d e lt = absurd (omega arith)
any_entry (x ∷ xs) zero d e lt = refl
any_entry (x ∷ xs) (suc k) d e lt = any_entry xs k d e (omega arith)

one_entry : (o : Option Entry) (x y : Entry) → o ≡ Some x → o ≡ Some y → x ≡ y
one_entry o x y p q = cc

pub grown : (system : System) (known more : Known) (point : Point) → IsKnowing system known → IsKnownAs system point.entry point.column → IsWith known point more → IsKnowing system more
grown system known more point is point_is (kept place place_is stuck) = is
grown system known more point is point_is (added place other place_is first entries columns) =
    let xs : List Entry = known.entries.items in
    let e : Entry = point.entry in
    record {
      are = rw (entries, columns) (known-insert system xs known.columns.items place e point.column is.are point_is);
      rising = rw entries (all_pairs_insert IsBefore xs place e place_is.within is.rising (λ k d lt. place_is.before k d lt) (λ k d le lt. behind k d le lt));
    }
  where
    first_at : (d : Entry) → place < length known.entries.items → IsBefore point.entry (get_or known.entries.items place d)
    first_at d less = first (get_or known.entries.items place d) (slice_get_read known.entries.items (length known.entries.items) place (get_or known.entries.items place d) refl less (any_entry known.entries.items place d (get_or known.entries.items place d) less))

    behind : (k : ℕ) (d : Entry) → place ≤ k → k < length known.entries.items → IsBefore point.entry (get_or known.entries.items k d)
    behind k d le lt =
        elim (cases_lt place k) [
          | inl less ↦ before_trans point.entry (get_or known.entries.items place d) (get_or known.entries.items k d) (first_at d (omega (arith, less, lt))) (is.rising place k d less lt)
          | inr ge ↦ let e : place ≡ k = omega (arith, le, ge) in subst (λ (j : ℕ). IsBefore point.entry (get_or known.entries.items j d)) e (first_at d (omega (arith, e, lt)))
        ]

pub less_unknown : (system : System) (known more : Known) (point : Point) → IsKnowing system known → IsKnownAs system point.entry point.column → IsNew known.entries.items point.entry → IsWith known point more →
    unknown (all_entries system) more.entries.items < unknown (all_entries system) known.entries.items
less_unknown system known more point is point_is new (kept place place_is stuck) =
    let d : Entry = point.entry in
    let within = slice_get_within known.entries.items place stuck.other stuck.there in
    let has = column_of system known.entries.items known.columns.items place d is.are within in
    let there : Entry = get_or known.entries.items place d in
    let read : there ≡ stuck.other = one_entry (slice_get known.entries.items place) there stuck.other (slice_get_read known.entries.items (length known.entries.items) place there refl within (any_entry known.entries.items place d there within)) stuck.there in
    let not : IsBefore point.entry there → ⊥ = λ first. stuck.not_before (subst (λ (x : Entry). IsBefore point.entry x) read first) in
    absurd (new place d within (before_or_same system there point.entry has.is.is_constitution point_is.is_constitution (place_is.not_before d within) not))
less_unknown system known more point is point_is new (added place other place_is first entries columns) =
    rw entries (unknown-insert (all_entries system) known.entries.items place point.entry (listed system point.entry point_is.is_constitution) new)

pub no_more : (system : System) (known more : Known) (point : Point) → IsWith known point more → LeavesNoMore system known more
no_more system known more point (kept place place_is stuck) = omega arith
no_more system known more point (added place other place_is first entries columns) =
    rw entries (unknown-insert-le (all_entries system) known.entries.items place point.entry)

-- ---- what loops need

pub place_is : (entries : List Entry) (entry other : Entry) (place : ℕ) → place < length entries → other ≡ get_or entries place other → ((k : ℕ) (d : Entry) → k < place → IsBefore (get_or entries k d) entry) → (IsBefore other entry → ⊥) →
    IsPlaceOf entries entry place
place_is entries entry other place lt is before not = record {
  within = omega (arith, lt);
  before = before;
  not_before = λ d within first. not (subst (λ (x : Entry). IsBefore x entry) (any_entry entries place d other lt ∙ sym is) first);
}

pub admits_yes : (r : Bool) (entries : List Entry) (entry other : Entry) (place : ℕ) → slice_get entries place ≡ Some other → OnTrue r (IsBefore entry other) → OnTrue r ((x : Entry) → slice_get entries place ≡ Some x → IsBefore entry x)
admits_yes true entries entry other place is first = λ x x_is. subst (λ (y : Entry). IsBefore entry y) (one_entry (slice_get entries place) other x is x_is) first
admits_yes false entries entry other place is first = first

pub admits_no : (r : Bool) (entries : List Entry) (entry other : Entry) (place : ℕ) → slice_get entries place ≡ Some other → OnFalse r (IsBefore entry other → ⊥) → OnFalse r (IsStuck entries entry place)
admits_no true entries entry other place is not = not
admits_no false entries entry other place is not = record { other = other; there = is; not_before = not }

pub start_is : (system : System) (start entry : Entry) (column : Column) → IsConstitutionOf system start → entry.phase ≡ start.phase → entry.site ≡ start.site → IsColumnOf system entry column → IsKnownAs system entry column
start_is system start entry column is phase site column_is =
    (record { is_constitution = record { phase = is.phase; is_phase = rw phase is.is_phase; constitution = rw site is.constitution }; column_is = column_is })
