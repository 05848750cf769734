-- A list of a value above 0 is a constitution; the best list of a phase bounds the values of all.
use Rattle.std.proofs.Common.{◌≡◌, ℕ, ◌/◌, ◌^◌, ◌<◌, List, length, get_or, refl, arith, ap, sym, ◌∙◌, subst, inl, inr}
use Rattle.std.specs.Prelude.{ℤ, pos, ◌≤ℤ◌, Option, Some, slice_get}
use Rattle.std.proofs.lemmas.Int.{ints}
use Rattle.std.proofs.lemmas.Bool.{cases_lt}
use Rattle.std.proofs.Math.Nat.{div-mul-le_self}
use Rattle.cal_math.specs.Vectors.{at, dot}
use Rattle.cal_math.proofs.Vectors.{sum-same, dot_same}
use Rattle.lp_basis.specs.Rows.{FitsProduct}
use Rattle.lp_basis.specs.declared.column.Column.{Column}
use Rattle.lp_core.specs.Plans as plans
use Rattle.cef_core.specs.declared.phase.PhaseAt.{PhaseAt}
use Rattle.cef_report.specs.declared.entry.Entry.{Entry}
use Rattle.cef_core.specs.declared.system.System.{System}
use Rattle.cef_core.specs.Constitutions.{IsConstitution, content, content_over}
use Rattle.cef_report.specs.Assemblages.{content_of}
use Rattle.cef_core.specs.Worth.{worth}
use Rattle.eq_solve.specs.Points.{IsListOf, IsColumnOf, IsKnownAs, AreKnown, IsSized}
use Rattle.eq_solve.specs.Sweeps.{CanSweep}
use Rattle.eq_solve.specs.Greatest.{AreBest}
use Rattle.eq_solve.proofs.Worths.{worth-dot}
use Rattle.eq_solve.proofs.Knowing.{at_past, proof_small}
use Rattle.eq_solve.proofs.Planning.{potential_small}
use Rattle.eq_solve.proofs.Best.{content_value, best-most, best-shape, some_part}

pub content_list : (system : System) (entry : Entry) → IsListOf system entry → (c : ℕ) → pos 0 ≤ℤ content_of system entry c
unfolding content
content_list system entry is c = simp is.is_phase (omega (arith, ints))

pub value_is : (system : System) (v : List ℤ) (entry : Entry) (column : Column) → length v ≡ length system.elements → IsColumnOf system entry column →
    dot (length v) (at v) (at column.amounts.items) ≡ worth v (content_of system entry)
value_is system v entry column len is =
    sym (worth-dot v (content_of system entry) ∙ dot_same (length v) (at v) (content_of system entry) (at v) (at column.amounts.items) (λ c lt. refl) (λ c lt. sym (is.amounts_are c (omega (arith, len)))))

pub product_fits : (system : System) (v : List ℤ) (entry : Entry) (column : Column) → IsSized system → CanSweep system v → IsListOf system entry → IsColumnOf system entry column →
    FitsProduct (2 ^ 116 / system.widest) system.widest v column.amounts.items
product_fits system v entry column sized can list is = record {
  sized = can.one_each ∙ sym is.same;
  row_small = potential_small system v can sized.wide_some;
  least = least;
  sum = rw (can.one_each, sum-same (length system.elements) (at column.amounts.items) (content_of system entry) is.amounts_are) (sized.narrow entry list);
  room = omega (arith, div-mul-le_self (2 ^ 116) system.widest);
}
  where
    least : (c : ℕ) → pos 0 ≤ℤ at column.amounts.items c
    least c =
        elim (cases_lt c (length system.elements)) [
          | inl lt ↦ rw (is.amounts_are c lt) (content_list system entry list c)
          | inr le ↦ rw (at_past column.amounts.items c (omega (arith, is.same))) (omega (arith, ints))
        ]

pub list_is : (system : System) (place : ℕ) (phase : PhaseAt) (v : List ℤ) (site more : List (List ℕ)) → slice_get system.phases place ≡ Some phase → site ≡ more → AreBest phase.lattice v phase.sites more →
    IsListOf system (record { phase = place; amount = pos 0; site = site })
list_is system place phase v site more is e best = record { phase = phase; is_phase = is; shape = rw e (best-shape phase.lattice v phase.sites more best) }

pub counted : (phase : PhaseAt) (counts : List (List ℕ)) (c : ℕ) → pos 1 ≤ℤ content phase counts c → 0 < content_over c phase.ratios phase.sites counts
unfolding content
counted phase counts c above = omega (arith, ints, above)

pub known_is : (system : System) (v : List ℤ) (entry : Entry) (column : Column) → CanSweep system v → IsListOf system entry → IsColumnOf system entry column → pos 1 ≤ℤ dot (length v) (at v) (at column.amounts.items) →
    IsKnownAs system entry column × (pos 1 ≤ℤ worth v (content_of system entry))
known_is system v entry column can list is above =
    let value = value_is system v entry column can.one_each is in
    let high : pos 1 ≤ℤ worth v (content_of system entry) = rw (← value) above in
    let found = some_part (length v) (at v) (content_of system entry) (rw (← worth-dot v (content_of system entry)) high) (content_list system entry list) in
    let same : content_of system entry found.0 ≡ content list.phase entry.site found.0 = simp list.is_phase refl in (
      record {
        is_constitution = record { phase = list.phase; is_phase = list.is_phase; constitution = record { shape = list.shape; some = (found.0, counted list.phase entry.site found.0 (rw (← same) found.1)) } };
        column_is = is;
      },
      high,
    )

some_same : {A : Type 0} (o : Option A) (x y : A) → o ≡ Some x → o ≡ Some y → x ≡ y
some_same o x y p q = cc

pub none_above : (system : System) (place : ℕ) (phase : PhaseAt) (v : List ℤ) (site more : List (List ℕ)) (column : Column) → slice_get system.phases place ≡ Some phase → site ≡ more → AreBest phase.lattice v phase.sites more →
    length v ≡ length system.elements → IsColumnOf system (record { phase = place; amount = pos 0; site = site }) column → dot (length v) (at v) (at column.amounts.items) ≤ℤ pos 0 →
    (other : PhaseAt) (counts : List (List ℕ)) → slice_get system.phases place ≡ Some other → IsConstitution other counts → worth v (content other counts) ≤ℤ pos 0
none_above system place phase v site more column is e best len column_is below other counts other_is constitution =
    let same : other ≡ phase = some_same _ other phase other_is is in
    let shape : IsConstitution phase counts = subst (λ (p : PhaseAt). IsConstitution p counts) same constitution in
    let most = best-most phase.lattice v phase.ratios phase.sites counts more shape.shape best in
    let value = value_is system v (record { phase = place; amount = pos 0; site = site }) column len column_is in
    let here : worth v (content_of system (record { phase = place; amount = pos 0; site = site })) ≡ worth v (content phase more) = simp is (ap (λ (s : List (List ℕ)). worth v (content phase s)) e) in
    rw same (omega (arith, ints, most, content_value v phase counts, content_value v phase more, value, here, below))

-- the numbers of a proof of none have room
pub none_can : (system : System) (known : List Entry) (columns : List Column) (asked v : List ℤ) → IsSized system → AreKnown system known columns → length asked ≡ length system.elements → plans.IsProofOfNone columns asked v → CanSweep system v
none_can system known columns asked v sized are size none = record {
  one_each = none.one_each ∙ size;
  small = λ k d lt. proof_small system sized known columns (get_or v k d) (length asked) size are (none.small k d lt);
}
