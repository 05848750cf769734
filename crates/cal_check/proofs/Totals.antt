-- Totals of entries: no term is below 0, and those of some entries are at most those of all.
use Rattle.std.proofs.Common.{◌≡◌, ℕ, ◌^◌, ◌<◌, List, [], ◌∷◌, length, Some, Bool, true, false, cond, not, filter, refl, sym, ap, ◌∙◌, subst, arith, All, slice_get, ◌≤◌, inl, inr}
use Rattle.std.specs.Prelude.{ℤ, pos, ◌+ℤ◌, ◌-ℤ◌, ◌*ℤ◌, ◌≤ℤ◌, ◌⊎◌}
use Rattle.std.proofs.lemmas.Int.{ints}
use Rattle.std.proofs.lemmas.Bool.{cases_lt}
use Rattle.std.proofs.lemmas.List.{get_or_past}
use Rattle.std.proofs.lemmas.List.Elements.{All-head, All-tail}
use Rattle.std.proofs.lemmas.Option.{slice_get_within}
use Rattle.cal_math.specs.Whole.{*ℤ-≤}
use Rattle.cal_math.specs.Vectors.{at}
use Rattle.cal_scan.specs.Lines.{Word}
use Rattle.cef_core.specs.declared.phase.PhaseAt.{PhaseAt}
use Rattle.cef_core.specs.declared.system.System.{System}
use Rattle.cef_core.specs.Constitutions.{content}
use Rattle.cef_report.specs.declared.entry.Entry.{Entry}
use Rattle.cef_report.specs.declared.report.Report.{Report}
use Rattle.cef_report.specs.Assemblages.{IsEntry, IsAssemblage, content_of, total}
use Rattle.cef_report.specs.Holding.{Holds}
use Rattle.cef_path.specs.Ledgers.{is_of, liquid_total, solid_total, IsLeft}
use Rattle.cef_path.proofs.Balance.{parted}
use Rattle.cal_check.specs.Workings.{CanTotal}

content_least : (phase : PhaseAt) (counts : List (List ℕ)) (c : ℕ) → pos 0 ≤ℤ content phase counts c
unfolding content
content_least phase counts c = omega (arith, ints)

term_least : (system : System) (entry : Entry) (c : ℕ) → IsEntry system entry → pos 0 ≤ℤ (entry.amount *ℤ content_of system entry c)
term_least system entry c is =
    let some : pos 1 ≤ℤ entry.amount = is.present in
    let least : pos 0 ≤ℤ content_of system entry c = simp is.is_phase (content_least is.phase entry.site c) in
    omega (arith, ints, *ℤ-≤ entry.amount (pos 0) (content_of system entry c) (omega (arith, ints, some)) least)

pub parts_least : (system : System) (p : Entry → Bool) (entries : List Entry) (c : ℕ) → IsAssemblage system entries → pos 0 ≤ℤ total system (filter p entries) c
parts_least system p [] c all = omega (arith, ints)
parts_least system p (entry ∷ entries) c all =
    by_test (p entry) (term_least system entry c (All-head (IsEntry system) entry entries all)) (parts_least system p entries c (All-tail (IsEntry system) entry entries all))
  where
    by_test : (b : Bool) → pos 0 ≤ℤ (entry.amount *ℤ content_of system entry c) → pos 0 ≤ℤ total system (filter p entries) c → pos 0 ≤ℤ total system (cond b (entry ∷ filter p entries) (filter p entries)) c
    by_test true here rest = omega (arith, ints, here, rest)
    by_test false here rest = rest

pub total_least : (system : System) (entries : List Entry) (c : ℕ) → IsAssemblage system entries → pos 0 ≤ℤ total system entries c
total_least system [] c all = omega (arith, ints)
total_least system (entry ∷ entries) c all =
    omega (arith, ints, term_least system entry c (All-head (IsEntry system) entry entries all), total_least system entries c (All-tail (IsEntry system) entry entries all))

pub parts_most : (system : System) (p : Entry → Bool) (entries : List Entry) (c : ℕ) → IsAssemblage system entries → total system (filter p entries) c ≤ℤ total system entries c
parts_most system p entries c all =
    let rest = parts_least system (λ entry. not (p entry)) entries c all in
    let both = parted (λ entry. entry.amount *ℤ content_of system entry c) p entries in
    omega (arith, ints, rest, both)

-- ---- entry by entry

-- the first entry, and the entries behind it
pub record IsFirstEntry (system : System) (phases : List Word) (name : Word) (entry : Entry) (entries : List Entry) (c : ℕ) : Type 0 where
  pub in_system : entry.phase < length system.phases
  pub in_phases : entry.phase < length phases
  pub least : pos 0 ≤ℤ (entry.amount *ℤ content_of system entry c)
  pub behind : pos 0 ≤ℤ total system (filter (is_of phases name) entries) c
  pub most : (entry.amount *ℤ content_of system entry c +ℤ total system (filter (is_of phases name) entries) c) ≤ℤ pos (2 ^ 61)
  pub rest : CanTotal system phases entries c

pub first_is : (system : System) (phases : List Word) (name : Word) (entry : Entry) (entries : List Entry) (c : ℕ) → CanTotal system phases (entry ∷ entries) c → IsFirstEntry system phases name entry entries c
first_is system phases name entry entries c can =
    let is : IsEntry system entry = All-head (IsEntry system) entry entries can.assemblage in
    let others : IsAssemblage system entries = All-tail (IsEntry system) entry entries can.assemblage in
    let within : entry.phase < length system.phases = slice_get_within system.phases entry.phase is.phase is.is_phase in
    let least = term_least system entry c is in
    let most = can.most in
    let part = parts_most system (is_of phases name) entries c others in
    record {
      in_system = within;
      in_phases = omega (arith, within, can.phase_each);
      least = least;
      behind = parts_least system (is_of phases name) entries c others;
      most = omega (arith, ints, most, part);
      rest = record { assemblage = others; phase_each = can.phase_each; most = omega (arith, ints, most, least) };
    }
