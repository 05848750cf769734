-- Where no cause stands, the phase of an entry keeps the limits of a phase.
use Rattle.std.proofs.Common.{◌≡◌, ℕ, ◌+◌, ◌^◌, ◌≤◌, inl, inr, List, [], ◌∷◌, length, map, sum, Bool, true, false, not, Option, ap, sym, ◌∙◌, arith, subst}
use Rattle.std.specs.Prelude.{nat_lt, ◌==◌, ◌&&◌}
use Rattle.std.specs.List.{AllByRecursion, list_any, list_all}
use Rattle.std.specs.Option.{unwrap_or}
use Rattle.std.proofs.lemmas.Bool.Decides.{nat_tests}
use Rattle.std.proofs.lemmas.List.{length-map}
use Rattle.std.proofs.lemmas.Nat.{mul-le}
use Rattle.cal_limits.specs.declared.TheConstants.{MOST_ENERGY, MOST_CURIE, MOST_MOMENT, MOST_POWER}
use Rattle.cef_core.specs.declared.job.Job.{Job}
use Rattle.cef_core.specs.declared.phase.PhaseAt.{PhaseAt}
use Rattle.cef_core.specs.Jobs.{IsJob}
use Rattle.cef_core.specs.Energies.{is_curie, is_moment}
use Rattle.cef_core.specs.Shapes.{shape}
use Rattle.cef_core.specs.Phases.{IsParameter, IsFine, sigma, magnitudes, degree}
use Rattle.tdb_read.specs.declared.phase.PhaseText.{PhaseText}
use Rattle.tdb_read.specs.Sound.{IsPhaseText, IsEntry, IsSound}
use Rattle.tdb_read.specs.Database.{Database}
use Rattle.cal_select.specs.Valuations.{Valuation}
use Rattle.cal_select.specs.Chosen.{Word, PhaseEntry, is_in, is_kept, sites_at, qualifies}
use Rattle.cal_select.specs.Wholes.{whole_ratios, scaled}
use Rattle.cal_select.specs.Types.{applying}
use Rattle.cal_select.specs.Parameters.{Entry, counts, has_order, is_of, parameters_of, needed_of, parameter_at}
use Rattle.cal_select.specs.Selection.{decimals_in, scale_of, is_magnetic, kept_in, parameters_at, phase_at}
use Rattle.cal_select.specs.Causes.{is_too_wide, is_too_energetic, is_too_high, has_too_high, type_causes, parameter_causes, phase_causes}
use Rattle.cal_select.proofs.Firsts.{back_none}
use Rattle.cal_select.proofs.Everywhere.{all-in, all-filter, all-passed, all-causeless, all-none, left_true, right_true, left_false, right_false}
use Rattle.cal_select.proofs.Kept_sites.{sites_present, sites_few, sites_length, sites_components}
use Rattle.cal_select.proofs.Whole_ratios.{AreWhole, are_whole, ratios_some}
use Rattle.cal_select.proofs.Ranged_magnetism.{magnetic_ranged}
use Rattle.cal_select.proofs.Entry_formed.{shape_kept, entry_formed}
use Rattle.cal_select.proofs.Owning.{own_order}

pub not_above : (limit n : ℕ) → nat_lt limit n ≡ false → n ≤ limit
not_above limit n e = grind (arith, nat_tests)

-- ---- parameters

all_formed : (outcome : Valuation) (db : Database) (scale : ℕ) (magnetic : Bool) (kept : List (List Word)) (es : List Entry) →
    AllByRecursion (λ (e : Entry). IsEntry e.0 e.1) es → AllByRecursion (λ (e : Entry). has_order db e.0 e.0.order ≡ true) es → AllByRecursion (λ e. counts magnetic kept e ≡ true) es →
    AllByRecursion (λ e. parameter_causes outcome kept e ≡ []) es → AllByRecursion (IsParameter (map length kept)) (map (parameter_at outcome db scale kept) es)
all_formed outcome db scale magnetic kept [] is own counted none = tt
all_formed outcome db scale magnetic kept (e ∷ es) is own counted none = (
  entry_formed outcome db scale magnetic kept e is.0 own.0 counted.0 none.0,
  all_formed outcome db scale magnetic kept es is.1 own.1 counted.1 none.1,
)

parameters_formed : (outcome : Valuation) (db : Database) (components : List Word) (e : PhaseEntry) → IsSound db → phase_causes outcome db components e ≡ [] →
    AllByRecursion (IsParameter (shape (sites_at components (kept_in components e)))) (parameters_at outcome db components e)
parameters_formed outcome db components e sound none =
    let kept : List (List Word) = kept_in components e in
    let own : List Entry = parameters_of db e.0 in
    let needed : List Entry = needed_of (is_magnetic db e) kept own in
    subst (λ (widths : List ℕ). AllByRecursion (IsParameter widths) (parameters_at outcome db components e)) (sym (shape_kept components kept))
    (all_formed outcome db (scale_of e.1.ratios) (is_magnetic db e) kept needed
    (all-filter (λ (p : Entry). IsEntry p.0 p.1) (counts (is_magnetic db e) kept) own (all-filter (λ (p : Entry). IsEntry p.0 p.1) (is_of e.0) db.parameters sound.parameters))
    (all-filter (λ (p : Entry). has_order db p.0 p.0.order ≡ true) (counts (is_magnetic db e) kept) own (all-filter (λ (p : Entry). has_order db p.0 p.0.order ≡ true) (is_of e.0) db.parameters (own_order db)))
    (all-passed (counts (is_magnetic db e) kept) own)
    (all-causeless (parameter_causes outcome kept) needed (back_none (type_causes (applying db.types e)) _ none)))

-- ---- sites

has_sites : (text : PhaseText) → IsPhaseText text → not (length text.sites == 0) ≡ true → (length text.sites ≡ length text.ratios) × (1 ≤ length text.sites)
has_sites text is some = elim is.shape [
  | inl e ↦ absurd (nothing (length text.sites) (ap length e) some)
  | inr e ↦ (e, present (length text.sites) some)
]
  where
    nothing : (n : ℕ) → n ≡ 0 → not (n == 0) ≡ true → ⊥
    nothing n e some = grind (arith, nat_tests)

    present : (n : ℕ) → not (n == 0) ≡ true → 1 ≤ n
    present n some = grind (arith, nat_tests)

-- ---- the phase

pub phase_fine : (outcome : Valuation) (db : Database) (job : Job) (components : List Word) (e : PhaseEntry) → IsJob job → IsSound db → length components ≤ 8 → IsPhaseText e.1 →
    qualifies components e.1 ≡ true → is_too_wide e.1.ratios ≡ false → phase_causes outcome db components e ≡ [] →
    is_too_energetic (phase_at outcome db job components e) ≡ false → has_too_high job.lattice (phase_at outcome db job components e) ≡ false → IsFine (phase_at outcome db job components e)
phase_fine outcome db job components e asked sound few text qualified narrow none small low =
    let phase : PhaseAt = phase_at outcome db job components e in
    let sites : List (List Word) = e.1.sites in
    let some : not (length sites == 0) ≡ true = left_true (not (length sites == 0)) (list_all (list_any (is_kept components)) sites && list_any (list_any (is_in components)) sites) qualified in
    let rest = right_true (not (length sites == 0)) (list_all (list_any (is_kept components)) sites && list_any (list_any (is_in components)) sites) qualified in
    let each : list_all (list_any (is_kept components)) sites ≡ true = left_true (list_all (list_any (is_kept components)) sites) (list_any (list_any (is_in components)) sites) rest in
    let shaped = has_sites e.1 text some in
    let whole : AreWhole e.1.ratios = are_whole e.1.ratios narrow in
    let d_is : decimals_in e.1.ratios ≡ whole.d = ap (λ (o : Option ℕ). unwrap_or o 0) whole.decimals_are in
    let energy : nat_lt MOST_ENERGY (sigma phase) ≡ false = left_false (nat_lt MOST_ENERGY (sigma phase)) _ small in
    let magnetic = right_false (nat_lt MOST_ENERGY (sigma phase)) _ small in
    record {
      keeps = record {
        coldest = asked.coldest;
        hottest = asked.hottest;
        lattice = asked.lattice;
        scale = (whole.d, whole.few, ap (λ (d : ℕ). 10 ^ d) d_is);
        sublattices_low = omega (arith, sites_length components sites, shaped.1);
        sublattices_high = omega (arith, sites_length components sites, shaped.0, text.most);
        ratio_each = length-map e.1.ratios (λ ratio. unwrap_or (scaled (decimals_in e.1.ratios) ratio) 0) ∙ sym shaped.0 ∙ sym (sites_length components sites);
        ratios_low = subst (λ (d : ℕ). AllByRecursion (λ a. 1 ≤ a) (whole_ratios d e.1.ratios)) (sym d_is) (ratios_some whole.d e.1.ratios text.ratios whole.whole);
        ratios_high = subst (λ (d : ℕ). sum (whole_ratios d e.1.ratios) ≤ 100000) (sym d_is) whole.narrow;
        site_each = sites_present components sites each;
        components = sites_components components (kept_in components e) few;
        parameters = parameters_formed outcome db components e sound none;
        magnetic = magnetic_ranged db.types e;
        energies = not_above MOST_ENERGY (sigma phase) energy;
        curie = not_above MOST_CURIE (magnitudes is_curie phase.parameters) (left_false (nat_lt MOST_CURIE (magnitudes is_curie phase.parameters)) _ magnetic);
        moments = not_above MOST_MOMENT (magnitudes is_moment phase.parameters) (right_false (nat_lt MOST_CURIE (magnitudes is_curie phase.parameters)) _ magnetic);
      };
      sites = omega (arith, sites_few components sites text.sites, mul-le (length sites) (length components + 1) 10 9 (omega (arith, shaped.0, text.most)) (omega (arith, few)));
      degrees = all-in (λ p. is_too_high p job.lattice ≡ false) (λ p. job.lattice ^ degree p ≤ MOST_POWER) (λ p e. not_above MOST_POWER (job.lattice ^ degree p) e) phase.parameters
          (all-none (λ p. is_too_high p job.lattice) phase.parameters low);
    }
