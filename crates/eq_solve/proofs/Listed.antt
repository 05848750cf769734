-- Every constitution of a system is in the listing of its phases' lists.
use Rattle.std.proofs.Common.{◌≡◌, ℕ, zero, suc, ◌+◌, ◌<◌, inl, inr, List, [], ◌∷◌, get_or, length, refl, sym, subst, arith}
use Rattle.std.specs.Prelude.{Some, slice_get, pos}
use Rattle.std.specs.List.{Any}
use Rattle.cef_core.specs.declared.phase.PhaseAt.{PhaseAt}
use Rattle.cef_core.specs.declared.system.System.{System}
use Rattle.cef_core.specs.Constitutions.{HasShape}
use Rattle.cef_report.specs.declared.entry.Entry.{Entry}
use Rattle.eq_sweep.proofs.Listing.{Has, has_left, has_right, has_image, all_lists, list_is_listed}
use Rattle.eq_solve.specs.Points.{IsConstitutionOf, AreSame, entries_from, all_entries}

entries_from-has : (from place : ℕ) (phases : List PhaseAt) (phase : PhaseAt) (site : List (List ℕ)) → slice_get phases place ≡ Some phase → HasShape phase.lattice phase.sites site →
    Has (entries_from from phases) (record { phase = from + place; amount = pos 0; site = site })
entries_from-has from place [] phase site is shape = absurd cc
entries_from-has from zero (x ∷ phases) phase site is shape =
    let same : x ≡ phase = cc in
    let first : from + 0 ≡ from = omega arith in
    rw (first, same) (has_left _ _ _ (has_image (λ (s : List (List ℕ)). record { phase = from; amount = pos 0; site = s }) (all_lists phase) site (list_is_listed phase site shape)))
entries_from-has from (suc place) (x ∷ phases) phase site is shape =
    let next : from + suc place ≡ suc from + place = omega arith in
    rw next (has_right _ _ _ (entries_from-has (suc from) place phases phase site is shape))

any_from_has : (P : Entry → Type 0) (xs : List Entry) (x : Entry) → Has xs x → P x → Any P xs
any_from_has P [] x h p = absurd h
any_from_has P (y ∷ xs) x (inl e) p = (0, y, omega arith, refl, subst P (sym e) p)
any_from_has P (y ∷ xs) x (inr h) p = let a = any_from_has P xs x h p in (suc a.0, a.1, omega (arith, a.2), a.3, a.4)

pub listed : (system : System) (entry : Entry) → IsConstitutionOf system entry → Any (λ other. AreSame other entry) (all_entries system)
listed system entry is =
    any_from_has (λ other. AreSame other entry) (all_entries system) _ (entries_from-has 0 entry.phase system.phases is.phase entry.site is.is_phase is.constitution.shape) (omega arith, refl)
