-- What follows from the sweep of several phases, and how far it has come.
use Rattle.std.proofs.Common.{◌≡◌, ℕ, zero, suc, ◌+◌, ◌^◌, ◌≤◌, ◌<◌, List, [], ◌∷◌, ◌++◌, length, map, drop, get_or, refl, arith, ap, sym, ◌∙◌, subst, append_assoc}
use Rattle.std.specs.Prelude.{Some, slice_get, sum, ℤ}
use Rattle.std.specs.List.{AllByRecursion}
use Rattle.std.proofs.lemmas.List.{append-nil}
use Rattle.std.proofs.lemmas.List.Sums.{sum_by-cons}
use Rattle.cef_core.specs.declared.phase.PhaseAt.{PhaseAt}
use Rattle.cef_tree.specs.declared.tree.Node.{Node}
use Rattle.cef_tree.specs.declared.tree.Tree.{Tree}
use Rattle.cef_core.specs.Constitutions.{IsConstitution}
use Rattle.cef_core.specs.Phases.{IsFine}
use Rattle.cef_core.specs.Points.{points_in}
use Rattle.cef_core.specs.Systems.{all_points}
use Rattle.cef_box.specs.Tight.{full_box}
use Rattle.cef_phase.specs.Bounds.{IsPlane}
use Rattle.eq_sweep.specs.declared.swept.Swept.{Swept}
use Rattle.eq_sweep.specs.declared.swept.Swept.TheVariants.{Closed, Below, Out}
use Rattle.eq_sweep.specs.Answers.{IfClosed, IfBelow, IfOut, IsPointBelow, IsShort}
use Rattle.eq_sweep.specs.Sweeps.{Closes, StopsAt, IsSweep}
use Rattle.eq_sweep.specs.Trees.{AreCovered, AreAbove}
use Rattle.eq_sweep.specs.Visits.{Visits, Stops, End, below, out}
use Rattle.eq_sweep.proofs.Members.{most_lists}
use Rattle.eq_sweep.proofs.Ready.{full_ready, list_in_full, member_is_list}
use Rattle.eq_sweep.proofs.Walks.{IsLawful, IsSound, visits_covers, covers_all, visits_splits, stops_out, stops_below}

-- ---- what the answers tell

closes_covered : (potentials : List ℤ) (budget : ℕ) (phases : List PhaseAt) (splits : ℕ) (trees : List Tree) (after : ℕ) → AllByRecursion (λ p. IsSound p potentials) phases → Closes potentials budget phases splits trees after → AreCovered potentials phases trees
closes_covered potentials budget [] splits [] after sound c = tt
closes_covered potentials budget [] splits (tree ∷ trees) after sound c = absurd c
closes_covered potentials budget (phase ∷ phases) splits [] after sound c = absurd c
closes_covered potentials budget (phase ∷ phases) splits (tree ∷ trees) after sound c = (
  visits_covers phase potentials sound.0 budget (full_box phase) splits tree.nodes [] c.0 c.1 (full_ready phase sound.0.fine),
  closes_covered potentials budget phases c.0 trees after sound.1 c.2,
)

covered_above : (potentials : List ℤ) (phases : List PhaseAt) (trees : List Tree) → AllByRecursion (λ p. IsSound p potentials) phases → AreCovered potentials phases trees → AreAbove potentials phases
covered_above potentials [] [] sound covered place phase counts is constitution = absurd cc
covered_above potentials [] (tree ∷ trees) sound covered place phase counts is constitution = absurd covered
covered_above potentials (first ∷ phases) [] sound covered place phase counts is constitution = absurd covered
covered_above potentials (first ∷ phases) (tree ∷ trees) sound covered zero phase counts is constitution =
    let same : first ≡ phase = cc in
    let constitution' : IsConstitution first counts = subst (λ (p : PhaseAt). IsConstitution p counts) (sym same) constitution in
    rw (← same) (covers_all first potentials sound.0 (full_box first) tree.nodes [] covered.0 (full_ready first sound.0.fine) counts (list_in_full first counts sound.0.fine constitution'.shape) constitution'.some)
covered_above potentials (first ∷ phases) (tree ∷ trees) sound covered (suc place) phase counts is constitution =
    covered_above potentials phases trees sound.1 covered.1 place phase counts is constitution

stops_at_below : (potentials : List ℤ) (budget : ℕ) (phases : List PhaseAt) (splits place : ℕ) (counts : List (List ℕ)) → AllByRecursion (λ p. IsSound p potentials) phases → StopsAt potentials budget phases splits place (below counts) → IsPointBelow potentials phases place counts
stops_at_below potentials budget [] splits place counts sound s = absurd s
stops_at_below potentials budget (phase ∷ phases) splits zero counts sound s =
    let ready = full_ready phase sound.0.fine in
    let a = stops_below phase potentials budget (full_box phase) splits (below counts) s counts refl ready in
    record {
      phase = phase;
      phase_is = refl;
      constitution = record { shape = member_is_list phase (full_box phase) counts ready a.1; some = a.0.content_held };
      below = a.0.below;
    }
stops_at_below potentials budget (phase ∷ phases) splits (suc place) counts sound s =
    let rest = stops_at_below potentials budget phases s.1 place counts sound.1 s.3 in
    record { phase = rest.phase; phase_is = rest.phase_is; constitution = rest.constitution; below = rest.below }

all_points-cons : (phase : PhaseAt) (phases : List PhaseAt) → all_points (phase ∷ phases) ≡ points_in phase + all_points phases
all_points-cons phase phases = sum_by-cons (λ (n : ℕ). n) (points_in phase) (map points_in phases)

stops_at_out : (potentials : List ℤ) (budget : ℕ) (phases : List PhaseAt) (splits place : ℕ) → AllByRecursion (λ p. IsSound p potentials) phases → StopsAt potentials budget phases splits place out →
    (place < length phases) × (budget < splits + all_points phases)
stops_at_out potentials budget [] splits place sound s = absurd s
stops_at_out potentials budget (phase ∷ phases) splits zero sound s = (
  omega arith,
  omega (arith, stops_out phase potentials budget (full_box phase) splits out s refl (full_ready phase sound.0.fine), most_lists phase (full_box phase), all_points-cons phase phases),
)
stops_at_out potentials budget (phase ∷ phases) splits (suc place) sound s =
    let rest = stops_at_out potentials budget phases s.1 place sound.1 s.3 in (
      omega (arith, rest.0),
      omega (arith, rest.1, visits_splits phase potentials budget (full_box phase) splits s.0 [] s.1 s.2 (full_ready phase sound.0.fine), most_lists phase (full_box phase), all_points-cons phase phases),
    )

-- what each answer of a sweep tells
pub record IsTelling (phases : List PhaseAt) (potentials : List ℤ) (budget : ℕ) (swept : Swept) : Type 0 where
  pub covered : IfClosed swept (AreCovered potentials phases)
  pub above : IfClosed swept (λ trees. AreAbove potentials phases)
  pub below : IfBelow swept (IsPointBelow potentials phases)
  pub out : IfOut swept (IsShort budget phases)

pub sweep_tells : (phases : List PhaseAt) (potentials : List ℤ) (budget : ℕ) (swept : Swept) → AllByRecursion (λ p. IsSound p potentials) phases → IsSweep phases potentials budget swept → IsTelling phases potentials budget swept
sweep_tells phases potentials budget (Closed trees) sound is =
    let covered = closes_covered potentials budget phases 0 trees is.0 sound is.1 in
    record { covered = covered; above = covered_above potentials phases trees sound covered; below = tt; out = tt }
sweep_tells phases potentials budget (Below place counts) sound is = record { covered = tt; above = tt; below = stops_at_below potentials budget phases 0 place counts sound is; out = tt }
sweep_tells phases potentials budget (Out place) sound is =
    let short = stops_at_out potentials budget phases 0 place sound is in
    record { covered = tt; above = tt; below = tt; out = record { within = short.0; short = omega (arith, short.1) } }

-- ---- the phases of models

pub all_sound : {M : Type 0} (phase_of : M → PhaseAt) (potentials : List ℤ) → ((m : M) → IsLawful (phase_of m) potentials) → (models : List M) → AllByRecursion IsFine (map phase_of models) → AllByRecursion (λ p. IsPlane (2 ^ 116) p potentials) (map phase_of models) →
    AllByRecursion (λ p. IsSound p potentials) (map phase_of models)
all_sound phase_of potentials law [] fine planes = tt
all_sound phase_of potentials law (m ∷ models) fine planes = (record { fine = fine.0; plane = planes.0; lawful = law m }, all_sound phase_of potentials law models fine.1 planes.1)

pub model_at : {M : Type 0} (phase_of : M → PhaseAt) (models : List M) (place : ℕ) (m : M) → place < length models → m ≡ get_or models place m → drop place (map phase_of models) ≡ phase_of m ∷ drop (suc place) (map phase_of models)
model_at phase_of [] place m lt e = absurd (omega (arith, lt))
model_at phase_of (x ∷ models) zero m lt e = let same : m ≡ x = e in rw same refl
model_at phase_of (x ∷ models) (suc place) m lt e = model_at phase_of models place m (omega (arith, lt)) e

pub all_at : {M : Type 0} (phase_of : M → PhaseAt) (P : PhaseAt → Type 0) (models : List M) (place : ℕ) (m : M) → place < length models → m ≡ get_or models place m → AllByRecursion P (map phase_of models) → P (phase_of m)
all_at phase_of P [] place m lt e all = absurd (omega (arith, lt))
all_at phase_of P (x ∷ models) zero m lt e all = let same : m ≡ x = e in subst (λ (y : _). P (phase_of y)) (sym same) all.0
all_at phase_of P (x ∷ models) (suc place) m lt e all = all_at phase_of P models place m (omega (arith, lt)) e all.1

-- ---- how far the sweep has come

-- the answer is that of the phases from this place on, behind the trees so far
pub record Comes (potentials : List ℤ) (budget : ℕ) (phases : List PhaseAt) (place : ℕ) (trees : List Tree) (splits : ℕ) : Type 0 where
  pub closing : (more : List Tree) (after : ℕ) → Closes potentials budget (drop place phases) splits more after → Closes potentials budget phases 0 (trees ++ more) after
  pub stopping : (p : ℕ) (end : End) → StopsAt potentials budget (drop place phases) splits p end → StopsAt potentials budget phases 0 (place + p) end

pub comes_start : (potentials : List ℤ) (budget : ℕ) (phases : List PhaseAt) (trees : List Tree) → trees ≡ [] → Comes potentials budget phases 0 trees 0
comes_start potentials budget phases trees e = rw e (record { closing = λ more after c. c; stopping = λ p end s. rw (zero_plus p) s })
  where
    zero_plus : (p : ℕ) → 0 + p ≡ p
    zero_plus p = omega arith

pub comes_on : (potentials : List ℤ) (budget : ℕ) (phases : List PhaseAt) (place : ℕ) (trees trees' : List Tree) (splits after : ℕ) (phase : PhaseAt) (tree : Tree) → drop place phases ≡ phase ∷ drop (suc place) phases → trees' ≡ trees ++ tree ∷ [] →
    Visits phase potentials budget (full_box phase) splits tree.nodes [] after → Comes potentials budget phases place trees splits → Comes potentials budget phases (place + 1) trees' after
comes_on potentials budget phases place trees trees' splits after phase tree e et visits g = rw et (record { closing = closing; stopping = stopping })
  where
    next : place + 1 ≡ suc place
    next = omega arith

    closing : (more : List Tree) (last : ℕ) → Closes potentials budget (drop (place + 1) phases) after more last → Closes potentials budget phases 0 ((trees ++ tree ∷ []) ++ more) last
    closing more last c =
        let c' : Closes potentials budget (drop (suc place) phases) after more last = subst (λ (n : ℕ). Closes potentials budget (drop n phases) after more last) next c in
        let all_of : Closes potentials budget (phase ∷ drop (suc place) phases) splits (tree ∷ more) last = (after, visits, c') in
        rw append_assoc (g.closing (tree ∷ more) last (subst (λ (ps : List PhaseAt). Closes potentials budget ps splits (tree ∷ more) last) (sym e) all_of))

    stopping : (p : ℕ) (end : End) → StopsAt potentials budget (drop (place + 1) phases) after p end → StopsAt potentials budget phases 0 ((place + 1) + p) end
    stopping p end s =
        let s' : StopsAt potentials budget (drop (suc place) phases) after p end = subst (λ (n : ℕ). StopsAt potentials budget (drop n phases) after p end) next s in
        let all_of : StopsAt potentials budget (phase ∷ drop (suc place) phases) splits (suc p) end = (tree.nodes, after, visits, s') in
        subst (λ (n : ℕ). StopsAt potentials budget phases 0 n end) (omega arith) (g.stopping (suc p) end (subst (λ (ps : List PhaseAt). StopsAt potentials budget ps splits (suc p) end) (sym e) all_of))

pub comes_stops : (potentials : List ℤ) (budget : ℕ) (phases : List PhaseAt) (place : ℕ) (trees : List Tree) (splits : ℕ) (phase : PhaseAt) (end : End) → drop place phases ≡ phase ∷ drop (suc place) phases →
    Stops phase potentials budget (full_box phase) splits end → Comes potentials budget phases place trees splits → StopsAt potentials budget phases 0 place end
comes_stops potentials budget phases place trees splits phase end e s g =
    let all_of : StopsAt potentials budget (phase ∷ drop (suc place) phases) splits 0 end = s in
    subst (λ (n : ℕ). StopsAt potentials budget phases 0 n end) (omega arith) (g.stopping 0 end (subst (λ (ps : List PhaseAt). StopsAt potentials budget ps splits 0 end) (sym e) all_of))

drop_all : (phases : List PhaseAt) (n : ℕ) → length phases ≤ n → drop n phases ≡ []
drop_all [] zero le = refl
drop_all [] (suc n) le = refl
drop_all (phase ∷ phases) zero le = absurd (omega (arith, le))
drop_all (phase ∷ phases) (suc n) le = drop_all phases n (omega (arith, le))

pub comes_done : (potentials : List ℤ) (budget : ℕ) (phases : List PhaseAt) (place : ℕ) (trees : List Tree) (splits : ℕ) → length phases ≤ place → Comes potentials budget phases place trees splits → (after : ℕ) × Closes potentials budget phases 0 trees after
comes_done potentials budget phases place trees splits le g =
    let none : Closes potentials budget [] splits [] splits = refl in
    (splits, subst (λ (ts : List Tree). Closes potentials budget phases 0 ts splits) (append-nil trees) (g.closing [] splits (subst (λ (ps : List PhaseAt). Closes potentials budget ps splits [] splits) (sym (drop_all phases place le)) none)))
