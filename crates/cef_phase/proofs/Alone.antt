-- A phase is fine in one way alone, so that what holds a phase may keep that it is.
use Rattle.std.proofs.Common.{◌≡◌, ℕ, zero, suc, ◌^◌, ◌≤◌, List, [], ◌∷◌, Option, Some, None, Bool, true, false, arith, refl, sym, ap, ◌∙◌}
use Rattle.std.proofs.Math.Nat.{pow-suc, pow-zero}
use Rattle.std.proofs.Props.{props}
use mathlib.Core.HLevel.{Σ_prop_path}
use mathlib.Core.Logic.{∥∥₁_elim}
use Rattle.cef_core.specs.declared.phase.MagneticAt.{MagneticAt}
use Rattle.cef_core.specs.declared.phase.ParamAt.{ParamAt}
use Rattle.cef_core.specs.declared.phase.PhaseAt.{PhaseAt}
use Rattle.cef_core.specs.Phases.{ArePlaces, AreDistinct, IsOrder, IsParameter, IsMagnetic, IsComponent, IsPhase, IsFine}

ten_one : (d e : ℕ) → 10 ^ d ≡ 10 ^ e → d ≡ e
ten_one zero zero h = refl
ten_one zero (suc e) h = absurd (omega (arith, h, pow-zero 10, pow-suc 10 e))
ten_one (suc d) zero h = absurd (omega (arith, h, pow-zero 10, pow-suc 10 d))
ten_one (suc d) (suc e) h = ap suc (ten_one d e (omega (arith, h, pow-suc 10 d, pow-suc 10 e)))

abbrev IsScale : ℕ → ℕ → ℕ → Type 0
IsScale scale most d = (d ≤ most) × (scale ≡ 10 ^ d)

scale-prop : (scale most : ℕ) → IsProp ((d : ℕ) × (d ≤ most) × (scale ≡ 10 ^ d))
scale-prop scale most a b =
    let first : (d : ℕ) × IsScale scale most d = (a.0, (a.1, a.2)) in
    let second : (d : ℕ) × IsScale scale most d = (b.0, (b.1, b.2)) in
    let same : first ≡ second = Σ_prop_path each (ten_one a.0 b.0 (sym a.2 ∙ b.2)) in
    ap flat same
  where
    each : (d : ℕ) → IsProp (IsScale scale most d)
    each d = hlevel props

    flat : ((d : ℕ) × IsScale scale most d) → (d : ℕ) × (d ≤ most) × (scale ≡ 10 ^ d)
    flat s = (s.0, s.1.0, s.1.1)

ArePlaces-prop : (widths : List ℕ) (array : List (List ℕ)) → IsProp (ArePlaces widths array)
ArePlaces-prop [] [] = hlevel props
ArePlaces-prop [] (places ∷ array) = hlevel props
ArePlaces-prop (width ∷ widths) [] = hlevel props
ArePlaces-prop (width ∷ widths) (places ∷ array) = hlevel (props, ArePlaces-prop widths array)

AreDistinct-prop : (places : List ℕ) → IsProp (AreDistinct places)
AreDistinct-prop [] = hlevel props
AreDistinct-prop (p ∷ places) = hlevel (props, AreDistinct-prop places)

IsOrder-prop : (v : ℕ) (weighted : Bool) (lists : List (List ℕ)) → IsProp (IsOrder v weighted lists)
IsOrder-prop v weighted [] = hlevel props
IsOrder-prop v weighted ([] ∷ rest) = hlevel props
IsOrder-prop v weighted ((i ∷ []) ∷ rest) = hlevel props
IsOrder-prop v weighted ((i ∷ j ∷ []) ∷ []) = hlevel props
IsOrder-prop v weighted ((i ∷ j ∷ []) ∷ [] ∷ rest) = hlevel props
IsOrder-prop v weighted ((i ∷ j ∷ []) ∷ (k ∷ []) ∷ rest) = hlevel props
IsOrder-prop v weighted ((i ∷ j ∷ []) ∷ (k ∷ l ∷ []) ∷ []) = hlevel props
IsOrder-prop v weighted ((i ∷ j ∷ []) ∷ (k ∷ l ∷ []) ∷ more ∷ rest) = hlevel props
IsOrder-prop v weighted ((i ∷ j ∷ []) ∷ (k ∷ l ∷ m ∷ more) ∷ rest) = hlevel props
IsOrder-prop v true ((i ∷ j ∷ k ∷ []) ∷ []) = hlevel props
IsOrder-prop v false ((i ∷ j ∷ k ∷ []) ∷ []) = hlevel props
IsOrder-prop v true ((i ∷ j ∷ k ∷ []) ∷ more ∷ rest) = hlevel props
IsOrder-prop v false ((i ∷ j ∷ k ∷ []) ∷ more ∷ rest) = hlevel props
IsOrder-prop v true ((i ∷ j ∷ k ∷ l ∷ more) ∷ rest) = hlevel props
IsOrder-prop v false ((i ∷ j ∷ k ∷ l ∷ more) ∷ rest) = hlevel props

IsMagnetic-prop : (m : Option MagneticAt) → IsProp (IsMagnetic m)
IsMagnetic-prop None = hlevel props
IsMagnetic-prop (Some m) = hlevel props

IsComponent-prop : (site : Option ℕ) → IsProp (IsComponent site)
IsComponent-prop None = hlevel props
IsComponent-prop (Some c) = hlevel props

IsParameter-prop : (widths : List ℕ) (p : ParamAt) → IsProp (IsParameter widths p)
IsParameter-prop widths p = hlevel (props, ArePlaces-prop, AreDistinct-prop, IsOrder-prop)

IsPhase-prop : (phase : PhaseAt) → IsProp (IsPhase phase)
IsPhase-prop phase = hlevel (props, scale-prop, IsComponent-prop, IsParameter-prop, IsMagnetic-prop)

IsFine-prop : (phase : PhaseAt) → IsProp (IsFine phase)
IsFine-prop phase = hlevel (props, IsPhase-prop)

pub fine_of : (phase : PhaseAt) → ∥ IsFine phase ∥₁ → IsFine phase
fine_of phase fine = ∥∥₁_elim fine (IsFine-prop phase) (λ f. f)
