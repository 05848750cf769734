use Rattle.std.proofs.Common.{◌≡◌, ℕ, suc, ◌≤◌, ◌<◌, ◌^◌, List, None, sym, subst, replicate}
use Rattle.std.specs.Prelude.{ℤ}
use Rattle.lp_laws.specs.Bases.{IsUnit}
use Rattle.lp_basis.specs.Held.{IsHeld}
use Rattle.lp_basis.specs.declared.column.Column.{Column}
use Rattle.lp_basis.specs.declared.row.Row.{Row}
use Rattle.lp_stage.specs.Stages.{CanStand}
use Rattle.lp_stage.specs.declared.phase.Phase.TheVariants.{First}
use Rattle.lp_core.specs.FirstPhase.{CanBegin}
use Rattle.lp_core.proofs.Beginning.{CanStand-units}
use Rattle.lp_core.proofs.first.stage_of_units.Goals as goal

AreUnits : ℕ → List Row → Type 0
AreUnits n rows = (w : ℕ) (columns : ℕ → ℕ → ℤ) → 1 ≤ w → w ^ n ≤ 2 ^ 62 → ((j : ℕ) → j < n → IsUnit n j (columns j)) → IsHeld n w columns rows

stands : (b w size : ℕ) (columns : List Column) (rows : List Row) → size ≡ suc b → CanBegin b w columns → AreUnits size rows → CanStand b w 1 First columns (replicate size None) rows
unfolding AreUnits
stands b w size columns rows e can units =
    subst (λ (n : ℕ). CanStand b w 1 First columns (replicate n None) rows) (sym e) (CanStand-units b w columns rows can (subst (λ (n : ℕ). AreUnits n rows) e units))

pub priced-requires : goal.priced-requires
unfolding AreUnits
priced-requires c =
    (c.requires.0, c.requires.1, 1, rw c.in_ok-places.ensures (stands c.requires.0 c.requires.1 c.args.size c.args.columns.now c.in_ok-rows.rows.items c.requires.2 c.requires.3 c.in_ok-rows.ensures))

pub returns : goal.returns
unfolding AreUnits
returns c b w e can =
    rw c.in_ok-places.ensures at (c.in_ok-stage.ensures.stage b w 1 (rw c.in_ok-places.ensures (stands b w c.args.size c.args.columns.now c.in_ok-rows.rows.items e can c.in_ok-rows.ensures)))
