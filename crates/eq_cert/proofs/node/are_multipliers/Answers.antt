use Rattle.std.proofs.Common.{◌≡◌, ℕ, ◌*◌, ◌^◌, ◌≤◌, true, false, sym, subst, ◌∙◌}
use Rattle.std.specs.Prelude.{unsigned_abs}
use Rattle.std.specs.List.{AllByRecursion}
use Rattle.std.proofs.lemmas.Bool.{OnTrue_at, OnTrue_from, OnFalse_at, OnFalse_from}
use Rattle.cef_phase.specs.Bounds.{AreMultipliers}
use Rattle.eq_cert.proofs.node.are_multipliers.Goals as goal

pub returns-clause-yes : goal.returns-clause-yes
returns-clause-yes c =
    OnTrue_from c.are_small.result (AreMultipliers c.args.phase.now c.args.multipliers.now) (λ (e : c.are_small.result ≡ true).
    record {
      each = c.if-multipliers-sublattices.false ∙ c.sublattices.ensures;
      small = subst (λ (n : ℕ). AllByRecursion (λ l. unsigned_abs l * n ≤ 2 ^ 117) c.args.multipliers.now) c.from.ensures (OnTrue_at e c.are_small.ensures.yes);
    })

pub returns-clause-no : goal.returns-clause-no
returns-clause-no c =
    OnFalse_from c.are_small.result (AreMultipliers c.args.phase.now c.args.multipliers.now → ⊥) (λ (e : c.are_small.result ≡ false).
    λ h. OnFalse_at e c.are_small.ensures.no (subst (λ (n : ℕ). AllByRecursion (λ l. unsigned_abs l * n ≤ 2 ^ 117) c.args.multipliers.now) (sym c.from.ensures) h.small))
