use Rattle.std.proofs.Common.{ℕ, ◌+◌, ◌<◌, List, length, get_or, arith, subst, sym, inl, inr}
use Rattle.std.specs.Prelude.{pos}
use Rattle.std.specs.Int.{◌∣◌}
use Rattle.std.proofs.lemmas.Bool.{cases_eq}
use Rattle.std.proofs.lemmas.Nat.Gcd.{dvd_trans}
use Rattle.std.proofs.lemmas.List.{get_or_default}
use Rattle.lp_basis.specs.Potentials.{IsDivisor}
use Rattle.lp_basis.specs.declared.potential.Part.{Part}
use Rattle.lp_basis.proofs.potential.common_divisor.Goals as goal

more : (parts : List Part) (all i divisor next : ℕ) (d : Part) → i < length parts → IsDivisor parts all i divisor → next ∣ divisor → next ∣ (get_or parts i d).rest → ((h : ℕ) → h ∣ divisor → h ∣ (get_or parts i d).rest → h ∣ next) → IsDivisor parts all (i + 1) next
more parts all i divisor next d lt is first second greatest = record {
  divides_all = dvd_trans next first is.divides_all;
  divides = λ c e less. elim (cases_eq c i) [
    | inl same ↦ subst (λ (k : ℕ). next ∣ (get_or parts k e).rest) (sym same) (subst (λ (part : Part). next ∣ part.rest) (get_or_default parts i d e lt) second)
    | inr other ↦ dvd_trans next first (is.divides c e (omega arith))
  ];
  greatest = λ h all_of each. greatest h (is.greatest h all_of (λ c e less. each c e (omega arith))) (each i d (omega arith));
}

pub rests-preserved : goal.rests-preserved
rests-preserved c = more c.args.parts.now c.args.all c.rests.c c.rests.divisor c.gcd-divisor.result (record { whole = pos 0; rest = 0 }) c.rests-test.true c.rests.invariant c.gcd-divisor.ensures.0 c.gcd-divisor.ensures.1 c.gcd-divisor.ensures.2
