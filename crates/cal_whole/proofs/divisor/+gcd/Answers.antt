use Rattle.std.proofs.lemmas.Nat.Gcd.{IsGcd-from_mod}
use Rattle.cal_whole.proofs.divisor.+gcd.Goals as goal

pub returns-else-b-eq0 : goal.returns-else-b-eq0
returns-else-b-eq0 t c = IsGcd-from_mod _ _ _ c.gcd.ensures
