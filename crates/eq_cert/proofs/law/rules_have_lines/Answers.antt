use Rattle.eq_cert.proofs.Placed.{lines_stand}
use Rattle.eq_cert.proofs.law.rules_have_lines.Goals as goal

pub returns : goal.returns
returns c report e = lines_stand report e
