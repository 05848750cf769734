use Rattle.std.proofs.Common.{◌≡◌, refl, rules, subst}
use Rattle.std.specs.Prelude.{Result, Err}
use Rattle.tdb_read.specs.declared.fault.DbFault.{DbFault}
use Rattle.tdb_read.specs.declared.fault.DbFault.TheVariants.{Bad}
use Rattle.tdb_read.specs.Database.{Database as Entries}
use Rattle.tdb_read.specs.Folding.{Reads}
use Rattle.cal_top.proofs.texts.database_in.Goals as goal

pub returns-in_ok-text-in-Err-Bad : goal.returns-in_ok-text-in-Err-Bad
returns-in_ok-text-in-Err-Bad c =
    let whole : c.read-found.result ≡ Err (Bad c.in-Err-Bad.line c.in-Err-Bad.rule) = search (rules, c.in-Err-Bad.is, c.in-Err-Bad.field-0-is) in
    let fault = subst (λ (r : Result Entries DbFault). Reads c.args.bytes.now r) whole c.read-found.ensures in
    record { line = c.in-Err-Bad.line; rule = c.in-Err-Bad.rule; fault = fault; status = refl; text = c.in_ok-text-in-Err-Bad.ensures }
