use Rattle.std.proofs.Common.{◌≡◌, refl, rules, subst}
use Rattle.cal_check.specs.declared.fault.DocumentFault.{DocumentFault}
use Rattle.cal_check.specs.declared.fault.DocumentFault.TheVariants.{Broken, System}
use Rattle.cal_check.specs.Documents.{IsFirstFault}
use Rattle.cal_top.specs.Documents.{broken, no_system}
use Rattle.cal_top.proofs.documents.judged.Goals as goal

pub returns-in-Err-Broken : goal.returns-in-Err-Broken
returns-in-Err-Broken c =
    broken c.in-Err-Broken.rule c.in-Err-Broken.line
    (subst (λ (f : DocumentFault). IsFirstFault c.args.db.now c.args.document.now f) c.in-Err-Broken.field-0-is c.in-Err-Broken.ensures.fault)
    refl (search rules)

pub returns-in-Err-System : goal.returns-in-Err-System
returns-in-Err-System c =
    no_system c.in-Err-System.fault
    (subst (λ (f : DocumentFault). IsFirstFault c.args.db.now c.args.document.now f) c.in-Err-System.field-0-is c.in-Err-System.ensures.fault)
    (search rules) (search rules)
