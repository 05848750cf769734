use Rattle.std.proofs.Common.{◌≡◌, ◌∙◌, map, sym, subst, inl, inr}
use Rattle.std.specs.Prelude.{◌⊎◌, string_bytes}
use Rattle.cal_base.specs.declared.status.Status.{Status}
use Rattle.cal_base.specs.declared.status.Status.TheVariants.{Done, Memory}
use Rattle.cal_top.specs.declared.answer.Answer.{Answer}
use Rattle.cal_top.specs.Seen.{seen}
use Rattle.cal_top.specs.Replies.{Replies}
use Rattle.cal_top.proofs.Statuses.{not_write_fault, is_write_fault}
use Rattle.cal_top.proofs.Complete.{Laws, finished, path_done}
use Rattle.cal_top.proofs.Replying.{answer_is, path_replied, path_partly}
use Rattle.cal_top.proofs.running.run.Goals as goal

pub write-requires : goal.write-requires
write-requires g c =
    let is = answer_is _ (map (λ word. string_bytes word) c.args.words.now) _ _ c.in-Ok-Reply.field-0-is c.in-Ok-Reply.ensures.answer in
    not_write_fault _ _ _ _ is

pub returns-in-Ok-Reply-clause-replied : goal.returns-in-Ok-Reply-clause-replied
returns-in-Ok-Reply-clause-replied g c = λ fine.
    let is = answer_is _ (map (λ word. string_bytes word) c.args.words.now) _ _ c.in-Ok-Reply.field-0-is c.in-Ok-Reply.ensures.answer in
    let done = c.write.ensures.ok fine in
    rw done.0 (record { printed = c.in-Ok-Reply.reply.text.items; why = inl is; appended = done.1 })

pub returns-in-Ok-Reply-clause-partly : goal.returns-in-Ok-Reply-clause-partly
returns-in-Ok-Reply-clause-partly g c = λ fault.
    let is = answer_is _ (map (λ word. string_bytes word) c.args.words.now) _ _ c.in-Ok-Reply.field-0-is c.in-Ok-Reply.ensures.answer in
    let left = (c.write.ensures.write fault).1 in
    record { status = c.in-Ok-Reply.reply.status; printed = c.in-Ok-Reply.reply.text.items; rest = left.0; why = is; appended = left.1 }

pub returns-in-Ok-Reply-clause-complete : goal.returns-in-Ok-Reply-clause-complete
returns-in-Ok-Reply-clause-complete g c = λ can no_read no_write.
    let is = answer_is _ (map (λ word. string_bytes word) c.args.words.now) _ _ c.in-Ok-Reply.field-0-is c.in-Ok-Reply.ensures.answer in
    let laws : Laws = record { one_database = c.one_outcome.ensures.database; apart = c.one_outcome.ensures.apart; one_document = c.one_document.ensures } in
    elim (is_write_fault c.write.result) [
      | inl fault ↦ absurd (no_write (c.write.ensures.write fault).0)
      | inr fine ↦
          let same : c.write.result ≡ c.in-Ok-Reply.reply.status = (c.write.ensures.ok fine).0 in
          subst (λ (s : Status). (s ≡ Done) ⊎ (s ≡ Memory)) (sym same) (finished _ _ _ _ can laws no_read is)
    ]

pub returns-in-Ok-Path-clause-replied : goal.returns-in-Ok-Path-clause-replied
returns-in-Ok-Path-clause-replied g c = λ fine.
    let is = answer_is _ (map (λ word. string_bytes word) c.args.words.now) _ _ c.in-Ok-Path.field-0-is c.in-Ok-Path.ensures.answer in
    path_replied _ _ _ _ _ _ is (c.run_path.ensures.replied fine)

pub returns-in-Ok-Path-clause-partly : goal.returns-in-Ok-Path-clause-partly
returns-in-Ok-Path-clause-partly g c = λ fault.
    let is = answer_is _ (map (λ word. string_bytes word) c.args.words.now) _ _ c.in-Ok-Path.field-0-is c.in-Ok-Path.ensures.answer in
    path_partly _ _ _ _ _ is (c.run_path.ensures.partly fault)

pub returns-in-Ok-Path-clause-complete : goal.returns-in-Ok-Path-clause-complete
returns-in-Ok-Path-clause-complete g c = λ can no_read no_write.
    let is = answer_is _ (map (λ word. string_bytes word) c.args.words.now) _ _ c.in-Ok-Path.field-0-is c.in-Ok-Path.ensures.answer in
    let laws : Laws = record { one_database = c.one_outcome.ensures.database; apart = c.one_outcome.ensures.apart; one_document = c.one_document.ensures } in
    elim (is_write_fault c.run_path.result) [
      | inl fault ↦ absurd (no_write (c.run_path.ensures.write fault))
      | inr fine ↦ path_done _ _ _ _ _ _ is can laws no_read (c.run_path.ensures.replied fine)
    ]
