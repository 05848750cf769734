use Rattle.std.proofs.Common.{◌≡◌, Err, map, rules, subst}
use Rattle.std.specs.Prelude.{string_bytes}
use Rattle.cal_job.specs.declared.order.Order.{Order}
use Rattle.cal_job.specs.declared.order.Order.TheVariants as order
use Rattle.cal_job.specs.Requests.{IsOrder}
use Rattle.cal_job.specs.Saying.{Says}
use Rattle.cal_args.specs.declared.fault.WordsFault.TheVariants.{Usage}
use Rattle.cal_top.specs.Replies.{usage, said}
use Rattle.cal_top.proofs.Replying.{follow_answer}
use Rattle.cal_top.proofs.words.answer.Goals as goal

pub solve-requires : goal.solve-requires
solve-requires g c = subst IsOrder c.in-Ok-Equilibrium.field-0-is c.in-Ok-Equilibrium.ensures.keeps

pub follow-requires : goal.follow-requires
follow-requires g c = subst IsOrder c.in-Ok-Scheil.field-0-is c.in-Ok-Scheil.ensures.keeps

pub returns-in_ok-reply-in-Ok-Equilibrium-clause-answer : goal.returns-in_ok-reply-in-Ok-Equilibrium-clause-answer
returns-in_ok-reply-in-Ok-Equilibrium-clause-answer g c =
    said (order.Equilibrium c.in-Ok-Equilibrium.asked) (subst (λ (o : Order). Says (map (λ word. string_bytes word) c.args.words.now) o) c.in-Ok-Equilibrium.field-0-is c.in-Ok-Equilibrium.ensures.says) c.in_ok-reply-in-Ok-Equilibrium.ensures.reply

pub returns-in_ok-answer-in-Ok-Scheil-clause-answer : goal.returns-in_ok-answer-in-Ok-Scheil-clause-answer
returns-in_ok-answer-in-Ok-Scheil-clause-answer g c =
    follow_answer _ (map (λ word. string_bytes word) c.args.words.now) c.in-Ok-Scheil.asked c.in_ok-answer-in-Ok-Scheil.answer (subst (λ (o : Order). Says (map (λ word. string_bytes word) c.args.words.now) o) c.in-Ok-Scheil.field-0-is c.in-Ok-Scheil.ensures.says) c.in_ok-answer-in-Ok-Scheil.ensures.reply

pub returns-in_ok-reply-in-Ok-Check-clause-answer : goal.returns-in_ok-reply-in-Ok-Check-clause-answer
returns-in_ok-reply-in-Ok-Check-clause-answer g c =
    said (order.Check c.in-Ok-Check.asked) (subst (λ (o : Order). Says (map (λ word. string_bytes word) c.args.words.now) o) c.in-Ok-Check.field-0-is c.in-Ok-Check.ensures.says) c.in_ok-reply-in-Ok-Check.ensures.reply

pub returns-in_ok-reply-in-Ok-Table-clause-answer : goal.returns-in_ok-reply-in-Ok-Table-clause-answer
returns-in_ok-reply-in-Ok-Table-clause-answer g c =
    said (order.Table c.in-Ok-Table.asked) (subst (λ (o : Order). Says (map (λ word. string_bytes word) c.args.words.now) o) c.in-Ok-Table.field-0-is c.in-Ok-Table.ensures.says) c.in_ok-reply-in-Ok-Table.ensures.reply

pub returns-in_ok-reply-in-Err-Usage-clause-answer : goal.returns-in_ok-reply-in-Err-Usage-clause-answer
returns-in_ok-reply-in-Err-Usage-clause-answer g c =
    let fault : c.read_words-said.result ≡ Err Usage = search (rules, c.in-Err-Usage.is, c.in-Err-Usage.field-0-is) in
    usage (c.read_words-said.ensures.usage fault) c.in_ok-reply-in-Err-Usage.ensures.status c.in_ok-reply-in-Err-Usage.ensures.text
