use Rattle.std.proofs.Common.{◌∙◌, ap, ap₂, sym, Some, map, string_bytes}
use Rattle.cal_args.specs.Held.{held_value, is_taken}
use Rattle.cal_args.specs.Plain.{is_table}
use Rattle.cal_args.proofs.Choosing.{first_word, holds_from, table_of}
use Rattle.cal_args.proofs.reading.read.Goals as goal

pub matched-requires : goal.matched-requires
matched-requires c = record { table = ap is_table c.options-options.ensures ∙ table_of c.in-Some-command.command }

pub returns-clause-holds : goal.returns-clause-holds
returns-clause-holds c =
    holds_from (map (λ word. string_bytes word) c.args.words.now) c.as_str.result.now c.in-Some-command.command c.texts.result _
    (first_word (λ word. string_bytes word) c.args.words.now c.in-Some.first.now c.in-Some.ensures.value ∙ ap Some (sym c.as_str.ensures.value))
    (sym c.in-Some-command.ensures)
    (ap₂ (λ word choices. is_taken word choices (map (λ word. string_bytes word) c.args.words.now)) (sym c.word.ensures) (sym c.options-options.ensures) ∙ c.in_ok-matches.ensures.taken)
    (c.in_ok-matches.ensures.held ∙ ap₂ (λ word choices. held_value word choices (map (λ word. string_bytes word) c.args.words.now)) c.word.ensures c.options-options.ensures)
    c.texts.ensures.command c.texts.ensures.gives
