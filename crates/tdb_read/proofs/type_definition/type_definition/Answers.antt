use Rattle.std.proofs.Common.{◌≡◌, sym, ap, ◌∙◌, map, List, ℕ}
use Rattle.cal_scan.specs.Words.{tokens}
use Rattle.cal_scan.specs.Copies.{with_byte}
use Rattle.tdb_read.proofs.Types.{no_type}
use Rattle.tdb_read.proofs.type_definition.type_definition.Goals as goal

pub returns-in-None : goal.returns-in-None
returns-in-None c =
    no_type c.args.line c.args.text.now _ c.in_ok-found-in-len1.found
    (ap (map (λ w. w.now)) c.as_slice-in-len1.ensures.value ∙ c.in_ok-words-in-len1.ensures ∙ ap tokens (c.as_slice.ensures.value ∙ c.in_ok-spaced-in-len1.ensures ∙ ap (with_byte 44 32) c.split_token.ensures.rest))
    c.in_ok-found-in-len1.ensures c.in-None.is
