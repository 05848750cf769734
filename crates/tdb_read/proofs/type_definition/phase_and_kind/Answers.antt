use Rattle.std.proofs.Common.{◌≡◌, true, sym, ap, ◌∙◌, map, drop, List, ℕ, subst}
use Rattle.tdb_forms.specs.Finding.{Finds}
use Rattle.tdb_read.specs.TypeDefinition.{is_amendment, Amends, GivesType}
use Rattle.tdb_read.proofs.Types.{finds_as, given_amended, amended_given, drop-map}
use Rattle.tdb_read.proofs.type_definition.phase_and_kind.Goals as goal

pub returns-then-amends : goal.returns-then-amends
returns-then-amends c =
    let words = map (λ w. w.now) c.args.words.now in
    let on : is_amendment words ≡ true = sym c.in_ok-amends.ensures ∙ c.if-amends.true in
    let found = subst (λ (ws : List (List ℕ)). Finds (λ x. Amends ws x.0 x.1) c.in_ok-found.found) (ap (map (λ w. w.now)) c.split_at.ensures.back ∙ sym (drop-map 2 c.args.words.now)) c.in_ok-found.ensures in
    finds_as (λ x. Amends (drop 2 words) x.0 x.1) (λ x. GivesType words x.0 x.1) (λ x. given_amended words x.0 x.1 on) (λ x. amended_given words x.0 x.1 on) c.in_ok-found.found found
