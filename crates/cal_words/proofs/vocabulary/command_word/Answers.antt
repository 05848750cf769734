use Rattle.std.proofs.Common.{◌≡◌, List, ℕ, inl, inr, sym, subst}
use Rattle.cal_words.specs.Found.{FitsOne}
use Rattle.cal_words.specs.Commands.{place_of, IsCommandWord}
use Rattle.cal_words.specs.declared.words.Found.TheVariants.{One, Nothing, Several}
use Rattle.cal_words.proofs.vocabulary.command_word.Goals as goal

pub returns-in-Nothing : goal.returns-in-Nothing
returns-in-Nothing c = record {
  found = tt;
  none = λ command is.
      let fits = subst (λ (entries : List (List ℕ)). FitsOne entries c.args.word.now (place_of command)) (sym c.command_words-words.ensures) is.fits in
      let one : c.find.result ≡ One (place_of command) = (c.find.ensures.one (place_of command)).1 (is.long, fits) in
      elim c.in-Nothing.is [ inl nothing ↦ absurd cc | inr several ↦ absurd cc ];
}
