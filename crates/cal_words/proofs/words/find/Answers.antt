use Rattle.std.proofs.Common.{◌≤◌, length, arith, inl, inr}
use Rattle.cal_words.specs.declared.words.Found.TheVariants.{One, Nothing, Several}
use Rattle.cal_words.proofs.Finding.{Finds-One, Finds-Several, Finds-Nothing, Finds-back}
use Rattle.cal_words.proofs.words.find.Goals as goal

pub returns-clause-one : goal.returns-clause-one
returns-clause-one c = λ place.
    let long : c.args.least ≤ length c.args.word.now = omega arith in
    (λ e. (long, Finds-back _ _ c.find_fitting.result (One place) c.find_fitting.ensures e), λ h. Finds-One _ _ c.find_fitting.result place c.find_fitting.ensures h.1)

pub returns-clause-several : goal.returns-clause-several
returns-clause-several c =
    let long : c.args.least ≤ length c.args.word.now = omega arith in
    (λ e. (long, Finds-back _ _ c.find_fitting.result Several c.find_fitting.ensures e), λ h. Finds-Several _ _ c.find_fitting.result c.find_fitting.ensures h.1)

pub returns-clause-nothing : goal.returns-clause-nothing
returns-clause-nothing c = (
  λ e. inr (Finds-back _ _ c.find_fitting.result Nothing c.find_fitting.ensures e),
  λ h. elim h [ inl short ↦ absurd (omega arith) | inr none ↦ Finds-Nothing _ _ c.find_fitting.result c.find_fitting.ensures none ],
)
