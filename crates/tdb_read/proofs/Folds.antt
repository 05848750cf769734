-- The fold goes on by a command.
use Rattle.std.proofs.Common.{◌≡◌, ℕ, ◌+◌, ◌≤◌, ◌<◌, List, [], ◌∷◌, length, get_or, drop, Option, Some, None, Result, Ok, Err, inl, inr, refl, sym, ap, subst, ◌∙◌}
use Rattle.std.proofs.lemmas.List.{at_drop_more, at_drop_all}
use Rattle.cal_words.specs.declared.rules.Rule.{Rule}
use Rattle.cal_words.specs.declared.rules.Rule.TheVariants.{Unfinished}
use Rattle.tdb_lex.specs.declared.command.Command.{Command}
use Rattle.tdb_read.specs.declared.fault.DbFault.{DbFault}
use Rattle.tdb_read.specs.declared.fault.DbFault.TheVariants.{Bad, Memory}
use Rattle.tdb_read.specs.Database.{Database, empty}
use Rattle.tdb_read.specs.Entering.{Answers}
use Rattle.tdb_read.specs.Commands.{Makes}
use Rattle.tdb_read.specs.Folding.{IsFolded, IsFirstFault, IsDatabaseOf, ReadsCommands}

-- what the commands that are left make of the database so far, all commands make of the empty one
pub record Behind (d : Database) (rest cs : List Command) (open_line : Option ℕ) : Type 0 where
  pub folded : (e : Database) → IsFolded d rest e → IsFolded empty cs e
  pub fault : (line : ℕ) (rule : Rule) → IsFirstFault d rest open_line line rule → IsFirstFault empty cs open_line line rule

pub behind_start : (cs : List Command) (open_line : Option ℕ) → Behind empty cs cs open_line
behind_start cs open_line = record { folded = λ e is. is; fault = λ line rule is. is }

rest_is : (cs : List Command) (i : ℕ) (c : Command) → i < length cs → c ≡ get_or cs i c → drop i cs ≡ c ∷ drop (i + 1) cs
rest_is cs i c lt is = at_drop_more (λ (xs : List Command). xs) cs i c lt ∙ ap (λ (x : Command). x ∷ drop (i + 1) cs) (sym is)

pub behind_next : (d e : Database) (i : ℕ) (cs : List Command) (c : Command) (open_line : Option ℕ) → i < length cs → c ≡ get_or cs i c → Makes d c (Ok e) → Behind d (drop i cs) cs open_line → Behind e (drop (i + 1) cs) cs open_line
behind_next d e i cs c open_line lt is makes held =
    let now : Behind d (c ∷ drop (i + 1) cs) cs open_line = subst (λ xs. Behind d xs cs open_line) (rest_is cs i c lt is) held in
    record { folded = λ f folded. now.folded f (e, makes, folded); fault = λ line rule first. now.fault line rule (inr (e, makes, first)) }

pub behind_fault : (d : Database) (fault : DbFault) (i : ℕ) (cs : List Command) (c : Command) (open_line : Option ℕ) → i < length cs → c ≡ get_or cs i c → Answers c.line (Makes d c) (Err fault) → Behind d (drop i cs) cs open_line → ReadsCommands cs open_line (Err fault)
behind_fault d Memory i cs c open_line lt is answers held = tt
behind_fault d (Bad line rule) i cs c open_line lt is answers held =
    let now : Behind d (c ∷ drop (i + 1) cs) cs open_line = subst (λ xs. Behind d xs cs open_line) (rest_is cs i c lt is) held in
    now.fault line rule (inl (answers.0, answers.1))

pub behind_open : (d : Database) (i : ℕ) (cs : List Command) (open_line : Option ℕ) (line : ℕ) → length cs ≤ i → open_line ≡ Some line → Behind d (drop i cs) cs open_line → IsFirstFault empty cs open_line line Unfinished
behind_open d i cs open_line line le is held =
    let now : Behind d [] cs open_line = subst (λ xs. Behind d xs cs open_line) (at_drop_all (λ (xs : List Command). xs) cs i le) held in
    now.fault line Unfinished (is, refl)

pub behind_closed : (d : Database) (i : ℕ) (cs : List Command) (open_line : Option ℕ) → length cs ≤ i → open_line ≡ None → Behind d (drop i cs) cs open_line → IsDatabaseOf cs open_line d
behind_closed d i cs open_line le is held =
    let now : Behind d [] cs open_line = subst (λ xs. Behind d xs cs open_line) (at_drop_all (λ (xs : List Command). xs) cs i le) held in
    record { folded = now.folded d refl; closed = is }
