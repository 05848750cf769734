-- the counts of an entry as a field
use Rattle.std.proofs.Common.{◌≡◌, ℕ, ◌≤◌, List, [], ◌∷◌, ◌++◌, length, drop, refl, sym, ap, ◌∙◌, subst, arith, map}
use Rattle.std.specs.Fmt.{decimal}
use Rattle.cal_scan.specs.Lines.{Word}
use Rattle.cef_report.specs.Spelled.{IsSpelledSite}
use Rattle.cef_report.specs.Texts.{counts_words, more_counts}
use Rattle.eq_text.specs.Spacing.{spelled}
use Rattle.eq_text.proofs.Spaced.{joined_words}
use Rattle.cal_table.specs.Tables.{constitution}

-- a first word, and others
some_words : (site : List (List ℕ)) → IsSpelledSite site → (w : Word) × (ws : List Word) × (counts_words site ≡ w ∷ ws)
some_words [] is = let some = is.present in absurd (omega (arith, some))
some_words ([] ∷ lists) is = let some = is.counts.0.0 in absurd (omega (arith, some))
some_words ((c ∷ cs) ∷ lists) is = (decimal c, map decimal cs ++ more_counts lists, refl)

pub one_byte : (site : List (List ℕ)) (out : List ℕ) → IsSpelledSite site → out ≡ spelled (counts_words site) → 1 ≤ length out
one_byte site out is e =
    let w = some_words site is in
    subst (λ (l : List ℕ). 1 ≤ length l) (sym (e ∙ ap spelled w.2)) (omega arith)

pub behind_space : (site : List (List ℕ)) (out : List ℕ) → IsSpelledSite site → out ≡ spelled (counts_words site) → drop 1 out ≡ constitution site
unfolding constitution
behind_space site out is e =
    let w = some_words site is in
    ap (λ (l : List ℕ). drop 1 l) (e ∙ ap spelled w.2) ∙ sym (joined_words w.0 w.1) ∙ sym (ap (λ (ws : List Word). Rattle.std.specs.List.join_with_byte 32 ws) w.2)
