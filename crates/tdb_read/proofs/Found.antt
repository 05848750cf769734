-- What is found, and that nothing else is where nothing is.
use Rattle.std.proofs.Common.{◌≡◌, ℕ, List, Option, Some, None, refl, sym, ap, subst, ◌∙◌}
use Rattle.std.specs.Prelude.{IfNone, IfSome}
use Rattle.cal_scan.specs.Cuts.{cut_at}
use Rattle.cal_scan.specs.Fronts.{behind_spaces}
use Rattle.cal_scan.specs.FrontTokens.{behind_token}
use Rattle.tdb_expr.specs.declared.ranged.Ranged.{Ranged}
use Rattle.tdb_forms.specs.Finding.{Finds}
use Rattle.tdb_forms.specs.Ranges.{IsRangedText}
use Rattle.tdb_read.specs.declared.key.Key.{Key}
use Rattle.tdb_read.specs.declared.parameter.ParamText.{ParamText}
use Rattle.tdb_read.specs.Function.{IsFunction}
use Rattle.tdb_read.specs.Parameter.{IsBracketed, IsParameter, kind_and_key}

pub at_none : {A : Type 0} (Form : A → Type 0) (o : Option A) → Finds Form o → o ≡ None → (v : A) → Form v → ⊥
at_none Form o found e = subst (Finds Form) e found

pub at_some : {A : Type 0} (Form : A → Type 0) (o : Option A) (v : A) → Finds Form o → o ≡ Some v → Form v
at_some Form o v found e = subst (Finds Form) e found

pub if_some : {A : Type 0} (P : A → Type 0) (o : Option A) (v : A) → IfSome o P → o ≡ Some v → P v
if_some P o v found e = subst (λ o. IfSome o P) e found

pub no_function : (line : ℕ) (text rest : List ℕ) (o : Option Ranged) → rest ≡ behind_token text → Finds (IsRangedText line rest) o → o ≡ None → (f : List ℕ × Ranged) → IsFunction line text f → ⊥
no_function line text rest o is found none f form = at_none (IsRangedText line rest) o found none f.1 (subst (λ (t : List ℕ). IsRangedText line t f.1) (sym is) form.ranged)

pub no_bracket : (line : ℕ) (text : List ℕ) → ((kind inner behind : List ℕ) → IsBracketed text kind inner behind → ⊥) → (p : Key × ParamText) → IsParameter line text p → ⊥
no_bracket line text none p is = none is.kind is.inner is.behind is.bracketed

same_cut : (o : Option (List ℕ × List ℕ)) (a b c d : List ℕ) → o ≡ Some (a, b) → o ≡ Some (c, d) → (a ≡ c) × (b ≡ d)
same_cut o a b c d one two =
    let pair : (let made : List ℕ × List ℕ = (a, b) in made) ≡ (c, d) = cc in
    (ap (λ p. p.0) pair, ap (λ p. p.1) pair)

pub bracket_once : (text a b c d e f : List ℕ) → IsBracketed text a b c → IsBracketed text d e f → (a ≡ d) × (b ≡ e) × (c ≡ f)
bracket_once text a b c d e f one two =
    let opens = same_cut (cut_at 40 (behind_spaces text)) a one.rest d two.rest one.opens two.opens in
    let closes = same_cut (cut_at 41 two.rest) b c e f (subst (λ (t : List ℕ). cut_at 41 t ≡ Some (b, c)) opens.1 one.closes) two.closes in
    (opens.0, closes.0, closes.1)

pub no_range : (line : ℕ) (text kind inner behind : List ℕ) (o : Option Ranged) → IsBracketed text kind inner behind → Finds (IsRangedText line behind) o → o ≡ None → (p : Key × ParamText) → IsParameter line text p → ⊥
no_range line text kind inner behind o bracketed found none p is =
    at_none (IsRangedText line behind) o found none p.1.ranged (subst (λ (t : List ℕ). IsRangedText line t p.1.ranged) (bracket_once text is.kind is.inner is.behind kind inner behind is.bracketed bracketed).2 is.ranged)

pub no_key : (line : ℕ) (text kind inner behind : List ℕ) → IsBracketed text kind inner behind → kind_and_key kind inner ≡ None → (p : Key × ParamText) → IsParameter line text p → ⊥
no_key line text kind inner behind bracketed none p is =
    let same = bracket_once text is.kind is.inner is.behind kind inner behind is.bracketed bracketed in
    let key : kind_and_key kind inner ≡ Some (p.1.kind, p.0) = rw (← same.0, ← same.1) is.key in
    cc
