-- A text has one database, or one first fault, and not both.
use Rattle.std.proofs.Common.{◌≡◌, ℕ, suc, ◌+◌, ◌^◌, ◌≤◌, ◌<◌, ◌⊎◌, Bool, true, false, cond, List, [], ◌∷◌, length, drop, codes, Option, Some, None, Result, Ok, Err, inl, inr, refl, sym, ap, subst, ◌∙◌, arith}
use Rattle.std.specs.Prelude.{MatchBool, ℤ, unsigned_abs, ◌==◌}
use Rattle.std.proofs.Math.Bridge.{le_prop}
use Rattle.cal_dec.specs.Decimals.{Decimal, decimal_of}
use Rattle.cal_words.specs.declared.rules.Rule.{Rule}
use Rattle.cal_words.specs.declared.rules.Rule.TheVariants as rules
use Rattle.cal_words.specs.declared.vocabulary.CommandWord.{CommandWord}
use Rattle.cal_words.specs.declared.vocabulary.CommandWord.TheVariants as words
use Rattle.cal_words.specs.Commands.{place_of, IsCommandWord}
use Rattle.cal_dec.specs.declared.dec.Dec.{Dec}
use Rattle.cal_dec.specs.Fronts.{IsLongestNumber, HasNoNumber}
use Rattle.cal_scan.specs.Cuts.{cut_at}
use Rattle.cal_scan.specs.Fronts.{behind_spaces}
use Rattle.cal_scan.specs.FrontTokens.{first_token, behind_token}
use Rattle.cal_scan.specs.Words.{tokens}
use Rattle.cal_scan.specs.Copies.{with_byte}
use Rattle.tdb_lex.specs.declared.command.Command.{Command}
use Rattle.tdb_lex.specs.Commands.{parts, finished, unfinished}
use Rattle.tdb_expr.specs.declared.expression.Expr.{Expr}
use Rattle.tdb_expr.specs.declared.ranged.Piece.{Piece}
use Rattle.tdb_expr.specs.declared.ranged.Ranged.{Ranged}
use Rattle.tdb_expr.specs.Grammar.{IsReading}
use Rattle.tdb_expr.proofs.Once.{read_once}
use Rattle.tdb_forms.specs.Numbers.{IsReadable, BeginsWithNumber}
use Rattle.tdb_forms.specs.Ranges.{behind_separators, IsHigh, IsPiece, IsEnd, ArePieces, IsRangedText}
use Rattle.tdb_forms.specs.Heads.{head_of}
use Rattle.tdb_forms.proofs.Readings.{longest_once}
use Rattle.tdb_forms.proofs.Ranging.{piece_rest}
use Rattle.tdb_read.specs.declared.key.Key.{Key}
use Rattle.tdb_read.specs.declared.phase.PhaseText.{PhaseText}
use Rattle.tdb_read.specs.declared.parameter.ParamText.{ParamText}
use Rattle.tdb_read.specs.declared.type_definition.TypeText.{TypeText}
use Rattle.tdb_read.specs.declared.type_definition.TypeKind.{TypeKind}
use Rattle.tdb_read.specs.declared.type_definition.TypeKind.TheVariants.{Magnetic, Plain, Other}
use Rattle.tdb_read.specs.Database.{Database, empty, with_element, with_function, with_phase, with_parameter, with_type}
use Rattle.tdb_read.specs.Entering.{Enters}
use Rattle.tdb_read.specs.Element.{IsElement}
use Rattle.tdb_read.specs.Function.{IsFunction}
use Rattle.tdb_read.specs.Phase.{IsPhase, AreRatios}
use Rattle.tdb_read.specs.Constituent.{constituent_of}
use Rattle.tdb_read.specs.Parameter.{IsParameter, kind_and_key}
use Rattle.tdb_read.specs.TypeDefinition.{fits_pattern, is_amendment, is_sequence, is_plain, IsMagnetic, IsAmendedBy, Amends, GivesType, IsTypeDefinition}
use Rattle.tdb_read.specs.Commands.{HasNoEffect, IsLeftOut, Obeys, IsWordOf, Makes}
use Rattle.tdb_read.specs.Folding.{IsFolded, IsFirstFault, IsDatabaseOf, IsDatabase, IsFault}
use Rattle.tdb_read.proofs.Found.{bracket_once}
use Rattle.tdb_read.proofs.Ratios.{readable_once}

-- ---- numbers and ranged texts

number : (m e : ℤ) → unsigned_abs m < 10 ^ 18 → Dec
number m e bounded = record { mantissa = m; exponent = e; bounded = bounded }

number_at : (m n x y : ℤ) (a : unsigned_abs m < 10 ^ 18) (b : unsigned_abs n < 10 ^ 18) → m ≡ n → x ≡ y → number m x a ≡ number n y b
number_at m n x y a b p q = subst (λ (k : ℤ). (b : unsigned_abs k < 10 ^ 18) → number m x a ≡ number k y b) p (λ b. by_exponent b) b
  where
    by_exponent : (b : unsigned_abs m < 10 ^ 18) → number m x a ≡ number m y b
    by_exponent b = subst (λ (k : ℤ). number m x a ≡ number m k b) q (ap (number m x) (le_prop a b))

dec_once : (d e : Dec) → decimal_of d ≡ decimal_of e → d ≡ e
unfolding number
dec_once d e same = number_at d.mantissa e.mantissa d.exponent e.exponent d.bounded e.bounded (ap (λ (x : Decimal). x.mantissa) same) (ap (λ (x : Decimal). x.exponent) same)

number_once : (token : List ℕ) (a b : Dec) → IsReadable token a → IsReadable token b → a ≡ b
number_once token a b one two = dec_once a b (readable_once token a b one two)

front_once : (text : List ℕ) (a b : Dec) (x y : List ℕ) → BeginsWithNumber text a x → BeginsWithNumber text b y → (a ≡ b) × (x ≡ y)
front_once text a b x y one two =
    let same = longest_once text one.front x two.front y one.longest two.longest in
    (number_once two.front a b (subst (λ (w : List ℕ). IsReadable w a) same.0 one.readable) two.readable, same.1)

high_once : (text : List ℕ) (a b : Dec) (x y : List ℕ) → IsHigh text a x → IsHigh text b y → a ≡ b
high_once text a b x y (inl one) (inl two) = (front_once text a b x y one two).0
high_once text a b x y (inl one) (inr two) = absurd (two.0 one.front x one.longest.text_is one.longest.number)
high_once text a b x y (inr one) (inl two) = absurd (one.0 two.front y two.longest.text_is two.longest.number)
high_once text a b x y (inr one) (inr two) = dec_once a b (one.1 ∙ sym two.1)

piece_once : (text : List ℕ) (p q : Piece) (a b : List ℕ) → IsPiece text p a → IsPiece text q b → p ≡ q
piece_once text p q a b one two =
    let pair : (let made : List ℕ × List ℕ = (one.expression, one.limit) in made) ≡ (two.expression, two.limit) = cc (one.cut, two.cut) in
    let expressions : one.expression ≡ two.expression = ap (λ x. x.0) pair in
    let limits : one.limit ≡ two.limit = ap (λ x. x.1) pair in
    let exprs = read_once two.expression p.expr q.expr (subst (λ (t : List ℕ). IsReading t p.expr) expressions one.expr) two.expr in
    let highs = high_once (behind_separators two.limit) p.high q.high one.after two.after (subst (λ (t : List ℕ). IsHigh (behind_separators t) p.high one.after) limits one.high) two.high in
    λ i. record { high = highs i; expr = exprs i }

not_end : (next : List ℕ) → IsEnd (89 ∷ next) → ⊥
not_end next (inl none) = absurd cc
not_end next (inr unread) = absurd (omega (arith, ap first unread.1))
  where
    first : List ℕ → ℕ
    first [] = 0
    first (b ∷ bs) = b

pieces_once : (text : List ℕ) (ps qs : List Piece) → ArePieces text ps → ArePieces text qs → ps ≡ qs
pieces_once text [] qs one two = absurd one
pieces_once text (p ∷ ps) [] one two = absurd two
pieces_once text (p ∷ []) (q ∷ []) one two = ap (λ (x : Piece). x ∷ []) (piece_once text p q one.0 two.0 one.1 two.1)
pieces_once text (p ∷ []) (q ∷ r ∷ qs) one two = absurd (not_end two.0 (subst IsEnd (piece_rest text p q one.0 (89 ∷ two.0) one.1 two.1) one.2))
pieces_once text (p ∷ r ∷ ps) (q ∷ []) one two = absurd (not_end one.0 (subst IsEnd (piece_rest text q p two.0 (89 ∷ one.0) two.1 one.1) two.2))
pieces_once text (p ∷ r ∷ ps) (q ∷ s ∷ qs) one two =
    let rests : 89 ∷ one.0 ≡ 89 ∷ two.0 = piece_rest text p q (89 ∷ one.0) (89 ∷ two.0) one.1 two.1 in
    let same : one.0 ≡ two.0 = cc in
    let first = piece_once text p q (89 ∷ one.0) (89 ∷ two.0) one.1 two.1 in
    let others = pieces_once two.0 (r ∷ ps) (s ∷ qs) (subst (λ (t : List ℕ). ArePieces t (r ∷ ps)) same one.2) two.2 in
    λ i. first i ∷ others i

ranged_once : (line : ℕ) (text : List ℕ) (a b : Ranged) → IsRangedText line text a → IsRangedText line text b → a ≡ b
ranged_once line text a b one two =
    let lines : a.line ≡ b.line = one.line_is ∙ sym two.line_is in
    let rests = (front_once (behind_spaces text) one.low two.low one.behind two.behind one.begins two.begins).1 in
    let pieces = pieces_once two.behind a.pieces b.pieces (subst (λ (t : List ℕ). ArePieces t a.pieces) rests one.pieces) two.pieces in
    λ i. record { line = lines i; pieces = pieces i }

-- ---- commands

function_once : (line : ℕ) (text : List ℕ) (a b : List ℕ × Ranged) → IsFunction line text a → IsFunction line text b → a ≡ b
function_once line text a b one two =
    let names : a.0 ≡ b.0 = one.token ∙ sym two.token in
    let ranged = ranged_once line (behind_token text) a.1 b.1 one.ranged two.ranged in
    λ i. (names i, ranged i)

ratios_once : (text : List ℕ) (a b : List Dec) → length a ≡ length b → AreRatios text a → AreRatios text b → a ≡ b
ratios_once text [] [] e one two = refl
ratios_once text [] (y ∷ ys) e one two = absurd (omega (arith, e))
ratios_once text (x ∷ xs) [] e one two = absurd (omega (arith, e))
ratios_once text (x ∷ xs) (y ∷ ys) e one two =
    let first = number_once (first_token text) x y one.0 two.0 in
    let others = ratios_once (behind_token text) xs ys (omega (arith, e)) one.2 two.2 in
    λ i. first i ∷ others i

phase_once : (line : ℕ) (text : List ℕ) (a b : List ℕ × PhaseText) → IsPhase line text a → IsPhase line text b → a ≡ b
phase_once line text a b one two =
    let heads : (let made : List ℕ × List ℕ = (a.0, a.1.suffix) in made) ≡ (b.0, b.1.suffix) = cc (one.head, two.head) in
    let lines : a.1.line ≡ b.1.line = one.line_is ∙ sym two.line_is in
    let all_codes : a.1.codes ≡ b.1.codes = one.codes ∙ sym two.codes in
    let ratios = ratios_once (behind_token (behind_token (behind_token text))) a.1.ratios b.1.ratios (one.count.value ∙ sym two.count.value) one.ratios two.ratios in
    let sites : a.1.sites ≡ b.1.sites = one.sites ∙ sym two.sites in
    λ i. ((heads i).0, record { line = lines i; suffix = (heads i).1; codes = all_codes i; ratios = ratios i; sites = sites i })

some_once : {A : Type 0} (o : Option A) (a b : A) → o ≡ Some a → o ≡ Some b → a ≡ b
some_once o a b one two = cc

parameter_once : (line : ℕ) (text : List ℕ) (a b : Key × ParamText) → IsParameter line text a → IsParameter line text b → a ≡ b
parameter_once line text a b one two =
    let cuts = bracket_once text one.kind one.inner one.behind two.kind two.inner two.behind one.bracketed two.bracketed in
    let key : kind_and_key two.kind two.inner ≡ Some (a.1.kind, a.0) = rw (← cuts.0, ← cuts.1) one.key in
    let same = some_once (kind_and_key two.kind two.inner) (a.1.kind, a.0) (b.1.kind, b.0) key two.key in
    let ranged = ranged_once line two.behind a.1.ranged b.1.ranged (subst (λ (t : List ℕ). IsRangedText line t a.1.ranged) cuts.2 one.ranged) two.ranged in
    λ i. ((same i).1, record { kind = (same i).0; ranged = ranged i })

-- ---- type definitions

magnetic_once : (ws : List (List ℕ)) (a b : TypeKind) → IsMagnetic ws a → IsMagnetic ws b → a ≡ b
magnetic_once [] a b one two = absurd one
magnetic_once (f ∷ []) a b one two = absurd one
magnetic_once (f ∷ p ∷ ws) (Magnetic x y) (Magnetic u v) one two =
    let factors = number_once f x u one.0 two.0 in
    let fractions = number_once p y v one.1 two.1 in
    λ i. Magnetic (factors i) (fractions i)
magnetic_once (f ∷ p ∷ ws) (Magnetic x y) Plain one two = absurd two
magnetic_once (f ∷ p ∷ ws) (Magnetic x y) Other one two = absurd two
magnetic_once (f ∷ p ∷ ws) Plain b one two = absurd one
magnetic_once (f ∷ p ∷ ws) Other b one two = absurd one

amended_once : (what : List ℕ) (rest : List (List ℕ)) (a b : TypeKind) → IsAmendedBy what rest a → IsAmendedBy what rest b → a ≡ b
amended_once what rest a b = by_order (fits_pattern (codes "MAGNETIC_ORDERING") what)
  where
    by_order : (t : Bool) → MatchBool t (IsMagnetic rest a) (a ≡ cond (is_plain what) Plain Other) → MatchBool t (IsMagnetic rest b) (b ≡ cond (is_plain what) Plain Other) → a ≡ b
    by_order true one two = magnetic_once rest a b one two
    by_order false one two = one ∙ sym two

amends_once : (ws : List (List ℕ)) (x y : List ℕ) (a b : TypeKind) → Amends ws x a → Amends ws y b → (x ≡ y) × (a ≡ b)
amends_once [] x y a b one two = absurd one
amends_once (p ∷ []) x y a b one two = absurd one
amends_once (p ∷ what ∷ rest) x y a b one two = (one.0 ∙ sym two.0, amended_once what rest a b one.1 two.1)

gives_once : (ws : List (List ℕ)) (x y : List ℕ) (a b : TypeKind) → GivesType ws x a → GivesType ws y b → (x ≡ y) × (a ≡ b)
gives_once ws x y a b = by_amends (is_amendment ws)
  where
    by_amends : (t : Bool) → MatchBool t (Amends (drop 2 ws) x a) ((x ≡ codes "@") × (a ≡ cond (is_sequence ws) Plain Other))
        → MatchBool t (Amends (drop 2 ws) y b) ((y ≡ codes "@") × (b ≡ cond (is_sequence ws) Plain Other)) → (x ≡ y) × (a ≡ b)
    by_amends true one two = amends_once (drop 2 ws) x y a b one two
    by_amends false one two = (one.0 ∙ sym two.0, one.1 ∙ sym two.1)

type_once : (line : ℕ) (text : List ℕ) (a b : TypeText) → IsTypeDefinition line text a → IsTypeDefinition line text b → a ≡ b
type_once line text a b one two =
    let all_codes : a.code ∷ [] ≡ b.code ∷ [] = sym one.code ∙ two.code in
    let code : a.code ≡ b.code = cc in
    let lines : a.line ≡ b.line = one.line_is ∙ sym two.line_is in
    let same = gives_once (tokens (with_byte 44 32 (behind_token text))) a.phase b.phase a.kind b.kind one.gives two.gives in
    λ i. record { line = lines i; code = code i; phase = same.0 i; kind = same.1 i }

-- ---- what a command makes

enters_once : {A : Type 0} (Form : A → Type 0) (entered : A → Database) (rule : Rule) → ((a b : A) → Form a → Form b → a ≡ b) → (r s : Result Database Rule) → Enters Form entered rule r → Enters Form entered rule s → r ≡ s
enters_once Form entered rule same (Ok d) (Ok e) one two = ap (λ (x : Database). Ok x) (one.2 ∙ ap entered (same one.0 two.0 one.1 two.1) ∙ sym two.2)
enters_once Form entered rule same (Ok d) (Err broken) one two = absurd (two.0 one.0 one.1)
enters_once Form entered rule same (Err broken) (Ok e) one two = absurd (one.0 two.0 two.1)
enters_once Form entered rule same (Err broken) (Err other) one two = ap (λ (x : Rule). Err x) (one.1 ∙ sym two.1)

obeys_once : (d : Database) (line : ℕ) (text : List ℕ) (word : CommandWord) (r s : Result Database Rule) → Obeys d line text word r → Obeys d line text word s → r ≡ s
obeys_once d line text words.Element r s one two = enters_once (IsElement text) (λ name. with_element d name line) rules.Element (λ a b x y. x.token ∙ sym y.token) r s one two
obeys_once d line text words.Function r s one two = enters_once (IsFunction line text) (λ f. with_function d f.0 f.1) rules.Function (function_once line text) r s one two
obeys_once d line text words.Phase r s one two = enters_once (IsPhase line text) (λ p. with_phase d p.0 p.1) rules.Phase (phase_once line text) r s one two
obeys_once d line text words.Constituent r s one two = enters_once (λ p. constituent_of d text ≡ Some p) (λ p. with_phase d p.0 p.1) rules.Constituent (some_once (constituent_of d text)) r s one two
obeys_once d line text words.Parameter r s one two = enters_once (IsParameter line text) (λ p. with_parameter d p.0 p.1) rules.Parameter (parameter_once line text) r s one two
obeys_once d line text words.TypeDefinition r s one two = enters_once (IsTypeDefinition line text) (with_type d) rules.TypeDef (type_once line text) r s one two
obeys_once d line text words.DefineSystemDefault r s one two = one ∙ sym two
obeys_once d line text words.DefaultCommand r s one two = one ∙ sym two
obeys_once d line text words.TemperatureLimits r s one two = one ∙ sym two
obeys_once d line text words.DatabaseInformation r s one two = one ∙ sym two
obeys_once d line text words.AssessedSystems r s one two = one ∙ sym two
obeys_once d line text words.VersionDate r s one two = one ∙ sym two
obeys_once d line text words.ReferenceFile r s one two = one ∙ sym two
obeys_once d line text words.ListOfReferences r s one two = one ∙ sym two
obeys_once d line text words.AddReferences r s one two = one ∙ sym two
obeys_once d line text words.Diffusion r s one two = one ∙ sym two
obeys_once d line text words.ZeroVolumeSpecies r s one two = one ∙ sym two
obeys_once d line text words.ZerovolumeSpecies r s one two = one ∙ sym two
obeys_once d line text words.Species r s one two = one ∙ sym two
obeys_once d line text words.FtpFile r s one two = one ∙ sym two
obeys_once d line text words.AddConstituent r s one two = one ∙ sym two
obeys_once d line text words.CompoundPhase r s one two = one ∙ sym two
obeys_once d line text words.AllotropicPhase r s one two = one ∙ sym two
obeys_once d line text words.Case r s one two = one ∙ sym two
obeys_once d line text words.Table r s one two = one ∙ sym two

-- the command word at a place of the table
word_at : ℕ → CommandWord
word_at n =
    cond (n == 0) words.Element (
    cond (n == 1) words.Species (
    cond (n == 2) words.Function (
    cond (n == 3) words.Phase (
    cond (n == 4) words.Constituent (
    cond (n == 5) words.Parameter (
    cond (n == 6) words.TypeDefinition (
    cond (n == 7) words.DefineSystemDefault (
    cond (n == 8) words.DefaultCommand (
    cond (n == 9) words.TemperatureLimits (
    cond (n == 10) words.DatabaseInformation (
    cond (n == 11) words.AssessedSystems (
    cond (n == 12) words.VersionDate (
    cond (n == 13) words.ReferenceFile (
    cond (n == 14) words.ListOfReferences (
    cond (n == 15) words.AddReferences (
    cond (n == 16) words.Diffusion (
    cond (n == 17) words.ZeroVolumeSpecies (
    cond (n == 18) words.ZerovolumeSpecies (
    cond (n == 19) words.FtpFile (
    cond (n == 20) words.AddConstituent (
    cond (n == 21) words.CompoundPhase (
    cond (n == 22) words.AllotropicPhase (
    cond (n == 23) words.Case (
    words.Table))))))))))))))))))))))))

word_at-place : (w : CommandWord) → word_at (place_of w) ≡ w
unfolding word_at
word_at-place words.Element = refl
word_at-place words.Species = refl
word_at-place words.Function = refl
word_at-place words.Phase = refl
word_at-place words.Constituent = refl
word_at-place words.Parameter = refl
word_at-place words.TypeDefinition = refl
word_at-place words.DefineSystemDefault = refl
word_at-place words.DefaultCommand = refl
word_at-place words.TemperatureLimits = refl
word_at-place words.DatabaseInformation = refl
word_at-place words.AssessedSystems = refl
word_at-place words.VersionDate = refl
word_at-place words.ReferenceFile = refl
word_at-place words.ListOfReferences = refl
word_at-place words.AddReferences = refl
word_at-place words.Diffusion = refl
word_at-place words.ZeroVolumeSpecies = refl
word_at-place words.ZerovolumeSpecies = refl
word_at-place words.FtpFile = refl
word_at-place words.AddConstituent = refl
word_at-place words.CompoundPhase = refl
word_at-place words.AllotropicPhase = refl
word_at-place words.Case = refl
word_at-place words.Table = refl

word_once : (c : Command) (v w : CommandWord) → IsWordOf c v → IsWordOf c w → v ≡ w
word_once c v w one two = sym (word_at-place v) ∙ ap word_at (two.fits.only (place_of v) one.fits.fits) ∙ word_at-place w

makes_once : (d : Database) (c : Command) (r s : Result Database Rule) → Makes d c r → Makes d c s → r ≡ s
makes_once d c r s (inl one) (inl two) =
    obeys_once d c.line (behind_token c.text) two.0 r s (subst (λ w. Obeys d c.line (behind_token c.text) w r) (word_once c one.0 two.0 one.1 two.1) one.2) two.2
makes_once d c r s (inl one) (inr two) = absurd (two.0 one.0 one.1)
makes_once d c r s (inr one) (inl two) = absurd (one.0 two.0 two.1)
makes_once d c r s (inr one) (inr two) = one.1 ∙ sym two.1

next_once : (d : Database) (c : Command) (e f : Database) → Makes d c (Ok e) → Makes d c (Ok f) → e ≡ f
next_once d c e f one two = let same = makes_once d c (Ok e) (Ok f) one two in cc

rule_once : (d : Database) (c : Command) (a b : Rule) → Makes d c (Err a) → Makes d c (Err b) → a ≡ b
rule_once d c a b one two = let same = makes_once d c (Err a) (Err b) one two in cc

not_both : (d : Database) (c : Command) (e : Database) (a : Rule) → Makes d c (Ok e) → Makes d c (Err a) → ⊥
not_both d c e a one two = let same = makes_once d c (Ok e) (Err a) one two in absurd cc

-- ---- all commands

folded_once : (d : Database) (cs : List Command) (e f : Database) → IsFolded d cs e → IsFolded d cs f → e ≡ f
folded_once d [] e f one two = one ∙ sym two
folded_once d (c ∷ cs) e f one two =
    folded_once two.0 cs e f (subst (λ next. IsFolded next cs e) (next_once d c one.0 two.0 one.1 two.1) one.2) two.2

fault_once : (d : Database) (cs : List Command) (u : Option ℕ) (m n : ℕ) (a b : Rule) → IsFirstFault d cs u m a → IsFirstFault d cs u n b → (m ≡ n) × (a ≡ b)
fault_once d [] u m n a b one two = (some_once u m n one.0 two.0, one.1 ∙ sym two.1)
fault_once d (c ∷ cs) u m n a b (inl one) (inl two) = (one.0 ∙ sym two.0, rule_once d c a b one.1 two.1)
fault_once d (c ∷ cs) u m n a b (inl one) (inr two) = absurd (not_both d c two.0 a two.1 one.1)
fault_once d (c ∷ cs) u m n a b (inr one) (inl two) = absurd (not_both d c one.0 b one.1 two.1)
fault_once d (c ∷ cs) u m n a b (inr one) (inr two) =
    fault_once two.0 cs u m n a b (subst (λ next. IsFirstFault next cs u m a) (next_once d c one.0 two.0 one.1 two.1) one.2) two.2

folded_or_fault : (d : Database) (cs : List Command) (u : Option ℕ) (e : Database) (n : ℕ) (a : Rule) → u ≡ None → IsFolded d cs e → IsFirstFault d cs u n a → ⊥
folded_or_fault d [] u e n a closed one two = absurd (cc (closed, two.0))
folded_or_fault d (c ∷ cs) u e n a closed one (inl two) = not_both d c one.0 a one.1 two.1
folded_or_fault d (c ∷ cs) u e n a closed one (inr two) =
    folded_or_fault two.0 cs u e n a closed (subst (λ next. IsFolded next cs e) (next_once d c one.0 two.0 one.1 two.1) one.2) two.2

pub one_database : (bytes : List ℕ) (d e : Database) → IsDatabase bytes d → IsDatabase bytes e → d ≡ e
one_database bytes d e one two = folded_once empty (finished (parts bytes)) d e one.folded two.folded

pub one_fault : (bytes : List ℕ) (m n : ℕ) (rule other : Rule) → IsFault bytes m rule → IsFault bytes n other → (m ≡ n) × (rule ≡ other)
one_fault bytes m n rule other one two = fault_once empty (finished (parts bytes)) (unfinished (parts bytes)) m n rule other one two

pub database_or_fault : (bytes : List ℕ) (d : Database) (line : ℕ) (rule : Rule) → IsDatabase bytes d → IsFault bytes line rule → ⊥
database_or_fault bytes d line rule one two = folded_or_fault empty (finished (parts bytes)) (unfinished (parts bytes)) d line rule one.closed one.folded two
