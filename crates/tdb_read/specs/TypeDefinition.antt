-- TYPE_DEFINITION code and tokens, of which commas are spaces.
use Rattle.std.specs.Prelude.{◌≡◌, ℕ, List, [], ◌∷◌, drop, codes, Bool, true, false, cond, ◌&&◌, ◌||◌, MatchBool}
use Rattle.cal_words.specs.Words.{fits_entry}
use Rattle.cal_scan.specs.Copies.{with_byte}
use Rattle.cal_scan.specs.FrontTokens.{first_token, behind_token}
use Rattle.cal_scan.specs.Words.{same_word, tokens}
use Rattle.tdb_forms.specs.Numbers.{IsReadable}
use Rattle.tdb_read.specs.declared.type_definition.TypeText.{TypeText}
use Rattle.tdb_read.specs.declared.type_definition.TypeKind.{TypeKind}
use Rattle.tdb_read.specs.declared.type_definition.TypeKind.TheVariants.{Magnetic, Plain, Other}

-- the token abbreviates the pattern, where `-` counts as `_`
abbrev pub fits_pattern : List ℕ → List ℕ → Bool
fits_pattern pattern token = fits_entry (with_byte 45 95 token) pattern

-- GES, AMEND_PHASE_DESCRIPTION and two tokens more
abbrev pub is_amendment : List (List ℕ) → Bool
is_amendment (ges ∷ amend ∷ phase ∷ what ∷ rest) = same_word ges (codes "GES") && fits_pattern (codes "AMEND_PHASE_DESCRIPTION") amend
is_amendment _ = false

abbrev pub is_sequence : List (List ℕ) → Bool
is_sequence (word ∷ rest) = same_word word (codes "SEQ")
is_sequence [] = false

-- two numbers: the antiferromagnetic factor, and the fraction of the enthalpy above the Curie temperature
abbrev pub IsMagnetic : List (List ℕ) → TypeKind → Type 0
IsMagnetic (f ∷ p ∷ rest) (Magnetic factor fraction) = IsReadable f factor × IsReadable p fraction
IsMagnetic _ _ = ⊥

abbrev pub is_plain : List ℕ → Bool
is_plain what = fits_pattern (codes "MAJOR_CONSTITUENTS") what || fits_pattern (codes "COMPOSITION_SETS") what

-- what a phase's description is amended by
abbrev pub IsAmendedBy : List ℕ → List (List ℕ) → TypeKind → Type 0
IsAmendedBy what rest kind = MatchBool (fits_pattern (codes "MAGNETIC_ORDERING") what) (IsMagnetic rest kind) (kind ≡ cond (is_plain what) Plain Other)

-- the phase and the kind behind GES and AMEND_PHASE_DESCRIPTION
abbrev pub Amends : List (List ℕ) → List ℕ → TypeKind → Type 0
Amends (phase ∷ what ∷ rest) name kind = (name ≡ phase) × IsAmendedBy what rest kind
Amends _ name kind = ⊥

-- the phase, or `@` for all, and the kind that the tokens behind the code give
abbrev pub GivesType : List (List ℕ) → List ℕ → TypeKind → Type 0
GivesType words phase kind =
    MatchBool (is_amendment words) (Amends (drop 2 words) phase kind) ((phase ≡ codes "@") × (kind ≡ cond (is_sequence words) Plain Other))

-- the text behind the command word gives this type definition
pub record IsTypeDefinition (line : ℕ) (text : List ℕ) (t : TypeText) : Type 0 where
  pub code : first_token text ≡ t.code ∷ []
  pub line_is : t.line ≡ line
  pub gives : GivesType (tokens (with_byte 44 32 (behind_token text))) t.phase t.kind
