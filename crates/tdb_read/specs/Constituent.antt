-- CONSTITUENT name :list:list: with spaces anywhere; from the first `>` on nothing is read. The phase must have been read before.
use Rattle.std.specs.Prelude.{◌≡◌, ℕ, List, length, codes, Bool, not, is_some, Option, Some, None}
use Rattle.std.specs.List.{AllByRecursion}
use Rattle.std.specs.Map.{lookup}
use Rattle.std.specs.Option.{option_map, option_map_or, option_and_then}
use Rattle.cal_scan.specs.Words.{before}
use Rattle.cal_scan.specs.Names.{same_name}
use Rattle.cal_scan.specs.Copies.{without_spaces}
use Rattle.cal_scan.specs.Cuts.{cut_at}
use Rattle.tdb_forms.specs.Lists.{sites_of}
use Rattle.tdb_read.specs.declared.phase.PhaseText.{PhaseText}
use Rattle.tdb_read.specs.Database.{Database}
use Rattle.tdb_read.specs.Sound.{AreConstituents}

-- what stands before the first such byte, or the whole text
abbrev pub before_mark : ℕ → List ℕ → List ℕ
before_mark mark text = option_map_or (λ x. x.0) (cut_at mark text) text

-- what is read: the text before the first `>`
unfoldable pub read_part : List ℕ → List ℕ
read_part text = before_mark 62 text

-- whether the first `:` stands directly behind the name: no space stands before it
unfoldable pub is_direct : List ℕ → Bool
is_direct text = not (is_some (before (codes " ") (before_mark 58 text)))

-- a phase's text with these constituents
abbrev pub sited : PhaseText → List (List (List ℕ)) → PhaseText
sited text sites = record { line = text.line; suffix = text.suffix; codes = text.codes; ratios = text.ratios; sites = sites }

-- the phase of this name with the constituents, where it was read
abbrev pub sited_phase : Database → Bool → List ℕ → List ℕ → Option (List ℕ × PhaseText)
sited_phase d direct name lists =
    option_and_then (λ text. option_map (λ sites. (name, sited text sites)) (sites_of (length text.ratios) direct lists)) (lookup (same_name name) d.phases)

-- the phase that the text behind the command word gives constituents, and its text with them
unfoldable pub constituent_of : Database → List ℕ → Option (List ℕ × PhaseText)
constituent_of d text =
    option_and_then (λ x. sited_phase d (is_direct (read_part text)) x.0 x.1) (cut_at 58 (without_spaces (read_part text)))

-- ---- workings

-- the phase of this name was read, and these lists can be its constituents
pub record CanBeSited (d : Database) (name : List ℕ) (sites : List (List (List ℕ))) : Type 0 where
  pub phase : PhaseText
  pub known : lookup (same_name name) d.phases ≡ Some phase
  pub count : length sites ≡ length phase.ratios
  pub lists : AllByRecursion AreConstituents sites

-- the name of a phase that was read and its constituents, which give its text, or nothing
abbrev pub Sites : Database → Option (List ℕ × PhaseText) → Option (List ℕ × List (List (List ℕ))) → Type 0
Sites d given None = given ≡ None
Sites d given (Some x) = (phase : PhaseText) × (lookup (same_name x.0) d.phases ≡ Some phase) × (given ≡ Some (x.0, sited phase x.1))
