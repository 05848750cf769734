-- files by name, where one is found, replaced or added
use Rattle.std.proofs.Common.{◌≡◌, ℕ, List, [], ◌∷◌, ◌++◌, length, Option, Some, None, ◌<◌, ◌≤◌, arith, ap, sym, cond, find, position, bytes_eq, slice_set}
use Rattle.std.specs.Option.{option_map}
use Rattle.std.specs.List.{position_or_len}
use Rattle.std.proofs.lemmas.Grind.{common_steps}
use Rattle.std.proofs.lemmas.Slice.Eq.{bytes_eq-Decides}
use Rattle.cal_base.specs.InMemory.{file_of}

pub file_of-found : (files : List (List ℕ × List ℕ)) (name : List ℕ) (o : Option (List ℕ × List ℕ)) → o ≡ find (λ f. bytes_eq f.0 name) files → file_of files name ≡ option_map (λ f. f.1) o
file_of-found files name o e = ap (λ (v : Option (List ℕ × List ℕ)). option_map (λ f. f.1) v) (sym e)

pub file_of-set_first : (files : List (List ℕ × List ℕ)) (name bytes other : List ℕ) → position_or_len (λ f. bytes_eq f.0 name) files < length files →
    file_of (slice_set files (position_or_len (λ f. bytes_eq f.0 name) files) (name, bytes)) other ≡ cond (bytes_eq name other) (Some bytes) (file_of files other)
file_of-set_first [] name bytes other h = absurd (omega arith)
file_of-set_first (f ∷ fs) name bytes other h = grind (arith, common_steps, bytes_eq-Decides, file_of-set_first fs name bytes other)

pub file_of-set : (files : List (List ℕ × List ℕ)) (name bytes other : List ℕ) (at : ℕ) → position (λ f. bytes_eq f.0 name) files ≡ Some at →
    file_of (slice_set files at (name, bytes)) other ≡ cond (bytes_eq name other) (Some bytes) (file_of files other)
file_of-set files name bytes other at e = grind (arith, common_steps, file_of-set_first files name bytes other)

pub file_of-push_new : (files : List (List ℕ × List ℕ)) (name bytes other : List ℕ) → length files ≤ position_or_len (λ f. bytes_eq f.0 name) files →
    file_of (files ++ (name, bytes) ∷ []) other ≡ cond (bytes_eq name other) (Some bytes) (file_of files other)
file_of-push_new [] name bytes other h = grind (arith, common_steps)
file_of-push_new (f ∷ fs) name bytes other h = grind (arith, common_steps, bytes_eq-Decides, file_of-push_new fs name bytes other)

pub file_of-push : (files : List (List ℕ × List ℕ)) (name bytes other : List ℕ) → position (λ f. bytes_eq f.0 name) files ≡ None →
    file_of (files ++ (name, bytes) ∷ []) other ≡ cond (bytes_eq name other) (Some bytes) (file_of files other)
file_of-push files name bytes other e = grind (arith, common_steps, file_of-push_new files name bytes other)

pub ruleset files = (file_of-found, file_of-set, file_of-push)
