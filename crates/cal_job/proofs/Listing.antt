-- Names between commas.
use Rattle.std.specs.Prelude.{◌==◌}
use Rattle.std.proofs.Common.{◌≡◌, ◌≤◌, List, [], ◌∷◌, map, length, true, refl, ap, arith}
use Rattle.std.specs.List.{AllByRecursion, list_all, slice_split}
use Rattle.std.proofs.lemmas.Bool.{and_parts}
use Rattle.std.proofs.lemmas.List.{length-map}
use Rattle.std.proofs.lemmas.List.Splits.{length-slice_split}
use Rattle.cal_scan.specs.Cuts.{parts_at}
use Rattle.cal_scan.specs.Words.{is_name}
use Rattle.cal_scan.specs.declared.byte.TheConstants.{COMMA}
use Rattle.cal_job.specs.Forms.{upper, listed_in}
use Rattle.cal_job.specs.Saying.{Word}

pub map_twice : {X Y Z : Type 0} (f : Y → Z) (view : X → Y) (xs : List X) → map (λ x. f (view x)) xs ≡ map f (map view xs)
map_twice f view [] = refl
map_twice {Z = Z} f view (x ∷ xs) = ap (λ (zs : List Z). f (view x) ∷ zs) (map_twice f view xs)

pub all_names : (ws : List Word) → list_all is_name ws ≡ true → AllByRecursion (λ w. is_name w ≡ true) ws
all_names [] e = tt
all_names (w ∷ ws) e = let p = and_parts (is_name w) (list_all is_name ws) e in (p.0, all_names ws p.1)

pub names_all : (ws : List Word) → AllByRecursion (λ w. is_name w ≡ true) ws → list_all is_name ws ≡ true
names_all [] all = refl
names_all (w ∷ ws) all = rw (all.0, names_all ws all.1) refl

-- there is a part before each comma and behind the last
pub some_listed : (text : Word) → 1 ≤ length (listed_in text)
unfolding parts_at
some_listed text =
    omega (arith, length-map (slice_split (λ b. b == COMMA) text) upper, length-slice_split (λ b. b == COMMA) text)
