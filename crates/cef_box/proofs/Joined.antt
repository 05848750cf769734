-- Counts of one shape that are the same one behind the other are the same.
use Rattle.std.proofs.Common.{◌≡◌, ℕ, List, [], ◌∷◌, length, take, drop, ◌++◌, refl, ap, sym, ◌∙◌}
use Rattle.std.specs.List.{concat}
use Rattle.std.proofs.Math.Seq.{take-append_seam, drop-append_seam}
use Rattle.std.proofs.lemmas.List.{length-map}
use Rattle.cef_core.specs.Shapes.{shape}
use Rattle.cef_box.specs.declared.range.Range.{Range}
use Rattle.cef_box.specs.Boxes.{lows_of, highs_of}
use Rattle.cef_box.proofs.Shapes.{head_is, tail_is}

front_is : (a b xs ys : List ℕ) → length a ≡ length b → a ++ xs ≡ b ++ ys → a ≡ b
front_is a b xs ys l e = sym (take-append_seam a xs) ∙ (ap (take (length a)) e ∙ (ap (λ (k : ℕ). take k (b ++ ys)) l ∙ take-append_seam b ys))

back_is : (a b xs ys : List ℕ) → length a ≡ length b → a ++ xs ≡ b ++ ys → xs ≡ ys
back_is a b xs ys l e = sym (drop-append_seam a xs) ∙ (ap (drop (length a)) e ∙ (ap (λ (k : ℕ). drop k (b ++ ys)) l ∙ drop-append_seam b ys))

pub joined_same : (a b : List (List ℕ)) → shape a ≡ shape b → concat a ≡ concat b → a ≡ b
joined_same [] [] l e = refl
joined_same [] (y ∷ b) l e = absurd cc
joined_same (x ∷ a) [] l e = absurd cc
joined_same (x ∷ a) (y ∷ b) l e =
    let first : x ≡ y = front_is x y (concat a) (concat b) (head_is _ _ _ _ l) e in
    let rest : a ≡ b = joined_same a b (tail_is _ _ _ _ l) (back_is x y (concat a) (concat b) (head_is _ _ _ _ l) e) in
    cc

pub shape-lows_of : (box : List (List Range)) → shape (lows_of box) ≡ shape box
shape-lows_of [] = refl
shape-lows_of (row ∷ box) = rw (length-map row (λ (r : Range). r.low), shape-lows_of box) refl

pub shape-highs_of : (box : List (List Range)) → shape (highs_of box) ≡ shape box
shape-highs_of [] = refl
shape-highs_of (row ∷ box) = rw (length-map row (λ (r : Range). r.high), shape-highs_of box) refl

-- a box is single exactly where all lows, one behind the other, are all highs
pub single_from : (box : List (List Range)) → concat (lows_of box) ≡ concat (highs_of box) → lows_of box ≡ highs_of box
single_from box e = joined_same (lows_of box) (highs_of box) (shape-lows_of box ∙ sym (shape-highs_of box)) e
