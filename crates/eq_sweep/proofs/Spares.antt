-- Boxes of one shape, as a stack.
use Rattle.std.proofs.Common.{◌≡◌, ℕ, List, [], ◌∷◌, ◌++◌, subst, sym}
use Rattle.cef_core.specs.Shapes.{shape}
use Rattle.cef_box.specs.declared.range.Range.{Range}
use Rattle.eq_sweep.specs.Findings.{AreShaped}

abbrev pub Box : Type 0
Box = List (List Range)

shaped_snoc : (widths : List ℕ) (boxes : List Box) (box : Box) → AreShaped widths (boxes ++ box ∷ []) → AreShaped widths boxes × (shape box ≡ widths)
shaped_snoc widths [] box h = (tt, h.0)
shaped_snoc widths (b ∷ boxes) box h = let r = shaped_snoc widths boxes box h.1 in ((h.0, r.0), r.1)

shaped_more : (widths : List ℕ) (boxes : List Box) (box : Box) → AreShaped widths boxes → shape box ≡ widths → AreShaped widths (boxes ++ box ∷ [])
shaped_more widths [] box h e = (e, tt)
shaped_more widths (b ∷ boxes) box h e = (h.0, shaped_more widths boxes box h.1 e)

pub shaped_push : (widths : List ℕ) (boxes more : List Box) (box : Box) → AreShaped widths boxes → shape box ≡ widths → more ≡ boxes ++ box ∷ [] → AreShaped widths more
shaped_push widths boxes more box h e is = subst (AreShaped widths) (sym is) (shaped_more widths boxes box h e)

pub shaped_rest : (widths : List ℕ) (boxes rest : List Box) (box : Box) → AreShaped widths boxes → boxes ≡ rest ++ box ∷ [] → AreShaped widths rest
shaped_rest widths boxes rest box h e = (shaped_snoc widths rest box (subst (AreShaped widths) e h)).0

pub shaped_last : (widths : List ℕ) (boxes rest : List Box) (box : Box) → AreShaped widths boxes → boxes ≡ rest ++ box ∷ [] → shape box ≡ widths
shaped_last widths boxes rest box h e = (shaped_snoc widths rest box (subst (AreShaped widths) e h)).1
