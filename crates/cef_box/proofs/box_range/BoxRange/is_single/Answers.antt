use Rattle.std.proofs.Common.{◌∙◌, sym}
use Rattle.std.proofs.lemmas.Bool.{OnTrue_from}
use Rattle.std.proofs.lemmas.Bool.Decides.{Decides-eqb}
use Rattle.std.proofs.lemmas.Slice.Eq.{slice_eq-Decides}
use Rattle.cef_box.specs.Boxes.{IsSingle}
use Rattle.cef_box.proofs.Joined.{single_from}
use Rattle.cef_box.proofs.box_range.BoxRange.is_single.Goals as goal

pub returns-clause-yes : goal.returns-clause-yes
returns-clause-yes c =
    let tells = slice_eq-Decides Decides-eqb _ _ _ c.eq.ensures in
    OnTrue_from _ (IsSingle c.args.self.now) (λ e. single_from c.args.self.now (sym c.lows.ensures ∙ (tells.0 e ∙ c.highs.ensures)))
