use Rattle.std.proofs.Common.{◌∙◌, ap, sym, length}
use Rattle.cef_core.specs.Shapes.{shape}
use Rattle.cef_box.proofs.Places.{boxes_alike, rows_of-refilled}
use Rattle.cef_box.proofs.box_range.BoxRange.copy_from.Goals as goal

pub returns : goal.returns
returns c =
    let s = c.self.inside in
    let o = c.other.inside in
    let alike = boxes_alike s.ends.items s.low.items s.high.items o.ends.items o.low.items o.high.items c.self.invariant c.other.invariant (ap shape c.self.view_is ∙ (c.requires ∙ sym (ap shape c.other.view_is))) in
    let low = c.copy_from_slice.ensures.after ∙ c.as_slice.ensures in
    let high = c.copy_from_slice-2.ensures.after ∙ c.as_slice-2.ensures in
    let low_length = c.copy_from_slice.ensures.len ∙ ap length c.as_mut_slice.ensures.value in
    let high_length = c.copy_from_slice-2.ensures.len ∙ ap length c.as_mut_slice-2.ensures.value in
    rows_of-refilled _ _ _ _ _ _ s.ends.items o.ends.items o.low.items o.high.items alike.ends low high low_length high_length ∙ c.other.view_is
