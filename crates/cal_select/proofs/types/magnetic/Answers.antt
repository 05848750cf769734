use Rattle.std.proofs.Common.{◌∙◌, arith, refl, length}
use Rattle.std.proofs.lemmas.Option.{slice_get_read}
use Rattle.cal_select.proofs.Finding.{later-next}
use Rattle.cal_select.proofs.types.magnetic.Goals as goal

pub texts-preserved : goal.texts-preserved
texts-preserved c = record {
  value = c.later-last.ensures.value
      ∙ later-next c.args.texts.now (c.args.name.now, c.args.phase.now) c.texts.text-index c.text-item.result c.texts.last
      (slice_get_read c.args.texts.now (length c.args.texts.now) c.texts.text-index c.text-item.result refl (omega arith) c.text-item.is) c.texts.invariant.value;
  sound = c.later-last.ensures.sound;
}
