use Rattle.std.proofs.Common.{ap, map, ◌∙◌}
use Rattle.std.proofs.lemmas.List.{take_all}
use Rattle.cal_job.specs.Forms.{upper}
use Rattle.cal_job.proofs.Listing.{map_twice}
use Rattle.cal_job.proofs.names.all_capitals.Goals as goal

pub returns : goal.returns
returns c =
    c.texts.invariant ∙ ap (map (λ w. upper w.now)) (take_all c.texts.text-index c.args.words.now c.texts-test.false)
    ∙ map_twice upper (λ w. w.now) c.args.words.now
