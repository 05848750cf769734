use Rattle.std.proofs.Common.{◌+◌}
use Rattle.cef_term.proofs.Lists.{place_room}
use Rattle.cef_minor.proofs.site_list.+place_lists.Goals as goal

pub place_list-requires-clause-room : goal.place_list-requires-clause-room
place_list-requires-clause-room t c =
    rw c.as_slice.ensures (place_room c.args.from c.args.sites.now c.in-Some.rows.now c.args.array.now c.in-Some-split_first.lists.now c.in-Some.row.now c.in-Some-split_first.list.now c.in-Some.ensures.cases.0 c.in-Some-split_first.ensures.cases.0 c.requires.sites c.requires.array)
