use Rattle.cef_box.proofs.Wholes.{is_full, all_from}
use Rattle.cef_box.proofs.whole.full.Goals as goal

pub returns-clause-has_site : goal.returns-clause-has_site
returns-clause-has_site c =
    let all = all_from c.args.phase.now.lattice c.in_ok-range.range _ c.args.phase.now.sites _ c.in_ok-range.ensures c.new.ensures c.as_slice.ensures in
    (is_full c.args.phase.now c.tighten_lists.new.self c.in_ok-range.range c.requires c.tighten_lists.ensures all).has_site

pub returns-clause-tight : goal.returns-clause-tight
returns-clause-tight c =
    let all = all_from c.args.phase.now.lattice c.in_ok-range.range _ c.args.phase.now.sites _ c.in_ok-range.ensures c.new.ensures c.as_slice.ensures in
    (is_full c.args.phase.now c.tighten_lists.new.self c.in_ok-range.range c.requires c.tighten_lists.ensures all).tight

pub returns-clause-fits : goal.returns-clause-fits
returns-clause-fits c =
    let all = all_from c.args.phase.now.lattice c.in_ok-range.range _ c.args.phase.now.sites _ c.in_ok-range.ensures c.new.ensures c.as_slice.ensures in
    (is_full c.args.phase.now c.tighten_lists.new.self c.in_ok-range.range c.requires c.tighten_lists.ensures all).fits

pub returns-clause-lists : goal.returns-clause-lists
returns-clause-lists c =
    let all = all_from c.args.phase.now.lattice c.in_ok-range.range _ c.args.phase.now.sites _ c.in_ok-range.ensures c.new.ensures c.as_slice.ensures in
    (is_full c.args.phase.now c.tighten_lists.new.self c.in_ok-range.range c.requires c.tighten_lists.ensures all).lists

pub returns-clause-members : goal.returns-clause-members
returns-clause-members c =
    let all = all_from c.args.phase.now.lattice c.in_ok-range.range _ c.args.phase.now.sites _ c.in_ok-range.ensures c.new.ensures c.as_slice.ensures in
    (is_full c.args.phase.now c.tighten_lists.new.self c.in_ok-range.range c.requires c.tighten_lists.ensures all).members
