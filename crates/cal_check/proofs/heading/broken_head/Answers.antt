use Rattle.std.proofs.Common.{arith, ap}
use Rattle.cef_path.specs.declared.step.StepText.{StepText}
use Rattle.cal_check.proofs.Near.{read, line_is, broken_temperature, broken_lattice, broken_elements, broken_phases, broken_asked}
use Rattle.cal_check.proofs.heading.broken_head.Goals as goal

pub returns-then-not-is_lowered : goal.returns-then-not-is_lowered
returns-then-not-is_lowered c step at =
    let line = line_is c.as_slice.result.now c.args.path.now.steps c.args.i c.index-as_slice-i.result step c.as_slice.ensures c.requires.within c.index-as_slice-i.is at in
    broken_temperature c.args.path.now c.args.i step _ line at c.if-not-is_lowered.ensures.no

pub overflow_add-result-then-not-has_same_lattice : goal.overflow_add-result-then-not-has_same_lattice
overflow_add-result-then-not-has_same_lattice c =
    let here = read c.as_slice.result.now c.args.path.now.steps c.args.i c.index-as_slice-i.result c.as_slice.ensures c.requires.within c.index-as_slice-i.is in
    omega (arith, c.requires.room c.index-as_slice-i.result here, ap (λ (s : StepText). s.line) c.index-as_slice-i.is)

pub returns-then-not-has_same_lattice : goal.returns-then-not-has_same_lattice
returns-then-not-has_same_lattice c step at =
    let line = line_is c.as_slice.result.now c.args.path.now.steps c.args.i c.index-as_slice-i.result step c.as_slice.ensures c.requires.within c.index-as_slice-i.is at in
    broken_lattice c.args.path.now c.args.i step _ line at c.if-not-is_lowered.ensures.yes c.if-not-has_same_lattice.ensures.no

pub overflow_add-result-then-not-has_same_elements : goal.overflow_add-result-then-not-has_same_elements
overflow_add-result-then-not-has_same_elements c =
    let here = read c.as_slice.result.now c.args.path.now.steps c.args.i c.index-as_slice-i.result c.as_slice.ensures c.requires.within c.index-as_slice-i.is in
    omega (arith, c.requires.room c.index-as_slice-i.result here, ap (λ (s : StepText). s.line) c.index-as_slice-i.is)

pub returns-then-not-has_same_elements : goal.returns-then-not-has_same_elements
returns-then-not-has_same_elements c step at =
    let line = line_is c.as_slice.result.now c.args.path.now.steps c.args.i c.index-as_slice-i.result step c.as_slice.ensures c.requires.within c.index-as_slice-i.is at in
    broken_elements c.args.path.now c.args.i step _ line at c.if-not-is_lowered.ensures.yes c.if-not-has_same_lattice.ensures.yes c.if-not-has_same_elements.ensures.no

pub overflow_add-result-then-not-has_same_phases : goal.overflow_add-result-then-not-has_same_phases
overflow_add-result-then-not-has_same_phases c =
    let here = read c.as_slice.result.now c.args.path.now.steps c.args.i c.index-as_slice-i.result c.as_slice.ensures c.requires.within c.index-as_slice-i.is in
    omega (arith, c.requires.room c.index-as_slice-i.result here, ap (λ (s : StepText). s.line) c.index-as_slice-i.is)

pub returns-then-not-has_same_phases : goal.returns-then-not-has_same_phases
returns-then-not-has_same_phases c step at =
    let line = line_is c.as_slice.result.now c.args.path.now.steps c.args.i c.index-as_slice-i.result step c.as_slice.ensures c.requires.within c.index-as_slice-i.is at in
    broken_phases c.args.path.now c.args.i step _ line at c.if-not-is_lowered.ensures.yes c.if-not-has_same_lattice.ensures.yes c.if-not-has_same_elements.ensures.yes c.if-not-has_same_phases.ensures.no

pub overflow_add-result-then-not-asks_left : goal.overflow_add-result-then-not-asks_left
overflow_add-result-then-not-asks_left c =
    let here = read c.as_slice.result.now c.args.path.now.steps c.args.i c.index-as_slice-i.result c.as_slice.ensures c.requires.within c.index-as_slice-i.is in
    omega (arith, c.requires.room c.index-as_slice-i.result here, ap (λ (s : StepText). s.line) c.index-as_slice-i.is)

pub returns-then-not-asks_left : goal.returns-then-not-asks_left
returns-then-not-asks_left c step at =
    let line = line_is c.as_slice.result.now c.args.path.now.steps c.args.i c.index-as_slice-i.result step c.as_slice.ensures c.requires.within c.index-as_slice-i.is at in
    broken_asked c.args.path.now c.args.i step _ line at c.if-not-is_lowered.ensures.yes c.if-not-has_same_lattice.ensures.yes c.if-not-has_same_elements.ensures.yes c.if-not-has_same_phases.ensures.yes c.if-not-asks_left.ensures.no
