use Rattle.std.proofs.Common.{arith}
use Rattle.mh_look.proofs.ChangeLemmas.{no_rows}
use Rattle.mh_look.proofs.ReachLemmas.{next_row, next_within, missing_row, no_more_rows}
use Rattle.mh_look.proofs.report.frame.read_rows.Goals as goal

pub loop-row-init : goal.loop-row-init
loop-row-init c = no_rows c.args.before.now c.args.bytes.now c.copy_from.new.self c.copy_from.ensures

pub returns-in_default-clause-part : goal.returns-in_default-clause-part
returns-in_default-clause-part c = λ part.
    missing_row c.loop-row.row c.loop-row.length c.args.before.now c.args.bytes.now c.loop-row.after c.read_change.new.after c.in_ok-more.field-0 c.loop-row-test.true c.loop-row.invariant
    c.in_ok-more.ensures.found c.in_default.is

pub overflow_add-length : goal.overflow_add-length
overflow_add-length c =
    let within = next_within c.loop-row.row c.loop-row.length c.in-Some.more c.args.before.now c.args.bytes.now c.loop-row.after c.read_change.new.after c.in_ok-more.field-0 c.loop-row-test.true c.loop-row.invariant
    c.in_ok-more.ensures.found c.in-Some.is c.in_ok-more.ensures.others in
    omega arith

pub loop-row-preserved : goal.loop-row-preserved
loop-row-preserved c =
    next_row c.loop-row.row c.loop-row.length c.in-Some.more c.args.before.now c.args.bytes.now c.loop-row.after c.read_change.new.after c.in_ok-more.field-0 c.loop-row-test.true c.loop-row.invariant
    c.in_ok-more.ensures.found c.in-Some.is c.in_ok-more.ensures.others

pub returns-clause-whole : goal.returns-clause-whole
returns-clause-whole c = λ whole.
    no_more_rows c.loop-row.row c.loop-row.length c.args.before.now c.args.bytes.now c.loop-row.after c.loop-row-test.false c.loop-row.auto.row-end c.cells.ensures.whole c.loop-row.invariant
