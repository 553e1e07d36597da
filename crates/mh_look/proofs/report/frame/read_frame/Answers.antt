use Rattle.mh_look.proofs.ReachLemmas.{head_within, headless, rows_found, rows_missing}
use Rattle.mh_look.proofs.report.frame.read_frame.Goals as goal

pub slice_bounds-read_rows-count : goal.slice_bounds-read_rows-count
slice_bounds-read_rows-count c = head_within c.args.number c.in-Some.start c.args.bytes.now c.in_ok-start.field-0 c.in_ok-start.ensures c.in-Some.is

pub slice_bounds-read_rows-start : goal.slice_bounds-read_rows-start
slice_bounds-read_rows-start c = head_within c.args.number c.in-Some.start c.args.bytes.now c.in_ok-start.field-0 c.in_ok-start.ensures c.in-Some.is

pub returns-then-reach : goal.returns-then-reach
returns-then-reach c = record {
  found =
      rows_found c.args.number c.in-Some.start c.in_ok-reach.reach.length c.args.before.now c.args.bytes.now c.read_rows.new.after c.in_ok-start.field-0 c.in_ok-start.ensures c.in-Some.is
      (c.in_ok-reach.ensures.whole c.if-reach.true);
}

pub returns-else-reach : goal.returns-else-reach
returns-else-reach c = record {
  found =
      rows_missing c.args.number c.in-Some.start c.args.before.now c.args.bytes.now c.read_rows.new.after c.in_ok-start.field-0 c.in_ok-start.ensures c.in-Some.is (c.in_ok-reach.ensures.part c.if-reach.false);
}

pub returns-in_default : goal.returns-in_default
returns-in_default c = record {
  found = headless c.args.number c.args.before.now c.args.bytes.now c.args.after.now c.in_ok-start.field-0 c.in_ok-start.ensures c.in_default.is;
}
