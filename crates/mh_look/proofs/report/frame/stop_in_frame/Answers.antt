use Rattle.mh_look.proofs.ReachLemmas.{head_within}
use Rattle.mh_look.proofs.report.frame.stop_in_frame.Goals as goal

pub slice_bounds-read_rows-count : goal.slice_bounds-read_rows-count
slice_bounds-read_rows-count c = head_within c.args.number c.in-Some.start c.args.bytes.now c.in_ok-start.field-0 c.in_ok-start.ensures c.in-Some.is

pub slice_bounds-read_rows-start : goal.slice_bounds-read_rows-start
slice_bounds-read_rows-start c = head_within c.args.number c.in-Some.start c.args.bytes.now c.in_ok-start.field-0 c.in_ok-start.ensures c.in-Some.is
