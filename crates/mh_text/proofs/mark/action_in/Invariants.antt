-- The place that is left among the actions that are left is the place among all.
use Rattle.std.proofs.Common.{◌≡◌, drop, slice_get}
use Rattle.std.specs.List.{filter}
use Rattle.mh_text.specs.Marks.{is_action_of}
use Rattle.mh_text.proofs.mark.action_in.Given as goal

abbrev pub invariant-loop-mark : goal.invariant-loop-mark
invariant-loop-mark l =
    slice_get (filter (is_action_of l.object l.turn) (drop l.mark-index l.marks)) l.left
    ≡ slice_get (filter (is_action_of l.object l.turn) l.marks) l.fn.before
