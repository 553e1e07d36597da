use Rattle.std.proofs.Common.{◌≡◌, ◌≤◌, ◌++◌, ◌-◌, length}
use Rattle.mh_edit.specs.Layout.{changes_from}
use Rattle.mh_edit.proofs.layout.line_changes.Given as goal

abbrev pub invariant-loop : goal.invariant-loop
invariant-loop l = record {
  few : length l.rest ≤ length l.bytes;
  is : l.found.items ++ changes_from (length l.bytes - l.counter) l.start l.kept (l.depth, l.left) l.rest
      ≡ changes_from (length l.bytes) 0 0 (0, l.words) l.bytes;
}
