use Rattle.std.proofs.Common.{◌≡◌, ◌≤◌, ◌++◌, drop}
use Rattle.mh_look.specs.Shown.{shown_from}
use Rattle.mh_look.proofs.show.put_report.Given as goal

abbrev pub invariant-loop-part : goal.invariant-loop-part
invariant-loop-part l = record {
  counted : l.passed ≤ l.part-index;
  left : l.text ++ shown_from l.plain l.passed (drop l.part-index l.report.parts) l.report.total ≡ l.initial.text ++ shown_from l.plain 0 l.report.parts l.report.total;
}
