use Rattle.std.proofs.Common.{◌≡◌, ◌≤◌, ◌++◌, drop, false}
use Rattle.mh_model.specs.Planes.{blank}
use Rattle.mh_look.specs.Page.{steps_from}
use Rattle.mh_look.proofs.page.put_steps.Given as goal

abbrev pub invariant-loop-part : goal.invariant-loop-part
invariant-loop-part l = record {
  counted : l.passed ≤ l.part-index;
  left : l.text ++ steps_from l.passed l.shown l.told l.left (drop l.part-index l.report.parts) l.report.total ≡ l.initial.text ++ steps_from 0 blank false l.script l.report.parts l.report.total;
}
