use Rattle.std.specs.Prelude.{slice_get}
use Rattle.std.proofs.Common.{◌≡◌}
use Rattle.mh_why.specs.ScriptTexts.{numbered_line}
use Rattle.mh_why.proofs.script.line.numbered_line.Given as goal

abbrev pub invariant-loop-line : goal.invariant-loop-line
invariant-loop-line l = slice_get l.line-iterator l.left ≡ numbered_line l.fn.bytes l.fn.number
