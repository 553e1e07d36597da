use Rattle.std.proofs.Common.{◌≡◌, ◌++◌}
use Rattle.std.specs.Prelude.{map}
use Rattle.bstr.specs.Text.{lines_of, without_terminator}
use Rattle.mh_why.specs.Why.{explained_all, first_past}
use Rattle.mh_why.proofs.explanation.put_all.Given as goal

abbrev pub invariant-loop-line : goal.invariant-loop-line
invariant-loop-line l =
    l.text ++ explained_all l.ground (record { refusal = l.refusal; before = l.before; chain = l.chain; cycle = l.cycle; script = l.script }) l.line-iterator
    ≡ l.initial.text ++ explained_all l.ground (first_past l.ground) (map without_terminator (lines_of l.fn.output))
