use Rattle.std.proofs.Common.{◌≡◌, ◌+◌, ◌++◌, length}
use Rattle.std.specs.List.{concat}
use Rattle.bstr.specs.Text.{lines_of}
use Rattle.mh_why.specs.Lines.{starts_from}
use Rattle.mh_why.proofs.place.lines.starts_of.Given as goal

abbrev pub invariant-loop-line : goal.invariant-loop-line
invariant-loop-line l = record {
  same : l.starts.items ++ starts_from l.start l.line-iterator ≡ starts_from 0 (lines_of l.fn.text);
  fits : l.start + length (concat l.line-iterator) ≡ length l.fn.text;
}
