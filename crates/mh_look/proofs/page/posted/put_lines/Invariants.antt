use Rattle.std.proofs.Common.{◌≡◌, ◌++◌}
use Rattle.std.specs.List.{flat_map}
use Rattle.bstr.specs.Text.{lines_of}
use Rattle.mh_look.specs.Page.{posted_line}
use Rattle.mh_look.proofs.page.posted.put_lines.Given as goal

abbrev pub invariant-loop-line : goal.invariant-loop-line
invariant-loop-line l = l.text ++ flat_map posted_line l.line-iterator ≡ l.initial.text ++ flat_map posted_line (lines_of l.fn.bytes)
