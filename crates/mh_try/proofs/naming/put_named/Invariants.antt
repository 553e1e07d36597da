use Rattle.std.proofs.Common.{◌≡◌, ◌++◌}
use Rattle.std.specs.List.{flat_map}
use Rattle.mh_try.specs.Naming.{line_if_named, lines_naming}
use Rattle.mh_try.proofs.naming.put_named.Given as goal

abbrev pub invariant-loop-line : goal.invariant-loop-line
invariant-loop-line l =
    l.lines ++ flat_map (line_if_named l.fn.words l.fn.others) l.line-iterator ≡ l.initial.lines ++ lines_naming l.fn.words l.fn.others l.fn.bytes
