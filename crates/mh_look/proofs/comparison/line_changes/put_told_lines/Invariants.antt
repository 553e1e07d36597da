use Rattle.std.proofs.Common.{◌≡◌, ◌++◌, drop}
use Rattle.std.specs.List.{flat_map}
use Rattle.mh_look.specs.LineChanges.{told_line}
use Rattle.mh_look.specs.Shown.{line_of}
use Rattle.mh_look.proofs.comparison.line_changes.put_told_lines.Given as goal

abbrev pub invariant-loop-part : goal.invariant-loop-part
invariant-loop-part l =
    l.text ++ flat_map (λ p. told_line l.whose l.passed (line_of p)) (drop l.part-index l.parts)
    ≡ l.initial.text ++ flat_map (λ p. told_line l.whose l.passed (line_of p)) l.parts
