use Rattle.std.proofs.Common.{◌≡◌, ◌++◌, map}
use Rattle.std.specs.List.{flat_map}
use Rattle.redplay_page.specs.Standing.{line_at}
use Rattle.redplay_page.proofs.cell.put_lines.Given as goal

abbrev pub invariant-loop-at : goal.invariant-loop-at
invariant-loop-at l = l.text ≡ l.initial.text ++ flat_map (line_at l.objects l.x l.y) (map (λ x. x.now) l.yielded)
