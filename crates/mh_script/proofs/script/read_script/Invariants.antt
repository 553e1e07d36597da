use Rattle.std.proofs.Common.{◌≡◌, ◌+◌, ◌≤◌, ◌++◌, length}
use Rattle.std.specs.Option.{option_map_or, option_copied}
use Rattle.mh_script.specs.Script.{lines, lines_behind, commands, first_wrong}
use Rattle.mh_script.proofs.script.read_script.Given as goal

abbrev pub invariant-loop-rest : goal.invariant-loop-rest
invariant-loop-rest l =
    (l.commands ++ commands l.tags l.service.files (lines_behind (option_copied l.rest)) ≡ commands l.tags l.service.files (lines l.bytes))
    × (first_wrong l.tags l.service.files (l.number + 1) (lines_behind (option_copied l.rest)) ≡ first_wrong l.tags l.service.files 1 (lines l.bytes))
    × (l.number + option_map_or (λ b. length b + 1) (option_copied l.rest) 0 ≤ length l.bytes + 1)

abbrev pub decreases-loop-rest : goal.decreases-loop-rest
decreases-loop-rest l = option_map_or (λ b. length b + 1) (option_copied l.rest) 0
