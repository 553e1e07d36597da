use Rattle.std.proofs.Common.{◌≡◌, ◌+◌, ◌≤◌, ◌++◌, [], length}
use Rattle.std.specs.Option.{option_map_or, option_copied}
use Rattle.mh_codec.specs.TagLines.{lines, lines_behind, all_named, first_wrong}
use Rattle.mh_codec.proofs.tag_lines.read_lines.Given as goal

abbrev pub invariant-loop-rest : goal.invariant-loop-rest
invariant-loop-rest l =
    (l.named.items ++ all_named (lines_behind (option_copied l.rest)) ≡ all_named (lines l.bytes))
    × (first_wrong (l.number + 1) l.named.items (lines_behind (option_copied l.rest)) ≡ first_wrong 1 [] (lines l.bytes))
    × (l.number + option_map_or (λ b. length b + 1) (option_copied l.rest) 0 ≤ length l.bytes + 1)

abbrev pub decreases-loop-rest : goal.decreases-loop-rest
decreases-loop-rest l = option_map_or (λ b. length b + 1) (option_copied l.rest) 0
