use Rattle.std.proofs.Common.{◌≡◌, map}
use Rattle.std.specs.List.{range_with_len}
use Rattle.mh_codec.specs.TagLines.{tag_by}
use Rattle.mh_codec.proofs.tag_column.column_by.Given as goal

abbrev pub invariant-loop-place : goal.invariant-loop-place
invariant-loop-place l = l.column.items ≡ map (tag_by l.named l.context) (range_with_len l.first l.place)
