use Rattle.std.specs.Prelude.{◌≡◌, map, nat_eq}
use Rattle.std.specs.List.{find}
use Rattle.std.specs.Cmp.Lexicographic.{pointwise}
use Rattle.indexmap.specs.IndexSet.{insert_all}
use Rattle.mh_told.specs.Reading.{each_once, late_lines, names_no_scene, without_feed}
use Rattle.mh_told.proofs.late.late_names.Given as goal

abbrev pub invariant-loop-line : goal.invariant-loop-line
invariant-loop-line l =
    (insert_all (pointwise nat_eq) l.names.keys (map without_feed l.line-iterator) ≡ each_once (late_lines l.fn.bytes))
    × (find (names_no_scene l.service) (map without_feed l.line-iterator) ≡ find (names_no_scene l.service) (late_lines l.fn.bytes))
