use Rattle.std.proofs.Common.{◌≡◌, ◌++◌, drop}
use Rattle.std.specs.List.{flat_map}
use Rattle.mh_model.specs.State.{all}
use Rattle.mh_trace.specs.Touched.{filled_object}
use Rattle.mh_trace.proofs.seen.touched.push_filled.Given as goal

abbrev pub invariant-loop-argument : goal.invariant-loop-argument
invariant-loop-argument l =
    l.found.items ++ flat_map (filled_object (all l.objects) l.sort) (drop l.argument-index l.arguments)
    ≡ l.initial.found.items ++ flat_map (filled_object (all l.objects) l.sort) l.arguments
