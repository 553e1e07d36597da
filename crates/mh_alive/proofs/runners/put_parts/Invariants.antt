use Rattle.std.proofs.Common.{◌≡◌, drop}
use Rattle.std.specs.List.{flat_map}
use Rattle.indexmap.specs.IndexSet.{insert_all}
use Rattle.mh_model.specs.Reference.{same_key}
use Rattle.mh_alive.specs.Runners.{run_with}
use Rattle.mh_alive.specs.There.{sets_there}
use Rattle.mh_alive.proofs.runners.put_parts.Given as goal

abbrev pub invariant-loop-part : goal.invariant-loop-part
invariant-loop-part l =
    insert_all same_key l.runners.keys (flat_map (run_with (sets_there l.there)) (drop l.part-index l.parts)) ≡ insert_all same_key l.initial.runners.keys (flat_map (run_with (sets_there l.there)) l.parts)
