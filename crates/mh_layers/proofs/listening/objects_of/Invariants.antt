use Rattle.std.proofs.Common.{◌≡◌}
use Rattle.std.specs.List.{flat_map}
use Rattle.indexmap.specs.IndexSet.{insert_all}
use Rattle.mh_model.specs.Reference.{same_key}
use Rattle.mh_layers.specs.Listening.{mentioned, objects_of}
use Rattle.mh_layers.proofs.listening.objects_of.Given as goal

abbrev pub invariant-loop-parts : goal.invariant-loop-parts
invariant-loop-parts l =
    insert_all same_key l.objects.keys (flat_map mentioned (flat_map (λ ps. ps) l.parts-iterator)) ≡ objects_of (flat_map (λ e. e.1) l.groups.entries)
