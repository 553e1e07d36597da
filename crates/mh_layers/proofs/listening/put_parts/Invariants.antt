use Rattle.std.proofs.Common.{◌≡◌, drop}
use Rattle.std.specs.List.{flat_map}
use Rattle.indexmap.specs.IndexSet.{insert_all}
use Rattle.mh_model.specs.Reference.{same_key}
use Rattle.mh_layers.specs.Listening.{mentioned}
use Rattle.mh_layers.proofs.listening.put_parts.Given as goal

abbrev pub invariant-loop-part : goal.invariant-loop-part
invariant-loop-part l =
    insert_all same_key l.objects.keys (flat_map mentioned (drop l.part-index l.parts)) ≡ insert_all same_key l.initial.objects.keys (flat_map mentioned l.parts)
