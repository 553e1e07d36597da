use Rattle.std.proofs.Common.{◌≡◌, None}
use Rattle.std.specs.List.{flat_map}
use Rattle.std.specs.Map.{lookup}
use Rattle.mh_layers.specs.declared.listening.listener_slot.EventKey.{EventKey}
use Rattle.mh_layers.specs.Listening.{ear_of, is_ear, named, same_ear}
use Rattle.mh_layers.proofs.listening.named_data.ears_of.Given as goal

abbrev pub invariant-loop-parts : goal.invariant-loop-parts
invariant-loop-parts l =
    (q : EventKey) → named (λ p. is_ear q (ear_of l.objects.keys p)) (lookup (same_ear q) l.ears.entries) (flat_map (λ ps. ps) l.parts-iterator)
    ≡ named (λ p. is_ear q (ear_of l.objects.keys p)) None (flat_map (λ e. e.1) l.groups.entries)
