use Rattle.std.proofs.Common.{◌≡◌, drop}
use Rattle.std.specs.Map.{lookup}
use Rattle.mh_layers.specs.declared.listening.listener_slot.EventKey.{EventKey}
use Rattle.mh_layers.specs.Listening.{ear_of, is_ear, named, same_ear}
use Rattle.mh_layers.proofs.listening.named_data.hear_parts.Given as goal

abbrev pub invariant-loop-part : goal.invariant-loop-part
invariant-loop-part l =
    (q : EventKey) → named (λ p. is_ear q (ear_of l.objects.keys p)) (lookup (same_ear q) l.ears.entries) (drop l.part-index l.parts)
    ≡ named (λ p. is_ear q (ear_of l.objects.keys p)) (lookup (same_ear q) l.initial.ears.entries) l.parts
