use Rattle.std.proofs.Common.{◌≡◌, ◌++◌, drop}
use Rattle.mh_layers.specs.declared.listening.listener_slot.ListenerSlot.{ListenerSlot}
use Rattle.mh_layers.specs.Listening.{listed, lists_in}
use Rattle.mh_layers.proofs.listening.lists.list_parts.Given as goal

abbrev pub invariant-loop-part : goal.invariant-loop-part
invariant-loop-part l =
    (q : ListenerSlot) → listed q l.lists.entries ++ lists_in l.objects.keys l.ears.entries q l.group (drop l.part-index l.parts)
    ≡ listed q l.initial.lists.entries ++ lists_in l.objects.keys l.ears.entries q l.group l.parts
