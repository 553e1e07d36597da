use Rattle.std.proofs.Common.{◌≡◌, ◌++◌, drop}
use Rattle.mh_layers.specs.declared.listening.listener_slot.ListenerSlot.{ListenerSlot}
use Rattle.mh_layers.specs.Listening.{listed, lists_from}
use Rattle.mh_layers.proofs.listening.lists.lists_of.Given as goal

abbrev pub invariant-loop-group : goal.invariant-loop-group
invariant-loop-group l =
    (q : ListenerSlot) → listed q l.lists.entries ++ lists_from l.objects.keys l.ears.entries q l.group (drop l.group l.groups.entries)
    ≡ lists_from l.objects.keys l.ears.entries q 0 l.groups.entries
