use Rattle.std.proofs.Common.{◌≡◌, drop}
use Rattle.mh_layers.specs.Granting.{with_items}
use Rattle.mh_layers.specs.Reading.{flow_read}
use Rattle.mh_layers.proofs.arrows.granting.hold_items.Given as goal

abbrev pub invariant-loop-part : goal.invariant-loop-part
invariant-loop-part l =
    with_items ((flow_read l.here.reading).sets l.here.config) (drop l.part-index l.parts) l.held.items l.at
    ≡ with_items ((flow_read l.here.reading).sets l.here.config) l.parts l.initial.held.items l.at
