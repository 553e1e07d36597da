use Rattle.std.proofs.Common.{◌≡◌}
use Rattle.std.specs.Prelude.{map, filter, take}
use Rattle.mh_model.specs.State.{all}
use Rattle.mh_model.specs.Step.{is_streaming, stream_event}
use Rattle.mh_machine.proofs.inputs.stream_events.Given as goal

abbrev pub invariant-loop-place : goal.invariant-loop-place
invariant-loop-place l =
    l.events.items ≡ map (stream_event l.tag) (filter is_streaming (take l.place (all l.objects)))
