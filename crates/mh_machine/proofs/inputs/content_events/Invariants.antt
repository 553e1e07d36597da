use Rattle.std.proofs.Common.{◌≡◌, ◌++◌, drop}
use Rattle.std.specs.Prelude.{map, filter, slice_get}
use Rattle.std.specs.List.{flat_map}
use Rattle.mh_model.specs.State.{all}
use Rattle.mh_model.specs.Step.{content_event}
use Rattle.mh_machine.specs.Marks.{is_meant}
use Rattle.mh_machine.specs.Taking.{content_by}
use Rattle.mh_machine.proofs.inputs.content_events.Given as goal

abbrev pub invariant-loop-place : goal.invariant-loop-place
invariant-loop-place l =
    l.events.items ++ flat_map (λ k. content_by (slice_get (all l.objects) k)) (drop l.place-index l.place-items)
    ≡ map content_event (filter (is_meant l.waiting) (all l.objects))
