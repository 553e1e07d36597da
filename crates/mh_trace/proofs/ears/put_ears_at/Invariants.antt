use Rattle.std.proofs.Common.{◌≡◌, ◌++◌, drop}
use Rattle.std.specs.List.{flat_map}
use Rattle.mh_model.specs.State.{all}
use Rattle.mh_trace.specs.Ears.{ear}
use Rattle.mh_trace.specs.Listening.{at_place}
use Rattle.mh_trace.proofs.ears.put_ears_at.Given as goal

abbrev pub invariant-loop-place : goal.invariant-loop-place
invariant-loop-place l =
    l.text ++ flat_map (at_place (ear l.form l.event) (all l.objects)) (drop l.place-index l.places)
    ≡ l.initial.text ++ flat_map (at_place (ear l.form l.event) (all l.objects)) l.places
