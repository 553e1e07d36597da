use Rattle.std.proofs.Common.{◌≡◌, ◌++◌, drop}
use Rattle.std.specs.List.{flat_map}
use Rattle.mh_model.specs.State.{all}
use Rattle.redplay_page.specs.Standing.{own_text}
use Rattle.redplay_page.proofs.standing.put_objects.Given as goal

abbrev pub invariant-loop-place : goal.invariant-loop-place
invariant-loop-place l =
    l.text ++ flat_map (own_text (all l.objects)) (drop l.place (all l.objects)) ≡ l.initial.text ++ flat_map (own_text (all l.objects)) (all l.objects)
