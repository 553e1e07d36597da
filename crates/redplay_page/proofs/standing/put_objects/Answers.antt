use Rattle.std.specs.Prelude.{◌≤◌, length}
use Rattle.std.proofs.Common.{rules}
use Rattle.mh_model.specs.State.{all}
use Rattle.mh_trace.proofs.PlaceLemmas.{all_put, next_put}
use Rattle.redplay_page.specs.Standing.{own_text}
use Rattle.redplay_page.proofs.standing.put_objects.Goals as goal

pub loop-place-preserved : goal.loop-place-preserved
loop-place-preserved c =
    next_put (own_text (all c.args.objects.now)) (all c.args.objects.now) c.loop-place.place _ _ _ (search rules) c.loop-place.invariant

pub returns : goal.returns
returns c =
    let over : length (all c.args.objects.now) ≤ c.loop-place.place = search rules in
    all_put (own_text (all c.args.objects.now)) (all c.args.objects.now) c.loop-place.place _ _ over c.loop-place.invariant
