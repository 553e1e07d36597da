use Rattle.std.specs.Prelude.{◌≤◌, length}
use Rattle.std.proofs.Common.{rules}
use Rattle.mh_model.specs.State.{all}
use Rattle.mh_live.specs.Below.{running_part, running_text}
use Rattle.mh_live.proofs.PlaceLemmas.{next_put, all_put}
use Rattle.mh_live.proofs.below.put_running.Goals as goal

pub loop-place-preserved : goal.loop-place-preserved
loop-place-preserved c =
    next_put (running_part c.args.group.now) (all c.args.objects.now) c.loop-place.place c.loop-place.line c.put_running_at.new.line _ (search rules) c.loop-place.invariant

pub returns : goal.returns
unfolding running_text
returns c =
    let over : length (all c.args.objects.now) ≤ c.loop-place.place = search rules in
    all_put (running_part c.args.group.now) (all c.args.objects.now) c.loop-place.place c.loop-place.line _ over c.loop-place.invariant
