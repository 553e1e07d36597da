use Rattle.std.specs.Prelude.{◌≤◌, length}
use Rattle.std.proofs.Common.{rules}
use Rattle.mh_state.specs.State.{waits_line}
use Rattle.mh_trace.proofs.PlaceLemmas.{all_put, next_put}
use Rattle.mh_state.proofs.state.put_waits.Goals as goal

pub loop-place-preserved : goal.loop-place-preserved
loop-place-preserved c =
    next_put waits_line c.args.machine.now.queue c.loop-place.place _ _ _ (search rules) c.loop-place.invariant

pub returns : goal.returns
returns c =
    let over : length c.args.machine.now.queue ≤ c.loop-place.place = search rules in
    all_put waits_line c.args.machine.now.queue c.loop-place.place _ _ over c.loop-place.invariant
