use Rattle.std.specs.Prelude.{ℕ, ◌≤◌, length}
use Rattle.std.proofs.Common.{rules}
use Rattle.mh_model.specs.State.{all}
use Rattle.mh_trace.proofs.ListeningLemmas.{next_listed, all_listed}
use Rattle.mh_trace.proofs.ears.listening.listening_of.Goals as goal

pub loop-place-preserved : goal.loop-place-preserved
loop-place-preserved c n =
    next_listed n (all c.args.objects.now) c.loop-place.place _ _ _ (search rules) (c.loop-place.invariant n)

pub returns : goal.returns
returns c n =
    let over : length (all c.args.objects.now) ≤ c.loop-place.place = search rules in
    all_listed n (all c.args.objects.now) c.loop-place.place _ _ over (c.loop-place.invariant n)
