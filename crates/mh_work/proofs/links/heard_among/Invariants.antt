use Rattle.std.proofs.Common.{◌≡◌, ◌++◌, drop}
use Rattle.mh_base.specs.Event.{number_of}
use Rattle.mh_model.specs.State.{all}
use Rattle.mh_work.specs.Batches.{written}
use Rattle.mh_work.specs.Listening.{waiting_in}
use Rattle.mh_work.specs.Links.{answers}
use Rattle.mh_work.proofs.links.heard_among.Given as goal

abbrev pub invariant-loop-listener : goal.invariant-loop-listener
invariant-loop-listener l =
    written l.batches.items ++ answers l.event (all l.objects) (waiting_in l.event.source.number (number_of l.event.kind) (drop l.listener-index l.listeners))
    ≡ answers l.event (all l.objects) (waiting_in l.event.source.number (number_of l.event.kind) l.listeners)
