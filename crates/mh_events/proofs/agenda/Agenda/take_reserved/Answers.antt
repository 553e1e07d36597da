use Rattle.std.proofs.Common.{ap, arith}
use Rattle.mh_model.specs.Step.{time_ahead}
use Rattle.mh_events.proofs.AheadLemmas.{ahead_behind, ahead_events}
use Rattle.mh_events.proofs.agenda.Agenda.take_reserved.Goals as goal

pub invariant_of-self : goal.invariant_of-self
invariant_of-self c =
    let front = ap time_ahead c.take_first.ensures.items in
    let behind = ahead_behind c.self.inside.queue.items in
    let whole = ap time_ahead c.add_all.ensures in
    let none = ahead_events c.take_first.new.self.items c.args.events.items in
    omega (arith, front, behind, whole, none, c.self.invariant)
