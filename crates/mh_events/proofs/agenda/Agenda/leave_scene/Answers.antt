use Rattle.std.proofs.Common.{ap, arith}
use Rattle.mh_model.specs.Rules.{stays}
use Rattle.mh_model.specs.Step.{time_ahead}
use Rattle.mh_events.proofs.AheadLemmas.{ahead_filter}
use Rattle.mh_events.proofs.agenda.Agenda.leave_scene.Goals as goal

pub invariant_of-self : goal.invariant_of-self
invariant_of-self c =
    let same = ap time_ahead c.keep-2.ensures in
    let less = ahead_filter (stays c.args.application.now) c.self.inside.queue.items in
    omega (arith, same, less, c.self.invariant)
