use Rattle.std.proofs.Common.{ap, arith}
use Rattle.mh_model.specs.Rules.{is_input}
use Rattle.mh_model.specs.Step.{time_ahead}
use Rattle.mh_events.proofs.AheadLemmas.{ahead_filter}
use Rattle.mh_events.proofs.agenda.Agenda.leave_application.Goals as goal

pub invariant_of-self : goal.invariant_of-self
invariant_of-self c =
    let same = ap time_ahead c.keep_inputs.ensures in
    let less = ahead_filter is_input c.self.inside.queue.items in
    omega (arith, same, less, c.self.invariant)
