use Rattle.std.proofs.Common.{ap, arith}
use Rattle.mh_model.specs.Step.{time_ahead}
use Rattle.mh_events.proofs.agenda.Agenda.end.Goals as goal

pub invariant_of-self : goal.invariant_of-self
invariant_of-self c =
    let same = ap time_ahead c.clear.ensures in
    omega (arith, same, c.self.invariant)
