use Rattle.std.proofs.Common.{rules}
use Rattle.mh_trace.proofs.ListeningLemmas.{kept_behind}
use Rattle.mh_trace.proofs.tracer.Tracer.step.Goals as goal

pub returns-clause-behind : goal.returns-clause-behind
returns-clause-behind c =
    kept_behind (λ x. x.entries) c.args.self.now c.step_with.new.self c.self.inside.machine c.in_ok-front.front c.in_ok-listening.listening.entries c.unless_exchanged.result
    (search rules) (search rules) (search rules) (search rules) c.unless_exchanged.ensures
