use Rattle.std.specs.Prelude.{IfSome}
use Rattle.std.proofs.Common.{◌≡◌, ◌++◌, ℕ}
use Rattle.mh_model.specs.Service.{parts}
use Rattle.mh_model.specs.State.{all}
use Rattle.mh_trace.specs.Listening.{IsIndexOf}
use Rattle.mh_trace.specs.Trace.{steps, steps_text}
use Rattle.mh_trace.proofs.tracer.Tracer.steps.Given as goal

abbrev pub invariant-loop-self : goal.invariant-loop-self
invariant-loop-self l =
    (l.text ++ steps_text l.telling l.left l.self ≡ l.initial.text ++ steps_text l.telling l.most l.initial.self)
    × (steps l.left l.self ≡ steps l.most l.initial.self)
    × IfSome l.known (λ index. IsIndexOf index.entries (parts (all l.self.state.objects)))

abbrev pub decreases-loop-self : goal.decreases-loop-self
decreases-loop-self l = l.left
