use Rattle.mh_flow.specs.Solved.{held_by}
use Rattle.mh_verify.specs.Samples.{AreSamples}
use Rattle.mh_refusals.proofs.samples.keep_for_arguments.Given as goal

abbrev pub invariant-loop-need : goal.invariant-loop-need
invariant-loop-need l = AreSamples l.scope.present (held_by l.scope.present l.scope.held) l.samples.entries
