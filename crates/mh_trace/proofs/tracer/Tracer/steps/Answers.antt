use Rattle.std.proofs.Common.{rules}
use Rattle.mh_trace.proofs.StepLemmas.{line_made, step_made, lines_ended, steps_ended}
use Rattle.mh_trace.proofs.tracer.Tracer.steps.Goals as goal

pub loop-self-preserved : goal.loop-self-preserved
loop-self-preserved c = (
  line_made c.args.telling.now c.loop-self.left c.loop-self.self c.step.new.self c.loop-self.text c.step.new.text _ (search rules) (search rules) (search rules) c.loop-self.invariant.0,
  step_made c.loop-self.left c.loop-self.self c.step.new.self _ (search rules) (search rules) c.loop-self.invariant.1,
  search rules,
)

pub returns-clause-lines : goal.returns-clause-lines
returns-clause-lines c = lines_ended c.args.telling.now c.loop-self.left c.loop-self.self c.loop-self.text _ (search rules) c.loop-self.invariant.0

pub returns-clause-left : goal.returns-clause-left
returns-clause-left c = steps_ended c.loop-self.left c.loop-self.self _ (search rules) c.loop-self.invariant.1
