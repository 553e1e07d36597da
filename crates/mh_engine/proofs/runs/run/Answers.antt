use Rattle.std.proofs.Common.{◌∙◌, ap, sym, rules}
use Rattle.mh_model.specs.Step.{moved}
use Rattle.mh_engine.specs.Answer.{is_counted}
use Rattle.mh_engine.proofs.RunLemmas.{next_made, next_counted, next_paid}
use Rattle.mh_engine.proofs.runs.run.Goals as goal

pub loop-made-preserved : goal.loop-made-preserved
loop-made-preserved c = (
  c.in_default.ensures.made ∙ ap (moved c.index-moves-made.result) c.loop-made.invariant.0
      ∙ next_made c.args.moves.now c.loop-made.made c.index-moves-made.result c.args.engine.now.state c.loop-made-test.true (search rules),
  next_counted c.args.moves.now c.loop-made.made c.index-moves-made.result c.args.engine.now.state c.loop-made-test.true (search rules) c.loop-made.invariant.1
      ∙ ap (is_counted c.index-moves-made.result) (sym c.loop-made.invariant.0) ∙ c.in_default.ensures.counted,
  c.make.ensures.same ∙ c.loop-made.invariant.2,
  c.make.ensures.bounds ∙ c.loop-made.invariant.3,
  c.in_default.ensures.budget
      ∙ next_paid c.args.engine.now.bounds _ c.args.moves.now c.loop-made.made c.index-moves-made.result c.args.engine.now.state _ c.args.engine.now.budget _ c.loop-made-test.true (search rules)
      c.loop-made.invariant.3 c.loop-made.invariant.0 c.loop-made.invariant.4,
)

pub returns-in-Err-clause-full : goal.returns-in-Err-clause-full
returns-in-Err-clause-full c = λ h. next_counted c.args.moves.now c.loop-made.made c.index-moves-made.result c.args.engine.now.state c.loop-made-test.true (search rules) c.loop-made.invariant.1
    ∙ ap (is_counted c.index-moves-made.result) (sym c.loop-made.invariant.0) ∙ c.in-Err.ensures.full h
