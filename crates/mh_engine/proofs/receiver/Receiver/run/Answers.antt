use Rattle.std.specs.Prelude.{map}
use Rattle.std.proofs.Common.{◌∙◌, rules}
use Rattle.mh_resident.specs.Coming.{MayCome}
use Rattle.mh_engine.proofs.BesideLemmas.{next_beside, whole_run}
use Rattle.mh_engine.proofs.receiver.Receiver.run.Goals as goal

pub loop-made-preserved : goal.loop-made-preserved
loop-made-preserved g c = (
  next_beside (λ ps. map g.P.Resident.signature_of ps.items) (λ ps. MayCome g.P.Resident.signature_of g.P.Resident.may_answer ps.items) _ _ c.args.moves.now c.loop-made.made c.index-moves-made.result _ _ _
      c.loop-made.invariant.1 c.loop-made-test.true (search rules) c.loop-made.invariant.0 c.in_default.ensures.counted c.in_default.ensures.made,
  c.make.ensures.same ∙ c.loop-made.invariant.1,
  c.make.ensures.accepted ∙ c.loop-made.invariant.2,
  c.make.ensures.bounds ∙ c.loop-made.invariant.3,
)

pub returns-clause-all : goal.returns-clause-all
returns-clause-all g c = whole_run _ _ c.args.moves.now c.loop-made.made _ _ c.loop-made-test.false c.loop-made.invariant.0
