use Rattle.std.proofs.Common.{◌∙◌, sym}
use Rattle.mh_protocol.proofs.HeadLemmas.{line_further}
use Rattle.mh_protocol.proofs.head.head_in.Goals as goal

pub loop-preserved : goal.loop-preserved
loop-preserved c =
    line_further c.args.lines c.loop.counter c.in-On.size c.loop.length c.in-On.told c.loop.rest.now c.behind-rest.result.now
    c.loop-test.true (sym c.step_on.ensures ∙ c.in-On.is) c.behind-rest.ensures
    ∙ c.loop.invariant
