use Rattle.std.proofs.Common.{◌+◌, ◌-◌, length, sym, ◌∙◌, arith}
use Rattle.mh_why.proofs.ValueLemmas.{behind_more}
use Rattle.mh_why.proofs.explanation.place.values.behind.Goals as goal

pub loop-preserved : goal.loop-preserved
loop-preserved c =
    sym (behind_more (length c.args.bytes.now - c.loop.counter) (length c.args.bytes.now - (c.loop.counter + 1)) c.loop.depth c.in-Err.next c.loop.left.now c.in-Err.rest.now (omega arith) c.in-Err.ensures)
    ∙ c.loop.invariant
