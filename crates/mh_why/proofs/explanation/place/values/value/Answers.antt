use Rattle.std.proofs.Common.{◌+◌, ◌-◌, length, sym, ◌∙◌, arith}
use Rattle.mh_why.proofs.ValueLemmas.{value_more}
use Rattle.mh_why.proofs.explanation.place.values.value.Goals as goal

pub loop-preserved : goal.loop-preserved
loop-preserved c =
    sym (value_more (length c.args.bytes.now - c.loop.counter) (length c.args.bytes.now - (c.loop.counter + 1)) c.loop.walk c.in-Err.next c.loop.left.now c.in-Err.rest.now (omega arith) c.in-Err.ensures)
    ∙ c.loop.invariant
