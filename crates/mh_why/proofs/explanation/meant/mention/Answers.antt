use Rattle.std.proofs.Common.{◌+◌, ◌-◌, length, sym, ◌∙◌, arith}
use Rattle.mh_why.proofs.MeantLemmas.{mention_more}
use Rattle.mh_why.proofs.explanation.meant.mention.Goals as goal

pub loop-preserved : goal.loop-preserved
loop-preserved c =
    sym (mention_more c.args.number.now (length c.args.bytes.now - c.loop.counter) (length c.args.bytes.now - (c.loop.counter + 1)) c.loop.depth c.in-Err.behind c.loop.left.now c.in-Err.rest.now (omega arith) c.in-Err.ensures)
    ∙ c.loop.invariant
