use Rattle.std.proofs.Common.{◌+◌, ◌-◌, length, sym, ◌∙◌, arith}
use Rattle.mh_misread.proofs.ResumeLemmas.{brace_more}
use Rattle.mh_misread.proofs.resuming.from_brace.Goals as goal

pub loop-preserved : goal.loop-preserved
loop-preserved c =
    sym (brace_more (length c.args.bytes.now - c.loop.counter) (length c.args.bytes.now - (c.loop.counter + 1)) c.loop.left.now c.in-Err.rest.now (omega arith) c.in-Err.ensures)
    ∙ c.loop.invariant
