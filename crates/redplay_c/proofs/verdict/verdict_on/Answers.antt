use Rattle.redplay_c.proofs.VerdictLemmas.{complained_told}
use Rattle.redplay_c.proofs.verdict.verdict_on.Goals as goal

pub returns : goal.returns
returns c = complained_told _ c.in-Err.why c.complain.result c.in-Err.ensures.gives c.in-Err.ensures.told c.complain.ensures.line c.complain.ensures.number
